use mathlib.Core.Path.{ap}
use Prim.Native.Nat.{ℕ, ◌+◌, ◌*◌, ◌-◌}
use native.Mathlib.Omega.{arith}
use lib.ListN.{set}
use Rattle.store.specs.Held.{places}
use Rattle.text.specs.Parts.{part}
use Rattle.store.proofs.Hashes.{hash_small}
use Rattle.record_fields.proofs.Indexing.{is_there, is_new}
use Rattle.record_fields.proofs.enter.Goals as goal

pub returns-in_default : goal.returns-in_default
returns-in_default c = λ rows H. is_there rows _ _ _ _ (c.in_default.ensures rows H)

pub overflow_mul-slots : goal.overflow_mul-slots
overflow_mul-slots c =
    let a = c.args in
    let l = hash_small (part a.text.now (a.i + 2) a.m) in
    omega (arith, l, c.hash.ensures)

pub overflow_cast-slots : goal.overflow_cast-slots
overflow_cast-slots c = omega (arith, c.requires.small, c.requires.name_high, c.requires.name_low)

pub overflow_add-slots : goal.overflow_add-slots
overflow_add-slots c =
    let a = c.args in
    let l = hash_small (part a.text.now (a.i + 2) a.m) in
    omega (arith, l, c.hash.ensures, c.requires.small, c.requires.name_high, c.requires.name_low)

pub returns : goal.returns
returns c =
    λ rows H.
    let a = c.args in (
      λ k. is_new rows _ (c.in-None.ensures rows H) k,
      ap (λ (p : ℕ). set a.slots.now a.n (p * places + (a.i - a.at))) c.hash.ensures,
    )

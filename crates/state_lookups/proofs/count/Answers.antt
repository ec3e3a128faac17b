use mathlib.Core.Path.{◌≡◌, sym, ◌∙◌}
use mathlib.Core.List.{List, map}
use Prim.Native.Nat.{◌<◌}
use native.Mathlib.Omega.{arith}
use Rattle.language.specs.State.{Principal}
use Rattle.store.specs.Held.{Principals}
use Rattle.store.specs.Rows.{found_at, place, principal_row}
use Rattle.store.proofs.Holders.{principals_rows, some_principals}
use Rattle.store.proofs.Answers.{principal_found}
use Rattle.state_lookups.proofs.Lookups.{count_gone, count_here}
use Rattle.state_lookups.proofs.count.Goals as goal

pub find-requires : goal.find-requires
find-requires c =
    let a = c.args in
    some_principals c.requires.principals a.text.now a.count a.slots.now c.requires.held

pub returns-in_default : goal.returns-in_default
returns-in_default c ks K W =
    let a = c.args in
    sym (count_gone ks a.name.now (c.in_default.ensures (map principal_row ks) (principals_rows ks a.text.now a.count a.slots.now K)))

pub count_of-digits-requires : goal.count_of-digits-requires
count_of-digits-requires c =
    let here : (ks : List Principal) → let a = c.args in Principals ks a.text.now a.count a.slots.now → found_at c.in-Some.found.number c.in-Some.found.start c.in-Some.found.end ≡ place (map principal_row ks) a.name.now = λ ks K. let a = c.args in
    c.in-Some.ensures (map principal_row ks) (principals_rows ks a.text.now a.count a.slots.now K) in
    let below : c.in-Some.found.number < c.args.count = let p = c.requires in
    let F = principal_found p.principals c.args.name.now c.in-Some.found.number c.in-Some.found.start c.in-Some.found.end (here p.principals p.held) in
    omega (arith, F.below, p.held.counted) in
    (c.requires, below)

pub returns : goal.returns
returns c ks K W =
    let here : (ks : List Principal) → let a = c.args in Principals ks a.text.now a.count a.slots.now → found_at c.in-Some.found.number c.in-Some.found.start c.in-Some.found.end ≡ place (map principal_row ks) a.name.now = λ ks K. let a = c.args in
    c.in-Some.ensures (map principal_row ks) (principals_rows ks a.text.now a.count a.slots.now K) in
    (c.count_of-digits.ensures ks K W).is_count ∙ sym (count_here ks c.args.name.now c.in-Some.found.number c.in-Some.found.start c.in-Some.found.end (here ks K))

use mathlib.Core.Path.{◌≡◌, sym, subst}
use mathlib.Core.List.{List}
use Prim.Native.Nat.{ℕ}
use native.Mathlib.Omega.{arith}
use lib.ListN.{length}
use Rattle.language.specs.State.{Store}
use Rattle.validate_c.specs.Reported.{figures}
use Rattle.state_lookups.specs.Looks.{Look, found, Says}
use Rattle.validate_c.proofs.Reporting.{no_size, no_room, formed, not_formed, figures_are}
use Rattle.validate_c.proofs.state_check.Goals as goal

pub returns-then-state-ne65536 : goal.returns-then-state-ne65536
returns-then-state-ne65536 c =
    let look : Store → Look = λ s. found 0 (figures s) in
    no_size 2054 look c.args.state.now c.args.out.now c.if-state-ne65536.true

pub returns-then-out-lt2054 : goal.returns-then-out-lt2054
returns-then-out-lt2054 c =
    let look : Store → Look = λ s. found 0 (figures s) in
    no_room 2054 look c.args.state.now c.args.out.now c.if-out-lt2054.true

pub figures-requires : goal.figures-requires
figures-requires c =
    let U = c.in-Some.ensures in
    let k : length c.check-checked.new.assertions ≡ 2048 = c.check-checked.auto.assertions in
    (U.represents.assertions.within, omega (arith, k), c.if-out-lt2054.false)

pub returns-in-Some : goal.returns-in-Some
returns-in-Some c =
    let look : Store → Look = λ s. found 0 (figures s) in
    let U = c.in-Some.ensures in
    formed 2054 look c.args.state.now c.args.out.now c.if-state-ne65536.false c.if-out-lt2054.false U.state U.decoded
    (subst (λ (l : List ℕ). Says (found 0 l) c.args.out.now c.figures.new.out c.figures.result) (sym (figures_are _ _ _ _ _ _ U.represents))
    c.figures.ensures)

pub returns-in-None : goal.returns-in-None
returns-in-None c =
    let look : Store → Look = λ s. found 0 (figures s) in
    not_formed 2054 look c.args.state.now c.args.out.now c.if-state-ne65536.false c.if-out-lt2054.false
    c.in-None.ensures

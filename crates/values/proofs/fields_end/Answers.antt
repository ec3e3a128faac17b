-- `values::fields_end` meets its contract. The loop's invariant: what is left of the lines ends where all of them do.
-- Assumes nothing.
use Prim.Native.Nat.{◌+◌, ◌≤◌}
use mathlib.Core.List.{List}
use lib.ListN.{length}
use Rattle.language.specs.Text.{Text}
use Rattle.language.specs.State.{Field}
use Rattle.values.specs.Places.{FieldsAt}
use Rattle.values.proofs.Lines.{FieldsLeft, fields_done, fields_out, fields_step}
use Rattle.values.proofs.fields_end.Goals as goal

pub returns-else-text-i-eq70-clause-ends : goal.returns-else-text-i-eq70-clause-ends
returns-else-text-i-eq70-clause-ends c fs rest F = fields_done c.args.text.now c.args.at fs rest c.loop-i.i (c.loop-i.invariant.1 fs rest F) c.if-text-i-eq70.false

pub loop-i-preserved : goal.loop-i-preserved
loop-i-preserved c =
    let stepped : (fs : List Field) (rest : Text) → let a = c.args in FieldsAt a.text.now a.at fs rest → FieldsLeft a.text.now a.at fs rest (c.until-i.result + 1) × (c.until-i.result + 1 ≤ length a.text.now) = λ fs rest F. let a = c.args in
    fields_step a.text.now a.at fs rest c.loop-i.i c.until-i.result (c.loop-i.invariant.1 fs rest F) c.loop-i-test.true c.if-text-i-eq70.true c.until-i.ensures.ends in (
      (stepped c.requires.fields c.requires.rest c.requires.stand).1,
      λ fs rest F. (stepped fs rest F).0,
    )

pub returns-after-loop-i-clause-ends : goal.returns-after-loop-i-clause-ends
returns-after-loop-i-clause-ends c fs rest F = fields_out c.args.text.now c.args.at fs rest c.loop-i.i (c.loop-i.invariant.1 fs rest F) c.loop-i-test.false

use Rattle.std.proofs.Common.{◌≡◌, length, get_or, true, sym, ap, ◌∙◌, not, arith}
use borrow.Author.Tests.{eqb-true, eqb-false}
use Rattle.language.specs.Bytes.{class, is_letter}
use Rattle.lines.proofs.Cuts.{name_empty, name_long, name_kept}
use Rattle.lines.proofs.is_name.Goals as goal
use Rattle.lines.proofs.is_name.Goals.{then-is_empty-via-then-is_empty, then-is_empty-via-else-is_empty+then-w-gt255}

pub returns-then-is_empty : goal.returns-then-is_empty
returns-then-is_empty c =
    let w = c.args.w.now in
    elim c.then-is_empty.branch [ then-is_empty-via-then-is_empty v ↦ sym (name_empty w (eqb-true (length w) 0 (sym c.is_empty.ensures ∙ v.if-is_empty.true))) | then-is_empty-via-else-is_empty+then-w-gt255 v ↦ sym (name_long w v.if-w-gt255.true) ]

pub returns-then-is_letter : goal.returns-then-is_letter
returns-then-is_letter c =
    let w = c.args.w.now in
    let l : is_letter (class (get_or w 0 0)) ≡ true = sym c.is_letter.ensures ∙ c.if-is_letter.true in
    ap not c.is_base_keyword.ensures ∙ sym (name_kept w (omega (arith, eqb-false (length w) 0 (sym c.is_empty.ensures ∙ c.if-is_empty.false))) (omega arith) l c.requires)

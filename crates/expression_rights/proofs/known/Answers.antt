use mathlib.Core.Path.{sym, ap, subst, ◌∙◌}
use Rattle.language.specs.Syntax.{Expr}
use Rattle.syntax.specs.Values.{expr_meant, SomeExpr}
use Rattle.syntax.proofs.Said.{term_of, term_said}
use Rattle.permits.specs.Knowledge.{terms}
use Rattle.expression_rights.specs.Finding.{Finds}
use Rattle.expression_rights.proofs.known.Goals as goal

pub term_known-requires : goal.term_known-requires
term_known-requires c =
    let a = c.args in
    (c.requires.0, term_said a.text.now a.e c.in-Term.t c.in-Term.is c.requires.1)

pub lets_known-requires : goal.lets_known-requires
lets_known-requires c = (c.requires.0, subst (SomeExpr c.args.text.now) c.in-Let.is c.requires.1)

pub returns-in-Term : goal.returns-in-Term
returns-in-Term c s x W m =
    let a = c.args in
    let I = term_of a.text.now a.e c.in-Term.t c.in-Term.is x m in
    subst (λ (y : Expr). Finds c.term_known.result s (terms y)) (sym I.is) (c.term_known.ensures s I.the_term W I.meant)

pub returns-in-Let : goal.returns-in-Let
returns-in-Let c s x W m = c.lets_known.ensures s x W (sym (ap (expr_meant c.args.text.now) c.in-Let.is) ∙ m)

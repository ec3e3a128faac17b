-- `evaluate::compare::put_comparison` meets its contract. What the arguments are, and the comparison of them.
-- Assumes nothing.
use mathlib.Core.Path.{sym, subst}
use Rattle.language.specs.Outcomes.{Outcome}
use Rattle.language.specs.State.{Value}
use Rattle.syntax.specs.Values.{operand_meant, comparison_meant}
use Rattle.evaluated.specs.Results.{Valued}
use Rattle.equality.specs.Elements.{element_of}
use Rattle.language.specs.Values.{operand_value}
use Rattle.evaluate.proofs.Comparing.{compare_is}
use Rattle.evaluate.proofs.compare.put_comparison.Goals as goal

pub source-a-requires : goal.source-a-requires
source-a-requires c = (c.requires.some_scope, c.requires.operand_within.0)

pub element_at-i-requires : goal.element_at-i-requires
element_at-i-requires c = (record { session = c.requires.some_scope.session; held = c.source-a.ensures c.requires.some_scope.session c.requires.some_scope.scope }, c.requires.operand_within.0)

pub source-b-requires : goal.source-b-requires
source-b-requires c = (c.requires.some_scope, c.requires.operand_within.1)

pub element_at-j-requires : goal.element_at-j-requires
element_at-j-requires c = (record { session = c.requires.some_scope.session; held = c.source-b.ensures c.requires.some_scope.session c.requires.some_scope.scope }, c.requires.operand_within.1)

pub compare-requires : goal.compare-requires
compare-requires c =
    let a = c.args in
    let F = c.element_at-i.ensures c.requires.some_scope.session (c.source-a.ensures c.requires.some_scope.session c.requires.some_scope.scope) in
    let G = c.element_at-j.ensures c.requires.some_scope.session (c.source-b.ensures c.requires.some_scope.session c.requires.some_scope.scope) in (
      record { element = element_of (operand_value c.requires.some_scope.session (operand_meant a.text.now a.v)); stands = F },
      record { element = element_of (operand_value c.requires.some_scope.session (operand_meant a.text.now a.w)); stands = G },
      c.requires.operand_within.2,
    )

pub returns : goal.returns
returns c s S =
    let a = c.args in
    let o = operand_meant a.text.now a.v in
    let p = operand_meant a.text.now a.w in
    let F = c.element_at-i.ensures s (c.source-a.ensures s S) in
    let G = c.element_at-j.ensures s (c.source-b.ensures s S) in
    subst (λ (r : Outcome Value). Valued c.compare.result r c.compare.new.out) (sym (compare_is s (comparison_meant a.c) o p))
    (c.compare.ensures (element_of (operand_value s o)) (element_of (operand_value s p)) F G)

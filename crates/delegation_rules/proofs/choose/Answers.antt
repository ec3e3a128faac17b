use mathlib.Core.Path.{sym, ap, subst, ◌∙◌}
use mathlib.Core.List.{[], ◌∷◌, map}
use Prim.Native.Nat.{ℕ, ◌≤◌}
use native.Mathlib.Omega.{arith}
use lib.ListN.{length}
use lib.Seq.{take-suc-set}
use Rattle.language.specs.Syntax.{Target}
use Rattle.language.specs.Commands.{targets}
use Rattle.language.proofs.StateText.Names.{named_is}
use Rattle.store.specs.Rows.{position}
use Rattle.named_rights.specs.Numbers.{variables}
use Rattle.delegation_rules.proofs.Fitting.{few, counted}
use Rattle.delegation_rules.proofs.Denials.{aim_every, aim_only}
use Rattle.delegation_rules.specs.declared.Aim.TheVariants.{One}
use Rattle.delegation_rules.specs.Asking.{Few}
use borrow.Author.Rules.{rules}
use Rattle.delegation_rules.proofs.choose.Goals as goal

pub collect-requires : goal.collect-requires
collect-requires c =
    let a = c.args in
    let p = c.requires.0 in
    let f = few p.session a.l p.buffers a.assertions.now p.runs in
    (f.0, f.1, f.2, f.3, c.requires.1)

pub overflow_cast-chosen : goal.overflow_cast-chosen
overflow_cast-chosen c =
    let h : Few (One c.in-One.x) = subst Few c.in-One.is c.requires.2 in
    omega (arith, h)

pub bounds-chosen-0 : goal.bounds-chosen-0
bounds-chosen-0 c = omega (arith, c.requires.1)

pub returns-in-All : goal.returns-in-All
returns-in-All c =
    let a = c.args in
    let p = c.requires.0 in
    let f = few p.session a.l p.buffers a.assertions.now p.runs in record {
      within = omega (arith, f.3, c.collect.ensures.few);
      are = λ s b t from to R N k.
          c.collect.ensures.are s.store from (counted s a.l b a.assertions.now R) (record { known = named_is from s.store.principals k; number = N.giver_is })
          ∙ sym (ap (λ (t : Target). map (position (variables s.store)) (targets s.store t from)) (aim_every (variables s.store) t (sym c.in-All.is ∙ N.aim_is)));
    }

pub returns-in-One : goal.returns-in-One
returns-in-One c =
    record {
      within = omega arith;
      are = λ s b t from to R N k.
          let a = c.args in
          let A = aim_only (variables s.store) t _ (sym c.in-One.is ∙ N.aim_is) in
          let h : 1 ≤ length a.chosen.now = omega (arith, c.requires.1) in
          take-suc-set a.chosen.now 0 c.in-One.x h
          ∙ ap (λ (n : ℕ). n ∷ []) A.number
          ∙ sym (ap (λ (t : Target). map (position (variables s.store)) (targets s.store t from)) A.is_only);
    }

use mathlib.Core.Path.{sym, ap, subst, ◌∙◌}
use native.Mathlib.Omega.{arith}
use Rattle.text.specs.Meaning.{Within}
use Rattle.forms.specs.declared.Target.{Target}
use Rattle.forms.specs.Forms.{target_meant, TargetWithin}
use Rattle.store.specs.Rows.{row_names}
use Rattle.delegation_rules.specs.declared.Aim.TheVariants.{One}
use Rattle.delegation_rules.specs.Asking.{aim_of}
use borrow.Author.Rules.{rules}
use Rattle.delegation_rules.proofs.aim_of.Goals as goal

pub slice_bounds-number_of-count : goal.slice_bounds-number_of-count
slice_bounds-number_of-count c =
    let held : Within c.args.text.now c.in-Only.x = subst (λ (t : Target). TargetWithin c.args.text.now t) c.in-Only.is c.requires.2 in
    held.0

pub slice_bounds-number_of-start : goal.slice_bounds-number_of-start
slice_bounds-number_of-start c =
    let held : Within c.args.text.now c.in-Only.x = subst (λ (t : Target). TargetWithin c.args.text.now t) c.in-Only.is c.requires.2 in
    let h = held in omega (arith, h.0, h.1)

pub slice_bounds-number_of-end : goal.slice_bounds-number_of-end
slice_bounds-number_of-end c =
    let held : Within c.args.text.now c.in-Only.x = subst (λ (t : Target). TargetWithin c.args.text.now t) c.in-Only.is c.requires.2 in
    let h = held in omega (arith, h.0, h.1)

pub returns-in-All : goal.returns-in-All
returns-in-All c l H = sym (ap (λ (t : Target). aim_of (row_names l) (target_meant c.args.text.now t)) c.in-All.is)

pub returns-in-Only : goal.returns-in-Only
returns-in-Only c l H = ap One (c.number_of.ensures l H) ∙ sym (ap (λ (t : Target). aim_of (row_names l) (target_meant c.args.text.now t)) c.in-Only.is)

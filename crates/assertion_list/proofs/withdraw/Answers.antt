use mathlib.Core.Path.{refl, ap, ◌∙◌}
use native.Mathlib.Omega.{arith}
use lib.ListN.{drop}
use Rattle.assertion_list.proofs.Lists.{closed_is, withdrawn_at, withdrawn_none, closed_rest}
use Rattle.assertion_list.proofs.withdraw.Goals as goal

pub returns-in_default : goal.returns-in_default
returns-in_default c =
    let a = c.args in
    record { withdrawn = withdrawn_none a.list.now a.n a.n a.a c.requires c.in_default.ensures refl; others = (omega arith, refl) }

pub returns : goal.returns
returns c =
    let a = c.args in
    let F = c.in-Some.ensures in
    let k = c.in-Some.k in
    let e = c.copy_within.ensures.after ∙ closed_is a.list.now k a.n F.0 in record {
      withdrawn = withdrawn_at a.list.now c.copy_within.new.self k a.n a.a c.requires F.1 F.0 e;
      others = (omega arith, ap (drop a.n) e ∙ closed_rest a.list.now k a.n F.0 c.requires);
    }

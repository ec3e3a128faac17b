use mathlib.Core.Path.{refl, sym, ◌∙◌}
use Prim.Native.Nat.{◌+◌}
use native.Mathlib.Omega.{arith}
use lib.ListN.{take}
use lib.Seq.{drop-set-lt}
use Rattle.assertion_list.proofs.Lists.{enter_stands, enter_new}
use Rattle.assertion_list.proofs.enter.Goals as goal

pub returns-then-stands : goal.returns-then-stands
returns-then-stands c =
    let a = c.args in record {
      entered = enter_stands (take a.n a.list.now) a.a (sym c.stands.ensures ∙ c.if-stands.true);
      others = ((omega arith, omega arith), refl);
    }

pub returns : goal.returns
returns c =
    let a = c.args in record {
      entered = enter_new a.list.now a.n a.a c.requires (sym c.stands.ensures ∙ c.if-stands.false);
      others = ((omega arith, omega arith), drop-set-lt (a.n + 1) a.list.now a.n a.a (omega arith));
    }

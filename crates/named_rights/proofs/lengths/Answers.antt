-- The i-th principal has the number i, so that the marks by numbers are the lengths by names.
use mathlib.Core.Path.{refl}
use native.Mathlib.Omega.{arith}
use lib.ListN.{length}
use Rattle.named_rights.proofs.Everybody.{says_all}
use Rattle.named_rights.proofs.lengths.Goals as goal

pub returns : goal.returns
returns c s r x v t q =
    let a = c.args in
    says_all s r x a.n (length a.marks.now) a.variable a.right a.assertions.now v t q _ _ _ c.lengths.ensures refl (omega arith)

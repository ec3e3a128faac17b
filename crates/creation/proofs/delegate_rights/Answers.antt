-- `creation::delegate_rights` meets its contract. The invariant: the rights before `right` were delegated.
-- Assumes nothing.
use native.Mathlib.Omega.{arith}
use Rattle.creation.proofs.Giving.{ends_at, first_given, gives_next, too_heavy, given_on, given_last}
use Rattle.creation.proofs.delegate_rights.Goals as goal

pub delegate_all-next-requires : goal.delegate_all-next-requires
delegate_all-next-requires c =
    let a = c.args in
    let w = c.loop-right in
    let P = c.requires.0 in record {
      some_gives = record {
        session = first_given P.session P.from P.to w.right;
        from = P.from;
        to = P.to;
        gives = gives_next P.session P.from P.to w.right a.l w.k _ _ a.q a.p P.gives (w.invariant P.session P.from P.to P.gives);
      };
      right_bound = (c.loop-right-test.true, omega (arith, c.requires.1, w.auto.targets));
    }

pub returns-in_default : goal.returns-in_default
returns-in_default c s from to G =
    let a = c.args in
    let w = c.loop-right in
    too_heavy s from to w.right (omega (arith, c.loop-right-test.true))
    (ends_at _ _ c.in_default.is (c.delegate_all-next.ensures (first_given s from to w.right) from to (gives_next s from to w.right a.l w.k _ _ a.q a.p G (w.invariant s from to G))))

pub loop-right-preserved : goal.loop-right-preserved
loop-right-preserved c s from to G =
    let a = c.args in
    let w = c.loop-right in
    given_on s from to w.right
    (ends_at _ _ c.in-Done.is (c.delegate_all-next.ensures (first_given s from to w.right) from to (gives_next s from to w.right a.l w.k _ _ a.q a.p G (w.invariant s from to G))))

pub returns : goal.returns
returns c s from to G = let w = c.loop-right in given_last s from to w.right (omega (arith, w.auto.right-end, c.loop-right-test.false)) (w.invariant s from to G)

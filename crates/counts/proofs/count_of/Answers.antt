use Prim.Native.Nat.{◌<◌}
use lib.ListN.{length}
use native.Mathlib.Omega.{arith}
use Rattle.store.proofs.Holders.{some_principals}
use Rattle.counts.proofs.Reading.{count_bound, digits_here, counted_here}
use Rattle.counts.proofs.count_of.Goals as goal

pub count_at-start-requires : goal.count_at-start-requires
count_at-start-requires c =
    let a = c.args in
    let p = c.requires.0 in
    (some_principals p.principals a.text.now a.count a.slots.now p.held, c.requires.1)

pub returns-in_default : goal.returns-in_default
returns-in_default c =
    let a = c.args in
    let p = c.requires.0 in
    let C = c.count_at-start.ensures.counted p.principals p.held in
    let l : a.number < length p.principals = omega (arith, p.held.counted, c.requires.1) in
    absurd (c.in_default.ensures _ _
    (count_bound p.principals a.text.now a.number p.valid l c.count_at-start.result C) (digits_here p.principals a.text.now a.number p.valid l c.count_at-start.result C))

pub returns : goal.returns
returns c ks K W =
    let a = c.args in
    counted_here ks a.text.now a.number W (omega (arith, K.counted, c.requires.1)) c.count_at-start.result (c.count_at-start.ensures.counted ks K) c.in-Some.value c.in-Some.end c.in-Some.ensures

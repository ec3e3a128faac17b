use Rattle.store.specs.Scans.{HitMeant}
use Rattle.store.proofs.index.hits.Given as goal

abbrev pub invariant-loop-i : goal.invariant-loop-i
invariant-loop-i l = HitMeant l.slots l.from l.i l.p l.hit

use native.Mathlib.Omega.{arith}
use Rattle.store.proofs.Records.{slots_long}
use Rattle.store.proofs.Lookups.{name_starts, starts_at, name_ends_at, ends_before, ends_last}
use Rattle.store.proofs.index.nth.Goals as goal

pub start_of-start-requires : goal.start_of-start-requires
start_of-start-requires c =
    let a = c.args in
    omega (arith, slots_long c.requires.0.rows a.text.now a.count a.slots.now c.requires.0.held)

pub run_end-mid-requires : goal.run_end-mid-requires
run_end-mid-requires c =
    let a = c.args in
    name_starts c.requires.0.rows a.text.now a.count a.slots.now c.requires.0.held a.number c.requires.1 c.start_of-start.result c.start_of-start.ensures

pub start_of-end-requires : goal.start_of-end-requires
start_of-end-requires c =
    let a = c.args in
    omega (arith, slots_long c.requires.0.rows a.text.now a.count a.slots.now c.requires.0.held)

pub returns-then-next-count : goal.returns-then-next-count
returns-then-next-count c rows H =
    let a = c.args in
    let t = a.text.now in
    let m = a.slots.now in
    record {
      starts = starts_at rows t a.count m H a.number c.requires.1 c.start_of-start.result c.start_of-start.ensures;
      name_ends = name_ends_at rows t a.count m H a.number c.requires.1 c.start_of-start.result c.run_end-mid.result c.start_of-start.ensures c.run_end-mid.ensures.ends;
      ends = ends_before rows t a.count m H a.number c.requires.1 c.start_of-end.result c.if-next-count.true c.start_of-end.ensures;
    }

pub returns-else-next-count : goal.returns-else-next-count
returns-else-next-count c rows H =
    let a = c.args in
    let t = a.text.now in
    let m = a.slots.now in
    record {
      starts = starts_at rows t a.count m H a.number c.requires.1 c.start_of-start.result c.start_of-start.ensures;
      name_ends = name_ends_at rows t a.count m H a.number c.requires.1 c.start_of-start.result c.run_end-mid.result c.start_of-start.ensures c.run_end-mid.ensures.ends;
      ends = ends_last rows t a.count m H a.number c.requires.1 c.if-next-count.false;
    }

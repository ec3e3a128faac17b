use Prim.Native.Nat.{◌≤◌}
use native.Mathlib.Omega.{arith}
use lib.ListN.{length, take}
use lib.Seq.{length-take-le}
use Rattle.store.proofs.Records.{slots_long}
use Rattle.edits.proofs.Rewriting.{spot_in, movable, rewritten, outside}
use Rattle.edits.proofs.change.rewrite.Goals as goal

pub splice-n-requires : goal.splice-n-requires
splice-n-requires c =
    let inside : let a = c.args in (a.to ≤ a.len) × (a.count ≤ length a.slots.now) = let a = c.args in
    let p = c.requires in
    let S = p.2 in (
      spot_in a.buf.now a.len a.count a.slots.now a.number a.from a.to p.1 S,
      slots_long S.rows (take a.len a.buf.now) a.count a.slots.now S.held,
    ) in
    let i = inside in
    (c.requires.2.order, i.0, c.requires.1, c.requires.3)

pub overflow_cast-old : goal.overflow_cast-old
overflow_cast-old c =
    let inside : let a = c.args in (a.to ≤ a.len) × (a.count ≤ length a.slots.now) = let a = c.args in
    let p = c.requires in
    let S = p.2 in (
      spot_in a.buf.now a.len a.count a.slots.now a.number a.from a.to p.1 S,
      slots_long S.rows (take a.len a.buf.now) a.count a.slots.now S.held,
    ) in
    omega (arith, inside.0, c.requires.0, c.requires.1)

pub overflow_cast-new : goal.overflow_cast-new
overflow_cast-new c = omega (arith, c.requires.0, c.requires.3)

pub shift-requires : goal.shift-requires
shift-requires c =
    let inside : let a = c.args in (a.to ≤ a.len) × (a.count ≤ length a.slots.now) = let a = c.args in
    let p = c.requires in
    let S = p.2 in (
      spot_in a.buf.now a.len a.count a.slots.now a.number a.from a.to p.1 S,
      slots_long S.rows (take a.len a.buf.now) a.count a.slots.now S.held,
    ) in
    let a = c.args in
    let p = c.requires in
    (omega (arith, p.2.below), inside.1, movable (take a.len a.buf.now) a.count a.slots.now a.number a.from a.to (length a.src.now) p.2 (omega (arith, p.3, p.0, length-take-le a.len a.buf.now p.1)))

pub returns : goal.returns
returns c =
    let inside : let a = c.args in (a.to ≤ a.len) × (a.count ≤ length a.slots.now) = let a = c.args in
    let p = c.requires in
    let S = p.2 in (
      spot_in a.buf.now a.len a.count a.slots.now a.number a.from a.to p.1 S,
      slots_long S.rows (take a.len a.buf.now) a.count a.slots.now S.held,
    ) in
    let a = c.args in
    let p = c.requires in
    let i = inside in
    let fits : c.splice-n.result ≤ length a.buf.now = omega (arith, c.splice-n.ensures.size, p.3) in record {
      size = c.splice-n.ensures.size;
      outside = outside a.buf.now a.src.now c.splice-n.new.buf a.len a.count a.number a.from a.to c.splice-n.result a.slots.now c.shift.new.slots p.2.below i.1 p.1 p.2.order i.0
          c.splice-n.ensures.size fits c.splice-n.ensures.left c.shift.ensures;
      held = λ rows row H R.
          rewritten rows row a.buf.now a.src.now c.splice-n.new.buf a.len a.count a.number a.from a.to c.splice-n.result a.slots.now c.shift.new.slots H p.2.below i.1 p.0 p.1
          p.2.order i.0 R c.splice-n.ensures.size fits c.splice-n.ensures.left c.shift.ensures;
    }

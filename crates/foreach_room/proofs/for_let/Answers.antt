-- `foreach_room::for_let` meets its contract. The copies hold the same locals, and have room for the names of every let.
-- Assumes nothing.
use mathlib.Core.Path.{sym, ◌∙◌}
use Prim.Native.Nat.{ℕ}
use native.Mathlib.Omega.{arith}
use lib.ListN.{length-replicate}
use lib.Seq.{length-take-le}
use Rattle.language.specs.Syntax.{Expr}
use Rattle.language.specs.Values.{Session}
use Rattle.lets.specs.Reaching.{texts}
use Rattle.foreach_element.specs.Turning.{Turning}
use Rattle.foreach_room.proofs.Aside.{copied_front, elsewhere, some_elsewhere, let_room}
use borrow.Author.Rules.{rules}
use Rattle.foreach_room.proofs.for_let.Goals as goal

pub slice_bounds-copy-end-2 : goal.slice_bounds-copy-end-2
slice_bounds-copy-end-2 c = sym (length-take-le _ _ c.requires.some_turning.turning.asked.in_scope)

pub copy-requires : goal.copy-requires
copy-requires c = omega (arith, length-take-le c.args.len c.args.locals.now c.requires.some_turning.turning.asked.in_scope, c.requires.some_turning.locals_short, length-replicate {A = ℕ} 90373 0)

pub slice_bounds-copy-end-4 : goal.slice_bounds-copy-end-4
slice_bounds-copy-end-4 c = sym (length-take-le c.args.number c.args.local_slots.now (omega (arith, c.requires.some_turning.slots_room)))

pub copy-requires-2 : goal.copy-requires-2
copy-requires-2 c = omega (arith, length-take-le c.args.number c.args.local_slots.now (omega (arith, c.requires.some_turning.slots_room)), c.requires.some_turning.few, length-replicate {A = ℕ} 8192 0)

pub make_all-requires : goal.make_all-requires
make_all-requires c =
    let Turns : Session → Expr → Type 0 = λ s x. let a = c.args in
    Turning s x a.text.now (texts a.shared.now a.slots.now a.count a.locals.now a.local_slots.now) a.len a.number a.y a.e a.assertions.now a.n a.principals a.sender a.known in
    let aside : (s : Session) (x : Expr) → Turns s x → let a = c.args in Turning s x a.text.now (texts a.shared.now a.slots.now a.count c.copy.new.dst c.copy-2.new.dst) a.len a.number a.y a.e a.assertions.now a.n a.principals a.sender a.known = λ s x I. let a = c.args in
    elsewhere I c.copy.new.dst c.copy-2.new.dst (copied_front _ a.locals.now a.len I.asked.in_scope c.copy.new.dst c.copy.ensures)
    (omega (arith, c.copy.auto.dst, length-replicate {A = ℕ} 90373 0, c.requires.some_turning.locals_short)) (copied_front _ a.local_slots.now a.number (omega (arith, c.requires.some_turning.slots_room)) c.copy-2.new.dst c.copy-2.ensures) in
    let p = c.copy.auto.dst ∙ length-replicate {A = ℕ} 90373 0 in
    let q = c.copy-2.auto.dst ∙ length-replicate {A = ℕ} 8192 0 in
    let f = length-replicate {A = ℕ} 4096 0 in record {
      some_turning = some_elsewhere c.requires.some_turning c.copy.new.dst c.copy-2.new.dst (aside c.requires.some_turning.session c.requires.some_turning.expression c.requires.some_turning.turning) (omega (arith, q, c.requires.some_turning.few));
      room = let_room c.args.e _ _ _ _ _ _ _ _ _ c.args.number p q f f f f c.requires.some_turning.few;
      some_list = c.requires.some_list;
    }

pub returns : goal.returns
returns c s x es I h =
    let Turns : Session → Expr → Type 0 = λ s x. let a = c.args in
    Turning s x a.text.now (texts a.shared.now a.slots.now a.count a.locals.now a.local_slots.now) a.len a.number a.y a.e a.assertions.now a.n a.principals a.sender a.known in
    let aside : (s : Session) (x : Expr) → Turns s x → let a = c.args in Turning s x a.text.now (texts a.shared.now a.slots.now a.count c.copy.new.dst c.copy-2.new.dst) a.len a.number a.y a.e a.assertions.now a.n a.principals a.sender a.known = λ s x I. let a = c.args in
    elsewhere I c.copy.new.dst c.copy-2.new.dst (copied_front _ a.locals.now a.len I.asked.in_scope c.copy.new.dst c.copy.ensures)
    (omega (arith, c.copy.auto.dst, length-replicate {A = ℕ} 90373 0, c.requires.some_turning.locals_short)) (copied_front _ a.local_slots.now a.number (omega (arith, c.requires.some_turning.slots_room)) c.copy-2.new.dst c.copy-2.ensures) in
    (c.make_all.ensures s x es (aside s x I) h).0

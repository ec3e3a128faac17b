-- `foreach_room::for_term` meets its contract. The copy holds the same locals, and what it leaves of their slots holds for them too.
-- Assumes nothing.
use mathlib.Core.Path.{refl, sym, ◌∙◌}
use Prim.Native.Nat.{ℕ}
use native.Mathlib.Omega.{arith}
use lib.ListN.{length-replicate}
use lib.Seq.{length-take-le}
use Rattle.language.specs.Syntax.{Expr}
use Rattle.language.specs.Values.{Session}
use Rattle.lets.specs.Reaching.{texts}
use Rattle.foreach_element.specs.Turning.{Turning}
use Rattle.foreach_room.proofs.Aside.{copied_front, elsewhere, brought_back, some_elsewhere, term_room}
use borrow.Author.Rules.{rules}
use Rattle.foreach_room.proofs.for_term.Goals as goal

pub slice_bounds-copy-end-2 : goal.slice_bounds-copy-end-2
slice_bounds-copy-end-2 c = sym (length-take-le _ _ c.requires.some_turning.turning.asked.in_scope)

pub copy-requires : goal.copy-requires
copy-requires c = omega (arith, length-take-le c.args.len c.args.locals.now c.requires.some_turning.turning.asked.in_scope, c.requires.some_turning.locals_short, length-replicate {A = ℕ} 57605 0)

pub make_all-requires : goal.make_all-requires
make_all-requires c =
    let Turns : Session → Expr → Type 0 = λ s x. let a = c.args in
    Turning s x a.text.now (texts a.shared.now a.slots.now a.count a.locals.now a.local_slots.now) a.len a.number a.y a.e a.assertions.now a.n a.principals a.sender a.known in
    let aside : (s : Session) (x : Expr) → Turns s x → let a = c.args in Turning s x a.text.now (texts a.shared.now a.slots.now a.count c.copy.new.dst a.local_slots.now) a.len a.number a.y a.e a.assertions.now a.n a.principals a.sender a.known = λ s x I. let a = c.args in
    elsewhere I c.copy.new.dst a.local_slots.now (copied_front _ a.locals.now a.len I.asked.in_scope c.copy.new.dst c.copy.ensures)
    (omega (arith, c.copy.auto.dst, length-replicate {A = ℕ} 57605 0, c.requires.some_turning.locals_short)) refl in
    record {
      some_turning = some_elsewhere c.requires.some_turning c.copy.new.dst c.args.local_slots.now (aside c.requires.some_turning.session c.requires.some_turning.expression c.requires.some_turning.turning) c.requires.some_turning.slots_room;
      room = term_room c.args.e c.requires.without_let _ _ c.args.number (c.copy.auto.dst ∙ length-replicate {A = ℕ} 57605 0);
      some_list = c.requires.some_list;
    }

pub returns : goal.returns
returns c s x es I h =
    let Turns : Session → Expr → Type 0 = λ s x. let a = c.args in
    Turning s x a.text.now (texts a.shared.now a.slots.now a.count a.locals.now a.local_slots.now) a.len a.number a.y a.e a.assertions.now a.n a.principals a.sender a.known in
    let aside : (s : Session) (x : Expr) → Turns s x → let a = c.args in Turning s x a.text.now (texts a.shared.now a.slots.now a.count c.copy.new.dst a.local_slots.now) a.len a.number a.y a.e a.assertions.now a.n a.principals a.sender a.known = λ s x I. let a = c.args in
    elsewhere I c.copy.new.dst a.local_slots.now (copied_front _ a.locals.now a.len I.asked.in_scope c.copy.new.dst c.copy.ensures)
    (omega (arith, c.copy.auto.dst, length-replicate {A = ℕ} 57605 0, c.requires.some_turning.locals_short)) refl in
    let r = c.make_all.ensures s x es (aside s x I) h in (r.0, brought_back I c.make_all.new.scope c.make_all.new.local_slots r.1)

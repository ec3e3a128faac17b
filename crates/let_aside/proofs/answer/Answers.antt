use mathlib.Core.Path.{sym, ap, ◌∙◌}
use Prim.Native.Nat.{ℕ}
use native.Mathlib.Omega.{arith}
use lib.ListN.{length, take, length-replicate}
use lib.Seq.{length-take-le}
use Rattle.language.specs.Syntax.{Expr}
use Rattle.language.specs.Values.{Session}
use Rattle.lets.specs.Reaching.{texts}
use Rattle.lets.specs.Giving.{Starts}
use Rattle.let_aside.proofs.Copies.{slots_enough, slots_front, starts_aside}
use borrow.Author.Rules.{rules}
use Rattle.let_aside.proofs.answer.Reads as reads
use Rattle.let_aside.proofs.answer.Lts as lts
use Rattle.splice.proofs.Splicing.{over_front}
use Rattle.lets.proofs.answer.Reads as answer-reads
use Rattle.splice.proofs.copy.Reads as copy-reads
use Rattle.let_aside.proofs.answer.Goals as goal

pub copy-requires : goal.copy-requires
copy-requires c = omega (arith, c.requires.some_aside.short, length-replicate {A = ℕ} 65536 0)

pub slice_bounds-copy-end-3 : goal.slice_bounds-copy-end-3
slice_bounds-copy-end-3 c = sym (length-take-le _ _ (slots_enough c.requires.some_aside.starts))

pub copy-requires-2 : goal.copy-requires-2
copy-requires-2 c =
    let a = c.args in
    omega (arith, length-take-le a.number a.local_slots.now (slots_enough c.requires.some_aside.starts), slots_enough c.requires.some_aside.starts, c.requires.some_aside.few, length-replicate {A = ℕ} 8192 0)

pub answer-requires : goal.answer-requires
answer-requires c =
    let there : (s : Session) (x : Expr) → (let a = c.args in Starts s x a.text.now (texts a.shared.now a.slots.now a.count a.locals.now a.local_slots.now) (length a.locals.now) a.number a.at) → let a = c.args in Starts s x a.text.now (texts a.shared.now a.slots.now a.count c.copy.new.dst c.copy-2.new.dst) (length a.locals.now) a.number a.at = λ s x S. let a = c.args in
    starts_aside S c.copy.new.dst c.copy-2.new.dst (ap (take (length a.locals.now)) c.copy.ensures ∙ over_front _ a.locals.now)
    (omega (arith, c.copy.auto.dst, length-replicate {A = ℕ} 65536 0, c.requires.some_aside.short))
    (slots_front _ a.local_slots.now c.copy-2.new.dst a.number (slots_enough S) c.copy-2.ensures) in
    let a = c.args in record {
      some_start = record { session = c.requires.some_aside.session; expression = c.requires.some_aside.expression; starts = there c.requires.some_aside.session c.requires.some_aside.expression c.requires.some_aside.starts; sends = c.requires.some_aside.sends; knows = tt };
      sized = record {
        scope_size_lem = omega (arith, c.requires.some_aside.short, c.copy.auto.dst, length-replicate {A = ℕ} 65536 0);
        scope_small = omega (arith, c.copy.auto.dst, length-replicate {A = ℕ} 65536 0);
        slots_size = omega (arith, slots_enough c.requires.some_aside.starts, c.requires.some_aside.few, c.copy-2.auto.dst, length-replicate {A = ℕ} 8192 0);
        slots_small = omega (arith, c.copy-2.auto.dst, length-replicate {A = ℕ} 8192 0);
        deep = record {
          heads_size = length-replicate {A = ℕ} 4096 0;
          lens_size = length-replicate {A = ℕ} 4096 0;
          counts_size = length-replicate {A = ℕ} 4096 0;
          bounds_size = length-replicate {A = ℕ} 4096 0;
        };
      };
      text_len_bound = c.requires.text_len_bound;
    }

pub returns : goal.returns
returns c s x S W =
    let there : (s : Session) (x : Expr) → (let a = c.args in Starts s x a.text.now (texts a.shared.now a.slots.now a.count a.locals.now a.local_slots.now) (length a.locals.now) a.number a.at) → let a = c.args in Starts s x a.text.now (texts a.shared.now a.slots.now a.count c.copy.new.dst c.copy-2.new.dst) (length a.locals.now) a.number a.at = λ s x S. let a = c.args in
    starts_aside S c.copy.new.dst c.copy-2.new.dst (ap (take (length a.locals.now)) c.copy.ensures ∙ over_front _ a.locals.now)
    (omega (arith, c.copy.auto.dst, length-replicate {A = ℕ} 65536 0, c.requires.some_aside.short))
    (slots_front _ a.local_slots.now c.copy-2.new.dst a.number (slots_enough S) c.copy-2.ensures) in
    (c.answer.ensures s x (there s x S) W tt).0

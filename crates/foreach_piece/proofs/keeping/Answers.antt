-- `foreach_piece::keeping` meets its contract. The element's own text is put where the value's stood.
-- Assumes nothing.
use mathlib.Core.Path.{sym, ◌∙◌}
use native.Mathlib.Omega.{arith}
use borrow.Author.Tests.{not-true, not-false}
use lib.Seq.{length-take-le}
use Rattle.language.specs.State.{single}
use Rattle.scopes.proofs.Bounds.{text_bound}
use Rattle.foreach_piece.proofs.Settling.{removed, stays}
use borrow.Author.Rules.{rules}
use Rattle.foreach_piece.proofs.keeping.Goals as goal

pub slice_bounds-is_blank-end-2 : goal.slice_bounds-is_blank-end-2
slice_bounds-is_blank-end-2 c = sym (length-take-le _ _ c.requires.0.written.within)

pub is_blank-requires : goal.is_blank-requires
is_blank-requires c = let W = c.requires.0.written in record { value = W.value; held = W.held }

pub returns-then-not-is_blank : goal.returns-then-not-is_blank
returns-then-not-is_blank c s xs o a t h = (t.0, removed o c.args.out.now a _ _ t.1 (sym (not-true c.is_blank.result c.if-not-is_blank.true-raw) ∙ c.is_blank.ensures t.1.value t.1.held))

pub weigh-own-requires : goal.weigh-own-requires
weigh-own-requires c = let E = c.requires.1 in record { value = single E.element; held = E.held }

pub copy_in-end-requires : goal.copy_in-end-requires
copy_in-end-requires c =
    let P = c.requires in
    omega (arith, P.2, P.1.light, text_bound (single P.1.element) _ P.1.held)

pub overflow_add-result : goal.overflow_add-result
overflow_add-result c =
    let P = c.requires in
    omega (arith, P.1.light, c.weigh-own.ensures (single P.1.element) P.1.held)

pub returns : goal.returns
returns c s xs o a t h =
    let P = c.requires in (
      t.0,
      stays o c.args.out.now a _ _ t.1 (sym (not-false c.is_blank.result c.if-not-is_blank.false-raw) ∙ c.is_blank.ensures t.1.value t.1.held) c.args.element.now h _ _ c.copy_in-end.ensures
          c.weigh-own.result (c.weigh-own.ensures (single a) h) (omega (arith, P.1.light, c.weigh-own.ensures (single P.1.element) P.1.held)),
    )

use mathlib.Core.Path.{◌≡◌, sym}
use mathlib.Core.List.{List, map}
use Prim.Native.Nat.{◌<◌}
use native.Mathlib.Omega.{arith}
use lib.ListN.{take}
use lib.Seq.{length-take-le}
use Rattle.language.specs.Syntax.{Name}
use Rattle.language.specs.Text.{joined}
use Rattle.language.specs.Encode.{element_text}
use Rattle.language.specs.State.{Element, list, Variable, value_in}
use mathlib.Core.Option.{some}
use mathlib.Core.List.{◌++◌}
use Rattle.store.specs.Held.{Variables}
use Rattle.store.specs.Rows.{variable_row, position}
use Rattle.edits.specs.Changes.{variable_names, Respelled}
use Rattle.store.proofs.Holders.{variables_rows, some_variables}
use Rattle.edits.proofs.Rewriting.{respelled_spot}
use Rattle.edits.proofs.Putting.{with_value, elements_respelled, put_size, put_held}
use Rattle.edits.proofs.change.append_value.Goals as goal

pub slice_bounds-nth-end-2 : goal.slice_bounds-nth-end-2
slice_bounds-nth-end-2 c = sym (length-take-le _ _ c.requires.1)

pub nth-place-requires : goal.nth-place-requires
nth-place-requires c =
    let a = c.args in
    let S = c.requires.2 in
    (some_variables S.variables (take a.len a.buf.now) a.count a.slots.now S.held, S.below)

pub rewrite-requires : goal.rewrite-requires
rewrite-requires c =
    let spelled : let a = c.args in let t = take a.len a.buf.now in (vs : List Variable) (x : Name) (es fs : List Element) (W : Variables vs t a.count a.slots.now) (h : a.number < a.count) (n : a.number ≡ position (variable_names vs) x) → value_in vs x ≡ some (list es) → a.more.now ≡ joined element_text fs → Respelled (map variable_row vs) a.number c.nth-place.result.end c.nth-place.result.end a.more.now (variable_row (with_value vs t a.count a.slots.now W x a.number h n (list (es ++ fs)))) = λ vs x es fs W h n q e. let a = c.args in
    let t = take a.len a.buf.now in
    elements_respelled vs t a.count a.slots.now W x a.number h n c.nth-place.result (c.nth-place.ensures (map variable_row vs) (variables_rows vs t a.count a.slots.now W)) es fs a.more.now q e in
    let a = c.args in
    let p = c.requires in
    let S = p.2 in
    let t = take a.len a.buf.now in
    let R = spelled S.variables S.name S.elements S.more S.held S.below S.number S.is_list S.is_text_lem in
    let z = put_size S.variables t a.count a.slots.now S.held S.name a.number S.below S.number c.nth-place.result.end c.nth-place.result.end a.more.now (list (S.elements ++ S.more)) R in (
      p.0,
      p.1,
      respelled_spot (map variable_row S.variables) t a.count a.slots.now (variables_rows S.variables t a.count a.slots.now S.held) a.number
          c.nth-place.result.end c.nth-place.result.end a.more.now (variable_row (with_value S.variables t a.count a.slots.now S.held S.name a.number S.below S.number (list (S.elements ++ S.more)))) S.below R,
      omega (arith, z, S.fits, length-take-le a.len a.buf.now p.1),
    )

pub returns : goal.returns
returns c =
    let spelled : let a = c.args in let t = take a.len a.buf.now in (vs : List Variable) (x : Name) (es fs : List Element) (W : Variables vs t a.count a.slots.now) (h : a.number < a.count) (n : a.number ≡ position (variable_names vs) x) → value_in vs x ≡ some (list es) → a.more.now ≡ joined element_text fs → Respelled (map variable_row vs) a.number c.nth-place.result.end c.nth-place.result.end a.more.now (variable_row (with_value vs t a.count a.slots.now W x a.number h n (list (es ++ fs)))) = λ vs x es fs W h n q e. let a = c.args in
    let t = take a.len a.buf.now in
    elements_respelled vs t a.count a.slots.now W x a.number h n c.nth-place.result (c.nth-place.ensures (map variable_row vs) (variables_rows vs t a.count a.slots.now W)) es fs a.more.now q e in
    let a = c.args in
    let t = take a.len a.buf.now in
    let k = c.requires.2.below in record {
      outside = c.rewrite.ensures.outside;
      held = λ vs x es fs W n q e.
          put_held vs t a.count a.slots.now W x a.number k n (list (es ++ fs)) (take c.rewrite.result c.rewrite.new.buf) c.rewrite.new.slots
          (c.rewrite.ensures.held (map variable_row vs) (variable_row (with_value vs t a.count a.slots.now W x a.number k n (list (es ++ fs)))) (variables_rows vs t a.count a.slots.now W)
          (spelled vs x es fs W k n q e));
    }

use mathlib.Core.Path.{◌≡◌, ap, ◌∙◌}
use mathlib.Core.List.{[], ◌∷◌, ◌++◌, map}
use Prim.Native.Nat.{ℕ, ◌+◌, ◌≤◌}
use native.Mathlib.Omega.{arith}
use lib.ListN.{length, take, length-append}
use Rattle.language.specs.Text.{Text}
use Rattle.store.specs.Rows.{variable_row}
use Rattle.splice.specs.Splices.{over}
use Rattle.store.proofs.Holders.{variables_rows}
use Rattle.edits.proofs.Adding.{added, added_outside, variable_written, variable_added, written_on, head_length}
use Rattle.edits.proofs.add.add_variable.Goals as goal

pub returns : goal.returns
returns c =
    let written : let a = c.args in c.copy.new.dst ≡ over a.buf.now a.len (86 ∷ 9 ∷ (a.name.now ++ (9 ∷ a.value.now))) = let a = c.args in
    let p = c.requires in
    let x = a.name.now in
    c.copy.ensures
    ∙ written_on a.buf.now c.head-body.new.buf (86 ∷ 9 ∷ (x ++ (9 ∷ []))) a.value.now a.len c.head-body.result (omega arith) c.head-body.ensures.left (omega (arith, c.head-body.ensures.size, head_length 86 x))
    ∙ ap (over a.buf.now a.len) (variable_written x a.value.now) in
    let size : let a = c.args in c.head-body.result + length a.value.now ≡ a.len + length (86 ∷ 9 ∷ (a.name.now ++ (9 ∷ a.value.now))) = let a = c.args in omega (arith, c.head-body.ensures.size, length-append a.name.now (9 ∷ a.value.now)) in
    let a = c.args in
    let p = c.requires in
    let x = a.name.now in
    let r : ℕ = c.head-body.result + length a.value.now in
    let t : Text = 86 ∷ 9 ∷ (x ++ (9 ∷ a.value.now)) in
    let fits : r ≤ length a.buf.now = omega (arith, c.head-body.ensures.size, p.1) in record {
      size = ap (λ (n : ℕ). n + length a.value.now) c.head-body.ensures.size;
      outside = added_outside a.buf.now c.copy.new.dst t a.len a.count r a.slots.now c.note.new.slots _ (omega arith) size fits written c.note.ensures;
      held = λ vs v W h e.
          variable_added vs x v (take r c.copy.new.dst) (a.count + 1) c.note.new.slots
          (added (map variable_row vs) (variable_row (record { name = x; value = v })) a.buf.now c.copy.new.dst a.len a.count r a.slots.now c.note.new.slots
          (variables_rows vs (take a.len a.buf.now) a.count a.slots.now W) h p.0 (omega arith) p.2
          (size ∙ ap (λ (o : Text). a.len + length (86 ∷ 9 ∷ (x ++ (9 ∷ o)))) e) fits
          (written ∙ ap (λ (o : Text). over a.buf.now a.len (86 ∷ 9 ∷ (x ++ (9 ∷ o)))) e) c.note.ensures);
    }

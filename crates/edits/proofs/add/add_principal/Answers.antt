use mathlib.Core.Path.{◌≡◌, ap, ◌∙◌}
use mathlib.Core.List.{[], ◌∷◌, ◌++◌, map}
use mathlib.Core.Option.{some}
use Prim.Native.Nat.{ℕ, ◌+◌, ◌≤◌}
use native.Mathlib.Omega.{arith}
use lib.ListN.{length, take, length-append}
use Rattle.language.specs.Text.{Text}
use Rattle.store.specs.Rows.{principal_row}
use Rattle.splice.specs.Splices.{over}
use Rattle.store.proofs.Holders.{principals_rows}
use Rattle.edits.proofs.Adding.{added, added_outside, principal_written, principal_added, written_on, head_length}
use Rattle.edits.proofs.add.add_principal.Goals as goal

-- the line that is written
abbrev line : Text → Text → Text
line x w = 80 ∷ 9 ∷ (x ++ (9 ∷ (w ++ (9 ∷ 48 ∷ 10 ∷ []))))

pub returns : goal.returns
returns c =
    let written : let a = c.args in c.copy-2.new.dst ≡ over a.buf.now a.len (line a.name.now a.password.now) = let a = c.args in
    let x = a.name.now in
    let w = a.password.now in
    let f : Text = 80 ∷ 9 ∷ (x ++ (9 ∷ [])) in
    let one : c.copy.new.dst ≡ over a.buf.now a.len (f ++ w) =
    c.copy.ensures ∙ written_on a.buf.now c.head-body.new.buf f w a.len c.head-body.result (omega arith) c.head-body.ensures.left (omega (arith, c.head-body.ensures.size, head_length 80 x)) in
    c.copy-2.ensures
    ∙ written_on a.buf.now c.copy.new.dst (f ++ w) (9 ∷ 48 ∷ 10 ∷ []) a.len (c.head-body.result + length w) (omega arith) one (omega (arith, c.head-body.ensures.size, head_length 80 x, length-append f w))
    ∙ ap (over a.buf.now a.len) (principal_written x w (9 ∷ 48 ∷ 10 ∷ [])) in
    let size : let a = c.args in c.head-body.result + length a.password.now + 3 ≡ a.len + length (line a.name.now a.password.now) = let a = c.args in
    omega (arith, c.head-body.ensures.size, length-append a.name.now (9 ∷ (a.password.now ++ (9 ∷ 48 ∷ 10 ∷ []))), length-append a.password.now (9 ∷ 48 ∷ 10 ∷ [])) in
    let a = c.args in
    let p = c.requires in
    let x = a.name.now in
    let w = a.password.now in
    let r : ℕ = c.head-body.result + length w + 3 in
    let b : Text = c.copy-2.new.dst in
    let fits : r ≤ length a.buf.now = omega (arith, c.head-body.ensures.size, p.1) in record {
      size = omega (arith, c.head-body.ensures.size);
      outside = added_outside a.buf.now b (line x w) a.len a.count r a.slots.now c.note.new.slots _ (omega arith) size fits written c.note.ensures;
      held = λ ks K h.
          principal_added ks x w (take r b) (a.count + 1) c.note.new.slots
          (added (map principal_row ks) (principal_row (record { name = x; password = some w; count = 0 })) a.buf.now b a.len a.count r a.slots.now c.note.new.slots
          (principals_rows ks (take a.len a.buf.now) a.count a.slots.now K) h (omega (arith, p.0)) (omega arith) p.2
          size fits written c.note.ensures);
    }

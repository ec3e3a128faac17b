-- JSON of a list's or a record's parts: a byte before each, a comma before all but the first.
-- Assumes nothing.
use mathlib.Core.Path.{◌≡◌, refl, sym, ap, ◌∙◌}
use Prim.Native.Nat.{ℕ, ◌+◌, ◌≤◌}
use native.Mathlib.Omega.{arith}
use mathlib.Core.List.{List, [], ◌∷◌, ◌++◌, append_assoc, append-nil}
use lib.ListN.{length, length-append}
use Rattle.language.specs.Text.{Text, bytes}
use Rattle.language.specs.State.{Field, Element, fields, list}
use Rattle.language.specs.Output.{quote, commas, field_json, element_json, value_json}
use Rattle.value_text.specs.Writing.{Written}
use Rattle.value_text.proofs.Pieces.{◌▸◌, rewritten, written_none, written_length}
use Rattle.render.specs.Json.{linked}
use Rattle.language.proofs.Parsing.Printing.{quote_length}

pub commas_linked : {A : Type 0} (f : A → Text) (b : ℕ) (a : A) (l : List A) → linked f b (a ∷ l) ≡ b ∷ commas f (a ∷ l)
commas_linked f b a [] = ap (λ r. b ∷ r) (append-nil (f a))
commas_linked f b a (c ∷ l) =
    ap (λ r. b ∷ r) (ap (λ r. f a ++ r) (commas_linked f 44 c l) ∙ sym (append_assoc (f a) (bytes ",") (commas f (c ∷ l))))

pub record_json : (f : Field) (fs : List Field) → linked field_json 123 (f ∷ fs) ++ (125 ∷ []) ≡ element_json (fields (f ∷ fs))
record_json f fs = ap (λ r. r ++ (125 ∷ [])) (commas_linked field_json 123 f fs)

pub list_json : (e : Element) (es : List Element) → linked element_json 91 (e ∷ es) ++ (93 ∷ []) ≡ value_json (list (e ∷ es))
list_json e es = ap (λ r. r ++ (93 ∷ [])) (commas_linked element_json 91 e es)

pub field_json_lem : (f : Field) → quote f.label ++ ((58 ∷ []) ++ quote f.text) ≡ field_json f
field_json_lem f = sym (append_assoc (quote f.label) (58 ∷ []) (quote f.text))

pub quoted_ends : (t : Text) {a b : Text} {at r : ℕ} → Written a at (quote t) r b → r ≡ at + length t + 2
quoted_ends t w = omega (arith, w.ends, quote_length t)

-- ---- some of it written

-- of `linked f b all`, all is written up to p but what `left` is linked to, after the byte sep
pub record Linking {A : Type 0} (f : A → Text) (b : ℕ) (all : List A) (before : Text) (o : ℕ) (sep : ℕ) (left : List A) (p : ℕ) (after : Text) : Type 0 where
  pub done : Text
  pub written : Written before o done p after
  pub total : done ++ linked f sep left ≡ linked f b all

pub linking_start : {A : Type 0} (f : A → Text) (b : ℕ) (all : List A) (before : Text) (o : ℕ) → o ≤ length before → Linking f b all before o b all o before
linking_start f b all before o h = record { done = []; written = written_none before o h; total = refl }

module _ {A : Type 0} (f : A → Text) (b : ℕ) (all : List A) (before : Text) (o sep : ℕ) where
  pub linking_step : (a : A) (left : List A) (p q r : ℕ) (after mid later : Text) → Linking f b all before o sep (a ∷ left) p after
      → Written after p (sep ∷ []) q mid → Written mid q (f a) r later → Linking f b all before o 44 left r later
  linking_step a left p q r after mid later L w x = record {
    done = L.done ++ ((sep ∷ []) ++ f a);
    written = L.written ▸ w ▸ x;
    total = append_assoc L.done ((sep ∷ []) ++ f a) (linked f 44 left) ∙ L.total;
  }

  pub linking_done : (p : ℕ) (after : Text) → Linking f b all before o sep [] p after → Written before o (linked f b all) p after
  linking_done p after L = rewritten (sym (append-nil L.done) ∙ L.total) L.written

  -- the next one has room
  pub linking_room : (a : A) (left : List A) (p : ℕ) (after : Text) → Linking f b all before o sep (a ∷ left) p after
      → o + length (linked f b all) ≤ length before → p + 1 + length (f a) ≤ length after
  linking_room a left p after L h =
      let e : length (L.done ++ linked f sep (a ∷ left)) ≡ length (linked f b all) = ap length L.total in
      let w : length after ≡ length before = written_length L.written in
      omega (arith, e, w, L.written.ends, length-append L.done (linked f sep (a ∷ left)), length-append (f a) (linked f 44 left))

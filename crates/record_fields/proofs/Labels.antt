-- The loop over the field lines of a record.
-- Assumes nothing.
use mathlib.Core.Path.{◌≡◌, refl, sym, subst, ◌∙◌}
use Prim.Native.Nat.{ℕ, ◌+◌, ◌*◌, ◌-◌, ◌≤◌, ◌<◌}
use native.Mathlib.Omega.{arith}
use mathlib.Core.Bool.{Bool, true, false, not}
use mathlib.Core.Option.{some}
use mathlib.Core.List.{List, [], ◌∷◌, ◌++◌}
use lib.Dec.{T}
use lib.ListN.{length, get_or, drop}
use borrow.Author.Tests.{eq-eqb, ne_eqb}
use Rattle.language.specs.Text.{Text, joined}
use Rattle.language.specs.State.{Field}
use Rattle.language.specs.Encode.{field_text}
use Rattle.language.specs.Identifiers.{is_name, is_string}
use Rattle.language.specs.Valid.{valid_field}
use Rattle.language.proofs.Logic.Tests.{both}
use Rattle.language.proofs.StateText.Clean.{name_length}
use Rattle.text.specs.Parts.{part}
use Rattle.store.specs.Rows.{Row, Rows, row_text}
use Rattle.record_fields.specs.Sections.{Fails, light_all, Entitled, Records, any_text, opens, off_field, field_weight, distinct_labels}
use Rattle.record_fields.specs.Sections as Meant
use Rattle.record_fields.specs.Entering.{Entering, Entered}
use Rattle.record_fields.proofs.Opening.{byte_here}
use Rattle.record_fields.proofs.Follow.{stuck, heavy, finish}
use Rattle.record_fields.proofs.Indexing.{Going, going_start, going_rows, room, entering, go_on, again, light, ahead}

-- a byte at a place opens what is left
pub opens_here : (t : Text) (i c : ℕ) → get_or t i 0 ≡ c → opens c (drop i t) ≡ true
opens_here t i c e = eq-eqb (get_or (drop i t) 0 0) c (sym (byte_here t i (drop i t) refl) ∙ e)

pub opens_not : (t : Text) (i c : ℕ) → (get_or t i 0 ≡ c → ⊥) → opens c (drop i t) ≡ false
opens_not t i c n = ne_eqb (get_or (drop i t) 0 0) c (λ e. n (byte_here t i (drop i t) refl ∙ e))

field_clear : (f : Field) (q : Text) → T (any_text (field_text f ++ q))
field_clear f q = tt

field_on : (f : Field) (q : Text) → T (off_field (field_text f ++ q)) → ⊥
field_on f q h = h

field_named : (f : Field) → T (valid_field f) → T (is_name f.label)
field_named f h = (both (is_name f.label) (is_string f.text) h).0

field_two : (f : Field) → T (valid_field f) → 2 ≤ field_weight f
field_two f h = let l = name_length f.label (field_named f h) in omega (arith, l.0)

field_row : Field → Row
field_row f = record { letter = 70; name = f.label; body = some (f.text ++ 10 ∷ []) }

field_text_lem : (f : Field) → field_text f ≡ row_text (field_row f)
unfolding field_row
field_text_lem f = refl

field_name : (f : Field) → f.label ≡ (field_row f).name
unfolding field_row
field_name f = refl

abbrev pub Filling : Text → ℕ → ℕ → List ℕ → ℕ → ℕ → ℕ → Type 0
Filling t at w = Going (λ (f : Field). f.label) field_text valid_field field_weight off_field t at w

pub fields_start : (t : Text) (at w : ℕ) (slots : List ℕ) → at ≤ length t → Filling t at w slots at 0 w
fields_start = going_start (λ (f : Field). f.label) field_text valid_field field_weight any_text off_field (λ q h. tt) field_clear field_on

module _ (t : Text) (at w : ℕ) (slots : List ℕ) (i n now : ℕ) (G : Filling t at w slots i n now) where
  pub fields_heavy : 8192 < now → Fails (joined field_text) (light_all valid_field distinct_labels field_weight w) off_field t at
  fields_heavy h = heavy field_text valid_field field_weight any_text off_field (λ q h. tt) field_clear field_on t at w distinct_labels G.rows i now G.run h

  pub fields_good : (get_or t i 0 ≡ 70 → ⊥) → now ≤ 8192 → Records field_text valid_field distinct_labels field_weight off_field t at w i n now
  fields_good h l =
      let o : T (off_field (drop i t)) = subst (λ (b : Bool). T (not b)) (sym (opens_not t i 70 h)) tt in
      record {
        rows = G.rows;
        reads = finish field_text valid_field field_weight any_text off_field (λ q h. tt) field_clear field_on t at w distinct_labels G.rows i now G.run o G.apart l;
        weighed = G.run.weighed;
        counted = G.counted;
        ends = o;
      }

  module _ (is_f : get_or t i 0 ≡ 70) where
    on : T (off_field (drop i t)) → ⊥
    on h = subst (λ (b : Bool). T (not b)) (opens_here t i 70 is_f) h

    pub fields_stuck : Fails field_text (Meant.light_one valid_field field_weight now) any_text t i → Fails (joined field_text) (light_all valid_field distinct_labels field_weight w) off_field t at
    fields_stuck = stuck field_text valid_field field_weight any_text off_field (λ q h. tt) field_clear field_on t at w G.rows i now G.run on distinct_labels

    module _ (m e after : ℕ) (E : Entitled (λ (f : Field). f.label) field_text valid_field field_weight any_text t i now m e after) where
      pub field_ahead : i < e
      field_ahead = ahead t (field_text E.one.row) i e E.one.reads.here (omega arith) E.one.reads.low E.one.reads.high

      pub field_light : after ≤ 8192
      field_light = light (λ (f : Field). f.label) field_text valid_field field_weight any_text off_field (λ q h. tt) field_clear field_on field_named field_two field_row field_text_lem field_name t at w slots i n now G m e after E

      left : 8192 ≤ w + 2 * length slots → n < length slots
      left = room (λ (f : Field). f.label) field_text valid_field field_weight any_text off_field (λ q h. tt) field_clear field_on field_named field_two field_row field_text_lem field_name t at w slots i n now G m e after E

      pub field_entering : length t ≤ 65536 → 8192 ≤ w + 2 * length slots → Entering t at i m n slots
      field_entering small h = entering (λ (f : Field). f.label) field_text valid_field field_weight any_text off_field (λ q h. tt) field_clear field_on field_named field_two field_row field_text_lem field_name t at w slots i n now G m e after E small (left h)

      module _ (small : length t ≤ 65536) (slots' : List ℕ) where
        pub field_next : 8192 ≤ w + 2 * length slots → ((rows : List Row) → Rows rows (part t at i) n slots → Entered rows (part t (i + 2) m) (i - at) n slots slots' true) → Filling t at w slots' e (n + 1) after
        field_next h f =
            go_on (λ (f : Field). f.label) field_text valid_field field_weight any_text off_field (λ q h. tt) field_clear field_on field_named field_two field_row field_text_lem field_name t at w slots i n now G m e after E on (left h) slots'
            (f _ (going_rows (λ (f : Field). f.label) field_text valid_field field_weight any_text off_field (λ q h. tt) field_clear field_on field_named field_two field_row field_text_lem field_name t at w slots i n now G small))

        pub field_again : ((rows : List Row) → Rows rows (part t at i) n slots → Entered rows (part t (i + 2) m) (i - at) n slots slots' false) → Fails (joined field_text) (light_all valid_field distinct_labels field_weight w) off_field t at
        field_again f =
            again (λ (f : Field). f.label) field_text valid_field field_weight any_text off_field (λ q h. tt) field_clear field_on field_named field_two field_row field_text_lem field_name t at w slots i n now G m e after E on distinct_labels (λ l g. g) slots'
            (f _ (going_rows (λ (f : Field). f.label) field_text valid_field field_weight any_text off_field (λ q h. tt) field_clear field_on field_named field_two field_row field_text_lem field_name t at w slots i n now G small))

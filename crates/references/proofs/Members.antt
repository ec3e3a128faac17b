-- Laws of a name that is one of those of some records.
-- Assumes nothing.
use mathlib.Core.Path.{◌≡◌, refl, sym, ap, subst, ◌∙◌}
use Prim.Native.Nat.{ℕ, ◌+◌, ◌-◌, ◌≤◌, ◌<◌}
use mathlib.Core.Bool.{false}
use mathlib.Core.List.{List, [], ◌∷◌, ◌++◌, append_assoc}
use native.Mathlib.Omega.{arith}
use lib.Dec.{T}
use lib.ListN.{length, get_or, drop, length-map}
use Rattle.std.specs.Prelude.{None}
use Rattle.language.specs.Text.{Text, all, member}
use Rattle.language.specs.Bytes.{word_byte}
use Rattle.language.specs.Encode.{delegator_text}
use Rattle.language.specs.Identifiers.{is_name}
use Rattle.language.proofs.Logic.Tests.{both, and}
use Rattle.language.proofs.StateText.Names.{member_all}
use Rattle.lines.specs.Cuts.{Field}
use Rattle.text.specs.Parts.{part}
use Rattle.lines.proofs.Cuts.{only, wider, narrower}
use Rattle.store.specs.Rows.{Row, Rows, row_names, found_at, place}
use Rattle.store.proofs.Answers.{answered}
use Rattle.language.specs.Weight.{name_weight}
use Rattle.language.proofs.StateText.Clean.{name_length, name_word}
use Rattle.record_fields.proofs.Indexing.{is_there, is_new, member_place}
use Rattle.store.proofs.NameWeights.{name_light}
use Rattle.record_fields.proofs.Opening.{part_length, twice, tail_of}
use Rattle.references.specs.Known.{Member, Delegating}

names_all : (rows : List Row) → T (all (λ r. is_name r.name) rows) → T (all is_name (row_names rows))
names_all [] h = tt
names_all (r ∷ rows) h =
    let (a, b) = both (is_name r.name) (all (λ r. is_name r.name) rows) h in
    and (is_name r.name) (all is_name (row_names rows)) a (names_all rows b)

module _ (rows : List Row) (t : Text) (from to count : ℕ) (slots : List ℕ) (H : Rows rows (part t from to) count slots) where
  pub member_name : (x : Text) → T (member x (row_names rows)) → T (is_name x)
  member_name x h = member_all is_name x (row_names rows) (names_all rows H.named) h

  pub names_count : length (row_names rows) ≡ count
  names_count = length-map rows (λ (r : Row). r.name) ∙ sym H.counted

  -- what is there is a run of letters, digits and underscores
  pub member_word : (x : Text) → T (member x (row_names rows)) → T (all word_byte x)
  member_word x h = name_word x (member_all is_name x (row_names rows) (names_all rows H.named) h)

  module _ (stop : ℕ) (outside : word_byte stop ≡ false) (at e : ℕ) (f : Field (all word_byte) stop t at e) where
    pub unknown : None ≡ place rows (part t at e) → (x r : Text) → T (member x (row_names rows)) → drop at t ≡ x ++ stop ∷ r → ⊥
    unknown q x r h d =
        let (same, left) = only word_byte (λ x. member x (row_names rows)) member_word stop outside t at e f x r h d in
        is_new rows (part t at e) q (subst (λ (y : Text). T (member y (row_names rows))) (sym same) h)

    pub is_known : (k s z : ℕ) → found_at k s z ≡ place rows (part t at e) → Member (row_names rows) stop t at k e
    is_known k s z q = record {
      field = narrower word_byte (λ x. member x (row_names rows)) member_word stop outside t at e f (is_there rows (part t at e) k s z q);
      number = (answered rows (part t at e) k s z q).number;
    }

-- a name that is there is short, and its number is one of theirs
module _ (rows : List Row) (t : Text) (from to count : ℕ) (slots : List ℕ) (H : Rows rows (part t from to) count slots) (stop at k e : ℕ) (M : Member (row_names rows) stop t at k e) where
  pub member_light : (name_weight (part t at e) ≤ 255) × (e - at ≤ 255)
  member_light =
      let n : T (is_name (part t at e)) = member_all is_name (part t at e) (row_names rows) (names_all rows H.named) M.field.is_fine in
      let l = name_light (part t at e) n in
      let s = name_length (part t at e) n in
      (l.1, omega (arith, s.1, part_length t at e M.field.low (omega (arith, M.field.high))))

  pub member_number : k < count
  member_number = omega (arith, M.number, H.counted, member_place (part t at e) (row_names rows) M.field.is_fine, length-map rows (λ (r : Row). r.name))

-- ---- the default delegator's line

line_text : (x q : Text) → delegator_text x ++ q ≡ 68 ∷ 9 ∷ (x ++ 10 ∷ q)
line_text x q = ap (λ (l : Text). 68 ∷ 9 ∷ l) (append_assoc x (10 ∷ []) q)

module _ (rows : List Row) (t : Text) (at : ℕ) where
  module _ (is-d : get_or t at 0 ≡ 68) (is-tab : get_or t (at + 1) 0 ≡ 9) where
    behind : (x q : Text) → drop at t ≡ delegator_text x ++ q → drop (at + 2) t ≡ x ++ 10 ∷ q
    behind x q d = tail_of 9 9 _ _ (tail_of 68 68 _ _ (sym (twice t at 68 9 (omega arith) (omega arith) is-d is-tab) ∙ d ∙ line_text x q))

    pub delegator_good : ((x : Text) → T (member x (row_names rows)) → T (all word_byte x)) → (k e : ℕ) → Member (row_names rows) 10 t (at + 2) k e → Delegating (row_names rows) t at k (e + 1)
    delegator_good word k e M =
        let f = M.field in
        record {
          name = part t (at + 2) e;
          reads = record {
            low = omega (arith, f.low);
            high = omega (arith, f.high);
            is_fine = f.is_fine;
            here = twice t at 68 9 (omega arith) (omega arith) is-d is-tab ∙ ap (λ (y : Text). 68 ∷ 9 ∷ y) f.here ∙ sym (line_text (part t (at + 2) e) (drop (e + 1) t));
            only = λ x q g c d.
                let (same, left) = only word_byte (λ x. member x (row_names rows)) word 10 refl t (at + 2) e (wider word_byte (λ x. member x (row_names rows)) word 10 refl t (at + 2) e f) x q g (behind x q d) in
                (sym same, sym left);
          };
          number = M.number;
        }

-- Two records' texts: equal records have texts of one length, and then one way round is enough.
-- Assumes nothing.
use mathlib.Core.Path.{◌≡◌, refl, sym, ap, ◌∙◌, subst}
use Prim.Native.Nat.{◌<◌}
use native.Mathlib.Omega.{arith}
use mathlib.Core.Bool.{true, false}
use mathlib.Core.List.{List, [], ◌∷◌}
use lib.Dec.{T}
use lib.ListN.{length, length-append}
use Rattle.language.specs.Text.{Text, joined, sum, ◌≟◌}
use Rattle.language.specs.State.{Field}
use Rattle.language.specs.Encode.{field_text}
use Rattle.language.specs.Functions.{holds_all, same_fields}
use Rattle.language.proofs.Logic.Tests.{true_of, false_of, ==→≡}
use Rattle.language.proofs.Meaning.SameFields.{same_size, one_way, same_fields_self}
use Rattle.values.specs.Places.{FieldsAt}
use Rattle.comparison.specs.Records.{HoldsRecord}
use Rattle.comparison.proofs.Fields.{record_starts, record_labels, fields_only}

joined_size : (fs : List Field) → length (joined field_text fs) ≡ sum (λ f. length (field_text f)) fs
joined_size [] = refl
joined_size (f ∷ fs) = omega (arith, length-append (field_text f) (joined field_text fs), joined_size fs)

module _ (t u : Text) (fs gs : List Field) (h : HoldsRecord fs t) (k : HoldsRecord gs u) where
  sizes : (length t ≡ length u) → sum (λ f. length (field_text f)) fs ≡ sum (λ f. length (field_text f)) gs
  sizes e = omega (arith, ap length h.is_text_lem, ap length k.is_text_lem, joined_size fs, joined_size gs)

  some_size : (f : Field) → 0 < length (field_text f)
  some_size f = omega arith

  -- texts of different lengths are of different records
  pub lengths_differ : (length t ≡ length u → ⊥) → false ≡ same_fields fs gs
  lengths_differ n = sym (false_of (same_fields fs gs) (λ s.
      let e : sum (λ f. length (field_text f)) fs ≡ sum (λ f. length (field_text f)) gs = same_size (λ f. length (field_text f)) some_size fs gs (record_labels t fs h) (record_labels u gs k) s in
      n (omega (arith, ap length h.is_text_lem, ap length k.is_text_lem, joined_size fs, joined_size gs))))

  pub same_text : (t ≟ u) ≡ true → true ≡ same_fields fs gs
  same_text b =
      let e : t ≡ u = ==→≡ t u (subst T (sym b) tt) in
      let q : fs ≡ gs = fields_only u 2 fs gs (subst (λ x. FieldsAt x 2 fs []) e (record_starts t fs h)) (record_starts u gs k) in
      sym (ap (λ l. same_fields fs l) (sym q) ∙ true_of (same_fields fs fs) (same_fields_self fs))

  pub one_way_round : length t ≡ length u → holds_all fs gs ≡ same_fields fs gs
  one_way_round e = one_way (λ f. length (field_text f)) some_size fs gs (record_labels t fs h) (record_labels u gs k) (sizes e)

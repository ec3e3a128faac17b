-- What an answer leaves of an element.
-- Assumes nothing.
use mathlib.Core.Path.{◌≡◌, refl, sym, ap, subst, ◌∙◌}
use Prim.Native.Nat.{ℕ, ◌+◌, ◌≤◌}
use native.Mathlib.Omega.{arith}
use mathlib.Core.Bool.{true, false}
use mathlib.Core.List.{[], ◌∷◌, append-nil}
use lib.Dec.{eqb}
use lib.ListN.{length, take, length-append}
use borrow.Author.Tests.{ne_eqb}
use Rattle.language.specs.Text.{Text, present}
use Rattle.language.specs.State.{Element, string, fields, Value, single, list}
use Rattle.language.specs.Weight.{limit, element_weight, value_weight}
use Rattle.language.specs.Encode.{element_text, value_text}
use Rattle.language.specs.Valid.{valid_element}
use Rattle.language.specs.Outcomes.{Outcome, gives, fails, fills, ◌>>=◌}
use Rattle.language.specs.Values.{as_list}
use Rattle.language.specs.Commands.{left_of}
use Rattle.language.proofs.Logic.Tests.{and}
use Rattle.values.specs.Encoding.{Holds}
use Rattle.evaluated.specs.Results.{Written}
use Rattle.value_text.specs.Writing as Piece
use Rattle.value_text.proofs.Pieces.{written_take, written_length}
use Rattle.foreach_piece.specs.declared.Way.{Way}
use Rattle.foreach_piece.specs.declared.Way.TheVariants.{Replace, Filter}
use Rattle.foreach_piece.specs.Ways.{is_blank, becomes}
use Rattle.foreach_piece.specs.Drafts.{Pieces, Heavy, Drafted}
use Rattle.foreach_piece.proofs.Drafting.{all_drafted, heavy_drafted}

-- ---- the empty string

pub three_bytes : (v : Value) (t : Text) → Holds v t → eqb (length t) 3 ≡ is_blank v
three_bytes v t h = ap (λ (u : Text). eqb (length u) 3) h.is_text_lem ∙ go v
  where
    go : (v : Value) → eqb (length (value_text v)) 3 ≡ is_blank v
    go (single (string [])) = refl
    go (single (string (b ∷ u))) = ne_eqb (length (value_text (single (string (b ∷ u))))) 3 (λ e. omega (arith, e, length-append u (10 ∷ [])))
    go (single (fields [])) = refl
    go (single (fields (f ∷ fs))) = ne_eqb (length (value_text (single (fields (f ∷ fs))))) 3 (λ e. omega (arith, e))
    go (list []) = refl
    go (list (string u ∷ es)) = ne_eqb (length (value_text (list (string u ∷ es)))) 3 (λ e. omega (arith, e))
    go (list (fields fs ∷ es)) = ne_eqb (length (value_text (list (fields fs ∷ es)))) 3 (λ e. omega (arith, e))

-- ---- the element alone

pub one_piece : (a : Element) (t : Text) → Holds (single a) t → Pieces (a ∷ []) t
one_piece a t h = record {
  are_valid = and (valid_element a) true h.is_valid tt;
  is_text_lem = h.is_text_lem ∙ sym (append-nil (element_text a));
}

-- ---- by the outcome of the expression

module _ (o : Outcome Value) (out : Text) (a : Element) where
  pub fails_as : (w : Way) → o ≡ fails → (o >>= becomes w a) ≡ fails
  fails_as w e = ap (λ (p : Outcome Value). p >>= becomes w a) e

  pub heavy_given : (w : Way) → o ≡ fills → Drafted Pieces (o >>= becomes w a) out (record { len = 0; weight = 8193 })
  heavy_given w e = heavy_drafted Pieces (o >>= becomes w a) out (subst (λ (p : Outcome Value). Heavy (p >>= becomes w a)) (sym e) tt)

  module _ (n w : ℕ) (W : Written o out n w) where
    pub list_none : true ≡ present (as_list W.value) → (o >>= becomes Replace a) ≡ fails
    list_none h = ap (λ (p : Outcome Value). p >>= becomes Replace a) W.is_value ∙ go W.value h
      where
        go : (v : Value) → true ≡ present (as_list v) → becomes Replace a v ≡ fails
        go (single e) h = absurd (let z : ◌≡◌ {A = ℕ} 0 1 = cc in omega arith)
        go (list es) h = refl

    pub single_given : false ≡ present (as_list W.value) → Drafted Pieces (o >>= becomes Replace a) out (record { len = n; weight = w + 1 })
    single_given h = go W.value W.is_value W.held W.weighs h
      where
        go : (v : Value) → o ≡ gives v → Holds v (take n out) → w ≡ value_weight v → false ≡ present (as_list v)
            → Drafted Pieces (o >>= becomes Replace a) out (record { len = n; weight = w + 1 })
        go (single e) q k m h =
            all_drafted Pieces (o >>= becomes Replace a) out (e ∷ []) (ap (λ (p : Outcome Value). p >>= becomes Replace a) q) n (w + 1) (one_piece e (take n out) k) W.within
            (omega (arith, m)) (omega (arith, W.light))
        go (list es) q k m h = absurd (let z : ◌≡◌ {A = ℕ} 0 1 = cc in omega arith)

    filtered_is : (o >>= becomes Filter a) ≡ gives (left_of a W.value)
    filtered_is = ap (λ (p : Outcome Value). p >>= becomes Filter a) W.is_value

    -- what the value is not blank for goes
    pub removed : false ≡ is_blank W.value → Drafted Pieces (o >>= becomes Filter a) out (record { len = 0; weight = 0 })
    removed h =
        all_drafted Pieces (o >>= becomes Filter a) out [] (filtered_is ∙ ap gives (go W.value h)) 0 0 (record { are_valid = tt; is_text_lem = refl }) (omega arith) refl (omega arith)
      where
        go : (v : Value) → false ≡ is_blank v → left_of a v ≡ []
        go (single (string [])) h = absurd (let z : ◌≡◌ {A = ℕ} 0 1 = cc in omega arith)
        go (single (string (b ∷ t))) h = refl
        go (single (fields fs)) h = refl
        go (list es) h = refl

    -- what it is blank for stays
    pub stays : true ≡ is_blank W.value → (t : Text) → Holds (single a) t → (after : Text) (r : ℕ) → Piece.Written out 0 t r after → (k : ℕ) → k ≡ element_weight a → k ≤ limit
        → Drafted Pieces (o >>= becomes Filter a) after (record { len = r; weight = k + 1 })
    stays h t H after r P k q l =
        all_drafted Pieces (o >>= becomes Filter a) after (a ∷ []) (filtered_is ∙ ap gives (go W.value h)) r (k + 1)
        (subst (Pieces (a ∷ [])) (sym (written_take P)) (one_piece a t H)) (omega (arith, P.fits, written_length P)) (omega (arith, q)) (omega (arith, l))
      where
        go : (v : Value) → true ≡ is_blank v → left_of a v ≡ a ∷ []
        go (single (string [])) h = refl
        go (single (string (b ∷ t))) h = absurd (let z : ◌≡◌ {A = ℕ} 0 1 = cc in omega arith)
        go (single (fields fs)) h = absurd (let z : ◌≡◌ {A = ℕ} 0 1 = cc in omega arith)
        go (list es) h = absurd (let z : ◌≡◌ {A = ℕ} 0 1 = cc in omega arith)

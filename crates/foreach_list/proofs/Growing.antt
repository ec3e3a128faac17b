-- A list that is written as long as it is light, and grows.
-- Assumes nothing.
use mathlib.Core.Path.{◌≡◌, refl, sym, ap, ◌∙◌}
use Prim.Native.Nat.{ℕ, ◌+◌, ◌*◌, ◌≤◌, ◌<◌}
use native.Mathlib.Decide.{dec_le}
use native.Mathlib.Omega.{arith}
use mathlib.Core.List.{List, [], ◌∷◌, ◌++◌}
use lib.ListN.{length, take}
use lib.Seq.{length-take-le}
use Rattle.language.specs.Text as Text
use Rattle.language.specs.Text.{Text}
use Rattle.language.specs.State.{Element, list}
use Rattle.language.specs.Weight.{limit, element_weight, value_weight}
use Rattle.language.specs.Encode.{element_text}
use Rattle.language.specs.Outcomes.{Outcome, gives, fails, fills}
use Rattle.language.specs.Valid.{valid_element}
use Rattle.language.proofs.Logic.Tests.{all_append}
use Rattle.language.proofs.Logic.Lists.{sum_append}
use Rattle.values.specs.Encoding.{Holds}
use Rattle.value_text.specs.Writing as Piece
use Rattle.value_text.proofs.Pieces.{written_take, written_length}
use Rattle.values.proofs.Texts.{joined_append}
use Rattle.scopes.proofs.Bounds.{text_bound}
use Rattle.foreach_piece.specs.declared.Draft.{Draft}
use Rattle.foreach_piece.specs.Ways.{together}
use Rattle.foreach_piece.specs.Drafts.{Pieces, AsList, Light, Heavy, Drafted}
use Rattle.foreach_piece.proofs.Drafting.{all_drafted, heavy_drafted, not_drafted}

-- a list without elements, written from the start on
pub empty_drafted : (a b p : Text) (n : ℕ) → Holds (list []) p → Piece.Written a 0 p n b → Drafted AsList (gives []) b (record { len = n; weight = 0 })
empty_drafted a b p n h W =
    let f : take n b ≡ p = written_take W in
    all_drafted AsList (gives []) b [] refl n 0 (record { is_valid = h.is_valid; is_text_lem = f ∙ h.is_text_lem }) (omega (arith, W.fits, written_length W)) refl (omega arith)

list_weight : (l m : List Element) → value_weight (list (l ++ m)) ≡ value_weight (list l) + value_weight (list m)
list_weight l m = sum_append (λ (e : Element). 1 + element_weight e) l m

-- the weight of what is given, where the draft is light
known : (H : List Element → Text → Type 0) (es : List Element) (t : Text) (d : Draft) → Drafted H (gives es) t d → d.weight ≤ limit → d.weight ≡ value_weight (list es)
known H es t d D h =
    let e : gives es ≡ gives (D.light h).result = (D.light h).is_result in
    let q : es ≡ (D.light h).result = cc in (D.light h).weighs ∙ ap (λ (l : List Element). value_weight (list l)) (sym q)

-- how long the texts of elements are, as part of a list
pieces_bound : (es : List Element) (t : Text) → Pieces es t → length t ≤ 3 * value_weight (list es) + 1
pieces_bound es t P = omega (arith, ap length P.is_text_lem, text_bound (list es) (76 ∷ 10 ∷ Text.joined element_text es) (record { is_valid = P.are_valid; is_text_lem = refl }))

module _ {o p : Outcome (List Element)} {out value : Text} {d more : Draft} (D : Drafted AsList o out d) (E : Drafted Pieces p value more) where
  too_heavy : limit < d.weight + more.weight → Heavy (together o p)
  too_heavy h = go o p D E
    where
      go : (q r : Outcome (List Element)) → Drafted AsList q out d → Drafted Pieces r value more → Heavy (together q r)
      go (gives l) (gives m) D E =
          elim (dec_le d.weight limit) [
            | no n ↦ omega (arith, D.heavy (omega (arith, n)), list_weight l m)
            | yes k ↦ elim (dec_le more.weight limit) [
              | no n ↦ omega (arith, E.heavy (omega (arith, n)), list_weight l m)
              | yes n ↦ omega (arith, known AsList l out d D k, known Pieces m value more E n, list_weight l m, h)
            ]
          ]
      go (gives l) fails D E = not_drafted Pieces value more E
      go (gives l) fills D E = tt
      go fails r D E = absurd (not_drafted AsList out d D)
      go fills (gives m) D E = tt
      go fills fails D E = not_drafted Pieces value more E
      go fills fills D E = tt

  pub grown_heavy : (after : Text) → limit < d.weight + more.weight → Drafted AsList (together o p) after (record { len = 0; weight = 8193 })
  grown_heavy after h = heavy_drafted AsList (together o p) after (too_heavy h)

  module _ (h : d.weight + more.weight ≤ limit) where
    light_list : Light AsList o out d
    light_list = D.light (omega (arith, h))

    light_more : Light Pieces p value more
    light_more = E.light (omega (arith, h))

    pub fits : 32768 ≤ length out → d.len + length (take more.len value) ≤ length out
    fits k = omega (
      arith,
      h,
      k,
      length-take-le d.len out D.within,
      text_bound (list light_list.result) (take d.len out) light_list.held,
      pieces_bound light_more.result (take more.len value) light_more.held,
      light_list.weighs,
      light_more.weighs,
    )

    pub grown : (after : Text) (r : ℕ) → Piece.Written out d.len (take more.len value) r after → Drafted AsList (together o p) after (record { len = r; weight = d.weight + more.weight })
    grown after r W =
        let L = light_list in
        let S = light_more in
        let t : take r after ≡ take d.len out ++ take more.len value = written_take W in
        all_drafted AsList (together o p) after (L.result ++ S.result) (λ i. together (L.is_result i) (S.is_result i)) r (d.weight + more.weight)
        (record {
          is_valid = all_append valid_element L.result S.result L.held.is_valid S.held.are_valid;
          is_text_lem = t ∙ (λ i. L.held.is_text_lem i ++ S.held.is_text_lem i) ∙ sym (ap (λ (u : Text). 76 ∷ 10 ∷ u) (joined_append element_text L.result S.result));
        })
        (omega (arith, W.fits, written_length W)) (omega (arith, L.weighs, S.weighs, list_weight L.result S.result)) (omega (arith, h))

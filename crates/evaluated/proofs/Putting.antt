-- A value that was written at the front of a text.
-- Assumes nothing.
use mathlib.Core.Path.{◌≡◌, refl, ◌∙◌}
use Prim.Native.Nat.{ℕ, ◌≤◌}
use native.Mathlib.Omega.{arith}
use mathlib.Core.Option.{some}
use lib.Dec.{T}
use lib.ListN.{length, take}
use Rattle.language.specs.Text.{Text}
use Rattle.language.specs.Identifiers.{is_string}
use Rattle.language.specs.State.{string, Value, single}
use Rattle.language.specs.Weight.{value_weight}
use Rattle.language.specs.Encode.{element_text}
use Rattle.values.specs.Encoding.{Holds}
use Rattle.value_text.specs.Writing as Piece
use Rattle.value_text.proofs.Pieces.{written_take, written_length}
use Rattle.language.specs.Outcomes.{Outcome, gives}
use Rattle.evaluated.specs.Weighed.{by_weight}
use Rattle.evaluated.specs.Results.{Written}
use Rattle.evaluated.proofs.Weighing.{weighed_light}

-- the text p of the value v, from the start on
pub value_put : (o : Outcome Value) (v : Value) (a b p : Text) (n w : ℕ) → o ≡ gives v → Holds v p → Piece.Written a 0 p n b → w ≡ value_weight v → w ≤ 8192
    → Written o b n w
value_put o v a b p n w e h W q l =
    let f : take n b ≡ p = written_take W in
    record {
      value = v;
      is_value = e;
      held = record { is_valid = h.is_valid; is_text_lem = f ∙ h.is_text_lem };
      within = omega (arith, W.fits, written_length W);
      weighs = q;
      light = l;
    }

pub string_put : (t a b : Text) (n : ℕ) → T (is_string t) → Piece.Written a 0 (element_text (string t)) n b → length t ≤ 8192
    → Written (by_weight (some (single (string t)))) b n (length t)
string_put t a b n h W l = value_put (by_weight (some (single (string t)))) (single (string t)) a b (element_text (string t)) n (length t) (weighed_light (single (string t)) l) (record { is_valid = h; is_text_lem = refl }) W refl l

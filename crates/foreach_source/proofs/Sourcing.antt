-- What a session says of two names decides on the list to go through.
-- Assumes nothing.
use mathlib.Core.Path.{◌≡◌, refl, sym, ap, ◌∙◌}
use Prim.Native.Nat.{ℕ, ◌≤◌}
use native.Mathlib.Omega.{arith}
use mathlib.Core.Bool.{Bool, true, false}
use mathlib.Core.Option.{Option, none, some}
use mathlib.Core.List.{List}
use lib.ListN.{length}
use Rattle.language.specs.Text.{Text, when◌then◌else◌, present}
use Rattle.language.specs.Syntax.{Name}
use Rattle.language.specs.State.{Element, Value, single, list}
use Rattle.language.specs.Weight.{limit, value_weight}
use Rattle.language.specs.Values.{Session, is_defined, lookup}
use Rattle.language.specs.Commands.{session_weight, elements}
use Rattle.language.proofs.Logic.Outcomes.{Where}
use Rattle.value_text.specs.Writing as Piece
use Rattle.value_text.proofs.Pieces.{written_take, written_length}
use Rattle.scopes.specs.Scopes.{ReadAs}
use Rattle.scopes.proofs.Bounds.{text_bound}
use Rattle.lookup.specs.Looks.{elements_in}
use Rattle.foreach_source.specs.Sources.{Copied}
use Rattle.lookup.proofs.LightNames.{lookup_light}

module _ (s : Session) (y x : Name) where
  by_defined : (b : Bool) → is_defined s y ≡ b → elements s y x ≡ (when◌then◌else◌ {A = Option (List Element)} b none (elements_in (lookup s x)))
  by_defined b e = ap (λ (c : Bool). when◌then◌else◌ {A = Option (List Element)} c none (elements_in (lookup s x))) e

  -- where y has a value, there is no list
  pub other_there : is_defined s y ≡ true → elements s y x ≡ none
  other_there e = by_defined true e

  module _ (e : is_defined s y ≡ false) where
    pub no_list : (b : Bool) → b ≡ present (elements_in (lookup s x)) → b ≡ false → elements s y x ≡ none
    no_list b q f = by_defined false e ∙ go (elements_in (lookup s x)) (sym f ∙ q)
      where
        go : (o : Option (List Element)) → false ≡ present o → o ≡ none
        go none h = refl
        go (some es) h = absurd (let z : ◌≡◌ {A = ℕ} 0 1 = cc in omega arith)

    pub list_copied : (t : Text) → ReadAs (lookup s x) t → (b : Bool) → b ≡ present (elements_in (lookup s x)) → b ≡ true → (out after : Text) (n : ℕ) → Piece.Written out 0 t n after
        → Copied (elements s y x) after n
    list_copied t k b q f out after n P = go (lookup s x) (by_defined false e) k (sym f ∙ q)
      where
        go : (o : Option Value) → elements s y x ≡ elements_in o → ReadAs o t → true ≡ present (elements_in o) → Copied (elements s y x) after n
        go none q k h = absurd (let z : ◌≡◌ {A = ℕ} 0 1 = cc in omega arith)
        go (some (single a)) q k h = absurd (let z : ◌≡◌ {A = ℕ} 0 1 = cc in omega arith)
        go (some (list es)) q k h = record {
          elements = es;
          is_source = q;
          held = record { is_valid = k.is_valid; is_text_lem = written_take P ∙ k.is_text_lem };
          within = omega (arith, P.fits, written_length P);
        }

-- what a name's value takes in bytes
pub read_fits : (s : Session) (x : Name) (t : Text) → ReadAs (lookup s x) t → session_weight s ≤ limit → length t ≤ 24579
read_fits s x t k l = go (lookup s x) k (lookup_light s x l)
  where
    go : (o : Option Value) → ReadAs o t → Where (λ v. value_weight v ≤ limit) o → length t ≤ 24579
    go none k h = omega (arith, ap length k)
    go (some v) k h = omega (arith, h, text_bound v t k)

-- the list that was copied is not too heavy
pub source_light : (s : Session) (y x : Name) (out : Text) (n : ℕ) (C : Copied (elements s y x) out n) → session_weight s ≤ limit → value_weight (list C.elements) ≤ limit
source_light s y x out n C l = defined (is_defined s y) C.is_source
  where
    go : (o : Option Value) → Where (λ v. value_weight v ≤ limit) o → elements_in o ≡ some C.elements → value_weight (list C.elements) ≤ limit
    go none k e = absurd (let z : ◌≡◌ {A = ℕ} 0 1 = cc in omega arith)
    go (some (single a)) k e = absurd (let z : ◌≡◌ {A = ℕ} 0 1 = cc in omega arith)
    go (some (list es)) k e = let q : es ≡ C.elements = cc in omega (arith, k, ap (λ (l : List Element). value_weight (list l)) q)

    defined : (b : Bool) → when◌then◌else◌ {A = Option (List Element)} b none (elements_in (lookup s x)) ≡ some C.elements → value_weight (list C.elements) ≤ limit
    defined true e = absurd (let z : ◌≡◌ {A = ℕ} 0 1 = cc in omega arith)
    defined false e = go (lookup s x) (lookup_light s x l) e

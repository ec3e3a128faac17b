-- Laws of comments from column 1.
-- Assumes nothing.
use mathlib.Core.Path.{◌≡◌, refl, sym, ap, ◌∙◌}
use mathlib.Core.Bool.{Bool, true, false, ◌&&◌}
use mathlib.Core.List.{[], ◌∷◌}
use Prim.Native.Nat.{ℕ, suc, ◌+◌, ◌≤◌, ◌<◌}
use native.Mathlib.Omega.{arith}
use lib.Dec.{eqb}
use lib.ListN.{length, get_or, drop}
use borrow.Author.Tests.{eq-eqb, ne_eqb, eqb-true}
use Rattle.language.specs.Text.{Text, when◌then◌else◌, all, front}
use Rattle.language.specs.Bytes.{comment_byte}
use Rattle.language.specs.Programs.{is_comment}
use Rattle.std.specs.List.{starts_with}

eqb_suc : (m n : ℕ) → eqb (suc m) (suc n) ≡ eqb m n
eqb_suc m n = go (eqb m n) refl
  where
    go : (t : Bool) → eqb m n ≡ t → eqb (suc m) (suc n) ≡ t
    go true q = let e : m ≡ n = eqb-true m n q in eq-eqb (suc m) (suc n) (ap suc e)
    go false q = ne_eqb (suc m) (suc n) (λ z. unlike q (omega arith))
      where
        unlike : eqb m n ≡ false → m ≡ n → ⊥
        unlike q e =
            let w : ◌≡◌ {A = Bool} true false = sym (eq-eqb m n e) ∙ q in
            let z : ◌≡◌ {A = ℕ} 0 1 = cc in
            omega arith

-- a text is of an alphabet where its front is all of it
front_all : (f : ℕ → Bool) (t : Text) → all f t ≡ eqb (length (front f t)) (length t)
front_all f [] = refl
front_all f (b ∷ t) = go (f b) (front_all f t)
  where
    go : (c : Bool) → all f t ≡ eqb (length (front f t)) (length t) → (c && all f t) ≡ eqb (length (when c then b ∷ front f t else [])) (suc (length t))
    go true e = e ∙ sym (eqb_suc (length (front f t)) (length t))
    go false e = sym (ne_eqb 0 (suc (length t)) (λ z. omega arith))

two_true : (a b : Bool) → (a && b) ≡ true → (a ≡ true) × (b ≡ true)
two_true true b e = (refl, e)
two_true false b e = (cc, cc)

-- a line that starts with two slashes
pub slashes : (t : Text) (e : ℕ) → 2 ≤ length t → starts_with eqb t (47 ∷ 47 ∷ []) ≡ true → e ≡ 2 + length (front comment_byte (drop 2 t)) → eqb e (length t) ≡ is_comment t
slashes [] e h p r = absurd (omega arith)
slashes (b ∷ []) e h p r = absurd (omega arith)
slashes (b ∷ c ∷ cs) e h p r =
    let k : ℕ = length (front comment_byte cs) in
    let two = two_true (eqb 47 b) (eqb 47 c && true) p in
    let first : b ≡ 47 = sym (eqb-true 47 b two.0) in
    let second : c ≡ 47 = sym (eqb-true 47 c (two_true (eqb 47 c) true two.1).0) in
    let sum : e ≡ 2 + k = r in
    let size : e ≡ suc (suc k) = omega arith in
    let left : eqb e (suc (suc (length cs))) ≡ all comment_byte cs =
    ap (λ (x : ℕ). eqb x (suc (suc (length cs)))) size
    ∙ (eqb_suc (suc k) (suc (length cs)) ∙ (eqb_suc k (length cs) ∙ sym (front_all comment_byte cs))) in
    let right : is_comment (b ∷ c ∷ cs) ≡ all comment_byte cs = rw (eq-eqb b 47 first, eq-eqb c 47 second) in
    left ∙ sym right

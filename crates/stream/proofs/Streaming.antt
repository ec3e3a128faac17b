-- One byte more of a stream: its last line, the stars of that, and the bytes that a buffer has of it.
-- Assumes nothing.
use Prim.Native.Nat.{ℕ, zero, suc, ◌+◌, ◌≤◌, ◌<◌, min}
use mathlib.Core.Path.{◌≡◌, refl, sym, ap, subst, ◌∙◌}
use mathlib.Core.Bool.{Bool, true, false}
use mathlib.Core.List.{[], ◌∷◌, ◌++◌}
use native.Mathlib.Numerals.{add-one}
use native.Mathlib.Omega.{arith}
use lib.Dec.{T, eqb, eqb→eq, eqb_refl}
use lib.ListN.{length, take, set, replicate, length-append, length-replicate, length-set}
use lib.Seq.{take_all, take-append-le, take-suc-set}
use Rattle.language.specs.Text.{Text, bytes, when◌then◌else◌, ◌≟◌}
use Rattle.language.proofs.Logic.Tests.{true_of, ==→≡}
use Rattle.stream.specs.Stream.{Stars, line_after, last_line}

-- ---- the last line

pub line_more : (line stream : Text) (b : ℕ) → line_after line (stream ++ (b ∷ [])) ≡ (when eqb b 10 then [] else line_after line stream ++ (b ∷ []))
line_more line [] b = refl
line_more line (a ∷ stream) b = line_more (when eqb a 10 then [] else line ++ (a ∷ [])) stream b

new_line : (t : Bool) (l : Text) → t ≡ true → (when t then [] else l) ≡ []
new_line true l h = refl
new_line false l h = let z : ◌≡◌ {A = ℕ} 0 1 = cc in absurd (omega arith)

same_line : (t : Bool) (l : Text) → t ≡ false → (when t then [] else l) ≡ l
same_line true l h = let z : ◌≡◌ {A = ℕ} 0 1 = cc in absurd (omega arith)
same_line false l h = refl

not_equal : (a b : ℕ) → (a ≡ b → ⊥) → eqb a b ≡ false
not_equal a b n = settle (eqb a b) refl
  where
    settle : (t : Bool) → eqb a b ≡ t → t ≡ false
    settle true h = absurd (n (eqb→eq a b (subst T (sym h) tt)))
    settle false h = refl

pub at_newline : (stream : Text) (b : ℕ) → b ≡ 10 → last_line (stream ++ (b ∷ [])) ≡ []
at_newline stream b h =
    line_more [] stream b ∙ new_line (eqb b 10) _ (true_of (eqb b 10) (subst (λ n. T (eqb b n)) h (eqb_refl b)))

pub elsewhere : (stream : Text) (b : ℕ) → (b ≡ 10 → ⊥) → last_line (stream ++ (b ∷ [])) ≡ last_line stream ++ (b ∷ [])
elsewhere stream b n = line_more [] stream b ∙ same_line (eqb b 10) _ (not_equal b 10 n)

-- ---- its stars

record Last (l : Text) (b k x : ℕ) : Type 0 where
  pub less : ℕ
  pub is_more : k ≡ suc less
  pub front : l ≡ replicate less x
  pub last : b ≡ x

all_alike : (l : Text) (b k x : ℕ) → l ++ (b ∷ []) ≡ replicate k x → Last l b k x
all_alike [] b zero x h = let z : ◌≡◌ {A = ℕ} 0 1 = cc in absurd (omega arith)
all_alike [] b (suc k) x h = record { less = k; is_more = refl; front = cc; last = cc }
all_alike (a ∷ l) b zero x h = let z : ◌≡◌ {A = ℕ} 0 1 = cc in absurd (omega arith)
all_alike (a ∷ l) b (suc k) x h =
    let r : Last l b k x = all_alike l b k x (cc) in
    let e : a ≡ x = cc in
    record { less = suc r.less; is_more = ap suc r.is_more; front = cc; last = r.last }

one_more : (n x : ℕ) → replicate n x ++ (x ∷ []) ≡ replicate (n + 1) x
one_more zero x = refl
one_more (suc n) x =
    let e : suc (n + 1) ≡ suc n + 1 = omega arith in
    ap (λ l. x ∷ l) (one_more n x) ∙ ap (λ m. replicate m x) e

pub stars_none : Stars [] 0
stars_none = record { shows = λ h. refl; counts = λ k h e. omega (arith, ap length e, length-replicate {A = ℕ} k 42) }

pub stars_more : (line : Text) (n : ℕ) → Stars line n → n < 3 → Stars (line ++ (42 ∷ [])) (n + 1)
stars_more line n s h =
    let e : line ≡ replicate n 42 = s.shows (omega arith) in
    record {
      shows = λ q. ap (λ l. l ++ (42 ∷ [])) e ∙ one_more n 42;
      counts = λ k q f.
          let r : Last line 42 k 42 = all_alike line 42 k 42 f in
          let m : n ≡ r.less = s.counts r.less (omega (arith, r.is_more)) r.front in
          omega (arith, r.is_more);
    }

-- a line that is no longer up to three stars and nothing else
pub stars_over : (line : Text) (b : ℕ) → ((k : ℕ) → k ≤ 3 → line ++ (b ∷ []) ≡ replicate k 42 → ⊥) → Stars (line ++ (b ∷ [])) 4
stars_over line b n = record { shows = λ h. absurd (omega arith); counts = λ k h e. absurd (n k h e) }

pub stars_many : (line : Text) (n : ℕ) → Stars line n → 3 ≤ n → Stars (line ++ (42 ∷ [])) 4
stars_many line n s h =
    stars_over line 42 (λ k q e.
    let r : Last line 42 k 42 = all_alike line 42 k 42 e in
    let m : n ≡ r.less = s.counts r.less (omega (arith, r.is_more)) r.front in
    omega (arith, r.is_more))

pub stars_other : (line : Text) (b : ℕ) → (b ≡ 42 → ⊥) → Stars (line ++ (b ∷ [])) 4
stars_other line b n = stars_over line b (λ k q e. n (all_alike line b k 42 e).last)

-- the same of a byte that is a star
pub star_more : (stream : Text) (b n : ℕ) → (b ≡ 10 → ⊥) → b ≡ 42 → Stars (last_line stream) n → n < 3 → Stars (last_line (stream ++ (b ∷ []))) (n + 1)
star_more stream b n d e s h =
    subst (λ l. Stars l (n + 1)) (ap (λ m. last_line stream ++ (m ∷ [])) (sym e) ∙ sym (elsewhere stream b d)) (stars_more (last_line stream) n s h)

pub star_many : (stream : Text) (b n : ℕ) → (b ≡ 10 → ⊥) → b ≡ 42 → Stars (last_line stream) n → 3 ≤ n → Stars (last_line (stream ++ (b ∷ []))) 4
star_many stream b n d e s h =
    subst (λ l. Stars l 4) (ap (λ m. last_line stream ++ (m ∷ [])) (sym e) ∙ sym (elsewhere stream b d)) (stars_many (last_line stream) n s h)

-- three stars are the last line
pub three_stars : (line : Text) (n : ℕ) → Stars line n → eqb n 3 ≡ (line ≟ bytes "***")
three_stars line n s = settle (eqb n 3) (line ≟ bytes "***") refl refl
  where
    settle : (a b : Bool) → eqb n 3 ≡ a → (line ≟ bytes "***") ≡ b → a ≡ b
    settle true true h k = refl
    settle false false h k = refl
    settle true false h k =
        let e : n ≡ 3 = eqb→eq n 3 (subst T (sym h) tt) in
        let l : line ≡ replicate n 42 = s.shows (omega arith) in
        let l : line ≡ bytes "***" = l ∙ ap (λ m. replicate m 42) e in
        let t : T (line ≟ bytes "***") = subst (λ m. T (m ≟ bytes "***")) (sym l) tt in
        absurd (subst T k t)
    settle false true h k =
        let l : line ≡ bytes "***" = ==→≡ line (bytes "***") (subst T (sym k) tt) in
        let e : n ≡ 3 = s.counts 3 (omega arith) l in
        absurd (subst T h (subst (λ m. T (eqb m 3)) (sym e) tt))

-- ---- the buffer

pub kept_more : (stream program : Text) (n b : ℕ) → n ≡ min (length stream) (length program) → n < length program
    → take n program ≡ take (length program) stream
    → take (n + 1) (set program n b) ≡ take (length (set program n b)) (stream ++ (b ∷ []))
kept_more stream program n b m h e =
    let s : length stream ≤ length program = omega arith in
    let f : take n program ≡ stream = e ∙ take_all (length program) stream s in
    let w : length (stream ++ (b ∷ [])) ≤ length (set program n b) = simp (length-append, length-set) (omega arith) in
    ap (λ k. take k (set program n b)) (add-one n) ∙ take-suc-set program n b h ∙ ap (λ l. l ++ (b ∷ [])) f
    ∙ sym (take_all (length (set program n b)) (stream ++ (b ∷ [])) w)

pub kept_full : (stream program : Text) (n b : ℕ) → n ≡ min (length stream) (length program) → length program ≤ n
    → take n program ≡ take (length program) stream → take n program ≡ take (length program) (stream ++ (b ∷ []))
kept_full stream program n b m h e = e ∙ sym (take-append-le (length program) stream (b ∷ []) (omega arith))

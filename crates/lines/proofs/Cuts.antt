-- Laws of a field that a byte outside its alphabet ends: where it is found, and that a text begins with one such field only.
-- Assumes nothing.
use mathlib.Core.Path.{◌≡◌, refl, sym, ap, subst, ◌∙◌}
use Prim.Native.Nat.{ℕ, suc, ◌+◌, ◌-◌, ◌≤◌, ◌<◌}
use native.Mathlib.Omega.{arith}
use native.Mathlib.Numerals.{add-one}
use mathlib.Core.Bool.{Bool, true, false, ◌&&◌, not}
use mathlib.Core.List.{[], ◌∷◌, ◌++◌}
use lib.Dec.{T, leb}
use lib.ListN.{length, get_or, take, drop, take-append-drop, length-append, length-drop}
use lib.Seq.{drop-cons, drop-drop, get_or-drop, get_or-append_seam}
use Rattle.language.specs.Text.{Text, when◌then◌else◌, all, member, front}
use Rattle.language.specs.Bytes.{class, is_letter, word_byte}
use Rattle.language.specs.Identifiers.{base_keywords, is_word, is_name}
use borrow.Author.Tests.{lt-leb, le-leb}
use Rattle.language.proofs.Logic.Tests.{both, and, true_of}
use Rattle.language.proofs.StateText.Clean.{name_word}
use Rattle.text.proofs.Runs.{take_run}
use Rattle.lines.specs.Cuts.{Field}
use Rattle.text.specs.Parts.{part}

-- a part, the byte after it, and the rest
pub split : (t : Text) (at e : ℕ) → at ≤ e → e < length t → drop at t ≡ part t at e ++ get_or t e 0 ∷ drop (e + 1) t
split t at e l h =
    let n : at + (e - at) ≡ e = omega arith in
    sym (take-append-drop (e - at) (drop at t))
    ∙ ap (λ (r : Text). part t at e ++ r) (drop-drop (e - at) at t ∙ ap (λ (k : ℕ). drop k t) n ∙ drop-cons t e 0 h ∙ ap (λ (k : ℕ). get_or t e 0 ∷ drop k t) (sym (add-one e)))

module _ (p : ℕ → Bool) where
  front_all : (t : Text) → T (all p (front p t))
  front_all [] = tt
  front_all (b ∷ t) = go (p b) refl (front_all t)
    where
      go : (c : Bool) → p b ≡ c → T (all p (front p t)) → T (all p (when c then b ∷ front p t else []))
      go true e h = and (p b) (all p (front p t)) (subst T (sym e) tt) h
      go false e h = tt

  module _ (stop : ℕ) (outside : p stop ≡ false) where
    front_stop : (x r : Text) → T (all p x) → front p (x ++ stop ∷ r) ≡ x
    front_stop [] r h = go (p stop) outside
      where
        go : (c : Bool) → c ≡ false → (when c then stop ∷ front p r else []) ≡ []
        go true e = absurd (subst (λ (c : Bool). T c) e tt)
        go false e = refl
    front_stop (b ∷ x) r h =
        let (h₁, h₂) = both (p b) (all p x) h in
        go (p b) h₁ (front_stop x r h₂)
      where
        go : (c : Bool) → T c → front p (x ++ stop ∷ r) ≡ x → (when c then b ∷ front p (x ++ stop ∷ r) else []) ≡ b ∷ x
        go true k e = ap (λ (l : Text). b ∷ l) e
        go false k e = absurd k

    -- a text begins with one such field at most
    pub unique : (x y r q : Text) → T (all p x) → T (all p y) → x ++ stop ∷ r ≡ y ++ stop ∷ q → (x ≡ y) × (r ≡ q)
    unique x y r q hx hy e =
        let s : x ≡ y = sym (front_stop x r hx) ∙ ap (front p) e ∙ front_stop y q hy in
        let d : x ++ stop ∷ r ≡ x ++ stop ∷ q = e ∙ ap (λ (z : Text). z ++ stop ∷ q) (sym s) in
        (s, rest x r q d)
      where
        tail : Text → Text
        tail [] = []
        tail (b ∷ l) = l

        rest : (x r q : Text) → x ++ stop ∷ r ≡ x ++ stop ∷ q → r ≡ q
        rest [] r q d = ap tail d
        rest (b ∷ x) r q d = rest x r q (ap tail d)

    module _ (t : Text) (at e : ℕ) (start : at ≤ length t) (ends : e ≡ at + length (front p (drop at t))) where
      -- the run ends where the field does
      pub found : (x r : Text) → T (all p x) → drop at t ≡ x ++ stop ∷ r → (e < length t) × (get_or t e 0 ≡ stop)
      found x r h d =
          let f : front p (drop at t) ≡ x = ap (front p) d ∙ front_stop x r h in
          let n : e ≡ at + length x = ends ∙ ap (λ (l : Text). at + length l) f in
          let m : length t - at ≡ length x + suc (length r) = sym (length-drop at t) ∙ ap length d ∙ length-append x (stop ∷ r) in
          (omega arith, ap (λ (k : ℕ). get_or t k 0) n ∙ sym (get_or-drop at t (length x) 0) ∙ ap (λ (l : Text). get_or l (length x) 0) d ∙ get_or-append_seam x stop r 0)

      pub is_field : e < length t → get_or t e 0 ≡ stop → Field (all p) stop t at e
      is_field h s =
          let n : e - at ≡ length (front p (drop at t)) = omega arith in
          let f : part t at e ≡ front p (drop at t) = ap (λ (k : ℕ). take k (drop at t)) n ∙ take_run p (drop at t) in
          record {
            low = omega arith;
            high = h;
            is_fine = subst (λ (l : Text). T (all p l)) (sym f) (front_all (drop at t));
            here = split t at e (omega arith) h ∙ ap (λ (b : ℕ). part t at e ++ b ∷ drop (e + 1) t) s;
          }

-- a field of a sort g whose texts are of an alphabet p, which the byte after it is not
module _ (p : ℕ → Bool) (g : Text → Bool) (covers : (x : Text) → T (g x) → T (all p x)) (stop : ℕ) (outside : p stop ≡ false) (t : Text) (at e : ℕ) where
  -- it is the only one that stands there
  pub only : Field (all p) stop t at e → (x q : Text) → T (g x) → drop at t ≡ x ++ stop ∷ q → (part t at e ≡ x) × (drop (e + 1) t ≡ q)
  only f x q h d = unique p stop outside (part t at e) x (drop (e + 1) t) q f.is_fine (covers x h) (sym f.here ∙ d)

  pub wider : Field g stop t at e → Field (all p) stop t at e
  wider f = record { low = f.low; high = f.high; is_fine = covers (part t at e) f.is_fine; here = f.here }

  pub narrower : Field (all p) stop t at e → T (g (part t at e)) → Field g stop t at e
  narrower f h = record { low = f.low; high = f.high; is_fine = h; here = f.here }

  pub refused : Field (all p) stop t at e → g (part t at e) ≡ false → (x q : Text) → T (g x) → drop at t ≡ x ++ stop ∷ q → ⊥
  refused f n x q h d = subst (λ (b : Bool). T b) (ap g (sym (only f x q h d).0) ∙ n) h

-- ---- what makes a name of a run w of letters, digits and underscores

pub name_empty : (w : Text) → length w ≡ 0 → is_name w ≡ false
name_empty [] h = refl
name_empty (b ∷ w) h = absurd (omega arith)

and_no : (a b : Bool) → ((a && false) && b) ≡ false
and_no true b = refl
and_no false b = refl

pub name_long : (w : Text) → 255 < length w → is_name w ≡ false
name_long w h =
    let l : leb (length w) 255 ≡ false = lt-leb (length w) 255 h in
    rw l (and_no (is_word w) (not (member w base_keywords)))

pub name_kept : (w : Text) → 0 < length w → length w ≤ 255 → is_letter (class (get_or w 0 0)) ≡ true → T (all word_byte w) → is_name w ≡ not (member w base_keywords)
name_kept [] n h l a = absurd (omega arith)
name_kept (b ∷ w) n h l a =
    ap (λ (c : Bool). (c && all word_byte w) && leb (length (b ∷ w)) 255 && not (member (b ∷ w) base_keywords)) l
    ∙ ap (λ (c : Bool). c && leb (length (b ∷ w)) 255 && not (member (b ∷ w) base_keywords)) (true_of (all word_byte w) (both (word_byte b) (all word_byte w) a).1)
    ∙ ap (λ (c : Bool). c && not (member (b ∷ w) base_keywords)) (le-leb (length (b ∷ w)) 255 h)

-- the only name that stands there
pub name_only : (stop : ℕ) → word_byte stop ≡ false → (t : Text) (at e : ℕ) → Field is_name stop t at e → (x q : Text) → T (is_name x) → drop at t ≡ x ++ stop ∷ q
    → (part t at e ≡ x) × (drop (e + 1) t ≡ q)
name_only stop o t at e f = only word_byte is_name name_word stop o t at e (wider word_byte is_name name_word stop o t at e f)

-- Laws of writing: pieces written one after the other are one piece.
-- Assumes nothing.
use mathlib.Core.Path.{◌≡◌, sym, ap, subst, ◌∙◌}
use Prim.Native.Nat.{ℕ, ◌+◌, ◌≤◌}
use native.Mathlib.Omega.{arith}
use mathlib.Core.List.{[], ◌++◌, append_assoc}
use lib.ListN.{length, take, drop, take-append-drop, length-append, length-drop}
use lib.Seq.{length-take-le, drop-drop, take_at, drop_at, take-length, paste}
use Rattle.language.specs.Text.{Text}
use Rattle.value_text.specs.Writing.{Written}

module _ {a b : Text} {at r : ℕ} {p : Text} (w : Written a at p r b) where
  front_length : length (take at a ++ p) ≡ r
  front_length = length-append (take at a) p ∙ omega (arith, length-take-le at a (omega (arith, w.ends, w.fits)), w.ends)

  regroup : b ≡ (take at a ++ p) ++ drop r a
  regroup = w.whole ∙ sym (append_assoc (take at a) p (drop r a))

  -- what stands up to the end of the piece
  pub written_take : take r b ≡ take at a ++ p
  written_take = ap (take r) regroup ∙ take_at (take at a ++ p) (drop r a) r front_length

  pub written_drop : drop r b ≡ drop r a
  written_drop = ap (drop r) regroup ∙ drop_at (take at a ++ p) (drop r a) r front_length

  pub written_length : length b ≡ length a
  written_length =
      let e : length b ≡ r + length (drop r a) = ap length regroup ∙ length-append (take at a ++ p) (drop r a) ∙ ap (λ n. n + length (drop r a)) front_length in
      omega (arith, e, length-drop r a, w.fits)

-- one piece, and then another
infixr 30 ◌▸◌
pub ◌▸◌ : {a b c : Text} {at r s : ℕ} {p q : Text} → Written a at p r b → Written b r q s c → Written a at (p ++ q) s c
◌▸◌ {a} {b} {c} {at} {r} {s} {p} {q} w x =
    let f : s ≤ length a = omega (arith, x.fits, written_length w) in
    let d : drop s b ≡ drop s a =
    ap (λ n. drop n b) x.ends ∙ sym (drop-drop (length q) r b) ∙ ap (drop (length q)) (written_drop w) ∙ drop-drop (length q) r a ∙ ap (λ n. drop n a) (sym x.ends) in
    record {
      ends = omega (arith, w.ends, x.ends, length-append p q);
      fits = f;
      whole =
          x.whole
          ∙ ap (λ l. l ++ (q ++ drop s b)) (written_take w)
          ∙ ap (λ l. (take at a ++ p) ++ (q ++ l)) d
          ∙ append_assoc (take at a) p (q ++ drop s a)
          ∙ ap (λ l. take at a ++ l) (sym (append_assoc p q (drop s a)));
    }

-- no piece at all
pub written_none : (a : Text) (at : ℕ) → at ≤ length a → Written a at [] at a
written_none a at h = record { ends = omega arith; fits = h; whole = sym (take-append-drop at a) }

-- the same piece, written otherwise
pub rewritten : {a b : Text} {at r : ℕ} {p q : Text} → p ≡ q → Written a at p r b → Written a at q r b
rewritten {a} {b} {at} {r} {p} {q} e w = subst (λ l. Written a at l r b) e w

-- ---- what a copy leaves

pub copy_written : (a b : Text) (at : ℕ) (s : Text) (n : ℕ) → at + length s ≤ length a → n ≡ length s → b ≡ paste a at s n → Written a at s (at + n) b
copy_written a b at s n h e q = record {
  ends = omega arith;
  fits = omega arith;
  whole =
      q
      ∙ ap (λ l. take at a ++ l ++ drop (at + n) a) (ap (λ k. take k s) e ∙ take-length s)
      ∙ append_assoc (take at a) s (drop (at + n) a);
}

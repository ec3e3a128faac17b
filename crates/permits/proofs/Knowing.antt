-- What is known of the terms of an expression, of the first of them and of those behind it.
-- Assumes nothing.
use mathlib.Core.Path.{◌≡◌, sym, ap, subst, ◌∙◌}
use Prim.Native.Nat.{ℕ, zero, suc, ◌-◌}
use native.Mathlib.Omega.{arith}
use mathlib.Core.Bool.{Bool, true, false, not}
use mathlib.Core.List.{List, [], ◌∷◌}
use borrow.Author.Tests.{lt-ltb, le-ltb}
use Rattle.language.specs.Syntax.{Name, Term}
use Rattle.language.specs.Values.{Session}
use Rattle.language.specs.Expressions.{term_names}
use Rattle.permits.specs.Permits.{unread}
use Rattle.permits.specs.declared.Known.{Known}
use Rattle.permits.specs.declared.Known.TheVariants as Is
use Rattle.permits.specs.Knowledge.{names_of, FirstUnread, Knows, KnowsFirst, past}
use Rattle.permits.proofs.Readers.{each_readable}

-- in a session with the same rights
pub first_same : (s z : Session) (xs : List Name) → unread z xs ≡ unread s xs → (k : Known) → KnowsFirst k s xs → KnowsFirst k z xs
first_same s z xs e Is.All h = e ∙ h
first_same s z xs e (Is.Until k) h = e ∙ h
first_same s z xs e Is.Nothing h = tt

module _ (s z : Session) (same : (xs : List Name) → unread z xs ≡ unread s xs) where
  unread_same : (ts : List Term) (k : ℕ) → FirstUnread s ts k → FirstUnread z ts k
  unread_same [] k h = h
  unread_same (t ∷ rest) zero h = same (term_names t) ∙ h
  unread_same (t ∷ rest) (suc k) h = (same (term_names t) ∙ h.0, unread_same rest k h.1)

  pub knows_same : (k : Known) (ts : List Term) → Knows k s ts → Knows k z ts
  knows_same Is.All ts h = same (names_of ts) ∙ h
  knows_same (Is.Until k) ts h = unread_same ts k h
  knows_same Is.Nothing ts h = tt

module _ (s : Session) (t : Term) (rest : List Term) where
  pub knows_first : (k : Known) → Knows k s (t ∷ rest) → KnowsFirst k s (term_names t)
  knows_first Is.All h = (each_readable s (term_names t) (names_of rest) h).0
  knows_first (Is.Until zero) h = h ∙ sym (ap not (le-ltb 0 0 (omega arith)))
  knows_first (Is.Until (suc k)) h = h.0 ∙ sym (ap not (lt-ltb 0 (suc k) (omega arith)))
  knows_first Is.Nothing h = tt

  -- the first may be read
  pub knows_past : (k : Known) → Knows k s (t ∷ rest) → unread s (term_names t) ≡ false → Knows (past k) s rest
  knows_past Is.All h q = (each_readable s (term_names t) (names_of rest) h).1
  knows_past (Is.Until zero) h q = absurd (let z : ◌≡◌ {A = Bool} true false = sym h ∙ q in let y : ◌≡◌ {A = ℕ} 0 1 = cc in omega arith)
  knows_past (Is.Until (suc k)) h q = subst (FirstUnread s rest) (let e : k ≡ suc k - 1 = omega arith in e) h.1
  knows_past Is.Nothing h q = tt

-- Whether all that a delegation names exists, by numbers.
-- Assumes nothing.
use mathlib.Core.Path.{◌≡◌, refl, sym, ap, ◌∙◌}
use mathlib.Core.Bool.{Bool, true, false, ◌&&◌, not}
use Prim.Native.Nat.{ℕ, ◌≤◌, ◌<◌}
use native.Mathlib.Decide.{dec_le}
use native.Mathlib.Omega.{arith}
use borrow.Author.Tests.{lt-ltb, le-ltb, le-leb, lt-leb}
use lib.Dec.{leb}
use Rattle.language.specs.Text.{all}
use Rattle.language.specs.Syntax.{Name, Target, every, only}
use Rattle.language.specs.Values.{Session, is_shared, is_principal}
use Rattle.language.specs.Commands.{targets, delegable}
use Rattle.language.proofs.Logic.Tests.{true_of, and_true}
use Rattle.language.proofs.Meaning.Stores.{delegable_there}
use Rattle.store.specs.Rows.{position}
use Rattle.named_rights.specs.Numbers.{principals_of, variables}
use Rattle.session.specs.declared.Layout.{Layout}
use Rattle.session.specs.Sessions.{Slices, Running}
use Rattle.session.proofs.Admin.{principal_exists, variable_exists}

module _ (s : Session) (l : Layout) (b : Slices) (R : Running s l b) where
  pub no_principal : (p : Name) (k : ℕ) → k ≡ position (principals_of s.store) p → l.principals ≤ k → is_principal s p ≡ false
  no_principal p k e h = principal_exists s l b R p ∙ le-ltb (position (principals_of s.store) p) l.principals (omega (arith, e, h))

  pub a_principal : (p : Name) (k : ℕ) → k ≡ position (principals_of s.store) p → k < l.principals → is_principal s p ≡ true
  a_principal p k e h = principal_exists s l b R p ∙ lt-ltb (position (principals_of s.store) p) l.principals (omega (arith, e, h))

  pub no_variable : (x : Name) (k : ℕ) → k ≡ position (variables s.store) x → l.vars ≤ k → is_shared s x ≡ false
  no_variable x k e h = variable_exists s l b R x ∙ le-ltb (position (variables s.store) x) l.vars (omega (arith, e, h))

  pub a_variable : (x : Name) (k : ℕ) → k ≡ position (variables s.store) x → k < l.vars → is_shared s x ≡ true
  a_variable x k e h = variable_exists s l b R x ∙ lt-ltb (position (variables s.store) x) l.vars (omega (arith, e, h))

  pub lost_variable : (x : Name) (k : ℕ) → k ≡ position (variables s.store) x → leb l.vars k ≡ not (is_shared s x)
  lost_variable x k e = elim (dec_le l.vars k) [
    | yes h ↦ le-leb l.vars k h ∙ sym (ap not (no_variable x k e h))
    | no h ↦ lt-leb l.vars k (omega arith) ∙ sym (ap not (a_variable x k e (omega arith)))
  ]

module _ (s : Session) (t : Target) (q p : Name) where
  -- both principals exist, and all the variables
  abbrev pub complete : Bool
  complete = is_principal s p && is_principal s q && all (is_shared s) (targets s.store t q)

  pub without_taker : is_principal s p ≡ false → true ≡ not complete
  without_taker e = sym (ap (λ (b : Bool). not (b && is_principal s q && all (is_shared s) (targets s.store t q))) e)

  pub without_giver : is_principal s q ≡ false → true ≡ not complete
  without_giver e = sym (ap (λ (b : Bool). not (is_principal s p && b && all (is_shared s) (targets s.store t q))) e ∙ go (is_principal s p))
    where
      go : (a : Bool) → not (a && false && all (is_shared s) (targets s.store t q)) ≡ true
      go true = refl
      go false = refl

  both_there : is_principal s p ≡ true → is_principal s q ≡ true → complete ≡ all (is_shared s) (targets s.store t q)
  both_there e f = λ i. e i && f i && all (is_shared s) (targets s.store t q)

  pub with_all : t ≡ every → is_principal s p ≡ true → is_principal s q ≡ true → false ≡ not complete
  with_all h e f =
      sym (ap not (both_there e f ∙ ap (λ (t : Target). all (is_shared s) (targets s.store t q)) h
      ∙ true_of (all (is_shared s) (delegable s.store q)) (delegable_there s.store q)))

  pub with_one : (x : Name) → t ≡ only x → is_principal s p ≡ true → is_principal s q ≡ true → not (is_shared s x) ≡ not complete
  with_one x h e f = sym (ap not (both_there e f ∙ ap (λ (t : Target). all (is_shared s) (targets s.store t q)) h ∙ and_true (is_shared s x)))

-- The tests of a call: one that is met, one that is not, and a call that is answered `ready` has met them all.
use mathlib.Core.Path.{◌≡◌, refl, sym, ap, ◌∙◌}
use Prim.Native.Nat.{ℕ}
use native.Mathlib.Omega.{arith}
use mathlib.Core.Bool.{Bool, true, false}
use mathlib.Core.Option.{Option, none, some}
use lib.Dec.{T}
use Rattle.language.specs.State.{Store}
use Rattle.language.specs.Calls.{wrong, ready, Reply, refuse, checked, decoded}
use Rattle.language.proofs.Logic.Tests.{true_of, false_of}

module _ {Lent : Type 0} (lent : Lent) (t : Bool) (n : ℕ) (r : Reply Lent) where
  pub passed : t ≡ true → r ≡ checked lent t n r
  passed e = sym (ap (λ (c : Bool). checked lent c n r) e)

  pub stopped : t ≡ false → refuse lent n ≡ checked lent t n r
  stopped e = sym (ap (λ (c : Bool). checked lent c n r) e)

  pub met : T t → checked lent t n r ≡ r
  met h = sym (passed (true_of t h))

  pub unmet : ¬ T t → checked lent t n r ≡ refuse lent n
  unmet h = sym (stopped (false_of t h))

not_ready : {n : ℕ} → wrong n ≡ ready → ⊥
not_ready e = let z : ◌≡◌ {A = ℕ} 0 1 = cc in omega arith

pub decoded_not : {Lent : Type 0} (lent : Lent) (o : Option Store) (n : ℕ) (f : Store → Reply Lent) → o ≡ none → decoded lent o n f ≡ refuse lent n
decoded_not lent o n f e = ap (λ (k : Option Store). decoded lent k n f) e

pub ready_met : {Lent : Type 0} (lent : Lent) (t : Bool) (n : ℕ) (r : Reply Lent) → (checked lent t n r).answer ≡ ready → T t × (checked lent t n r ≡ r)
ready_met lent true n r e = (tt, refl)
ready_met lent false n r e = absurd (not_ready e)

-- a buffer that is decoded gets no number for it
pub decoded_held : {Lent : Type 0} (lent : Lent) (o : Option Store) (n : ℕ) (f : Store → Reply Lent) (s : Store) → o ≡ some s → decoded lent o n f ≡ f s
decoded_held lent o n f s e = ap (λ (k : Option Store). decoded lent k n f) e

pub answer_of_lem : {Lent : Type 0} {r k : Reply Lent} → r ≡ k → r.answer ≡ ready → k.answer ≡ ready
answer_of_lem e h = sym (ap (λ (r : Reply _). r.answer) e) ∙ h

-- Assertions entered or withdrawn: what held of all still does, and none stands twice.
use mathlib.Core.Path.{◌≡◌, refl, subst}
use mathlib.Core.Logic.{inl, inr}
use mathlib.Core.Bool.{Bool, true, false, ◌&&◌, not}
use mathlib.Core.List.{List, [], ◌∷◌, ◌++◌}
use lib.Dec.{T, T_not, not_T}
use Rattle.language.specs.Text.{when◌then◌else◌, ◌≟◌, any, all}
use Rattle.language.specs.Syntax.{same}
use Rattle.language.specs.State.{Assertion, same_assertion, stands, enter, withdraw}
use Rattle.language.specs.Valid.{unrepeated}
use Rattle.language.specs.Commands.{entering, withdrawing}
use Rattle.language.proofs.Logic.Tests.{both, and, four, and_three, one_of_lem, left_of_lem, right_of, ==→≡, ==_refl, same→≡, same_refl, all_append, any_append}

pub same_assertion_lem : (a b : Assertion) → T (same_assertion a b) → a ≡ b
same_assertion_lem a b h =
    let (x, q, r, p) = four (a.variable ≟ b.variable) (a.from ≟ b.from) (same a.right b.right) (a.to ≟ b.to) h in
    let e = ==→≡ a.variable b.variable x in
    let f = ==→≡ a.from b.from q in
    let g = same→≡ a.right b.right r in
    let k = ==→≡ a.to b.to p in
    λ i. record { variable = e i; from = f i; right = g i; to = k i }

pub same_self : (a : Assertion) → T (same_assertion a a)
same_self a =
    and (a.variable ≟ a.variable && (a.from ≟ a.from) && same a.right a.right) (a.to ≟ a.to)
    (and_three (a.variable ≟ a.variable) (a.from ≟ a.from) (same a.right a.right) (==_refl a.variable) (==_refl a.from) (same_refl a.right))
    (==_refl a.to)

same_sym : (a b : Assertion) → T (same_assertion a b) → T (same_assertion b a)
same_sym a b h = subst (λ c. T (same_assertion c a)) (same_assertion_lem a b h) (same_self a)

unrepeated_last : (l : List Assertion) (a : Assertion) → T (unrepeated l) → ¬ T (stands l a) → T (unrepeated (l ++ (a ∷ [])))
unrepeated_last [] a u n = tt
unrepeated_last (b ∷ l) a u n =
    let (u₁, u₂) = both (not (stands l b)) (unrepeated l) u in
    and (not (stands (l ++ (a ∷ [])) b)) (unrepeated (l ++ (a ∷ [])))
    (not_T (stands (l ++ (a ∷ [])) b) (λ t. elim (any_append (same_assertion b) l (a ∷ []) t) [
      | inl k ↦ T_not (stands l b) u₁ k
      | inr k ↦ n (left_of_lem (same_assertion a b) (stands l a) (same_sym b a (elim (one_of_lem (same_assertion b a) false k) [ inl e ↦ e | inr e ↦ absurd e ])))
    ]))
    (unrepeated_last l a u₂ (λ t. n (right_of (same_assertion a b) (stands l a) t)))

pub enter_unrepeated : (l : List Assertion) (a : Assertion) → T (unrepeated l) → T (unrepeated (enter l a))
enter_unrepeated l a u = go (stands l a) refl
  where
    go : (b : Bool) → stands l a ≡ b → T (unrepeated (when b then l else l ++ (a ∷ [])))
    go true e = u
    go false e = unrepeated_last l a u (λ t. subst T e t)

-- a list of valid assertions, none of them twice
pub record Fit (f : Assertion → Bool) (l : List Assertion) : Type 0 where
  pub each_fits : T (all f l)
  pub none_twice : T (unrepeated l)

enter_fit : (f : Assertion → Bool) (l : List Assertion) (a : Assertion) → Fit f l → T (f a) → Fit f (enter l a)
enter_fit f l a h k = record { each_fits = go (stands l a); none_twice = enter_unrepeated l a h.none_twice }
  where
    go : (b : Bool) → T (all f (when b then l else l ++ (a ∷ [])))
    go true = h.each_fits
    go false = all_append f l (a ∷ []) h.each_fits (and (f a) true k tt)

pub entering_fit : (f : Assertion → Bool) (l m : List Assertion) → Fit f l → T (all f m) → Fit f (entering l m)
entering_fit f l [] h k = h
entering_fit f l (a ∷ m) h k =
    let (k₁, k₂) = both (f a) (all f m) k in
    entering_fit f (enter l a) m (enter_fit f l a h k₁) k₂

-- whatever holds of all, or of none, still does after one is withdrawn
withdraw_all_lem : (f : Assertion → Bool) (l : List Assertion) (a : Assertion) → T (all f l) → T (all f (withdraw l a))
withdraw_all_lem f [] a h = tt
withdraw_all_lem f (b ∷ l) a h =
    let (h₁, h₂) = both (f b) (all f l) h in
    go (same_assertion a b) h₁ h₂ (withdraw_all_lem f l a h₂)
  where
    go : (c : Bool) → T (f b) → T (all f l) → T (all f (withdraw l a)) → T (all f (when c then l else b ∷ withdraw l a))
    go true h₁ h₂ k = h₂
    go false h₁ h₂ k = and (f b) (all f (withdraw l a)) h₁ k

pub withdraw_any : (f : Assertion → Bool) (l : List Assertion) (a : Assertion) → T (any f (withdraw l a)) → T (any f l)
withdraw_any f [] a t = t
withdraw_any f (b ∷ l) a t = go (same_assertion a b) (withdraw_any f l a) t
  where
    go : (c : Bool) → (T (any f (withdraw l a)) → T (any f l)) → T (any f (when c then l else b ∷ withdraw l a)) → T (any f (b ∷ l))
    go true ih t = right_of (f b) (any f l) t
    go false ih t = elim (one_of_lem (f b) (any f (withdraw l a)) t) [
      | inl u ↦ left_of_lem (f b) (any f l) u
      | inr u ↦ right_of (f b) (any f l) (ih u)
    ]

pub withdraw_unrepeated : (l : List Assertion) (a : Assertion) → T (unrepeated l) → T (unrepeated (withdraw l a))
withdraw_unrepeated [] a h = tt
withdraw_unrepeated (b ∷ l) a h =
    let (h₁, h₂) = both (not (stands l b)) (unrepeated l) h in
    go (same_assertion a b) h₁ h₂ (withdraw_unrepeated l a h₂)
  where
    go : (c : Bool) → T (not (stands l b)) → T (unrepeated l) → T (unrepeated (withdraw l a)) → T (unrepeated (when c then l else b ∷ withdraw l a))
    go true h₁ h₂ k = h₂
    go false h₁ h₂ k =
        and (not (stands (withdraw l a) b)) (unrepeated (withdraw l a))
        (not_T (stands (withdraw l a) b) (λ t. T_not (stands l b) h₁ (withdraw_any (same_assertion b) l a t))) k

pub withdrawing_fit : (f : Assertion → Bool) (l m : List Assertion) → Fit f l → Fit f (withdrawing l m)
withdrawing_fit f l [] h = h
withdrawing_fit f l (a ∷ m) h =
    withdrawing_fit f (withdraw l a) m (record { each_fits = withdraw_all_lem f l a h.each_fits; none_twice = withdraw_unrepeated l a h.none_twice })

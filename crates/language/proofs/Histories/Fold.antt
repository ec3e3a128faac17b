-- An assertion stands after a list of events exactly where it was entered and not since withdrawn.
use mathlib.Core.Path.{◌≡◌, refl, sym, ap, subst}
use mathlib.Core.Logic.{◌↔◌, ◌⊎◌, inl, inr}
use Prim.Native.Nat.{ℕ}
use native.Mathlib.Omega.{arith}
use mathlib.Core.Bool.{Bool, true, false, not}
use mathlib.Core.List.{List, [], ◌∷◌, ◌++◌}
use lib.Dec.{T, T_not}
use Rattle.language.specs.Text.{when◌then◌else◌}
use Rattle.language.specs.State.{Assertion, same_assertion, stands, enter, withdraw}
use Rattle.language.specs.Valid.{unrepeated}
use Rattle.language.specs.Events.{Event, enters, withdraws, after_event, after_events, In, first, later, Stands}
use Rattle.language.proofs.Logic.Tests.{both, one_of_lem, left_of_lem, right_of, any_append, any_left, any_right_lem}
use Rattle.language.proofs.Meaning.Standing.{same_assertion_lem, same_self, enter_unrepeated, withdraw_unrepeated, withdraw_any}

-- ---- one event

entered_stands : (l : List Assertion) (a : Assertion) → T (stands (enter l a) a)
entered_stands l a = go (stands l a) refl
  where
    go : (b : Bool) → stands l a ≡ b → T (stands (when b then l else l ++ (a ∷ [])) a)
    go true e = subst T (sym e) tt
    go false e = any_right_lem (same_assertion a) l (a ∷ []) (left_of_lem (same_assertion a a) false (same_self a))

enter_keeps : (l : List Assertion) (b a : Assertion) → T (stands l a) → T (stands (enter l b) a)
enter_keeps l b a h = go (stands l b)
  where
    go : (c : Bool) → T (stands (when c then l else l ++ (b ∷ [])) a)
    go true = h
    go false = any_left (same_assertion a) l (b ∷ []) h

enter_only : (l : List Assertion) (b a : Assertion) → T (stands (enter l b) a) → T (stands l a) ⊎ (a ≡ b)
enter_only l b a = go (stands l b)
  where
    go : (c : Bool) → T (stands (when c then l else l ++ (b ∷ [])) a) → T (stands l a) ⊎ (a ≡ b)
    go true h = inl h
    go false h = elim (any_append (same_assertion a) l (b ∷ []) h) [
      | inl t ↦ inl t
      | inr t ↦ inr (same_assertion_lem a b (elim (one_of_lem (same_assertion a b) false t) [ inl e ↦ e | inr e ↦ absurd e ]))
    ]

withdraw_keeps : (l : List Assertion) (b a : Assertion) → ¬ (a ≡ b) → T (stands l a) → T (stands (withdraw l b) a)
withdraw_keeps [] b a n h = h
withdraw_keeps (c ∷ l) b a n h = go (same_assertion b c) (same_assertion_lem b c) (one_of_lem (same_assertion a c) (stands l a) h) (withdraw_keeps l b a n)
  where
    go : (k : Bool) → (T k → b ≡ c) → T (same_assertion a c) ⊎ T (stands l a) → (T (stands l a) → T (stands (withdraw l b) a))
        → T (stands (when k then l else c ∷ withdraw l b) a)
    go true e (inl t) i = absurd (n (subst (λ d. a ≡ d) (sym (e tt)) (same_assertion_lem a c t)))
    go true e (inr t) i = t
    go false e (inl t) i = left_of_lem (same_assertion a c) (stands (withdraw l b) a) t
    go false e (inr t) i = right_of (same_assertion a c) (stands (withdraw l b) a) (i t)

withdrawn_gone : (l : List Assertion) (a : Assertion) → T (unrepeated l) → ¬ T (stands (withdraw l a) a)
withdrawn_gone [] a u t = t
withdrawn_gone (c ∷ l) a u t =
    let (u₁, u₂) = both (not (stands l c)) (unrepeated l) u in
    go (same_assertion a c) refl u₁ (withdrawn_gone l a u₂) t
  where
    go : (k : Bool) → same_assertion a c ≡ k → T (not (stands l c)) → ¬ T (stands (withdraw l a) a) → ¬ T (stands (when k then l else c ∷ withdraw l a) a)
    go true e u i t = T_not (stands l c) u (subst (λ d. T (stands l d)) (same_assertion_lem a c (subst T (sym e) tt)) t)
    go false e u i t = elim (one_of_lem (same_assertion a c) (stands (withdraw l a) a) t) [
      | inl k ↦ subst T e k
      | inr k ↦ i k
    ]

-- ---- lists of events

enters_withdraws : {a b : Assertion} → enters a ≡ withdraws b → ⊥
enters_withdraws e = let z : ◌≡◌ {A = ℕ} 0 1 = cc in omega arith

same_entered : {a b : Assertion} → enters a ≡ enters b → a ≡ b
same_entered e = cc

same_withdrawn : {a b : Assertion} → withdraws a ≡ withdraws b → a ≡ b
same_withdrawn e = cc

in_cons : {A : Type 0} {a b : A} {l : List A} → In a (b ∷ l) → (a ≡ b) ⊎ In a l
in_cons first = inl refl
in_cons (later i) = inr i

-- stood before the events and was not withdrawn by them
abbrev Kept : List Assertion → List Event → Assertion → Type 0
Kept l es a = T (stands l a) × (¬ In (withdraws a) es)

longer : (e : Event) (es : List Event) (a : Assertion) → Stands es a → Stands (e ∷ es) a
longer e es a s = record { before = e ∷ s.before; since = s.since; parted = ap (λ l. e ∷ l) s.parted; kept = s.kept }

none_stand : (a : Assertion) → ¬ Stands [] a
none_stand a s = go s.before s.parted
  where
    go : (before : List Event) → [] ≡ before ++ (enters a ∷ s.since) → ⊥
    go [] e = let z : ◌≡◌ {A = ℕ} 0 1 = cc in omega arith
    go (b ∷ before) e = let z : ◌≡◌ {A = ℕ} 0 1 = cc in omega arith

-- the first event entered a and the rest left it, or it stands by the rest
parted_first : (e : Event) (es : List Event) (a : Assertion) → Stands (e ∷ es) a → ((e ≡ enters a) × (¬ In (withdraws a) es)) ⊎ Stands es a
parted_first e es a s = go s.before s.parted
  where
    go : (before : List Event) → e ∷ es ≡ before ++ (enters a ∷ s.since) → ((e ≡ enters a) × (¬ In (withdraws a) es)) ⊎ Stands es a
    go [] k =
        let f : e ≡ enters a = cc in
        let g : s.since ≡ es = cc in
        inl (f, subst (λ l. ¬ In (withdraws a) l) g s.kept)
    go (b ∷ before) k =
        let g : es ≡ before ++ (enters a ∷ s.since) = cc in
        inr (record { before = before; since = s.since; parted = g; kept = s.kept })

unrepeated_after : (l : List Assertion) (e : Event) → T (unrepeated l) → T (unrepeated (after_event l e))
unrepeated_after l (enters a) u = enter_unrepeated l a u
unrepeated_after l (withdraws a) u = withdraw_unrepeated l a u

-- one event, and then those that stand by what follows or were kept
kept_forward : (l : List Assertion) (e : Event) (es : List Event) (a : Assertion) → T (unrepeated l) → Kept (after_event l e) es a → Stands (e ∷ es) a ⊎ Kept l (e ∷ es) a
kept_forward l (enters b) es a u (h, n) = elim (enter_only l b a h) [
  | inl t ↦ inr (t, λ i. elim (in_cons i) [ inl e ↦ enters_withdraws (sym e) | inr j ↦ n j ])
  | inr e ↦ inl (record { before = []; since = es; parted = ap (λ c. enters c ∷ es) (sym e); kept = n })
]
kept_forward l (withdraws b) es a u (h, n) = inr (
  withdraw_any (same_assertion a) l b h,
  λ i. elim (in_cons i) [
    | inl e ↦ withdrawn_gone l b u (subst (λ c. T (stands (withdraw l b) c)) (same_withdrawn e) h)
    | inr j ↦ n j
  ],
)

kept_back : (l : List Assertion) (e : Event) (es : List Event) (a : Assertion) → Kept l (e ∷ es) a → Kept (after_event l e) es a
kept_back l (enters b) es a (h, n) = (enter_keeps l b a h, λ i. n (later i))
kept_back l (withdraws b) es a (h, n) = (withdraw_keeps l b a (λ e. n (subst (λ c. In (withdraws a) (withdraws c ∷ es)) e first)) h, λ i. n (later i))

stands_forward : (es : List Event) (l : List Assertion) (a : Assertion) → T (unrepeated l) → T (stands (after_events l es) a) → Stands es a ⊎ Kept l es a
stands_forward [] l a u h = inr (h, λ i. none_in i)
  where
    none_in : {e : Event} → ¬ In e []
    none_in = elim [ ]
stands_forward (e ∷ es) l a u h = elim (stands_forward es (after_event l e) a (unrepeated_after l e u) h) [
  | inl s ↦ inl (longer e es a s)
  | inr k ↦ kept_forward l e es a u k
]

stands_back : (es : List Event) (l : List Assertion) (a : Assertion) → Stands es a ⊎ Kept l es a → T (stands (after_events l es) a)
stands_back [] l a (inl s) = absurd (none_stand a s)
stands_back [] l a (inr k) = k.0
stands_back (e ∷ es) l a (inr k) = stands_back es (after_event l e) a (inr (kept_back l e es a k))
stands_back (e ∷ es) l a (inl s) = elim (parted_first e es a s) [
  | inl p ↦ stands_back es (after_event l e) a (inr (subst (λ f. T (stands (after_event l f) a)) (sym p.0) (entered_stands l a), p.1))
  | inr t ↦ stands_back es (after_event l e) a (inl t)
]

-- from the start
pub stands_by_events : (es : List Event) (a : Assertion) → T (stands (after_events [] es) a) ↔ Stands es a
stands_by_events es a = (
  λ h. elim (stands_forward es [] a tt h) [ inl s ↦ s | inr k ↦ absurd k.0 ],
  λ s. stands_back es [] a (inl s),
)

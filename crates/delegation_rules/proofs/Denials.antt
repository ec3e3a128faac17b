-- Who may send a delegation, by the tests that the code makes.
-- Assumes nothing.
use mathlib.Core.Path.{◌≡◌, refl, sym, ap, subst, ◌∙◌}
use mathlib.Core.Bool.{Bool, true, false, ◌&&◌, ◌||◌, not}
use mathlib.Core.List.{List, [], ◌∷◌, ◌++◌}
use Prim.Native.Nat.{ℕ, ◌≤◌}
use native.Mathlib.Omega.{arith}
use lib.Dec.{T}
use lib.ListN.{length}
use Rattle.language.specs.Text.{when◌then◌else◌, ◌≟◌, any}
use Rattle.language.specs.Syntax.{Name, Right, delegate, Target, every, only, set_delegation, delete_delegation}
use Rattle.language.specs.State.{admin}
use Rattle.language.specs.Chains.{has}
use Rattle.language.specs.Values.{Session, is_shared, is_principal}
use Rattle.language.specs.Commands.{Need, need, needs, met, is_none, denied}
use Rattle.language.proofs.Logic.Tests.{true_of, ==→≡, and_true, or_false}
use Rattle.store.specs.Rows.{position}
use Rattle.delegation_rules.specs.declared.Aim.{Aim}
use Rattle.delegation_rules.specs.declared.Aim.TheVariants.{All, One}
use Rattle.delegation_rules.specs.Asking.{aim_of, Few}
use Rattle.store.proofs.Positions.{position_most}

-- ---- targets

pub aim_every : (xs : List Name) (t : Target) → All ≡ aim_of xs t → t ≡ every
aim_every xs every e = refl
aim_every xs (only x) e = absurd (let z : ◌≡◌ {A = ℕ} 0 1 = cc in omega arith)

-- the target of a number is a variable
pub record Aimed (xs : List Name) (t : Target) (n : ℕ) : Type 0 where
  pub name : Name
  pub is_only : t ≡ only name
  pub number : n ≡ position xs name

pub aim_only : (xs : List Name) (t : Target) (n : ℕ) → One n ≡ aim_of xs t → Aimed xs t n
aim_only xs every n e = absurd (let z : ◌≡◌ {A = ℕ} 0 1 = cc in omega arith)
aim_only xs (only x) n e = let h : n ≡ position xs x = cc in record { name = x; is_only = refl; number = h }

pub aim_few : (xs : List Name) (t : Target) (a : Aim) → length xs ≤ 4096 → a ≡ aim_of xs t → Few a
aim_few xs t a h e = subst Few (sym e) (go t)
  where
    go : (t : Target) → Few (aim_of xs t)
    go every = tt
    go (only x) = omega (arith, position_most xs x)

-- ---- the sender

module _ (s : Session) (q : Name) where
  pub none_admin : (s.sender ≟ admin) ≡ true → false ≡ is_none s (admin ∷ q ∷ [])
  none_admin e = sym (ap (λ (b : Bool). not b && (not (s.sender ≟ q) && true)) e)

  pub none_other : (s.sender ≟ admin) ≡ false → not (s.sender ≟ q) ≡ is_none s (admin ∷ q ∷ [])
  none_other e = sym (ap (λ (b : Bool). not b && (not (s.sender ≟ q) && true)) e ∙ and_true (not (s.sender ≟ q)))

-- what the rule asks of q on x
module _ (s : Session) (q x : Name) where
  abbrev asked : Need
  asked = record { holder = q; one_of = delegate ∷ []; variable = x }

  abbrev unmet : List Need → Bool
  unmet l = any (λ n. not (met s n)) (l ++ [])

  one_unmet : (b : Bool) → (b && not (has s.store delegate x q)) ≡ unmet (when b then asked ∷ [] else [])
  one_unmet true = go (has s.store delegate x q)
    where
      go : (h : Bool) → not h ≡ (not (h || false) || false)
      go true = refl
      go false = refl
  one_unmet false = refl

  -- nothing is lacked by a principal that is missing, or on a variable that is missing
  pub lacks_giver : is_principal s q ≡ false → false ≡ (is_principal s q && is_shared s x && not (has s.store delegate x q))
  lacks_giver e = sym (ap (λ (b : Bool). b && is_shared s x && not (has s.store delegate x q)) e)

  pub lacks_variable : is_shared s x ≡ false → false ≡ (is_principal s q && is_shared s x && not (has s.store delegate x q))
  lacks_variable e = go (is_principal s q) (is_shared s x) e
    where
      go : (a b : Bool) → b ≡ false → false ≡ (a && b && not (has s.store delegate x q))
      go true b e = sym (ap (λ (c : Bool). c && not (has s.store delegate x q)) e)
      go false b e = refl

  pub lacks_right : is_principal s q ≡ true → is_shared s x ≡ true → not (has s.store delegate x q) ≡ (is_principal s q && is_shared s x && not (has s.store delegate x q))
  lacks_right e f =
      sym (ap (λ (b : Bool). b && is_shared s x && not (has s.store delegate x q)) e ∙ ap (λ (b : Bool). b && not (has s.store delegate x q)) f)

-- ---- set delegation

module _ (s : Session) (q : Name) (r : Right) (p : Name) where
  pub set_reserved : (t : Target) → is_none s (admin ∷ q ∷ []) ≡ true → true ≡ denied s (set_delegation t q r p)
  set_reserved t e = sym (ap (λ (b : Bool). b || any (λ n. not (met s n)) (needs s (set_delegation t q r p))) e)

  pub set_all : (t : Target) → t ≡ every → is_none s (admin ∷ q ∷ []) ≡ false → false ≡ denied s (set_delegation t q r p)
  set_all t f e = sym (ap (λ (t : Target). denied s (set_delegation t q r p)) f ∙ ap (λ (b : Bool). b || false) e)

  pub set_one : (t : Target) (x : Name) → t ≡ only x → is_none s (admin ∷ q ∷ []) ≡ false
      → (is_principal s q && is_shared s x && not (has s.store delegate x q)) ≡ denied s (set_delegation t q r p)
  set_one t x f e =
      one_unmet s q x (is_principal s q && is_shared s x)
      ∙ sym (ap (λ (t : Target). denied s (set_delegation t q r p)) f
      ∙ ap (λ (b : Bool). b || unmet s q x (when is_principal s q && is_shared s x then asked s q x ∷ [] else [])) e)

-- ---- delete delegation

module _ (s : Session) (q : Name) (r : Right) (p : Name) where
  pub delete_all : (t : Target) → t ≡ every → is_none s (admin ∷ q ∷ []) ≡ denied s (delete_delegation t q r p)
  delete_all t f = sym (ap (λ (t : Target). denied s (delete_delegation t q r p)) f ∙ or_false (is_none s (admin ∷ q ∷ [])))

  module _ (t : Target) (x : Name) (f : t ≡ only x) where
    -- by whether the sender is admin, q and p
    abbrev judged : Bool → Bool → Bool → Bool
    judged a b c = (not a && (not b && (not c && true))) || any (λ n. not (met s n)) ((when b && not c && not a then need s (delegate ∷ []) x else []) ++ [])

    as_judged : denied s (delete_delegation t q r p) ≡ judged (s.sender ≟ admin) (s.sender ≟ q) (s.sender ≟ p)
    as_judged = ap (λ (t : Target). denied s (delete_delegation t q r p)) f

    pub delete_taker : (s.sender ≟ p) ≡ true → false ≡ denied s (delete_delegation t q r p)
    delete_taker e = sym (as_judged ∙ ap (judged (s.sender ≟ admin) (s.sender ≟ q)) e ∙ go (s.sender ≟ admin) (s.sender ≟ q))
      where
        go : (a b : Bool) → judged a b true ≡ false
        go true true = refl
        go true false = refl
        go false true = refl
        go false false = refl

    pub delete_admin : (s.sender ≟ admin) ≡ true → false ≡ denied s (delete_delegation t q r p)
    delete_admin e = sym (as_judged ∙ ap (λ (a : Bool). judged a (s.sender ≟ q) (s.sender ≟ p)) e ∙ go (s.sender ≟ q) (s.sender ≟ p))
      where
        go : (b c : Bool) → judged true b c ≡ false
        go true true = refl
        go true false = refl
        go false true = refl
        go false false = refl

    pub delete_other : (s.sender ≟ p) ≡ false → is_none s (admin ∷ q ∷ []) ≡ true → true ≡ denied s (delete_delegation t q r p)
    delete_other e h = sym (as_judged ∙ ap (judged (s.sender ≟ admin) (s.sender ≟ q)) e ∙ go (s.sender ≟ admin) (s.sender ≟ q) h)
      where
        go : (a b : Bool) → (not a && (not b && true)) ≡ true → judged a b false ≡ true
        go true b h = absurd (let z : ◌≡◌ {A = ℕ} 0 1 = cc in omega arith)
        go false true h = absurd (let z : ◌≡◌ {A = ℕ} 0 1 = cc in omega arith)
        go false false h = refl

    -- q, who is neither admin nor p
    pub delete_giver : T (is_principal s s.sender) → (s.sender ≟ admin) ≡ false → (s.sender ≟ p) ≡ false → is_none s (admin ∷ q ∷ []) ≡ false
        → (is_principal s q && is_shared s x && not (has s.store delegate x q)) ≡ denied s (delete_delegation t q r p)
    delete_giver k a c h =
        let b : T (s.sender ≟ q) = is_giver (s.sender ≟ admin) (s.sender ≟ q) a h in
        let e : s.sender ≡ q = ==→≡ s.sender q b in
        let m : is_principal s q ≡ true = true_of (is_principal s q) (subst (λ (n : Name). T (is_principal s n)) e k) in
        ap (λ (b : Bool). b && is_shared s x && not (has s.store delegate x q)) m
        ∙ one_unmet s q x (is_shared s x)
        ∙ ap (λ (n : Name). unmet s q x (when is_shared s x then record { holder = n; one_of = delegate ∷ []; variable = x } ∷ [] else [])) (sym e)
        ∙ sym (as_judged ∙ (λ i. judged (a i) (true_of (s.sender ≟ q) b i) (c i)))
      where
        is_giver : (a b : Bool) → a ≡ false → (not a && (not b && true)) ≡ false → T b
        is_giver true b e h = absurd (let z : ◌≡◌ {A = ℕ} 0 1 = cc in omega arith)
        is_giver false true e h = tt
        is_giver false false e h = absurd (let z : ◌≡◌ {A = ℕ} 0 1 = cc in omega arith)

-- A command is answered DENIED exactly where the book of demand 3 says so.
use mathlib.Core.Path.{◌≡◌, refl, sym, subst}
use mathlib.Core.Logic.{◌↔◌, ◌⊎◌, inl, inr}
use Prim.Native.Nat.{ℕ}
use mathlib.Core.Bool.{Bool, true, false, not}
use mathlib.Core.Option.{Option, none, some}
use mathlib.Core.List.{List, [], ◌∷◌, map}
use lib.Dec.{T, T_not, not_T}
use Rattle.language.specs.Text.{when◌then◌else◌, any, member, present}
use Rattle.language.specs.Syntax.{Name, Right, Command}
use Rattle.language.specs.State.{Store, admin, stands}
use Rattle.language.specs.Chains.{Chain, chain_length, has}
use Rattle.language.specs.Outcomes.{Outcome, gives, fails, fills}
use Rattle.language.specs.Values.{Session}
use Rattle.language.specs.Commands.{needs, met, reserved, denied, effect, Effect, heavy, verdict, step, Step, refused, went, DENIED, FAILED, FULL}
use Rattle.language.specs.Events.{In, first, later}
use Rattle.language.specs.History.{Denied}
use Rattle.language.proofs.Logic.Tests.{one_of_lem, left_of_lem, right_of}
use Rattle.language.proofs.Rights.Search.{none_there, one_there}

-- what the chains need of a store
pub record Sound (s : Store) : Type 0 where
  pub has_admin : T (member admin (map (λ k. k.name) s.principals))
  pub has_target : (r : Right) (x q p : Name) → T (stands s.assertions (record { variable = x; from = q; right = r; to = p }))
      → T (member p (map (λ k. k.name) s.principals))

module _ (s : Store) (g : Sound s) (r : Right) (x p : Name) where
  pub has_chain : T (has s r x p) → (n : ℕ) × Chain s r x n p
  has_chain = go (chain_length s r x p) refl
    where
      go : (o : Option ℕ) → chain_length s r x p ≡ o → T (present o) → (n : ℕ) × Chain s r x n p
      go none e t = absurd t
      go (some n) e t = (n, (one_there s r x g.has_admin (g.has_target r x) p n e).chain)

  pub no_chain : ¬ T (has s r x p) → (n : ℕ) → ¬ Chain s r x n p
  no_chain = go (chain_length s r x p) refl
    where
      go : (o : Option ℕ) → chain_length s r x p ≡ o → ¬ T (present o) → (n : ℕ) → ¬ Chain s r x n p
      go none e t = none_there s r x g.has_admin (g.has_target r x) p e
      go (some n) e t = absurd (t tt)

  -- the search decides whether there is a chain
  pub has_is_chain : T (has s r x p) ↔ ((n : ℕ) × Chain s r x n p)
  has_is_chain = (has_chain, λ c. given_chain c.0 c.1)
    where
      given_chain : (n : ℕ) → Chain s r x n p → T (has s r x p)
      given_chain n c = go (has s r x p) no_chain
        where
          go : (b : Bool) → (¬ T b → (n : ℕ) → ¬ Chain s r x n p) → T b
          go true f = tt
          go false f = f (λ t. t) n c

-- ---- tests over lists

pub some_of : {A : Type 0} (f : A → Bool) (l : List A) → T (any f l) → (a : A) × In a l × T (f a)
some_of f [] h = absurd h
some_of f (a ∷ l) h = elim (one_of_lem (f a) (any f l) h) [
  | inl t ↦ (a, first, t)
  | inr t ↦ ((some_of f l t).0, later (some_of f l t).1, (some_of f l t).2)
]

pub any_of : {A : Type 0} (f : A → Bool) {a : A} {l : List A} → In a l → T (f a) → T (any f l)
any_of f {a} (first {rest = l}) t = left_of_lem (f a) (any f l) t
any_of f (later {b = b} {rest = l} i) t = right_of (f b) (any f l) (any_of f i t)

-- ---- a command

pub denied_so : (s : Session) (c : Command) → Sound s.store → T (denied s c) → Denied s c
denied_so s c g h = go (one_of_lem (reserved s c) (any (λ n. not (met s n)) (needs s c)) h)
  where
    go : T (reserved s c) ⊎ T (any (λ n. not (met s n)) (needs s c)) → Denied s c
    go (inl t) = inl t
    go (inr t) =
        let (n, i, u) = some_of (λ n. not (met s n)) (needs s c) t in
        inr (record {
          which = n;
          asked = i;
          no_chain = λ r j. no_chain s.store g r n.variable n.holder
              (λ k. T_not (met s n) u (any_of (λ r. has s.store r n.variable n.holder) j k));
        })

pub so_denied : (s : Session) (c : Command) → Sound s.store → Denied s c → T (denied s c)
so_denied s c g (inl t) = left_of_lem (reserved s c) (any (λ n. not (met s n)) (needs s c)) t
so_denied s c g (inr u) =
    right_of (reserved s c) (any (λ n. not (met s n)) (needs s c))
    (any_of (λ n. not (met s n)) u.asked (not_T (met s u.which) unmet))
  where
    unmet : T (met s u.which) → ⊥
    unmet t =
        let (r, i, k) = some_of (λ r. has s.store r u.which.variable u.which.holder) u.which.one_of t in
        let (n, c) = has_chain s.store g r u.which.variable u.which.holder k in
        u.no_chain r i n c

abbrev IsDenied : Step → Type 0
IsDenied (refused DENIED) = Unit {0}
IsDenied (refused FAILED) = ⊥
IsDenied (refused FULL) = ⊥
IsDenied (went f) = ⊥

verdict_denied : (b : Bool) (o : Outcome Effect) → IsDenied (verdict b o) → T b
verdict_denied true o h = tt
verdict_denied false fails h = absurd h
verdict_denied false fills h = absurd h
verdict_denied false (gives f) h = go (heavy f) h
  where
    go : (b : Bool) → IsDenied (when b then refused FULL else went f) → ⊥
    go true h = h
    go false h = h

denied_verdict : (b : Bool) (o : Outcome Effect) → T b → verdict b o ≡ refused DENIED
denied_verdict true o t = refl
denied_verdict false o t = absurd t

pub step_denied : (s : Session) (c : Command) → Sound s.store → (step s c ≡ refused DENIED) ↔ Denied s c
step_denied s c g = (
  λ e. denied_so s c g (verdict_denied (denied s c) (effect s c) (subst IsDenied (sym e) tt)),
  λ d. denied_verdict (denied s c) (effect s c) (so_denied s c g d),
)

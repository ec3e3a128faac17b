-- The terms of an expression, in the order in which they stand in the text.
-- Assumes nothing.
use mathlib.Core.Path.{◌≡◌, refl, ap}
use mathlib.Core.Option.{Option, none, some}
use mathlib.Core.List.{List, [], ◌∷◌}
use Prim.Native.Nat.{ℕ, zero, suc, ◌+◌, ◌-◌, ◌<◌}
use native.Mathlib.Omega.{arith}
use lib.Dec.{T}
use Rattle.language.specs.Text.{all}
use Rattle.language.specs.Tokens.{Token}
use Rattle.language.specs.Syntax.{Name, Term, Expr, term, let_in}
use Rattle.language.specs.Grammar.{Reader, then_read, ◌>>=◌, ◌>>◌, give, the, any_term, any_expression}
use Rattle.language.specs.Identifiers.{is_identifier}
use Rattle.language.proofs.Logic.Tests.{and, three}
use Rattle.language.proofs.Parsing.ValidPrograms.{valid_term, valid_expr}
use Rattle.permits.specs.Knowledge.{terms_then}
use Rattle.expression_readers.specs.Heads.{let_head}
use Rattle.expression_readers.proofs.Lets.{term_first, let_first, nothing_first}

-- ---- the terms of an expression

pub valid_then : (x : Expr) (rest : List Term) → T (valid_expr x) → T (all valid_term rest) → T (all valid_term (terms_then x rest))
valid_then (term t) rest h k = and (valid_term t) (all valid_term rest) h k
valid_then (let_in x e f) rest h k =
    let (i, j, l) = three (is_identifier x) (valid_expr e) (valid_expr f) h in
    valid_then e (terms_then f rest) j (valid_then f rest l k)

-- ---- in the text

-- k times `in` and an expression: their terms
abbrev pub terms_still : ℕ → Reader (List Term)
terms_still zero = give []
terms_still (suc k) = do the "in"; e ← any_expression; rest ← terms_still k; give (terms_then e rest)

-- an expression, and then those
abbrev pub terms_after : ℕ → Reader (List Term)
terms_after k = do e ← any_expression; rest ← terms_still k; give (terms_then e rest)

-- a term, and then those
abbrev pub with_term : Term → Option (List Term × List Token) → Option (List Term × List Token)
with_term t o = then_read o (λ rest. give (t ∷ rest))

module _ (k : ℕ) (us : List Token) where
  pub no_more : k ≡ 0 → terms_still k us ≡ some ([], us)
  no_more q = ap (λ (i : ℕ). terms_still i us) q

  pub not_in : 0 < k → the "in" us ≡ none → terms_still k us ≡ none
  not_in h e = go k h
    where
      go : (k : ℕ) → 0 < k → terms_still k us ≡ none
      go zero h = absurd (omega arith)
      go (suc k) h = rw e

  pub past_in : {vs : List Token} → 0 < k → the "in" us ≡ some (tt, vs) → terms_still k us ≡ terms_after (k - 1) vs
  past_in {vs} h e = go k h
    where
      go : (k : ℕ) → 0 < k → terms_still k us ≡ terms_after (k - 1) vs
      go zero h = absurd (omega arith)
      go (suc k) h =
          let q : suc k - 1 ≡ k = omega arith in
          rw (e, q)

module _ (k : ℕ) (ts : List Token) where
  pub past_term : {t : Term} {us : List Token} → any_term ts ≡ some (t, us) → terms_after k ts ≡ with_term t (terms_still k us)
  past_term e = rw (term_first ts e)

  -- the terms of a `let` are those of its first expression, and behind one more `in` those of its second
  pub past_head : {x : Name} {us : List Token} → any_term ts ≡ none → let_head ts ≡ some (x, us) → terms_after k ts ≡ terms_after (k + 1) us
  past_head {x} {us} n e =
      let q : k + 1 ≡ suc k = omega arith in
      rw (let_first ts n e, q) (go₁ (any_expression us))
    where
      go₄ :
          (a f : Expr) (o : Option (List Term × List Token))
          → then_read o (λ rest. give (terms_then (let_in x a f) rest)) ≡ then_read (then_read o (λ rest. give (terms_then f rest))) (λ rest. give (terms_then a rest))
      go₄ a f none = refl
      go₄ a f (some r) = refl

      go₃ :
          (a : Expr) (o : Option (Expr × List Token))
          → then_read (then_read o (λ f. give (let_in x a f))) (λ g. terms_still k >>= λ rest. give (terms_then g rest))
          ≡ then_read (then_read o (λ f. terms_still k >>= λ rest. give (terms_then f rest))) (λ rest. give (terms_then a rest))
      go₃ a none = refl
      go₃ a (some r) = go₄ a r.0 (terms_still k r.1)

      go₂ :
          (a : Expr) (o : Option (Unit {0} × List Token))
          → then_read (then_read o (λ _. any_expression >>= λ f. give (let_in x a f))) (λ g. terms_still k >>= λ rest. give (terms_then g rest))
          ≡ then_read (then_read o (λ _. any_expression >>= λ f. terms_still k >>= λ rest. give (terms_then f rest))) (λ rest. give (terms_then a rest))
      go₂ a none = refl
      go₂ a (some r) = go₃ a (any_expression r.1)

      go₁ :
          (o : Option (Expr × List Token))
          → then_read (then_read o (λ a. the "in" >> (any_expression >>= λ f. give (let_in x a f)))) (λ g. terms_still k >>= λ rest. give (terms_then g rest))
          ≡ then_read o (λ a. (the "in" >> (any_expression >>= λ f. terms_still k >>= λ rest. give (terms_then f rest))) >>= λ rest. give (terms_then a rest))
      go₁ none = refl
      go₁ (some r) = go₂ r.0 (the "in" r.1)

  pub past_nothing : any_term ts ≡ none → let_head ts ≡ none → terms_after k ts ≡ none
  past_nothing n e = rw (nothing_first ts n e)

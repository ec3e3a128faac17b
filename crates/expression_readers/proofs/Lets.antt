-- Laws of expressions: which beginnings are terms and which are lets, and what follows the lets that are open.
-- Assumes nothing.
use mathlib.Core.Path.{◌≡◌, refl, sym, ap, ◌∙◌}
use mathlib.Core.Bool.{Bool, true, false}
use mathlib.Core.Option.{Option, none, some}
use mathlib.Core.List.{List, [], ◌∷◌}
use Prim.Native.Nat.{ℕ, zero, suc, ◌+◌, ◌-◌, ◌<◌}
use native.Mathlib.Omega.{arith}
use Rattle.language.specs.Text as Options
use Rattle.language.specs.Text.{Text, bytes, ◌≟◌, ◌or_else◌, present}
use Rattle.language.specs.Tokens.{Token, sign, ident, text, wrong}
use Rattle.language.specs.Syntax.{Name, Term, Expr, term, let_in}
use Rattle.language.specs.Grammar.{Reader, then_read, ◌>>=◌, ◌>>◌, give, the, any_name, any_term, any_expression}
use Rattle.text.proofs.Words.{same_true}
use Rattle.tokens.proofs.Reading.{no_some, or_else_none}
use Rattle.syntax.specs.declared.Term as Read
use Rattle.syntax.specs.Values.{term_meant, TermWithin}
use Rattle.syntax.proofs.Lets.{expression_step}
use Rattle.syntax.proofs.Said.{term_there}
use Rattle.expression_readers.specs.Heads.{let_head}

-- ---- what a `let` starts with

-- a reader that starts with `let x =` goes on past that
head_then : {A : Type 0} (next : Name → Reader A) (ts : List Token) → (do the "let"; x ← any_name; the "="; next x) ts ≡ then_read (let_head ts) next
head_then {A} next ts = go₁ (the "let" ts)
  where
    go₃ : (x : Name) (o : Option (Unit {0} × List Token)) → then_read o (λ _. next x) ≡ then_read (then_read o (λ _. give x)) next
    go₃ x none = refl
    go₃ x (some r) = refl

    go₂ : (o : Option (Name × List Token)) → then_read o (λ x. the "=" >> next x) ≡ then_read (then_read o (λ x. the "=" >> give x)) next
    go₂ none = refl
    go₂ (some r) = go₃ r.0 (the "=" r.1)

    go₁ :
        (o : Option (Unit {0} × List Token))
        → then_read o (λ _. any_name >>= λ x. the "=" >> next x) ≡ then_read (then_read o (λ _. any_name >>= λ x. the "=" >> give x)) next
    go₁ none = refl
    go₁ (some r) = go₂ (any_name r.1)

-- ---- what an expression starts with

-- the two expressions of a `let`, past `let x =`
abbrev pub inside_let : Name → Reader Expr
inside_let x = do e ← any_expression; the "in"; f ← any_expression; give (let_in x e f)

pub expression_starts : (ts : List Token) → any_expression ts ≡ then_read (let_head ts) inside_let or_else then_read (any_term ts) (λ t. give (term t))
expression_starts ts = expression_step ts ∙ ap (λ r. r or_else then_read (any_term ts) (λ t. give (term t))) (head_then inside_let ts)

-- a term does not start with `let`
no_head : (ts : List Token) {t : Term} {us : List Token} → any_term ts ≡ some (t, us) → let_head ts ≡ none
no_head [] e = refl
no_head (sign w ∷ ts) {t} {us} e = go (w ≟ bytes "let") refl
  where
    go : (b : Bool) → (w ≟ bytes "let") ≡ b → let_head (sign w ∷ ts) ≡ none
    go true q = no_some (sym (ap (λ (v : Text). any_term (sign v ∷ ts)) (same_true w (bytes "let") q)) ∙ e)
    go false q = rw q
no_head (ident w ∷ ts) e = refl
no_head (text w ∷ ts) e = refl
no_head (wrong ∷ ts) e = refl

module _ (ts : List Token) where
  -- an expression that starts as a term is that term
  pub term_first : {t : Term} {us : List Token} → any_term ts ≡ some (t, us) → any_expression ts ≡ some (term t, us)
  term_first e = expression_starts ts ∙ rw (no_head ts e, e)

  module _ (not-term : any_term ts ≡ none) where
    pub let_first : {x : Name} {us : List Token} → let_head ts ≡ some (x, us) → any_expression ts ≡ inside_let x us
    let_first {x} {us} e = expression_starts ts ∙ rw (e, not-term) (or_else_none (inside_let x us))

    pub nothing_first : let_head ts ≡ none → any_expression ts ≡ none
    nothing_first e = expression_starts ts ∙ rw (e, not-term)

-- ---- the lets that are open

-- k times `in` and an expression
abbrev pub still : ℕ → Reader (Unit {0})
still zero = give tt
still (suc k) = do the "in"; any_expression; still k

-- an expression, and then those
abbrev pub after : ℕ → Reader (Unit {0})
after k = do any_expression; still k

module _ (k : ℕ) (us : List Token) where
  pub no_more : k ≡ 0 → still k us ≡ some (tt, us)
  no_more q = ap (λ (i : ℕ). still i us) q

  pub not_in : 0 < k → the "in" us ≡ none → still k us ≡ none
  not_in h e = go k h
    where
      go : (k : ℕ) → 0 < k → still k us ≡ none
      go zero h = absurd (omega arith)
      go (suc k) h = rw e

  pub past_in : {vs : List Token} → 0 < k → the "in" us ≡ some (tt, vs) → still k us ≡ after (k - 1) vs
  past_in {vs} h e = go k h
    where
      go : (k : ℕ) → 0 < k → still k us ≡ after (k - 1) vs
      go zero h = absurd (omega arith)
      go (suc k) h =
          let q : suc k - 1 ≡ k = omega arith in
          rw (e, q)

module _ (k : ℕ) (ts : List Token) where
  pub past_term : {t : Term} {us : List Token} → any_term ts ≡ some (t, us) → after k ts ≡ still k us
  past_term e = rw (term_first ts e)

  -- a `let` that is open asks for one more `in`
  pub past_head : {x : Name} {us : List Token} → any_term ts ≡ none → let_head ts ≡ some (x, us) → after k ts ≡ after (k + 1) us
  past_head {x} {us} n e =
      let q : k + 1 ≡ suc k = omega arith in
      rw (let_first ts n e, q) (go₁ (any_expression us))
    where
      go₃ : (a : Expr) (o : Option (Expr × List Token)) → then_read (then_read o (λ f. give (let_in x a f))) (λ _. still k) ≡ then_read o (λ _. still k)
      go₃ a none = refl
      go₃ a (some r) = refl

      go₂ :
          (a : Expr) (o : Option (Unit {0} × List Token))
          → then_read (then_read o (λ _. any_expression >>= λ f. give (let_in x a f))) (λ _. still k) ≡ then_read o (λ _. any_expression >> still k)
      go₂ a none = refl
      go₂ a (some r) = go₃ a (any_expression r.1)

      go₁ :
          (o : Option (Expr × List Token))
          → then_read (then_read o (λ a. the "in" >> (any_expression >>= λ f. give (let_in x a f)))) (λ _. still k)
          ≡ then_read o (λ _. the "in" >> (any_expression >> still k))
      go₁ none = refl
      go₁ (some r) = go₂ r.0 (the "in" r.1)

  pub past_nothing : any_term ts ≡ none → let_head ts ≡ none → after k ts ≡ none
  past_nothing n e = rw (nothing_first ts n e)

-- ---- what was read

-- the term that stands at the front of the tokens
pub record TermFirst (ts us : List Token) : Type 0 where
  pub found : Term
  pub is : any_term ts ≡ some (found, us)

pub term_found : (t : Text) (e : Read.Term) (ts us : List Token) → TermWithin t e → any_term ts ≡ Options.◌>>=◌ (term_meant t e) (λ x. some (x, us)) → TermFirst ts us
term_found t e ts us h q = go (term_meant t e) (term_there t e h) q
  where
    go : (o : Option Term) → present o ≡ true → any_term ts ≡ Options.◌>>=◌ o (λ x. some (x, us)) → TermFirst ts us
    go none p q = absurd (let z : ◌≡◌ {A = ℕ} 0 1 = cc in omega arith)
    go (some x) p q = record { found = x; is = q }

-- what follows the term that was read
pub past_read :
    (t : Text) (e : Read.Term) (k : ℕ) (ts us : List Token)
    → TermWithin t e
    → any_term ts ≡ Options.◌>>=◌ (term_meant t e) (λ x. some (x, us))
    → after k ts ≡ still k us
past_read t e k ts us h q = past_term k ts (term_found t e ts us h q).is

-- the expression that was read is a term
pub term_read :
    (t : Text) (e : Read.Term) (ts us : List Token)
    → TermWithin t e
    → any_term ts ≡ Options.◌>>=◌ (term_meant t e) (λ x. some (x, us))
    → Options.◌>>=◌ (Options.◌>>=◌ (term_meant t e) (λ x. some (term x))) (λ x. some (x, us)) ≡ any_expression ts
term_read t e ts us h q = go (term_meant t e) (term_there t e h) q
  where
    go :
        (o : Option Term)
        → present o ≡ true
        → any_term ts ≡ Options.◌>>=◌ o (λ x. some (x, us))
        → Options.◌>>=◌ (Options.◌>>=◌ o (λ x. some (term x))) (λ x. some (x, us)) ≡ any_expression ts
    go none p q = absurd (let z : ◌≡◌ {A = ℕ} 0 1 = cc in omega arith)
    go (some x) p q = sym (term_first ts q)

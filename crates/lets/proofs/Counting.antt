-- How many tokens there are: a `let` takes three of them, and each frame asks for one more.
use mathlib.Core.Path.{◌≡◌, refl, ap}
use Prim.Native.Nat.{ℕ, zero, suc, ◌+◌, ◌≤◌, zero-le}
use native.Mathlib.Omega.{arith}
use mathlib.Core.Option.{Option, none, some}
use mathlib.Core.List.{List, [], ◌∷◌}
use lib.ListN.{length}
use Rattle.language.specs.Text.{Text, bytes}
use Rattle.language.specs.Bytes.{class}
use Rattle.language.specs.Tokens.{Token, Lexeme, token, gap, end, bad, lexeme, lead, tokens, lex}
use Rattle.language.specs.Syntax.{Name}
use Rattle.language.specs.Grammar.{then_read, ◌>>=◌, ◌>>◌, give, the, any_name}
use Rattle.tokens.proofs.Reading.{no_some}
use Rattle.syntax.proofs.Fuel.{sign_shorter, name_shorter, rest_is}
use Rattle.syntax.proofs.Lets.{lets_not_longer}
use Rattle.expression_readers.specs.Heads.{let_head}
use Rattle.lets.specs.Frames.{Frame, Follows, last, next}

-- a token takes a byte
tokens_short : (t : Text) (k : ℕ) → length (tokens t k) ≤ length t
tokens_short [] k = zero-le
tokens_short (b ∷ bs) (suc k) = omega (arith, tokens_short bs k)
tokens_short (b ∷ bs) zero = go (lexeme (class b) b bs) (λ n. tokens_short bs n)
  where
    go : (l : Lexeme) → ((n : ℕ) → length (tokens bs n) ≤ length bs) → length (lead l (λ n. tokens bs n)) ≤ length (b ∷ bs)
    go gap h = omega (arith, h 0)
    go end h = zero-le
    go (token t n) h = omega (arith, h n)
    go bad h = omega arith

pub lex_short : (t : Text) → length (lex t) ≤ length t
lex_short t = tokens_short t 0

pub head_takes : (ts us : List Token) (x : Name) → let_head ts ≡ some (x, us) → 3 + length us ≤ length ts
head_takes ts us x e = go₁ (the "let" ts) refl e
  where
    go₃ : (vs ws : List Token) (y : Name) (o : Option (Unit {0} × List Token)) → the "=" ws ≡ o → length ws + 2 ≤ length ts
        → then_read o (λ _. give y) ≡ some (x, us) → 3 + length us ≤ length ts
    go₃ vs ws y none q l e = no_some e
    go₃ vs ws y (some r) q l e = omega (arith, sign_shorter (bytes "=") ws r.1 r.0 q, ap length (rest_is e), l)

    go₂ : (vs : List Token) (o : Option (Name × List Token)) → any_name vs ≡ o → length vs + 1 ≤ length ts
        → then_read o (λ y. the "=" >> give y) ≡ some (x, us) → 3 + length us ≤ length ts
    go₂ vs none q l e = no_some e
    go₂ vs (some r) q l e = go₃ vs r.1 r.0 (the "=" r.1) refl (omega (arith, name_shorter vs r.1 r.0 q, l)) e

    go₁ : (o : Option (Unit {0} × List Token)) → the "let" ts ≡ o → then_read o (λ _. any_name >>= λ y. the "=" >> give y) ≡ some (x, us) → 3 + length us ≤ length ts
    go₁ none q e = no_some e
    go₁ (some r) q e = go₂ r.1 (any_name r.1) refl (omega (arith, sign_shorter (bytes "let") ts r.1 r.0 q)) e

pub follows_takes : (frames : List Frame) (us : List Token) → Follows frames us → length frames ≤ length us
follows_takes [] us last = zero-le
follows_takes (k ∷ rest) us (next {vs} {ws} i e v f) =
    omega (arith, sign_shorter (bytes "in") us vs tt i, lets_not_longer (length vs) vs ws k.second e, follows_takes rest ws f)

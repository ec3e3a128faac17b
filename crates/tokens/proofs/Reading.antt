-- What an answer that is known says to a reader of the grammar.
-- Assumes nothing.
use mathlib.Core.Path.{◌≡◌, refl, sym, ap, ◌∙◌, subst}
use mathlib.Core.Option.{Option, none, some}
use mathlib.Core.List.{List, [], ◌∷◌}
use Prim.Native.Nat.{ℕ, ◌<◌}
use native.Mathlib.Omega.{arith}
use mathlib.Core.Bool.{Bool, true, false}
use Rattle.language.specs.Text.{Text, when◌then◌else◌, ◌≟◌, ◌or_else◌}
use Rattle.std.proofs.Common as Code
use Rattle.std.proofs.Common.{Some, None}
use Rattle.text.proofs.Words.{same_true}
use Rattle.language.specs.Tokens as Tokens
use Rattle.language.specs.Grammar.{the_sign}
use Rattle.tokens.specs.Readers.{any_sign, ReadPlaced}

pub no_some : {A : Type 0} {a : A} {B : Type 0} → ◌≡◌ {A = Option A} none (some a) → B
no_some e = absurd (let z : ◌≡◌ {A = ℕ} 0 1 = cc in omega arith)

-- an answer r that is s: what it means, and what is known of it
pub told : {A B : Type 0} (f : A → B) {r s : A} {m : B} → f r ≡ m → r ≡ s → m ≡ f s
told f e is = sym e ∙ ap f is

pub known : {A : Type 0} (P : A → Type 0) {r s : A} → P r → r ≡ s → P s
known P p is = subst P is p

-- ---- the keyword or mark w is the one that stands there
module _ (w : Text) (ts : List Tokens.Token) where
  pub sign_none : any_sign ts ≡ none → the_sign w ts ≡ none
  sign_none = go ts
    where
      go : (ts : List Tokens.Token) → any_sign ts ≡ none → the_sign w ts ≡ none
      go [] e = refl
      go (Tokens.sign v ∷ ts) e = absurd (let z : ◌≡◌ {A = ℕ} 0 1 = cc in omega arith)
      go (Tokens.ident v ∷ ts) e = refl
      go (Tokens.text v ∷ ts) e = refl
      go (Tokens.wrong ∷ ts) e = refl

pub sign_is : (ts : List Tokens.Token) {v : Text} {us : List Tokens.Token} → any_sign ts ≡ some (v, us) → ts ≡ Tokens.sign v ∷ us
sign_is [] e = no_some e
sign_is (Tokens.sign w ∷ ts) {v} {us} e =
    let p : ◌≡◌ {A = Text × List Tokens.Token} (w, ts) (v, us) = cc in
    ap (λ (q : Text × List Tokens.Token). Tokens.sign q.0 ∷ q.1) p
sign_is (Tokens.ident v ∷ ts) e = no_some e
sign_is (Tokens.text v ∷ ts) e = no_some e
sign_is (Tokens.wrong ∷ ts) e = no_some e

-- the keyword or mark that was read stands there
pub the_is : (w : Text) (ts : List Tokens.Token) {us : List Tokens.Token} → the_sign w ts ≡ some (tt, us) → ts ≡ Tokens.sign w ∷ us
the_is w [] e = no_some e
the_is w (Tokens.sign v ∷ ts) {us} e = go (v ≟ w) refl e
  where
    go : (t : Bool) → (v ≟ w) ≡ t → when◌then◌else◌ {A = Option (Unit {0} × List Tokens.Token)} t (some (tt, ts)) none ≡ some (tt, us) → Tokens.sign v ∷ ts ≡ Tokens.sign w ∷ us
    go true q e =
        let p : ◌≡◌ {A = Unit {0} × List Tokens.Token} (tt, ts) (tt, us) = cc in
        let y : ts ≡ us = ap (λ (q : Unit {0} × List Tokens.Token). q.1) p in
        rw (same_true v w q, y)
    go false q e = no_some e
the_is w (Tokens.ident v ∷ ts) e = no_some e
the_is w (Tokens.text v ∷ ts) e = no_some e
the_is w (Tokens.wrong ∷ ts) e = no_some e

pub or_else_none : {A : Type 0} (o : Option A) → (o or_else none) ≡ o
or_else_none none = refl
or_else_none (some a) = refl

-- a keyword or mark that is w
pub spelled : {ts us : List Tokens.Token} {v : Text} (w : Text) → ts ≡ Tokens.sign v ∷ us → (v ≟ w) ≡ true → ts ≡ Tokens.sign w ∷ us
spelled {ts} {us} {v} w e q = e ∙ ap (λ (x : Text). Tokens.sign x ∷ us) (same_true v w q)

-- what is past a later place is past an earlier one
pub read_later : {A : Type 0} (W : Text → A → Type 0) (t : Text) (at n : ℕ) (r : Code.Option A) (m : ℕ) → at < n → ReadPlaced W t n r m → ReadPlaced W t at r m
read_later W t at n (Some x) m h p = (p.0, omega arith, p.2)
read_later W t at n None m h p = tt

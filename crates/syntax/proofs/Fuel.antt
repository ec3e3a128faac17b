-- A record's reader, without the number that bounds its fields: any number of tokens or more gives the same.
-- Assumes nothing.
use mathlib.Core.Path.{◌≡◌, refl, sym, ap, ◌∙◌}
use mathlib.Core.List.{List, [], ◌∷◌}
use mathlib.Core.Option.{Option, none, some}
use mathlib.Core.Bool.{Bool, true, false}
use Prim.Native.Nat.{ℕ, zero, suc, ◌+◌, ◌-◌, ◌≤◌, ◌<◌}
use native.Mathlib.Omega.{arith}
use lib.ListN.{length}
use native.Mathlib.Nat.{add-zero, add-suc}
use Rattle.language.specs.Text.{Text, when◌then◌else◌, bytes, ◌≟◌, ◌or_else◌}
use Rattle.language.specs.Tokens.{Token, sign, ident, text, wrong}
use Rattle.language.specs.Syntax.{Binding, name, dot, quoted}
use Rattle.language.specs.Grammar.{Reader, then_read, ◌>>=◌, ◌>>◌, ◌∣◌, give, the_sign, the, any_name, any_string, any_operand, field_or_variable, any_fields}
use Rattle.tokens.proofs.Reading.{no_some}

-- a reader takes a token, or none
abbrev pub Shorter : {A : Type 0} → Reader A → Type 0
Shorter {A} m = (ts us : List Token) (a : A) → m ts ≡ some (a, us) → length us < length ts

abbrev pub NotLonger : {A : Type 0} → Reader A → Type 0
NotLonger {A} m = (ts us : List Token) (a : A) → m ts ≡ some (a, us) → length us ≤ length ts

pub rest_is : {A : Type 0} {a b : A} {us vs : List Token} → ◌≡◌ {A = Option (A × List Token)} (some (a, us)) (some (b, vs)) → us ≡ vs
rest_is {A} {a} {b} {us} {vs} e = let p : ◌≡◌ {A = A × List Token} (a, us) (b, vs) = cc in ap (λ (q : A × List Token). q.1) p

pub sign_shorter : (s : Text) → Shorter (the_sign s)
sign_shorter s [] us a e = no_some e
sign_shorter s (sign w ∷ ts) us a e = go (w ≟ s) e
  where
    go : (t : Bool) → when◌then◌else◌ {A = Option (Unit {0} × List Token)} t (some (tt, ts)) none ≡ some (a, us) → length us < suc (length ts)
    go true q = omega (arith, ap length (rest_is q))
    go false q = no_some q
sign_shorter s (ident w ∷ ts) us a e = no_some e
sign_shorter s (text w ∷ ts) us a e = no_some e
sign_shorter s (wrong ∷ ts) us a e = no_some e

pub name_shorter : Shorter any_name
name_shorter [] us a e = no_some e
name_shorter (sign w ∷ ts) us a e = no_some e
name_shorter (ident w ∷ ts) us a e = omega (arith, ap length (rest_is e))
name_shorter (text w ∷ ts) us a e = no_some e
name_shorter (wrong ∷ ts) us a e = no_some e

string_shorter : Shorter any_string
string_shorter [] us a e = no_some e
string_shorter (sign w ∷ ts) us a e = no_some e
string_shorter (ident w ∷ ts) us a e = no_some e
string_shorter (text w ∷ ts) us a e = omega (arith, ap length (rest_is e))
string_shorter (wrong ∷ ts) us a e = no_some e

pub give_not_longer : {A : Type 0} (b : A) → NotLonger (give b)
give_not_longer b ts us a e = omega (arith, ap length (rest_is e))

pub weaker : {A : Type 0} (m : Reader A) → Shorter m → NotLonger m
weaker m h ts us a e = omega (arith, h ts us a e)

pub bind_not_longer : {A B : Type 0} (m : Reader A) (f : A → Reader B) → NotLonger m → ((a : A) → NotLonger (f a)) → NotLonger (m >>= f)
bind_not_longer {A} {B} m f h k ts us b e = go (m ts) refl e
  where
    go : (r : Option (A × List Token)) → m ts ≡ r → then_read r f ≡ some (b, us) → length us ≤ length ts
    go none q p = no_some p
    go (some r) q p = omega (arith, h ts r.1 r.0 q, k r.0 r.1 us b p)

pub or_not_longer : {A : Type 0} (m n : Reader A) → NotLonger m → NotLonger n → NotLonger (m ∣ n)
or_not_longer {A} m n h k ts us a e = go (m ts) refl e
  where
    go : (r : Option (A × List Token)) → m ts ≡ r → r or_else n ts ≡ some (a, us) → length us ≤ length ts
    go none q p = k ts us a p
    go (some r) q p = h ts us a (q ∙ p)

pub operand_not_longer : NotLonger any_operand
operand_not_longer =
    or_not_longer _ _
    (bind_not_longer any_name field_or_variable (weaker any_name name_shorter) (λ x.
    or_not_longer _ (give (name x))
    (bind_not_longer (the ".") _ (weaker (the ".") (sign_shorter (bytes "."))) (λ _.
    bind_not_longer any_name _ (weaker any_name name_shorter) (λ y. give_not_longer (dot x y))))
    (give_not_longer (name x))))
    (bind_not_longer any_string _ (weaker any_string string_shorter) (λ s. give_not_longer (quoted s)))

-- two readers agree on at most n tokens
abbrev pub Agree : {A : Type 0} → ℕ → Reader A → Reader A → Type 0
Agree n m k = (ts : List Token) → length ts ≤ n → m ts ≡ k ts

pub bind_agree : {A B : Type 0} (n : ℕ) (m : Reader A) (f g : A → Reader B) → NotLonger m → ((a : A) → Agree n (f a) (g a)) → Agree n (m >>= f) (m >>= g)
bind_agree {A} n m f g h k ts l = go (m ts) refl
  where
    go : (r : Option (A × List Token)) → m ts ≡ r → then_read r f ≡ then_read r g
    go none q = refl
    go (some r) q = k r.0 r.1 (omega (arith, h ts r.1 r.0 q))

pub bind_agree_less : {A B : Type 0} (n : ℕ) (m : Reader A) (f g : A → Reader B) → Shorter m → ((a : A) → Agree n (f a) (g a)) → Agree (suc n) (m >>= f) (m >>= g)
bind_agree_less {A} n m f g h k ts l = go (m ts) refl
  where
    go : (r : Option (A × List Token)) → m ts ≡ r → then_read r f ≡ then_read r g
    go none q = refl
    go (some r) q = k r.0 r.1 (omega (arith, h ts r.1 r.0 q))

none_more : Agree zero (any_fields zero) (any_fields (suc zero))
none_more [] l = refl
none_more (t ∷ ts) l = absurd (omega arith)

-- a field, then the brace, or a comma and what `others` reads
abbrev pub one_field : Reader (List Binding) → Reader (List Binding)
one_field others = do
  x ← any_name
  the "="
  v ← any_operand
  (do the "}"; give (record { label = x; operand = v } ∷ [])) ∣ (do the ","; rest ← others; give (record { label = x; operand = v } ∷ rest))

-- readers that agree on the tokens that are left make one that agrees
field_agree : (n : ℕ) (m k : Reader (List Binding)) → Agree n m k → Agree (suc n) (one_field m) (one_field k)
field_agree n m k h =
    bind_agree_less n any_name _ _ name_shorter (λ x.
    bind_agree n (the "=") _ _ (weaker (the "=") (sign_shorter (bytes "="))) (λ _.
    bind_agree n any_operand _ _ operand_not_longer (λ v ts l.
    ap (λ r. ((the "}" >>= λ _. give (record { label = x; operand = v } ∷ [])) ts) or_else r)
    (bind_agree n (the ",") _ _ (weaker (the ",") (sign_shorter (bytes ","))) (λ _ us q.
    ap (λ r. then_read r (λ rest. give (record { label = x; operand = v } ∷ rest))) (h us q)) ts l))))

one_more : (n : ℕ) → Agree n (any_fields n) (any_fields (suc n))
one_more zero = none_more
one_more (suc n) = field_agree n (any_fields n) (any_fields (suc n)) (one_more n)

-- any bound that is large enough will do
enough : (d : ℕ) (ts : List Token) → any_fields (length ts + d) ts ≡ any_fields (length ts) ts
enough zero ts = rw (add-zero (length ts))
enough (suc d) ts = rw (add-suc (length ts) d) (sym (one_more (length ts + d) ts (omega arith)) ∙ enough d ts)

-- the fields of a record, whatever bound is large enough
abbrev pub all_fields : Reader (List Binding)
all_fields ts = any_fields (length ts) ts

bounded : (n : ℕ) → Agree n (any_fields n) all_fields
bounded n ts l =
    let q : length ts + (n - length ts) ≡ n = omega arith in
    ap (λ (k : ℕ). any_fields k ts) (sym q) ∙ enough (n - length ts) ts

-- a record is a field, then the brace, or a comma and a record
pub record_step : (ts : List Token) → all_fields ts ≡ one_field all_fields ts
record_step ts = one_more (length ts) ts (omega arith) ∙ field_agree (length ts) (any_fields (length ts)) all_fields (bounded (length ts)) ts (omega arith)

-- What a function comes to is decided by the strings that its arguments are; and what is known of the source of an operand.
-- Assumes nothing.
use mathlib.Core.Path.{◌≡◌, refl, sym, ap, subst}
use Prim.Native.Nat.{ℕ, ◌≤◌}
use native.Mathlib.Omega.{arith}
use mathlib.Core.Option.{Option, none, some}
use mathlib.Core.List.{List, [], ◌∷◌}
use lib.Dec.{T}
use lib.ListN.{length}
use Rattle.language.specs.Text.{Text}
use Rattle.language.specs.Syntax.{Function, Operand, tolower, call}
use Rattle.language.specs.Programs.{longest}
use Rattle.language.specs.State.{string, fields, Value, single, list}
use Rattle.language.specs.Outcomes.{◌>>=◌, from}
use Rattle.language.specs.Values.{Session, as_string, operand_value, lookup}
use Rattle.language.specs.Functions.{lowercase, apply}
use Rattle.language.specs.Expressions.{weighed, term_value}
use Rattle.language.proofs.Parsing.ValidPrograms.{valid_operand}
use Rattle.store.specs.Held.{places}
use Rattle.text.specs.Meaning.{part}
use Rattle.syntax.specs.declared.Operand as Read
use Rattle.syntax.specs.declared.Operand.TheVariants.{Name, Field, Quoted}
use Rattle.syntax.specs.Values.{operand_meant}
use Rattle.evaluated.specs.Results.{string_in, MaybeString}
use Rattle.application.specs.Applied.{lowered_to, applied_to}
use Rattle.application.proofs.Heavier.{no_second}
use Rattle.scopes.specs.Scopes.{Scope, SourceOf}
use Rattle.evaluate.proofs.Found.{string_read, field_read, dot_string, read_short}

-- ---- by the strings

lower_value : (v : Value) → (from (lowercase v) >>= weighed (v ∷ [])) ≡ lowered_to (as_string v)
lower_value (single (string t)) = refl
lower_value (single (fields fs)) = refl
lower_value (list es) = refl

pub lower_is : (s : Session) (o : Operand) → term_value s (tolower o) ≡ lowered_to (string_in (operand_value s o))
lower_is s o = go (operand_value s o)
  where
    go : (p : Option Value) → (from p >>= λ v. from (lowercase v) >>= weighed (v ∷ [])) ≡ lowered_to (string_in p)
    go none = refl
    go (some v) = lower_value v

call_value : (f : Function) (v w : Value) → (from (apply f v w) >>= weighed (v ∷ w ∷ [])) ≡ applied_to f (as_string v) (as_string w)
call_value f (single (string t)) (single (string u)) = refl
call_value f (single (string t)) (single (fields gs)) = refl
call_value f (single (string t)) (list ds) = refl
call_value f (single (fields fs)) w = refl
call_value f (list es) w = refl

pub call_is : (s : Session) (f : Function) (o p : Operand) → term_value s (call f o p) ≡ applied_to f (string_in (operand_value s o)) (string_in (operand_value s p))
call_is s f o p = go (operand_value s o) (operand_value s p)
  where
    go : (a b : Option Value) → (from a >>= λ v. from b >>= λ w. from (apply f v w) >>= weighed (v ∷ w ∷ [])) ≡ applied_to f (string_in a) (string_in b)
    go none b = refl
    go (some v) none = sym (no_second f (as_string v))
    go (some v) (some w) = call_value f v w

-- ---- what was found

-- a string that stands in the source of a valid operand is of the string alphabet
pub source_string : (s : Session) (t u : Text) (v : Read.Operand) → SourceOf s t v u → T (valid_operand (operand_meant t v)) → MaybeString (string_in (operand_value s (operand_meant t v)))
source_string s t u (Name x) h k = string_read (lookup s (part t x)) u h
source_string s t u (Field x y) h k = subst MaybeString (dot_string s (part t x) (part t y)) (field_read (lookup s (part t x)) (part t y) u h)
source_string s t u (Quoted q) h k = k

-- no source is longer than 131,072 bytes
pub source_short : {s : Session} {shared : Text} {slots : List ℕ} {count : ℕ} {locals : Text} {lslots : List ℕ} {lcount : ℕ} → Scope s shared slots count locals lslots lcount
    → (t u : Text) (v : Read.Operand) → SourceOf s t v u → length t ≤ longest → length u ≤ places
source_short S t u (Name x) h k = read_short S (part t x) u h
source_short S t u (Field x y) h k = read_short S (part t x) u h
source_short S t u (Quoted q) h k = omega (arith, ap length h, k)

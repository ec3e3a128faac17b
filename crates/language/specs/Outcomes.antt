-- Document 01, "Commands": what can be done, what cannot be (FAILED), and what would weigh too much (FULL). FAILED goes before FULL.
use Rattle.std.specs.Prelude.{Bool, true, false, List, [], ◌∷◌}
use Rattle.std.proofs.Math.Option.{Option, none, some}

pub data Outcome (A : Type 0) : Type 0 where
  gives : A → Outcome A
  fails fills : Outcome A

-- `do` blocks over outcomes: what comes later is tried only where the earlier gives something
infixl 20 ◌>>=◌
abbrev pub ◌>>=◌ : {A B : Type 0} → Outcome A → (A → Outcome B) → Outcome B
gives a >>= f = f a
fails >>= f = fails
fills >>= f = fills

infixl 20 ◌>>◌
abbrev pub ◌>>◌ : {B : Type 0} → Outcome (Unit {0}) → Outcome B → Outcome B
gives u >> o = o
fails >> o = fails
fills >> o = fills

-- what is missing cannot be done
abbrev pub from : {A : Type 0} → Option A → Outcome A
from none = fails
from (some a) = gives a

-- a condition in such a block
abbrev pub provided : Bool → Outcome (Unit {0})
provided true = gives tt
provided false = fails

-- one more result in front of others
abbrev pub with_others : {A : Type 0} → Outcome A → Outcome (List A) → Outcome (List A)
with_others (gives a) (gives bs) = gives (a ∷ bs)
with_others (gives a) fails = fails
with_others (gives a) fills = fills
with_others fails bs = fails
with_others fills (gives bs) = fills
with_others fills fails = fails
with_others fills fills = fills

-- each is tried, also after one that fails or would weigh too much
abbrev pub each_of : {A B : Type 0} → (A → Outcome B) → List A → Outcome (List B)
each_of f [] = gives []
each_of f (a ∷ rest) = with_others (f a) (each_of f rest)

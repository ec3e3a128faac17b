-- What a `do` block over outcomes gives, where it gives something.
use mathlib.Core.Bool.{Bool, true, false}
use mathlib.Core.Option.{Option, none, some}
use mathlib.Core.List.{List, [], ◌∷◌}
use lib.Dec.{T}
use Rattle.language.specs.Text.{all}
use Rattle.language.specs.Outcomes.{Outcome, gives, fails, fills, ◌>>=◌, ◌>>◌, from, provided, with_others, each_of}
use Rattle.language.proofs.Logic.Tests.{both, and}
use Rattle.language.proofs.Logic.Outcomes.{Where}

-- P holds of what is given
abbrev pub Giving : {A : Type 0} → (A → Type 0) → Outcome A → Type 0
Giving P (gives a) = P a
Giving P fails = Unit {0}
Giving P fills = Unit {0}

pub giving_any : {A : Type 0} (o : Outcome A) → Giving (λ a. Unit {0}) o
giving_any (gives a) = tt
giving_any fails = tt
giving_any fills = tt

pub giving_map : {A : Type 0} (P Q : A → Type 0) (o : Outcome A) → ((a : A) → P a → Q a) → Giving P o → Giving Q o
giving_map P Q (gives a) f h = f a h
giving_map P Q fails f h = tt
giving_map P Q fills f h = tt

pub bind_giving : {A B : Type 0} (P : A → Type 0) (Q : B → Type 0) (o : Outcome A) (k : A → Outcome B)
    → Giving P o → ((a : A) → P a → Giving Q (k a)) → Giving Q (o >>= k)
bind_giving P Q (gives a) k h f = f a h
bind_giving P Q fails k h f = tt
bind_giving P Q fills k h f = tt

pub from_giving : {A : Type 0} (P : A → Type 0) (o : Option A) → Where P o → Giving P (from o)
from_giving P none h = tt
from_giving P (some a) h = h

-- what is missing is not tried further
pub bind_from : {A B : Type 0} (P : A → Type 0) (Q : B → Type 0) (o : Option A) (k : A → Outcome B)
    → Where P o → ((a : A) → P a → Giving Q (k a)) → Giving Q (from o >>= k)
bind_from P Q o k h f = bind_giving P Q (from o) k (from_giving P o h) f

pub provided_giving : {B : Type 0} (Q : B → Type 0) (b : Bool) (o : Outcome B) → (T b → Giving Q o) → Giving Q (provided b >> o)
provided_giving Q true o f = f tt
provided_giving Q false o f = tt

-- as many results as there are arguments, all of them good
pub each_of_giving : {A B : Type 0} (f : A → Outcome B) (P : A → Bool) (Q : B → Bool)
    → ((a : A) → T (P a) → Giving (λ b. T (Q b)) (f a)) → (l : List A) → T (all P l) → Giving (λ m. T (all Q m)) (each_of f l)
each_of_giving f P Q one [] h = tt
each_of_giving {A} {B} f P Q one (a ∷ l) h =
    let (h₁, h₂) = both (P a) (all P l) h in
    go (f a) (each_of f l) (one a h₁) (each_of_giving f P Q one l h₂)
  where
    go : (o : Outcome B) (r : Outcome (List B)) → Giving (λ b. T (Q b)) o → Giving (λ m. T (all Q m)) r → Giving (λ m. T (all Q m)) (with_others o r)
    go (gives b) (gives m) i j = and (Q b) (all Q m) i j
    go (gives b) fails i j = tt
    go (gives b) fills i j = tt
    go fails r i j = tt
    go fills (gives m) i j = tt
    go fills fails i j = tt
    go fills fills i j = tt

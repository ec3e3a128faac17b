-- What a `do` block gives, where it gives something.
use mathlib.Core.Bool.{Bool, true, false, not}
use mathlib.Core.Option.{Option, none, some}
use mathlib.Core.List.{List, [], ◌∷◌}
use Prim.Native.Nat.{suc}
use lib.ListN.{length}
use mathlib.Core.Path.{◌≡◌, refl, ap}
use lib.Dec.{T}
use Rattle.language.specs.Text.{when◌then◌else◌, ◌>>=◌, ◌>>◌, given, ◌or_else◌, all, each}
use Rattle.language.proofs.Logic.Tests.{both, and}

-- P holds of what is there
abbrev pub Where : {A : Type 0} → (A → Type 0) → Option A → Type 0
Where P none = Unit {0}
Where P (some a) = P a

-- nothing is asked
pub anything : {A : Type 0} (o : Option A) → Where (λ a. Unit {0}) o
anything none = tt
anything (some a) = tt

pub where_map : {A : Type 0} (P Q : A → Type 0) (o : Option A) → ((a : A) → P a → Q a) → Where P o → Where Q o
where_map P Q none f h = tt
where_map P Q (some a) f h = f a h

pub bind_where : {A B : Type 0} (P : A → Type 0) (Q : B → Type 0) (o : Option A) (k : A → Option B)
    → Where P o → ((a : A) → P a → Where Q (k a)) → Where Q (o >>= k)
bind_where P Q none k h f = tt
bind_where P Q (some a) k h f = f a h

pub given_where : {B : Type 0} (Q : B → Type 0) (b : Bool) (o : Option B) → (T b → Where Q o) → Where Q (given b >> o)
given_where Q true o f = f tt
given_where Q false o f = tt

pub if_where : {A : Type 0} (Q : A → Type 0) (b : Bool) (o p : Option A)
    → (T b → Where Q o) → (T (not b) → Where Q p) → Where Q (when b then o else p)
if_where Q true o p f g = f tt
if_where Q false o p f g = g tt

pub or_else_where : {A : Type 0} (Q : A → Type 0) (o p : Option A) → Where Q o → Where Q p → Where Q (o or_else p)
or_else_where Q none p h k = k
or_else_where Q (some a) p h k = h

-- as many results as there are arguments, all of them good
pub each_where : {A B : Type 0} (f : A → Option B) (P : A → Bool) (Q : B → Bool)
    → ((a : A) → T (P a) → Where (λ b. T (Q b)) (f a)) → (l : List A) → T (all P l)
    → Where (λ m. T (all Q m) × (length m ≡ length l)) (each f l)
each_where f P Q one [] h = (tt, refl)
each_where f P Q one (a ∷ l) h =
    let (h₁, h₂) = both (P a) (all P l) h in
    bind_where (λ b. T (Q b)) (λ m. T (all Q m) × (length m ≡ length (a ∷ l))) (f a) (λ b. each f l >>= λ bs. some (b ∷ bs)) (one a h₁)
    (λ b q. bind_where (λ m. T (all Q m) × (length m ≡ length l)) (λ m. T (all Q m) × (length m ≡ length (a ∷ l))) (each f l) (λ bs. some (b ∷ bs))
    (each_where f P Q one l h₂) (λ bs r. (and (Q b) (all Q bs) q r.0, ap suc r.1)))

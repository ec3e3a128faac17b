-- A login is right only for a principal under whose name the password is kept.
use mathlib.Core.Path.{◌≡◌, refl, sym, ap, subst}
use mathlib.Core.Bool.{Bool, true, false}
use mathlib.Core.Option.{Option, none, some}
use lib.Dec.{T}
use Rattle.language.specs.Text.{Text, when◌then◌else◌}
use Rattle.language.specs.State.{Principal}
use Rattle.language.specs.Run.{Login, mistaken, right, opens, login_as}
use Rattle.language.proofs.Logic.Tests.{==→≡}

abbrev IsRight : Login → Type 0
IsRight mistaken = ⊥
IsRight right = Unit {0}

opened : (t : Text) (o : Option Text) → T (opens t o) → o ≡ some t
opened t none h = absurd h
opened t (some u) h = ap some (sym (==→≡ t u h))

pub right_kept : (t : Text) (o : Option Principal) → login_as t o ≡ right → (k : Principal) × (o ≡ some k) × (k.password ≡ some t)
right_kept t none e = absurd (subst IsRight (sym e) tt)
right_kept t (some k) e = (k, refl, go (opens t k.password) refl e)
  where
    go : (b : Bool) → opens t k.password ≡ b → (when b then right else mistaken) ≡ right → k.password ≡ some t
    go true h e = opened t k.password (subst T (sym h) tt)
    go false h e = absurd (subst IsRight (sym e) tt)

-- A login by the record of its name: where there is none it is mistaken, and otherwise the password that is kept there decides.
-- Assumes nothing.
use mathlib.Core.Path.{◌≡◌, sym, ap, ◌∙◌}
use mathlib.Core.Bool.{Bool, true, false}
use mathlib.Core.List.{map}
use Prim.Native.Nat.{ℕ}
use Rattle.std.specs.Prelude.{Some, None}
use Rattle.language.specs.Text.{Text, when◌then◌else◌}
use Rattle.language.specs.Syntax.{Name}
use Rattle.language.specs.State.{Store, named}
use Rattle.language.specs.Run.{Login, mistaken, right, opens, login_as}
use Rattle.store.specs.Rows.{found_at, place, principal_row}
use Rattle.store.specs.Contents.{principal_at}
use Rattle.store.proofs.Answers.{principal_found, principal_missing}
use Rattle.opening.specs.Logins.{LoginMeant}

module _ (s : Store) (x : Name) (w : Text) where
  pub not_there : None ≡ place (map principal_row s.principals) x → LoginMeant None s x w
  not_there e = ap (login_as w) (principal_missing s.principals x e)

  module _ (k from to : ℕ) (e : found_at k from to ≡ place (map principal_row s.principals) x) where
    judged : (b : Bool) → b ≡ opens w (principal_at s.principals k).password → (when◌then◌else◌ {A = Login} b right mistaken) ≡ login_as w (named s.principals x)
    judged b h =
        ap (λ (c : Bool). when◌then◌else◌ {A = Login} c right mistaken) h ∙ sym (ap (login_as w) (principal_found s.principals x k from to e).is_named)

    pub let_in_lem : true ≡ opens w (principal_at s.principals k).password → LoginMeant (Some k) s x w
    let_in_lem h = (sym (judged true h), (principal_found s.principals x k from to e).number)

    pub turned_away : false ≡ opens w (principal_at s.principals k).password → LoginMeant None s x w
    turned_away h = sym (judged false h)

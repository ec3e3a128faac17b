-- Who may send a command that is reserved to admin, or to admin and one other, by the sender's number.
use mathlib.Core.Path.{◌≡◌, refl, sym, ap, ◌∙◌}
use mathlib.Core.Logic.{◌⊎◌, inl, inr}
use mathlib.Core.Bool.{Bool, true, false, ◌&&◌, ◌||◌, not}
use mathlib.Core.List.{[], ◌∷◌}
use Prim.Native.Nat.{ℕ}
use borrow.Author.Tests.{eq-eqb, ne_eqb}
use lib.Dec.{eqb}
use Rattle.language.specs.Text.{◌≟◌}
use Rattle.language.specs.Syntax.{Name}
use Rattle.language.specs.State.{admin}
use Rattle.language.specs.Values.{Session}
use Rattle.language.specs.Commands.{is_none}
use Rattle.store.specs.Rows.{position}
use Rattle.named_rights.specs.Numbers.{principals_of}
use Rattle.session.specs.declared.Layout.{Layout}
use Rattle.session.specs.Sessions.{Slices, Running}
use Rattle.session.proofs.Admin.{sender_is, sender_admin}

one : (a : Bool) → (not a && true) || false ≡ not a
one true = refl
one false = refl

two : (a b : Bool) → (not a && (not b && true)) || false ≡ not (a || b)
two true b = refl
two false true = refl
two false false = refl

right_true : (a : Bool) → a || true ≡ true
right_true true = refl
right_true false = refl

module _ (s : Session) (l : Layout) (b : Slices) (R : Running s l b) where
  -- reserved to admin
  pub others_denied : (l.sender ≡ 0 → ⊥) → is_none s (admin ∷ []) || false ≡ true
  others_denied h = one (s.sender ≟ admin) ∙ ap not (sender_admin s l b R ∙ ne_eqb l.sender 0 h)

  pub admin_may : l.sender ≡ 0 → is_none s (admin ∷ []) || false ≡ false
  admin_may h = one (s.sender ≟ admin) ∙ ap not (sender_admin s l b R ∙ eq-eqb l.sender 0 h)

  -- reserved to admin and to p, whose number is k
  module _ (p : Name) (k : ℕ) (e : k ≡ position (principals_of s.store) p) where
    sends : (s.sender ≟ p) ≡ eqb l.sender k
    sends = sender_is s l b R p ∙ ap (eqb l.sender) (sym e)

    either : is_none s (admin ∷ p ∷ []) || false ≡ not (eqb l.sender 0 || eqb l.sender k)
    either = two (s.sender ≟ admin) (s.sender ≟ p) ∙ (λ i. not (sender_admin s l b R i || sends i))

    pub strangers_denied : (l.sender ≡ 0 → ⊥) → (l.sender ≡ k → ⊥) → is_none s (admin ∷ p ∷ []) || false ≡ true
    strangers_denied h g = either ∙ (λ i. not (ne_eqb l.sender 0 h i || ne_eqb l.sender k g i))

    pub they_may : (l.sender ≡ 0) ⊎ (l.sender ≡ k) → is_none s (admin ∷ p ∷ []) || false ≡ false
    they_may (inl h) = either ∙ ap (λ (c : Bool). not (c || eqb l.sender k)) (eq-eqb l.sender 0 h)
    they_may (inr h) = either ∙ ap (λ (c : Bool). not (eqb l.sender 0 || c)) (eq-eqb l.sender k h) ∙ ap not (right_true (eqb l.sender 0))

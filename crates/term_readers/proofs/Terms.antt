-- Laws of terms: what the grammar makes of each beginning.
-- Assumes nothing.
use mathlib.Core.Path.{◌≡◌, refl, sym, ap, ◌∙◌}
use mathlib.Core.Option.{Option, none, some}
use mathlib.Core.List.{List, ◌∷◌}
use mathlib.Core.Bool.{true}
use Prim.Native.Nat.{ℕ, ◌<◌}
use native.Mathlib.Omega.{arith}
use Rattle.language.specs.Text.{Text, bytes, ◌≟◌, ◌>>=◌, present}
use Rattle.language.specs.Tokens.{Token, sign, ident}
use Rattle.language.specs.Syntax.{Operand, Binding, single, nothing, fields}
use Rattle.language.specs.Grammar.{then_read, give, field_or_variable, any_term}
use Rattle.text.proofs.Words.{same_true}
use Rattle.syntax.specs.Values.{skipped}
use Rattle.tokens.proofs.Reading.{no_some, or_else_none}
use Rattle.syntax.proofs.Fuel.{all_fields}

-- ---- past a mark
module _ (w : Text) (us : List Token) where
  opened : (w ≟ bytes "{") ≡ true → any_term (sign w ∷ us) ≡ then_read (all_fields us) (λ fs. give (fields fs))
  opened q =
      ap (λ (v : Text). any_term (sign v ∷ us)) (same_true w (bytes "{") q) ∙ or_else_none (then_read (all_fields us) (λ fs. give (fields fs)))

  pub no_record : (w ≟ bytes "{") ≡ true → skipped (all_fields us) ≡ none → any_term (sign w ∷ us) ≡ none
  no_record q f = opened q ∙ go (all_fields us) f
    where
      go : (o : Option (List Binding × List Token)) → skipped o ≡ none → then_read o (λ fs. give (fields fs)) ≡ none
      go none f = refl
      go (some r) f = no_some (sym f)

  pub one_record :
      {vs : List Token}
      → (w ≟ bytes "{") ≡ true
      → skipped (all_fields us) ≡ some (tt, vs)
      → any_term (sign w ∷ us) ≡ ((all_fields us >>= λ r. some (fields r.0)) >>= λ x. some (x, vs))
  one_record {vs} q f = opened q ∙ go (all_fields us) f
    where
      go :
          (o : Option (List Binding × List Token))
          → skipped o ≡ some (tt, vs)
          → then_read o (λ fs. give (fields fs)) ≡ ((o >>= λ r. some (fields r.0)) >>= λ x. some (x, vs))
      go none f = refl
      go (some r) f =
          let p : ◌≡◌ {A = Unit {0} × List Token} (tt, r.1) (tt, vs) = cc in
          ap (λ (q : Unit {0} × List Token). some (fields r.0, q.1)) p

-- Laws of the fields of a record.
-- Assumes nothing.
use mathlib.Core.Path.{◌≡◌, refl}
use mathlib.Core.Option.{Option, none, some}
use mathlib.Core.List.{List, ◌∷◌}
use Rattle.language.specs.Text.{Text, bytes}
use Rattle.language.specs.Tokens.{Token}
use Rattle.language.specs.Syntax.{Operand, Binding}
use Rattle.language.specs.Grammar.{then_read, give, the, any_name, any_operand}
use Rattle.syntax.specs.Values.{skipped, before}
use Rattle.tokens.proofs.Reading.{the_is}
use Rattle.syntax.proofs.Fuel.{one_field, all_fields}

pub skip_before : (b : Binding) (r : Option (List Binding × List Token)) → skipped (before b r) ≡ skipped r
skip_before b none = refl
skip_before b (some r) = refl

-- a comma is no brace
comma_first : (ts : List Token) {us : List Token} → the "," ts ≡ some (tt, us) → the "}" ts ≡ none
comma_first ts e = rw (the_is (bytes ",") ts e)

others : (b : Binding) (o : Option (List Binding × List Token)) → then_read o (λ rest. give (b ∷ rest)) ≡ before b o
others b none = refl
others b (some r) = refl

-- a field and a comma
pub comma_field :
    (ts : List Token) {us vs ws xs : List Token} {x : Text} {v : Operand}
    → any_name ts ≡ some (x, us)
    → the "=" us ≡ some (tt, vs)
    → any_operand vs ≡ some (v, ws)
    → the "," ws ≡ some (tt, xs)
    → one_field all_fields ts ≡ before (record { label = x; operand = v }) (all_fields xs)
comma_field ts {us} {vs} {ws} {xs} {x} {v} e₁ e₂ e₃ e₄ =
    let b : Binding = record { label = x; operand = v } in
    rw (e₁, e₂, e₃, comma_first ws e₄, e₄) (others b (all_fields xs))

-- What a comparison comes to is decided by the elements that its arguments are.
-- Assumes nothing.
use mathlib.Core.Path.{◌≡◌, refl, sym, ap, subst, ◌∙◌}
use mathlib.Core.Option.{Option, none, some}
use mathlib.Core.List.{[], ◌∷◌}
use Rattle.language.specs.Text.{Text}
use Rattle.language.specs.Syntax.{Name, Comparison, Operand, dot, compare}
use Rattle.language.specs.State.{Value, single, list}
use Rattle.language.specs.Outcomes.{◌>>=◌, from}
use Rattle.language.specs.Values.{Session, as_element, lookup, operand_value}
use Rattle.language.specs.Functions.{compared}
use Rattle.language.specs.Expressions.{weighed, term_value}
use Rattle.values.specs.Answers.{text_at, Placed}
use Rattle.std.specs.Prelude.{Option as Answer}
use Rattle.text.specs.declared.Span.{Span}
use Rattle.evaluated.specs.Results.{field_in, string_value}
use Rattle.equality.specs.Elements.{ElementIn, found_as, element_of, string_element, compared_to}
use Rattle.equality.proofs.Said.{found_element}
use Rattle.equality.proofs.Weighed.{no_second}
use Rattle.evaluate.proofs.Found.{dot_value}

compare_value : (c : Comparison) (v w : Value) → (from (compared c v w) >>= weighed (v ∷ w ∷ [])) ≡ compared_to c (as_element v) (as_element w)
compare_value c (single e) (single d) = refl
compare_value c (single e) (list ds) = refl
compare_value c (list es) w = refl

pub compare_is : (s : Session) (c : Comparison) (o p : Operand) → term_value s (compare c o p) ≡ compared_to c (element_of (operand_value s o)) (element_of (operand_value s p))
compare_is s c o p = go (operand_value s o) (operand_value s p)
  where
    go : (a b : Option Value) → (from a >>= λ v. from b >>= λ w. from (compared c v w) >>= weighed (v ∷ w ∷ [])) ≡ compared_to c (element_of a) (element_of b)
    go none b = refl
    go (some v) none = sym (no_second c (as_element v))
    go (some v) (some w) = compare_value c v w

-- a field that was found in the value of a name, or was not
pub dot_element : (s : Session) (x y : Name) (u : Text) (f : Answer Span) → text_at u f ≡ field_in (lookup s x) y → Placed u f → ElementIn (element_of (operand_value s (dot x y))) u (found_as f)
dot_element s x y u f e h =
    subst (λ o. ElementIn o u (found_as f)) (go (field_in (lookup s x) y) ∙ ap element_of (dot_value s x y)) (found_element u f (field_in (lookup s x) y) e h)
  where
    go : (o : Option Text) → string_element o ≡ element_of (string_value o)
    go none = refl
    go (some t) = refl

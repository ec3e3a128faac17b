use Rattle.std.proofs.Common.{◌≡◌, ap, ◌∙◌, refl, [], ◌∷◌}
use mathlib.Core.Logic.{◌⊎◌, inl, inr}
use Rattle.language.specs.Text.{Text}
use Rattle.language.specs.Syntax.{read}
use Rattle.language.specs.Expressions.{operand_names}
use Rattle.text.specs.Meaning.{part}
use Rattle.text.specs.declared.Span.{Span}
use Rattle.syntax.specs.declared.Operand.{Operand}
use Rattle.syntax.specs.declared.Operand.TheVariants as Is
use Rattle.syntax.specs.Values.{operand_meant}
use Rattle.permits.specs.Permits.{unread}
use Rattle.permits.proofs.Readers.{one_name}
use Rattle.permits.proofs.operand_readable.Goals as goal

-- a field is read with its variable
name_of : (t : Text) (v : Operand) (x : Span) → (v ≡ Is.Name x) ⊎ ((y : Span) × (v ≡ Is.Field x y)) → operand_names (operand_meant t v) ≡ part t x ∷ []
name_of t v x (inl e) = ap (λ (o : Operand). operand_names (operand_meant t o)) e
name_of t v x (inr w) = ap (λ (o : Operand). operand_names (operand_meant t o)) w.1

pub returns-in-Name : goal.returns-in-Name
returns-in-Name c s W =
    let t = c.args.text.now in
    let x = c.in-Name.x in
    ap (unread s) (name_of t c.args.v x c.in-Name.is) ∙ one_name s (part t x) c.allowed.result (c.allowed.ensures s read W refl)

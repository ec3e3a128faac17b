-- A running session as the trial of each element takes it, and as it is again after the last.
-- Assumes nothing.
use mathlib.Core.Path.{◌≡◌, sym, subst, ◌∙◌}
use Prim.Native.Nat.{ℕ, ◌≤◌}
use native.Mathlib.Omega.{arith}
use mathlib.Core.Option.{some}
use mathlib.Core.List.{List}
use lib.Dec.{T}
use lib.ListN.{length, take}
use Rattle.language.specs.Text.{Text}
use Rattle.language.specs.Syntax.{Expr}
use Rattle.language.specs.Identifiers.{is_identifier, is_name}
use Rattle.language.specs.Programs.{longest}
use Rattle.language.specs.Values.{Session}
use Rattle.language.proofs.Logic.Lists.{some_same}
use Rattle.language.proofs.Logic.Tests.{three}
use Rattle.language.proofs.Parsing.ValidPrograms.{valid_expr, valid_command}
use Rattle.language.proofs.StateText.Clean.{identifier_name}
use Rattle.text.specs.declared.Span.{Span}
use Rattle.text.specs.Meaning.{part, Within}
use Rattle.syntax.specs.declared.Expr as Read
use Rattle.syntax.specs.Values.{expr_meant, SomeExpr}
use Rattle.session.specs.declared.Layout.{Layout}
use Rattle.session.specs.Sessions.{Slices, slices, Running}
use Rattle.session.proofs.Scoping.{scope, sends}
use Rattle.session.proofs.Changes.{other_locals}
use Rattle.session.proofs.Room.{variables_short, records_few, principals_some}
use Rattle.lets.specs.Reaching.{texts}
use Rattle.permits.specs.declared.Known.{Known}
use Rattle.permits.specs.Knowledge.{terms, Knows}
use Rattle.foreach_piece.specs.declared.Way.{Way}
use Rattle.foreach_piece.specs.declared.Way.TheVariants.{Replace, Filter}
use Rattle.foreach_element.specs.Turning.{Turning, SomeTurning}
use Rattle.foreach_command.specs.Each.{command}

-- the names of a valid command
pub named : (w : Way) (y x : Text) (e : Expr) → T (valid_command (command w y x e)) → T (is_name y) × T (is_name x)
named Replace y x e h = let t = three (is_identifier y) (is_identifier x) (valid_expr e) h in (identifier_name y t.0, identifier_name x t.1)
named Filter y x e h = let t = three (is_identifier y) (is_identifier x) (valid_expr e) h in (identifier_name y t.0, identifier_name x t.1)

module _ (s : Session) (l : Layout) (b : Slices) (R : Running s l b) (text : Text) (y : Span) (e : Read.Expr) (E : SomeExpr text e) (known : Known) where
  pub turning : (u : Expr) → expr_meant text e ≡ some u → Knows known s (terms u)
      → Turning s u text (texts (take l.vars_len b.vars) b.variable_slots l.vars b.locals b.local_slots) l.locals_len l.locals y e b.assertions l.asserted l.principals l.sender known
  turning u m k = record {
    asked = record {
      meant = m;
      within = E.within;
      is_valid = subst (λ (z : Expr). T (valid_expr z)) (some_same (sym E.meant ∙ m)) E.is_valid;
      held = scope s l b R;
      in_scope = R.locals_within;
    };
    sends = sends s l b R;
    knows = k;
  }

  pub some_turning : (u : Expr) → expr_meant text e ≡ some u → Knows known s (terms u) → length text ≤ longest → Within text y → T (is_name (part text y))
      → SomeTurning text (texts (take l.vars_len b.vars) b.variable_slots l.vars b.locals b.local_slots) l.locals_len l.locals y e b.assertions l.asserted l.principals l.sender known
  some_turning u m k short w n = record {
    session = s;
    expression = u;
    turning = turning u m k;
    text_short = short;
    y_within = w;
    y_named = n;
    locals_short = omega (arith, variables_short s l b R, R.light);
    few = omega (arith, records_few s l b R, principals_some s l b R, R.light);
    slots_room = omega (arith, records_few s l b R, principals_some s l b R, R.light, R.sized.local_slots_size);
  }

-- the same session, whose locals' slots are changed where they stand for no record
pub running_again : (s : Session) (u : Expr) (l : Layout) (b : Slices) → Running s l b → (slots : List ℕ) (text : Text) (y : Span) (e : Read.Expr) (known : Known)
    → length slots ≡ length b.local_slots
    → Turning s u text (texts (take l.vars_len b.vars) b.variable_slots l.vars b.locals slots) l.locals_len l.locals y e b.assertions l.asserted l.principals l.sender known
    → Running s l (slices b.principals b.principal_slots b.vars b.variable_slots b.locals slots b.assertions)
running_again s u l b R slots text y e known q I =
    other_locals s l b R s.locals b.locals slots l.locals_len l.locals l.weight R.sized.locals_size (q ∙ R.sized.local_slots_size) I.asked.held.locals_held
    R.locals_within R.ready.is_good.locals_valid R.weighed R.light

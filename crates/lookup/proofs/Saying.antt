-- What a command says, in the session in which it is asked for.
use mathlib.Core.Path.{◌≡◌, sym, subst, ◌∙◌}
use Prim.Native.Nat.{ℕ}
use native.Mathlib.Omega.{arith}
use mathlib.Core.Option.{some, some-injective}
use mathlib.Core.List.{List}
use lib.Dec.{T, leb}
use lib.ListN.{length, take}
use lib.Seq.{take_all}
use Rattle.language.specs.Text.{Text}
use Rattle.language.specs.Syntax.{Expr}
use Rattle.language.specs.Values.{Session}
use Rattle.language.specs.Weight.{limit, store_weight}
use Rattle.language.specs.Valid.{well_formed}
use Rattle.language.proofs.Logic.Tests.{both}
use Rattle.language.proofs.StateText.Shape.{shape}
use Rattle.language.proofs.Parsing.ValidPrograms.{valid_expr}
use Rattle.syntax.specs.declared.Expr as Read
use Rattle.syntax.specs.Values.{expr_meant, SomeExpr}
use Rattle.scopes.specs.Scopes.{Scope}
use Rattle.permits.specs.Permits.{Sends}
use Rattle.lets.specs.Frames.{environment}
use Rattle.lets.specs.Reaching.{Texts, texts}
use Rattle.lets.specs.Giving.{Starts}
use Rattle.expression_answer.specs.Asking.{Asked}
use Rattle.session.specs.declared.Layout.{Layout}
use Rattle.lookup.specs.Looks.{Scoped}

pub asked : (s : Session) (l : Layout) (vars : Text) (variable_slots : List ℕ) (locals : Text) (local_slots : List ℕ) (t : Text) (e : Read.Expr) (y : Expr)
    → Scoped s l vars variable_slots locals local_slots → SomeExpr t e → expr_meant t e ≡ some y
    → Asked s y t (texts (take l.vars_len vars) variable_slots l.vars (take l.locals_len locals) local_slots) (length (take l.locals_len locals)) l.locals e
asked s l vars variable_slots locals local_slots t e y S E m = record {
  meant = m;
  within = E.within;
  is_valid = subst (λ (z : Expr). T (valid_expr z)) (some-injective E.expression y (sym E.meant ∙ m)) E.is_valid;
  held = subst (λ (u : Text). Scope s (take l.vars_len vars) variable_slots l.vars u local_slots l.locals) (sym (take_all (length (take l.locals_len locals)) (take l.locals_len locals) (omega arith))) S.scope;
  in_scope = omega arith;
}

-- the same locals beside the shared variables of another session that stand in the same text
pub other_store : {s : Session} {y : Expr} {t : Text} {b : Texts} {len number at : ℕ} {assertions : List ℕ} {n principals sender : ℕ} (z : Session) → Starts s y t b len number at
    → Sends z b.shared b.slots b.count assertions n principals sender → Starts (environment z s.locals 0).session y t b len number at
other_store z S W = record {
  others = S.others;
  within = S.within;
  reads = S.reads;
  is_valid = S.is_valid;
  held = record {
    shared_held = W.shared_held;
    locals_held = S.held.locals_held;
    shared_valid = (shape z.store (both (well_formed z.store) (leb (store_weight z.store) limit) W.is_valid).0).variables_valid;
    locals_valid = S.held.locals_valid;
  };
  in_scope = S.in_scope;
}

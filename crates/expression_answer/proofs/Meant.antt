-- What an expression that is asked for says: a term, or a `let`.
use mathlib.Core.Path.{◌≡◌, refl, sym, ap, subst, ◌∙◌}
use Prim.Native.Nat.{ℕ}
use mathlib.Core.Option.{Option, none, some, some-injective}
use mathlib.Core.List.{List}
use Rattle.language.specs.Text.{Text, ◌>>=◌}
use Rattle.language.specs.Tokens.{Token}
use Rattle.language.specs.Syntax as Syntax
use Rattle.language.specs.Values.{Session}
use Rattle.tokens.proofs.Reading.{no_some}
use Rattle.syntax.specs.declared.Expr.{Expr}
use Rattle.syntax.specs.declared.Expr.TheVariants as ExprOf
use Rattle.syntax.specs.declared.Term as Read
use Rattle.syntax.specs.Values.{expr_meant, ExprWithin, expression_at, SomeTerm, SomeExpr}
use Rattle.syntax.proofs.Said.{IsTerm, term_of, term_said}
use Rattle.lets.specs.Reaching.{Texts}
use Rattle.lets.specs.Giving.{Starts}
use Rattle.expression_answer.specs.Asking.{Asked}

module _ {s : Session} {x : Syntax.Expr} {t : Text} {b : Texts} {len number : ℕ} {e : Expr} (A : Asked s x t b len number e) where
  said : SomeExpr t e
  said = record { expression = x; meant = A.meant; within = A.within; is_valid = A.is_valid }

  module _ (r : Read.Term) (q : e ≡ ExprOf.Term r) where
    pub as_term : IsTerm t r x
    as_term = term_of t e r q x A.meant

    pub some_term : SomeTerm t r
    some_term = term_said t e r q said

  module _ (p : ℕ) (q : e ≡ ExprOf.Let p) where
    pub as_let : Starts s x t b len number p
    as_let = go (expression_at t p) refl (sym (ap (expr_meant t) q) ∙ A.meant)
      where
        w : ExprWithin t (ExprOf.Let p)
        w = subst (ExprWithin t) q A.within

        go : (o : Option (Syntax.Expr × List Token)) → expression_at t p ≡ o → (o >>= λ r. some r.0) ≡ some x → Starts s x t b len number p
        go none h k = no_some k
        go (some r) h k = record {
          others = r.1;
          within = w.0;
          reads = h ∙ ap (λ (y : Syntax.Expr). some (y, r.1)) (some-injective r.0 x k);
          is_valid = A.is_valid;
          held = A.held;
          in_scope = A.in_scope;
        }

    pub let_kept : (b' : Texts) → Starts s x t b' len number p → Asked s x t b' len number e
    let_kept b' S = record { meant = A.meant; within = A.within; is_valid = A.is_valid; held = S.held; in_scope = S.in_scope }

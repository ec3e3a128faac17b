-- What a text says at the places of an expression, and at the fields of a record one by one.
-- Assumes nothing.
use mathlib.Core.Path.{◌≡◌, refl, sym, ap, subst, ◌∙◌}
use Prim.Native.Nat.{ℕ}
use native.Mathlib.Omega.{arith}
use mathlib.Core.Bool.{Bool, true, false}
use mathlib.Core.Option.{Option, none, some, some-injective}
use mathlib.Core.List.{List, [], ◌∷◌}
use lib.Dec.{T}
use lib.ListN.{drop}
use Rattle.language.specs.Text.{Text, ◌>>=◌, present}
use Rattle.language.specs.Tokens.{Token, lex}
use Rattle.language.specs.Syntax.{Binding, Term, single, nothing, fields, tolower, call, compare, Expr, term}
use Rattle.language.proofs.Parsing.ValidPrograms.{valid_term, valid_expr, valid_operand}
use Rattle.syntax.specs.declared.Term as Read
use Rattle.syntax.specs.declared.Term.TheVariants.{Single, Empty, Record, Lower, Call, Compare}
use Rattle.syntax.specs.declared.Expr as ReadExpr
use Rattle.syntax.specs.declared.Expr.TheVariants as ExprOf
use Rattle.syntax.specs.declared.Function as ReadFunction
use Rattle.syntax.specs.declared.Comparison as ReadComparison
use Rattle.syntax.specs.declared.Operand as ReadOperand
use Rattle.syntax.specs.Values.{operand_meant, OperandWithin, record_at, before, with_field, function_meant, comparison_meant, term_meant, TermWithin, expression_at, expr_meant, ExprWithin, SomeTerm, SomeExpr, SomeRecord}
use Rattle.tokens.proofs.Reading.{no_some}
use Rattle.language.proofs.Logic.Tests.{both}

-- ---- expressions

pub bound : {A B : Type 0} (o : Option A) (k : A → B) → present o ≡ true → present (o >>= λ v. some (k v)) ≡ true
bound none k e = e
bound (some a) k e = refl

-- what was read means something
pub term_there : (t : Text) (e : Read.Term) → TermWithin t e → present (term_meant t e) ≡ true
term_there t (Single v) h = refl
term_there t Empty h = refl
term_there t (Record p) h = bound (record_at t p) (λ r. fields r.0) h.1
term_there t (Lower v) h = refl
term_there t (Call f v w) h = refl
term_there t (Compare k v w) h = refl

pub expr_there : (t : Text) (e : ReadExpr.Expr) → ExprWithin t e → present (expr_meant t e) ≡ true
expr_there t (ExprOf.Term e) h = bound (term_meant t e) term (term_there t e h)
expr_there t (ExprOf.Let p) h = bound (expression_at t p) (λ r. r.0) h.1

-- the term that an expression is, where it was read as one
pub record IsTerm (t : Text) (e : Read.Term) (x : Expr) : Type 0 where
  pub the_term : Term
  pub meant : term_meant t e ≡ some the_term
  pub is : x ≡ term the_term

module _ (t : Text) (e : ReadExpr.Expr) (r : Read.Term) (q : e ≡ ExprOf.Term r) where
  pub term_of : (x : Expr) → expr_meant t e ≡ some x → IsTerm t r x
  term_of x m = go (term_meant t r) refl (sym (ap (expr_meant t) q) ∙ m)
    where
      go : (o : Option Term) → term_meant t r ≡ o → (o >>= λ y. some (term y)) ≡ some x → IsTerm t r x
      go none h k = no_some k
      go (some y) h k = record { the_term = y; meant = h; is = sym (some-injective (term y) x k) }

  pub term_said : SomeExpr t e → SomeTerm t r
  term_said E =
      let I = term_of E.expression E.meant in
      record {
        term = I.the_term;
        meant = I.meant;
        within = subst (ExprWithin t) q E.within;
        is_valid = subst (λ (x : Expr). T (valid_expr x)) I.is E.is_valid;
      }

-- the fields of a record that is a term
pub record Fields (t : Text) (p : ℕ) (x : Term) : Type 0 where
  pub bindings : List Binding
  pub others : List Token
  pub here : record_at t p ≡ some (bindings, others)
  pub is_record : x ≡ fields bindings

module _ (t : Text) (e : Read.Term) where
  pub single_meant : (v : ReadOperand.Operand) (x : Term) → e ≡ Single v → term_meant t e ≡ some x → x ≡ single (operand_meant t v)
  single_meant v x q m = some-injective x (single (operand_meant t v)) (sym m ∙ ap (term_meant t) q)

  pub empty_meant : (x : Term) → e ≡ Empty → term_meant t e ≡ some x → x ≡ nothing
  empty_meant x q m = some-injective x nothing (sym m ∙ ap (term_meant t) q)

  pub record_meant : (p : ℕ) (x : Term) → e ≡ Record p → term_meant t e ≡ some x → Fields t p x
  record_meant p x q m = go (record_at t p) refl (sym (ap (term_meant t) q) ∙ m)
    where
      go : (o : Option (List Binding × List Token)) → record_at t p ≡ o → (o >>= λ r. some (fields r.0)) ≡ some x → Fields t p x
      go none h k = no_some k
      go (some r) h k = record { bindings = r.0; others = r.1; here = h; is_record = some-injective x (fields r.0) (sym k) }

  pub lower_meant : (v : ReadOperand.Operand) (x : Term) → e ≡ Lower v → term_meant t e ≡ some x → x ≡ tolower (operand_meant t v)
  lower_meant v x q m = some-injective x (tolower (operand_meant t v)) (sym m ∙ ap (term_meant t) q)

  pub call_meant :
      (f : ReadFunction.Function) (v w : ReadOperand.Operand) (x : Term)
      → e ≡ Call f v w
      → term_meant t e ≡ some x
      → x ≡ call (function_meant f) (operand_meant t v) (operand_meant t w)
  call_meant f v w x q m = some-injective x (call (function_meant f) (operand_meant t v) (operand_meant t w)) (sym m ∙ ap (term_meant t) q)

  pub compare_meant :
      (k : ReadComparison.Comparison) (v w : ReadOperand.Operand) (x : Term)
      → e ≡ Compare k v w
      → term_meant t e ≡ some x
      → x ≡ compare (comparison_meant k) (operand_meant t v) (operand_meant t w)
  compare_meant k v w x q m = some-injective x (compare (comparison_meant k) (operand_meant t v) (operand_meant t w)) (sym m ∙ ap (term_meant t) q)

  module _ (E : SomeTerm t e) where
    pub single_safe : (v : ReadOperand.Operand) → e ≡ Single v → OperandWithin t v × T (valid_operand (operand_meant t v))
    single_safe v q = (
      subst (TermWithin t) q E.within,
      subst (λ (x : Term). T (valid_term x)) (single_meant v E.term q E.meant) E.is_valid,
    )

    pub lower_safe : (v : ReadOperand.Operand) → e ≡ Lower v → OperandWithin t v × T (valid_operand (operand_meant t v))
    lower_safe v q = (
      subst (TermWithin t) q E.within,
      subst (λ (x : Term). T (valid_term x)) (lower_meant v E.term q E.meant) E.is_valid,
    )

    -- both values of a call
    pub call_safe :
        (f : ReadFunction.Function) (v w : ReadOperand.Operand)
        → e ≡ Call f v w
        → (OperandWithin t v × T (valid_operand (operand_meant t v))) × (OperandWithin t w × T (valid_operand (operand_meant t w)))
    call_safe f v w q =
        let (i, j) = subst (TermWithin t) q E.within in
        let (k, l) =
        both (valid_operand (operand_meant t v)) (valid_operand (operand_meant t w))
        (subst (λ (x : Term). T (valid_term x)) (call_meant f v w E.term q E.meant) E.is_valid) in
        ((i, k), (j, l))

    -- both values of a comparison
    pub compare_safe :
        (f : ReadComparison.Comparison) (v w : ReadOperand.Operand)
        → e ≡ Compare f v w
        → (OperandWithin t v × T (valid_operand (operand_meant t v))) × (OperandWithin t w × T (valid_operand (operand_meant t w)))
    compare_safe f v w q =
        let (i, j) = subst (TermWithin t) q E.within in
        let (k, l) =
        both (valid_operand (operand_meant t v)) (valid_operand (operand_meant t w))
        (subst (λ (x : Term). T (valid_term x)) (compare_meant f v w E.term q E.meant) E.is_valid) in
        ((i, k), (j, l))

    pub record_safe : (p : ℕ) → e ≡ Record p → SomeRecord t p
    record_safe p q =
        let F = record_meant p E.term q E.meant in
        record {
          bindings = F.bindings;
          others = F.others;
          here = F.here;
          within = (subst (TermWithin t) q E.within).0;
          is_valid = subst (λ (x : Term). T (valid_term x)) F.is_record E.is_valid;
        }

-- ---- fields

-- the first of the fields that stand from a place on, and those after it
pub record Next (t : Text) (b : Binding) (more : Bool) (n : ℕ) (rest : List Binding) (others : List Token) : Type 0 where
  pub after : List Binding
  pub is_rest : rest ≡ b ∷ after
  pub is_last_lem : more ≡ false → after ≡ []
  pub go_on : more ≡ true → record_at t n ≡ some (after, others)

pub next_field : (t : Text) (b : Binding) (more : Bool) (n : ℕ) (rest : List Binding) (others : List Token) → with_field t b more n ≡ some (rest, others) → Next t b more n rest others
next_field t b true n rest others e = go (record_at t n) refl e
  where
    go : (o : Option (List Binding × List Token)) → record_at t n ≡ o → before b o ≡ some (rest, others) → Next t b true n rest others
    go none q e = no_some e
    go (some r) q e =
        let p : ◌≡◌ {A = List Binding × List Token} (b ∷ r.0, r.1) (rest, others) = cc in
        record {
          after = r.0;
          is_rest = sym (ap (λ (x : List Binding × List Token). x.0) p);
          is_last_lem = λ z. absurd (let y : ◌≡◌ {A = ℕ} 0 1 = cc in omega arith);
          go_on = λ z. q ∙ ap (λ (us : List Token). some (r.0, us)) (ap (λ (x : List Binding × List Token). x.1) p);
        }
next_field t b false n rest others e =
    record {
      after = [];
      is_rest = sym (ap (λ (x : List Binding × List Token). x.0) p);
      is_last_lem = λ z. refl;
      go_on = λ z. absurd (let y : ◌≡◌ {A = ℕ} 0 1 = cc in omega arith);
    }
  where
    p : ◌≡◌ {A = List Binding × List Token} (b ∷ [], lex (drop n t)) (rest, others)
    p = cc

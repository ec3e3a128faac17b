-- How far the names of an expression are asked: what stands before a place may be read, and the terms from there on are still to be asked.
-- Assumes nothing.
use mathlib.Core.Path.{◌≡◌, refl, sym, ap, subst, ◌∙◌}
use mathlib.Core.Bool.{true, false}
use mathlib.Core.Option.{Option, none, some, some-injective}
use mathlib.Core.List.{List, [], ◌∷◌}
use Prim.Native.Nat.{ℕ, suc, ◌+◌, ◌-◌, ◌<◌}
use native.Mathlib.Omega.{arith}
use lib.Dec.{T}
use lib.ListN.{drop}
use Rattle.language.specs.Text as Options
use Rattle.language.specs.Text.{Text, all, present}
use Rattle.language.specs.Tokens.{Token, lex}
use Rattle.language.specs.Syntax.{Name, Term, Expr}
use Rattle.language.specs.Grammar.{the, any_term}
use Rattle.language.specs.Values.{Session}
use Rattle.language.specs.Expressions.{term_names}
use Rattle.language.proofs.Logic.Tests.{both}
use Rattle.language.proofs.Parsing.ValidPrograms.{valid_term, valid_expr}
use Rattle.tokens.proofs.Reading.{no_some}
use Rattle.syntax.specs.declared.Term as Read
use Rattle.syntax.specs.declared.Expr.TheVariants as ExprOf
use Rattle.syntax.specs.Values.{term_meant, TermWithin, expression_at, expr_meant, SomeTerm, SomeExpr}
use Rattle.syntax.proofs.Said.{term_there}
use Rattle.expression_readers.specs.Heads.{let_head}
use Rattle.permits.specs.Permits.{unread}
use Rattle.permits.proofs.Readers.{none_unread}
use Rattle.permits.specs.declared.Known.{Known}
use Rattle.permits.specs.Knowledge.{terms_then, terms, names_of, FirstUnread}
use Rattle.expression_rights.specs.Finding.{Finds}
use Rattle.expression_rights.proofs.Terms.{valid_then, terms_still, terms_after, with_term, no_more, not_in, past_in, past_term, past_head, past_nothing}

-- ---- an expression that stands from a place on

-- of the expression from `at` on, so many terms may be read, and the terms `rest` are still to be asked: they stand from p on, and behind the `in`
-- of k lets
pub record Asking (P : Session → Type 0) (t : Text) (at p k done : ℕ) : Type 0 where
  pub whole : Expr
  pub is_whole : expr_meant t (ExprOf.Let at) ≡ some whole
  pub rest : List Term
  pub others : List Token
  pub stands : terms_after k (lex (drop p t)) ≡ some (rest, others)
  pub is_valid : T (all valid_term rest)
  pub bars : (s : Session) → P s → (j : ℕ) → FirstUnread s rest j → FirstUnread s (terms whole) (done + j)
  pub reads : (s : Session) → P s → unread s (names_of rest) ≡ false → unread s (names_of (terms whole)) ≡ false

pub asking_start : (P : Session → Type 0) (t : Text) (at : ℕ) → SomeExpr t (ExprOf.Let at) → Asking P t at at 0 0
asking_start P t at E = go (expression_at t at) refl E.meant
  where
    go : (o : Option (Expr × List Token)) → expression_at t at ≡ o → Options.◌>>=◌ o (λ r. some r.0) ≡ some E.expression → Asking P t at at 0 0
    go none q k = no_some k
    go (some r) q k =
        let e : r.0 ≡ E.expression = some-injective r.0 E.expression k in
        record {
          whole = r.0;
          is_whole = E.meant ∙ sym k;
          rest = terms_then r.0 [];
          others = r.1;
          stands = rw q;
          is_valid = valid_then r.0 [] (subst (λ (x : Expr). T (valid_expr x)) (sym e) E.is_valid) tt;
          bars = λ s W j h. subst (FirstUnread s (terms r.0)) (let n : j ≡ 0 + j = omega arith in n) h;
          reads = λ s W h. h;
        }

module _ {P : Session → Type 0} {t : Text} {at p k done : ℕ} (A : Asking P t at p k done) where
  -- what is asked for, whatever it is called
  pub of_whole : (x : Expr) → expr_meant t (ExprOf.Let at) ≡ some x → (s : Session) (r : Known) → Finds r s (terms A.whole) → Finds r s (terms x)
  of_whole x m s r h = subst (λ (y : Expr). Finds r s (terms y)) (some-injective A.whole x (sym A.is_whole ∙ m)) h

  -- ---- a term

  -- the term e that ends before n is the first of those
  pub record Front (e : Read.Term) (n : ℕ) : Type 0 where
    pub found : Term
    pub meant : term_meant t e ≡ some found
    pub after : List Term
    pub is_rest : A.rest ≡ found ∷ after
    pub follows : terms_still k (lex (drop n t)) ≡ some (after, A.others)

  pub front : (e : Read.Term) (n : ℕ) → TermWithin t e → any_term (lex (drop p t)) ≡ Options.◌>>=◌ (term_meant t e) (λ x. some (x, lex (drop n t))) → Front e n
  front e n w q = go₁ (term_meant t e) refl (term_there t e w) q
    where
      go₂ : (x : Term) → term_meant t e ≡ some x → (o : Option (List Term × List Token)) → terms_still k (lex (drop n t)) ≡ o → with_term x o ≡ some (A.rest, A.others) → Front e n
      go₂ x m none f h = no_some h
      go₂ x m (some r) f h =
          let same : ◌≡◌ {A = List Term × List Token} (x ∷ r.0, r.1) (A.rest, A.others) = some-injective (x ∷ r.0, r.1) (A.rest, A.others) h in
          record {
            found = x;
            meant = m;
            after = r.0;
            is_rest = sym (ap (λ (a : List Term × List Token). a.0) same);
            follows = f ∙ ap (λ (us : List Token). some (r.0, us)) (ap (λ (a : List Term × List Token). a.1) same);
          }

      go₁ : (o : Option Term) → term_meant t e ≡ o → present o ≡ true → any_term (lex (drop p t)) ≡ Options.◌>>=◌ o (λ x. some (x, lex (drop n t))) → Front e n
      go₁ none m h q = absurd (let z : ◌≡◌ {A = ℕ} 0 1 = cc in omega arith)
      go₁ (some x) m h q = go₂ x m (terms_still k (lex (drop n t))) refl (sym (past_term k (lex (drop p t)) q) ∙ A.stands)

  module _ {e : Read.Term} {n : ℕ} (F : Front e n) where
    both_valid : T (valid_term F.found) × T (all valid_term F.after)
    both_valid = both (valid_term F.found) (all valid_term F.after) (subst (λ (l : List Term). T (all valid_term l)) F.is_rest A.is_valid)

    pub front_safe : TermWithin t e → SomeTerm t e
    front_safe w = record { term = F.found; meant = F.meant; within = w; is_valid = both_valid.0 }

    module _ (s : Session) (W : P s) where
      pub front_denied : unread s (term_names F.found) ≡ true → FirstUnread s (terms A.whole) done
      front_denied q =
          subst (FirstUnread s (terms A.whole)) (let j : done + 0 ≡ done = omega arith in j)
          (A.bars s W 0 (subst (λ (l : List Term). FirstUnread s l 0) (sym F.is_rest) q))

      -- it is the last one
      pub front_last : k ≡ 0 → unread s (term_names F.found) ≡ false → unread s (names_of (terms A.whole)) ≡ false
      front_last z q =
          let same : ◌≡◌ {A = List Term × List Token} ([], lex (drop n t)) (F.after, A.others) = some-injective ([], lex (drop n t)) (F.after, A.others) (sym (no_more k (lex (drop n t)) z) ∙ F.follows) in
          let last : A.rest ≡ F.found ∷ [] = F.is_rest ∙ sym (ap (λ (a : List Term × List Token). F.found ∷ a.0) same) in
          A.reads s W (subst (λ (l : List Term). unread s (names_of l) ≡ false) (sym last) (none_unread s (term_names F.found) [] q refl))

    module _ (h : 0 < k) where
      pub in_there : the "in" (lex (drop n t)) ≡ none → ⊥
      in_there q = no_some (sym (not_in k (lex (drop n t)) h q) ∙ F.follows)

      pub past_front : (m : ℕ) → the "in" (lex (drop n t)) ≡ some (tt, lex (drop m t)) → ((s : Session) → P s → unread s (term_names F.found) ≡ false) → Asking P t at m (k - 1) (done + 1)
      past_front m q r = record {
        whole = A.whole;
        is_whole = A.is_whole;
        rest = F.after;
        others = A.others;
        stands = sym (past_in k (lex (drop n t)) h q) ∙ F.follows;
        is_valid = both_valid.1;
        bars =
            λ s W j f. subst (FirstUnread s (terms A.whole)) (let e : done + suc j ≡ done + 1 + j = omega arith in e)
            (A.bars s W (suc j) (subst (λ (l : List Term). FirstUnread s l (suc j)) (sym F.is_rest) (r s W, f)));
        reads =
            λ s W f. A.reads s W
            (subst (λ (l : List Term). unread s (names_of l) ≡ false) (sym F.is_rest) (none_unread s (term_names F.found) (names_of F.after) (r s W) f));
      }

  -- ---- a `let`

  module _ (no_term : any_term (lex (drop p t)) ≡ none) where
    pub head_there : let_head (lex (drop p t)) ≡ none → ⊥
    head_there q = no_some (sym (past_nothing k (lex (drop p t)) no_term q) ∙ A.stands)

    pub past_let : (y : Name) (n : ℕ) → let_head (lex (drop p t)) ≡ some (y, lex (drop n t)) → Asking P t at n (k + 1) done
    past_let y n q = record {
      whole = A.whole;
      is_whole = A.is_whole;
      rest = A.rest;
      others = A.others;
      stands = sym (past_head k (lex (drop p t)) no_term q) ∙ A.stands;
      is_valid = A.is_valid;
      bars = A.bars;
      reads = A.reads;
    }

-- The names that a term evaluates, and whether the sender may read them.
-- Assumes nothing.
use mathlib.Core.Path.{◌≡◌, refl, sym, ap, ap₂, ◌∙◌}
use Prim.Native.Nat.{ℕ}
use native.Mathlib.Omega.{arith}
use mathlib.Core.Bool.{Bool, true, false, ◌||◌, not}
use mathlib.Core.Option.{Option, none, some}
use mathlib.Core.List.{List, [], ◌∷◌, ◌++◌, append_assoc}
use Rattle.language.specs.Text.{Text, when◌then◌else◌, any}
use Rattle.language.specs.Tokens.{Token}
use Rattle.language.specs.Syntax.{Name, read, Binding}
use Rattle.language.specs.Values.{Session, is_shared}
use Rattle.language.specs.Expressions.{operand_names, binding_names}
use Rattle.language.specs.Chains.{has}
use Rattle.language.specs.Commands.{Need, need, met, reads}
use Rattle.syntax.specs.Values.{record_at, with_field, SomeRecord}
use Rattle.permits.specs.Permits.{allowed_on, unread}
use Rattle.syntax.proofs.Said.{Next, next_field}
use Rattle.language.proofs.Logic.Lists.{any_joined}

-- ---- one name, and names in a row

pub one_name : (s : Session) (x : Name) (b : Bool) → b ≡ allowed_on s read x → unread s (x ∷ []) ≡ not b
one_name s x b e = go (is_shared s x) (has s.store read x s.sender) refl ∙ sym (ap not e)
  where
    two : (h : Bool) → (not (h || false) || false) ≡ not h
    two true = refl
    two false = refl

    go : (c h : Bool) → has s.store read x s.sender ≡ h
        → any (λ n. not (met s n)) ((when c then record { holder = s.sender; one_of = read ∷ []; variable = x } ∷ [] else []) ++ []) ≡ not (when c then has s.store read x s.sender else true)
    go true h q = two (has s.store read x s.sender)
    go false h q = refl

reads_append : (s : Session) (xs ys : List Name) → reads s (xs ++ ys) ≡ reads s xs ++ reads s ys
reads_append s [] ys = refl
reads_append s (x ∷ xs) ys = ap (λ (l : List Need). need s (read ∷ []) x ++ l) (reads_append s xs ys) ∙ sym (append_assoc (need s (read ∷ []) x) (reads s xs) (reads s ys))

pub unread_append : (s : Session) (xs ys : List Name) → unread s (xs ++ ys) ≡ (unread s xs || unread s ys)
unread_append s xs ys = ap (any (λ n. not (met s n))) (reads_append s xs ys) ∙ any_joined (λ n. not (met s n)) (reads s xs) (reads s ys)

-- ---- names, and others behind them

module _ (s : Session) (xs ys : List Name) where
  pub first_unread : unread s xs ≡ true → unread s (xs ++ ys) ≡ true
  first_unread q = unread_append s xs ys ∙ ap (λ (c : Bool). c || unread s ys) q

  pub second_unread : unread s ys ≡ true → unread s (xs ++ ys) ≡ true
  second_unread q = unread_append s xs ys ∙ ap (λ (c : Bool). unread s xs || c) q ∙ go (unread s xs)
    where
      go : (b : Bool) → (b || true) ≡ true
      go true = refl
      go false = refl

  pub none_unread : unread s xs ≡ false → unread s ys ≡ false → unread s (xs ++ ys) ≡ false
  none_unread q r = unread_append s xs ys ∙ ap₂ ◌||◌ q r

  pub each_readable : unread s (xs ++ ys) ≡ false → (unread s xs ≡ false) × (unread s ys ≡ false)
  each_readable q = go (unread s xs) (unread s ys) (sym (unread_append s xs ys) ∙ q)
    where
      go : (a b : Bool) → (a || b) ≡ false → (a ≡ false) × (b ≡ false)
      go true b e = absurd (let z : ◌≡◌ {A = ℕ} 0 1 = cc in omega arith)
      go false b e = (refl, e)

  pub second_decides : unread s xs ≡ false → unread s (xs ++ ys) ≡ unread s ys
  second_decides q = unread_append s xs ys ∙ ap (λ (c : Bool). c || unread s ys) q

-- ---- fields

abbrev pub unread_in : Session → Option (List Binding × List Token) → Bool
unread_in s none = false
unread_in s (some r) = unread s (binding_names r.0)

-- the fields before place p may be read, and the others stand from there on
pub record Reached (s : Session) (t : Text) (at p : ℕ) : Type 0 where
  pub rest : List Binding
  pub others : List Token
  pub here : record_at t p ≡ some (rest, others)
  pub total : unread_in s (record_at t at) ≡ unread_in s (record_at t p)

pub reached_start : (s : Session) (t : Text) (at : ℕ) → SomeRecord t at → Reached s t at at
reached_start s t at R = record { rest = R.bindings; others = R.others; here = R.here; total = refl }

module _ (s : Session) (t : Text) (at p : ℕ) (R : Reached s t at p) (b : Binding) (more : Bool) (n : ℕ) (e : with_field t b more n ≡ record_at t p) where
  N : Next t b more n R.rest R.others
  N = next_field t b more n R.rest R.others (e ∙ R.here)

  head_first : unread_in s (record_at t at) ≡ (unread s (operand_names b.operand) || unread s (binding_names N.after))
  head_first =
      R.total ∙ ap (unread_in s) R.here ∙ ap (λ (l : List Binding). unread s (binding_names l)) N.is_rest
      ∙ unread_append s (operand_names b.operand) (binding_names N.after)

  pub not_readable : unread s (operand_names b.operand) ≡ true → unread_in s (record_at t at) ≡ true
  not_readable q = head_first ∙ ap (λ (c : Bool). c || unread s (binding_names N.after)) q

  module _ (q : unread s (operand_names b.operand) ≡ false) where
    rest_only : unread_in s (record_at t at) ≡ unread s (binding_names N.after)
    rest_only = head_first ∙ ap (λ (c : Bool). c || unread s (binding_names N.after)) q

    pub all_readable : more ≡ false → unread_in s (record_at t at) ≡ false
    all_readable m = rest_only ∙ ap (λ (l : List Binding). unread s (binding_names l)) (N.is_last_lem m)

    pub reached_on : more ≡ true → Reached s t at n
    reached_on m = record { rest = N.after; others = R.others; here = N.go_on m; total = rest_only ∙ sym (ap (unread_in s) (N.go_on m)) }

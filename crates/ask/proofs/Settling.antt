-- What the look-ups and the search say of the question, on a state that was checked.
-- Assumes nothing.
use mathlib.Core.Path.{◌≡◌, refl, sym, subst}
use Prim.Native.Nat.{ℕ}
use native.Mathlib.Omega.{arith}
use mathlib.Core.Option.{Option, none, some}
use mathlib.Core.List.{List, map}
use lib.Dec.{T}
use Rattle.std.specs.Prelude.{None}
use Rattle.language.specs.Text.{Text, present}
use Rattle.language.specs.Syntax.{Name, Right}
use Rattle.language.specs.State.{Principal, Value, Store, named, value_in}
use Rattle.language.specs.Chains.{chain_length}
use Rattle.language.specs.Calls.{wrong, length_answer, question}
use Rattle.language.proofs.StateText.Names.{named_is}
use Rattle.store.specs.Rows.{principal_row, variable_row, found_at, place}
use Rattle.store.proofs.Answers.{FoundPrincipal, principal_found, principal_missing, variable_missing}
use Rattle.named_rights.specs.Numbers.{code, Asks}
use Rattle.named_rights.proofs.Places.{code_lt}
use Rattle.validate.specs.Checked.{Understood}
use Rattle.validate.proofs.States.{store, everyone, found, variable_known}
use Rattle.validate.specs.declared.Parts.{Parts}
use Rattle.answers.specs.Answers.{right_code}

-- ---- the right

pub names_none : (o : Option Right) → right_code o ≡ 4 → o ≡ none
names_none none h = refl
names_none (some r) h = absurd (omega (arith, code_lt r))

pub record Names (o : Option Right) : Type 0 where
  pub right : Right
  pub is_right : o ≡ some right

pub names_one : (o : Option Right) → (right_code o ≡ 4 → ⊥) → Names o
names_one none h = absurd (h refl)
names_one (some r) h = record { right = r; is_right = refl }

-- ---- the question, by what is known

module _ (s : Store) (p x : Name) where
  pub nobody : (o : Option Right) → named s.principals p ≡ none → wrong 6 ≡ question s p x o
  nobody none e = rw e
  nobody (some r) e = rw e

  module _ (k : Principal) (e : named s.principals p ≡ some k) where
    pub no_right : (o : Option Right) → o ≡ none → wrong 7 ≡ question s p x o
    no_right o q = rw (q, e)

    pub no_variable : (o : Option Right) → value_in s.variables x ≡ none → wrong 7 ≡ question s p x o
    no_variable none q = rw e
    no_variable (some r) q = rw (e, q)

    pub by_chain : (v : Value) → value_in s.variables x ≡ some v → (o : Option Right) (r : Right) → o ≡ some r
        → length_answer (chain_length s r x p) ≡ question s p x o
    by_chain v q o r h = rw (h, e, q)

-- ---- on a state that was checked

module _ {t : Text} {slots-p slots_v assertions : List ℕ} {m : Parts} (u : Understood t slots-p slots_v assertions m) where
  pub unknown_name : (p x : Name) (o : Option Right) → None ≡ place (map principal_row (store u).principals) p → wrong 6 ≡ question (store u) p x o
  unknown_name p x o q = nobody (store u) p x o (principal_missing (store u).principals p q)

  module _ (p x : Name) (k a b : ℕ) (q : found_at k a b ≡ place (map principal_row (store u).principals) p) where
    P : FoundPrincipal (store u).principals p k
    P = principal_found (store u).principals p k a b q

    pub unknown_right : (o : Option Right) → right_code o ≡ 4 → wrong 7 ≡ question (store u) p x o
    unknown_right o h = no_right (store u) p x _ P.is_named o (names_none o h)

    pub unknown_variable : (o : Option Right) → None ≡ place (map variable_row (store u).variables) x → wrong 7 ≡ question (store u) p x o
    unknown_variable o h = no_variable (store u) p x _ P.is_named o (variable_missing (store u).variables x h)

    module _ (l d e : ℕ) (w : found_at l d e ≡ place (map variable_row (store u).variables) x) where
      pub asks : (r : Right) (n : ℕ) → n ≡ code r → Asks (store u) r x p m.principals l n k
      asks r n h = record {
        everyone = everyone u;
        variable_known = variable_known u x l d e w;
        variable_is = (found u x l d e w).number;
        right_is = h;
        principal_known = named_is p (store u).principals (subst (λ (o : Option Principal). T (present o)) (sym P.is_named) tt);
        principal_is = P.number;
      }

      pub answered : (o : Option Right) (r : Right) → o ≡ some r → length_answer (chain_length (store u) r x p) ≡ question (store u) p x o
      answered o r h = by_chain (store u) p x _ P.is_named _ (found u x l d e w).is_value o r h

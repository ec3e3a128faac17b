-- What the texts of a running session say of a name, and what the answers about rights say of a command.
-- Assumes nothing.
use mathlib.Core.Path.{◌≡◌, refl, sym, ap, ◌∙◌}
use mathlib.Core.Bool.{Bool, true, false, ◌||◌, not}
use mathlib.Core.Option.{Option}
use mathlib.Core.List.{List, [], ◌∷◌}
use Prim.Native.Nat.{ℕ}
use native.Mathlib.Omega.{arith}
use lib.ListN.{length}
use Rattle.language.specs.Text.{Text, when◌then◌else◌, any, present}
use Rattle.language.specs.Syntax.{Name, Right, write, append, Expr, set, append_to}
use Rattle.language.specs.State.{string, fields, Value, single, list}
use Rattle.language.specs.Values.{Session, as_list, is_shared}
use Rattle.language.specs.Expressions.{value, names}
use Rattle.language.specs.Chains.{has}
use Rattle.language.specs.Commands.{met, need, reads, denied}
use Rattle.values.specs.Encoding.{Holds}
use Rattle.values.specs.Answers.{kind_of}
use Rattle.values.specs.declared.Kind.{Kind}
use Rattle.values.specs.declared.Kind.TheVariants as Is
use Rattle.scopes.specs.Scopes.{ReadAs}
use Rattle.permits.specs.Permits.{allowed_on, unread}
use Rattle.evaluated.specs.declared.Evaluated.TheVariants as Worth
use Rattle.evaluate.proofs.Found.{something_read}
use Rattle.session.specs.declared.Layout.{Layout}
use Rattle.session.specs.Sessions.{Slices, Running}
use Rattle.session.proofs.Scoping.{scope, sends}
use Rattle.lookup.specs.Looks.{elements_in, Scoped, Sending, Copyable}
use Rattle.language.proofs.Logic.Lists.{any_joined}

-- ---- a running session is what is asked for

module _ (s : Session) (l : Layout) (b : Slices) (R : Running s l b) where
  pub scoped : Scoped s l b.vars b.variable_slots b.locals b.local_slots
  scoped = record {
    scope = scope s l b R;
    vars_within = R.vars_within;
    locals_within = R.locals_within;
  }

  pub copyable : Copyable b.locals b.local_slots
  copyable = record {
    locals_short = omega (arith, R.sized.locals_size);
    slots_few = omega (arith, R.sized.local_slots_size);
  }

  pub sending : Sending s l b.vars b.variable_slots b.assertions
  sending = record { sends = sends s l b R; vars_within = R.vars_within }

-- ---- a name

abbrev pub list_kind : Kind → Bool
list_kind Is.Text = false
list_kind Is.Record = false
list_kind Is.List = true

kind_list : (v : Value) → list_kind (kind_of v) ≡ present (as_list v)
kind_list (single (string t)) = refl
kind_list (single (fields fs)) = refl
kind_list (list es) = refl

pub list_said : (o : Option Value) (t : Text) → ReadAs o t → (length t ≡ 0 → ⊥) → (k : Kind) → ((v : Value) → Holds v t → k ≡ kind_of v) → list_kind k ≡ present (elements_in o)
list_said o t r n k f =
    let S = something_read o t r n in
    ap list_kind (f S.value S.held) ∙ kind_list S.value ∙ sym (ap (λ (z : Option Value). present (elements_in z)) S.is_value)

-- ---- the rights

module _ (s : Session) (x : Name) (e : Expr) where
  one_need : (r : Right) → any (λ n. not (met s n)) (need s (r ∷ []) x) ≡ not (allowed_on s r x)
  one_need r = go (is_shared s x) (has s.store r x s.sender) refl
    where
      two : (h : Bool) → (not (h || false) || false) ≡ not h
      two true = refl
      two false = refl

      go : (c h : Bool) → has s.store r x s.sender ≡ h
          → any (λ n. not (met s n)) (when c then record { holder = s.sender; one_of = r ∷ []; variable = x } ∷ [] else []) ≡ not (when c then has s.store r x s.sender else true)
      go true h q = two (has s.store r x s.sender)
      go false h q = refl

  two_needs : any (λ n. not (met s n)) (need s (write ∷ append ∷ []) x) ≡ not (allowed_on s write x || allowed_on s append x)
  two_needs = go (is_shared s x)
    where
      two : (h k : Bool) → (not (h || (k || false)) || false) ≡ not (h || k)
      two true k = refl
      two false true = refl
      two false false = refl

      go : (c : Bool) → any (λ n. not (met s n)) (when c then record { holder = s.sender; one_of = write ∷ append ∷ []; variable = x } ∷ [] else [])
          ≡ not ((when c then has s.store write x s.sender else true) || (when c then has s.store append x s.sender else true))
      go true = two (has s.store write x s.sender) (has s.store append x s.sender)
      go false = refl

  -- a command is denied by its own rule, or by what its expression reads
  pub denied_set : denied s (set x e) ≡ (not (allowed_on s write x) || unread s (names s e))
  denied_set = any_joined (λ n. not (met s n)) (need s (write ∷ []) x) (reads s (names s e)) ∙ ap (λ (z : Bool). z || unread s (names s e)) (one_need write)

  pub denied_append : denied s (append_to x e) ≡ (not (allowed_on s write x || allowed_on s append x) || unread s (names s e))
  denied_append = any_joined (λ n. not (met s n)) (need s (write ∷ append ∷ []) x) (reads s (names s e)) ∙ ap (λ (z : Bool). z || unread s (names s e)) two_needs

-- write or append
pub either_right : (a b : Bool) (c d : Bool) → c ≡ a → c ≡ false → d ≡ b → d ≡ (a || b)
either_right true b c d e f g = absurd (let z : ◌≡◌ {A = ℕ} 0 1 = cc in omega arith)
either_right false b c d e f g = g

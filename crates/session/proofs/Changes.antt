-- A session whose locals, or whose shared variables and assertions, are others: what its buffers must hold.
use mathlib.Core.Path.{◌≡◌, sym, ap, ◌∙◌}
use Prim.Native.Nat.{ℕ, ◌≤◌}
use native.Mathlib.Omega.{arith}
use mathlib.Core.List.{List, map}
use lib.Dec.{T}
use lib.ListN.{length, take}
use Rattle.language.specs.Text.{Text, all}
use Rattle.language.specs.Syntax.{Name}
use Rattle.language.specs.State.{Variable, Assertion, Store}
use Rattle.language.specs.Weight.{limit}
use Rattle.language.specs.Values.{Session}
use Rattle.language.specs.Commands.{with_store, with_locals, with_variables, with_assertions, session_weight}
use Rattle.language.proofs.StateText.Shape.{Shape}
use Rattle.language.proofs.Meaning.ValidValues.{holding}
use Rattle.store.specs.Held.{Variables}
use Rattle.named_rights.specs.Numbers.{principals_of, variables, numbered, Standing}
use Rattle.session.specs.declared.Layout.{Layout}
use Rattle.session.specs.Sessions.{Slices, slices, Running}
use Rattle.session.specs.Layouts.{with_other_locals, with_other_shared}

-- the store with other variables and other assertions
abbrev pub with_both : Store → List Variable → List Assertion → Store
with_both s vs l = with_assertions (with_variables s vs) l

-- variables of the same names in the same order: the same numbers
pub same_numbers : (s : Store) (vs : List Variable) (n : ℕ) (assertions : List ℕ) → map (λ v. v.name) vs ≡ variables s → Standing s n assertions
    → Standing (with_variables s vs) n assertions
same_numbers s vs n assertions e S = record {
  within = S.within;
  are = S.are ∙ ap (λ (xs : List Name). map (numbered (principals_of s) xs) s.assertions) (sym e);
}

module _ (s : Session) (l : Layout) (b : Slices) (R : Running s l b) where
  pub other_locals : (vs : List Variable) (t : Text) (slots : List ℕ) (n count w : ℕ) → length t ≡ 32768 → length slots ≡ 4096 → Variables vs (take n t) count slots → n ≤ length t
      → T (all holding vs) → w ≡ session_weight (with_locals s vs) → w ≤ limit
      → Running (with_locals s vs) (with_other_locals l n count w) (slices b.principals b.principal_slots b.vars b.variable_slots t slots b.assertions)
  other_locals vs t slots n count w size slots_size held within h weighs light = record {
    sized = record {
      principals_size = R.sized.principals_size;
      principal_slots_size = R.sized.principal_slots_size;
      vars_size = R.sized.vars_size;
      variable_slots_size = R.sized.variable_slots_size;
      locals_size = size;
      local_slots_size = slots_size;
      assertions_size = R.sized.assertions_size;
    };
    ready = record {
      is_good = record { store_shape = R.ready.is_good.store_shape; locals_valid = h; sender_known = R.ready.is_good.sender_known };
      is_light = R.ready.is_light;
    };
    principals = R.principals;
    principals_within = R.principals_within;
    variables = R.variables;
    vars_within = R.vars_within;
    local_variables = held;
    locals_within = within;
    assertions = R.assertions;
    delegator = R.delegator;
    sender = R.sender;
    is_open = R.is_open;
    weighed = weighs;
    light = light;
  }

  pub other_shared : (vs : List Variable) (bs : List Assertion) (t : Text) (slots assertions : List ℕ) (n count asserted w : ℕ) → length t ≡ 65536 → length slots ≡ 4096
      → length assertions ≡ 2048 → Variables vs (take n t) count slots → n ≤ length t → Standing (with_both s.store vs bs) asserted assertions
      → Shape (with_both s.store vs bs) → w ≡ session_weight (with_store s (with_both s.store vs bs)) → w ≤ limit
      → Running (with_store s (with_both s.store vs bs)) (with_other_shared l n count asserted w) (slices b.principals b.principal_slots t slots b.locals b.local_slots assertions)
  other_shared vs bs t slots assertions n count asserted w size slots_size assertions_size held within stands g weighs light = record {
    sized = record {
      principals_size = R.sized.principals_size;
      principal_slots_size = R.sized.principal_slots_size;
      vars_size = size;
      variable_slots_size = slots_size;
      locals_size = R.sized.locals_size;
      local_slots_size = R.sized.local_slots_size;
      assertions_size = assertions_size;
    };
    ready = record {
      is_good = record { store_shape = g; locals_valid = R.ready.is_good.locals_valid; sender_known = R.ready.is_good.sender_known };
      is_light = omega (arith, weighs, light);
    };
    principals = R.principals;
    principals_within = R.principals_within;
    variables = held;
    vars_within = within;
    local_variables = R.local_variables;
    locals_within = R.locals_within;
    assertions = stands;
    delegator = R.delegator;
    sender = R.sender;
    is_open = R.is_open;
    weighed = weighs;
    light = light;
  }

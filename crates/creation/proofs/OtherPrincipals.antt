-- A running session with other principals, among whom the old names keep their numbers.
use mathlib.Core.Path.{◌≡◌, sym, subst, ◌∙◌}
use mathlib.Core.List.{List, map}
use Prim.Native.Nat.{ℕ, ◌≤◌}
use lib.ListN.{length, take}
use Rattle.language.specs.Text.{Text}
use Rattle.language.specs.State.{Principal}
use Rattle.language.specs.Weight.{limit}
use Rattle.language.specs.Values.{Session}
use Rattle.language.specs.Commands.{with_store, with_principals, session_weight}
use Rattle.language.proofs.Meaning.ValidRuns.{Ready}
use Rattle.store.specs.Held.{Principals}
use Rattle.store.specs.Rows.{position}
use Rattle.named_rights.specs.Numbers.{principals_of, variables, numbered}
use Rattle.session.specs.declared.Layout.{Layout}
use Rattle.session.specs.Sessions.{Slices, Running}
use Rattle.creation.specs.Creating.{with_principal_text}

-- the layout with another text of the principals
abbrev pub with_other_principals : Layout → ℕ → ℕ → ℕ → Layout
with_other_principals l len count weight = record {
  principals_len = len;
  principals = count;
  vars_len = l.vars_len;
  vars = l.vars;
  locals_len = l.locals_len;
  locals = l.locals;
  asserted = l.asserted;
  delegator = l.delegator;
  sender = l.sender;
  weight = weight;
  is_open = l.is_open;
}

-- the old names keep their numbers
pub record Same (s : Session) (ks : List Principal) : Type 0 where
  pub delegator : position (map (λ k. k.name) ks) s.store.delegator ≡ position (principals_of s.store) s.store.delegator
  pub sender : position (map (λ k. k.name) ks) s.sender ≡ position (principals_of s.store) s.sender
  pub assertions : map (numbered (map (λ k. k.name) ks) (variables s.store)) s.store.assertions
      ≡ map (numbered (principals_of s.store) (variables s.store)) s.store.assertions

-- the principals ks are in the buffers, and not too heavy
pub record Kept (s : Session) (b : Slices) (ks : List Principal) (text : Text) (slots : List ℕ) (len count weight : ℕ) : Type 0 where
  pub held : Principals ks (take len text) count slots
  pub within : len ≤ length b.principals
  pub text_size : length text ≡ length b.principals
  pub slots_size : length slots ≡ length b.principal_slots
  pub weighed : weight ≡ session_weight (with_store s (with_principals s.store ks))
  pub light : weight ≤ limit

module _ (s : Session) (l : Layout) (b : Slices) (R : Running s l b) (ks : List Principal) where
  pub with_principal_text_lem : {text : Text} {slots : List ℕ} {len count weight : ℕ} → Same s ks → Kept s b ks text slots len count weight → Ready (with_store s (with_principals s.store ks))
      → Running (with_store s (with_principals s.store ks)) (with_other_principals l len count weight) (with_principal_text b text slots)
  with_principal_text_lem {text} {slots} {len} {count} {weight} S K ready = record {
    sized = record {
      principals_size = K.text_size ∙ R.sized.principals_size;
      principal_slots_size = K.slots_size ∙ R.sized.principal_slots_size;
      vars_size = R.sized.vars_size;
      variable_slots_size = R.sized.variable_slots_size;
      locals_size = R.sized.locals_size;
      local_slots_size = R.sized.local_slots_size;
      assertions_size = R.sized.assertions_size;
    };
    ready = ready;
    principals = K.held;
    principals_within = subst (λ (n : ℕ). len ≤ n) (sym K.text_size) K.within;
    variables = R.variables;
    vars_within = R.vars_within;
    local_variables = R.local_variables;
    locals_within = R.locals_within;
    assertions = record { within = R.assertions.within; are = R.assertions.are ∙ sym S.assertions };
    delegator = R.delegator ∙ sym S.delegator;
    sender = R.sender ∙ sym S.sender;
    is_open = R.is_open;
    weighed = K.weighed;
    light = K.light;
  }

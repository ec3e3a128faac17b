-- The lent buffers of a running program, and the session that they hold.
use Rattle.std.specs.Prelude.{◌≡◌, ℕ, ◌≤◌, List, length, take}
use Rattle.language.specs.Text.{Text}
use Rattle.language.specs.Weight.{limit}
use Rattle.language.specs.Values.{Session}
use Rattle.language.specs.Commands.{session_weight}
use Rattle.language.proofs.Meaning.ValidRuns.{Ready}
use Rattle.store.specs.Held.{Principals, Variables}
use Rattle.store.specs.Rows.{position}
use Rattle.named_rights.specs.Numbers.{principals_of, Standing}
use Rattle.session.specs.declared.Layout.{Layout}

-- the texts of the principals, of the shared variables and of the locals, each with its slots, and the assertions as numbers
pub record Slices : Type 0 where
  pub principals : Text
  pub principal_slots : List ℕ
  pub vars : Text
  pub variable_slots : List ℕ
  pub locals : Text
  pub local_slots : List ℕ
  pub assertions : List ℕ

abbrev pub slices : Text → List ℕ → Text → List ℕ → Text → List ℕ → List ℕ → Slices
slices principals principal_slots vars variable_slots locals local_slots assertions = record {
  principals = principals;
  principal_slots = principal_slots;
  vars = vars;
  variable_slots = variable_slots;
  locals = locals;
  local_slots = local_slots;
  assertions = assertions;
}

-- how large they are: enough for every session that is not too heavy
pub record Sized (b : Slices) : Type 0 where
  pub principals_size : length b.principals ≡ 11008
  pub principal_slots_size : length b.principal_slots ≡ 1024
  pub vars_size : length b.vars ≡ 65536
  pub variable_slots_size : length b.variable_slots ≡ 4096
  pub locals_size : length b.locals ≡ 32768
  pub local_slots_size : length b.local_slots ≡ 4096
  pub assertions_size : length b.assertions ≡ 2048

-- the buffers b hold the session s, whose parts stand where l says
pub record Running (s : Session) (l : Layout) (b : Slices) : Type 0 where
  pub sized : Sized b
  pub ready : Ready s
  pub principals : Principals s.store.principals (take l.principals_len b.principals) l.principals b.principal_slots
  pub principals_within : l.principals_len ≤ length b.principals
  pub variables : Variables s.store.variables (take l.vars_len b.vars) l.vars b.variable_slots
  pub vars_within : l.vars_len ≤ length b.vars
  pub local_variables : Variables s.locals (take l.locals_len b.locals) l.locals b.local_slots
  pub locals_within : l.locals_len ≤ length b.locals
  pub assertions : Standing s.store l.asserted b.assertions
  pub delegator : l.delegator ≡ position (principals_of s.store) s.store.delegator
  pub sender : l.sender ≡ position (principals_of s.store) s.sender
  pub is_open : l.is_open ≡ s.store.is_open
  pub weighed : l.weight ≡ session_weight s
  pub light : l.weight ≤ limit

-- they hold some session
pub record SomeRunning (l : Layout) (b : Slices) : Type 0 where
  pub session : Session
  pub running : Running session l b

-- A running session is what evaluation and the tests of rights ask for.
use mathlib.Core.Path.{◌≡◌, sym, ◌∙◌}
use mathlib.Core.List.{List, [], ◌∷◌}
use lib.Dec.{T}
use lib.ListN.{length, take, length-map}
use Rattle.language.specs.Text.{all, member}
use Rattle.language.specs.Identifiers.{is_name}
use Rattle.language.specs.State.{Variable}
use Rattle.language.specs.Valid.{valid_variable, valid_store, valid_value}
use Rattle.language.specs.Values.{Session}
use Rattle.language.proofs.Logic.Tests.{both, and}
use Rattle.language.proofs.StateText.Names.{named_is}
use Rattle.language.proofs.Meaning.ValidValues.{holding}
use Rattle.language.proofs.Meaning.ValidRuns.{ready_valid}
use Rattle.named_rights.specs.Numbers.{principals_of}
use Rattle.scopes.specs.Scopes.{Scope, SomeScope}
use Rattle.permits.specs.Permits.{Sends, SomeSender}
use Rattle.session.specs.declared.Layout.{Layout}
use Rattle.session.specs.Sessions.{Slices, Running}

named_holding : (vs : List Variable) → T (all (λ v. is_name v.name) vs) → T (all holding vs) → T (all valid_variable vs)
named_holding [] h k = tt
named_holding (v ∷ vs) h k =
    let (h₁, h₂) = both (is_name v.name) (all (λ w. is_name w.name) vs) h in
    let (k₁, k₂) = both (holding v) (all holding vs) k in
    and (valid_variable v) (all valid_variable vs) (and (is_name v.name) (valid_value v.value) h₁ k₁) (named_holding vs h₂ k₂)

module _ (s : Session) (l : Layout) (b : Slices) (R : Running s l b) where
  pub store_valid : T (valid_store s.store)
  store_valid = ready_valid s R.ready

  pub locals_valid : T (all valid_variable s.locals)
  locals_valid = named_holding s.locals R.local_variables.named R.ready.is_good.locals_valid

  pub scope : Scope s (take l.vars_len b.vars) b.variable_slots l.vars (take l.locals_len b.locals) b.local_slots l.locals
  scope = record {
    shared_held = R.variables;
    locals_held = R.local_variables;
    shared_valid = R.ready.is_good.store_shape.variables_valid;
    locals_valid = locals_valid;
  }

  pub some_scope : SomeScope (take l.vars_len b.vars) b.variable_slots l.vars (take l.locals_len b.locals) b.local_slots l.locals
  some_scope = record { session = s; scope = scope }

  pub everyone : l.principals ≡ length (principals_of s.store)
  everyone = R.principals.counted ∙ sym (length-map s.store.principals (λ k. k.name))

  pub sender_known : T (member s.sender (principals_of s.store))
  sender_known = named_is s.sender s.store.principals R.ready.is_good.sender_known

  pub sends : Sends s (take l.vars_len b.vars) b.variable_slots l.vars b.assertions l.asserted l.principals l.sender
  sends = record {
    shared_held = R.variables;
    assertions_held = R.assertions;
    everyone = everyone;
    sender_known = sender_known;
    sender_is = R.sender;
    is_valid = store_valid;
  }

  pub some_sender : SomeSender (take l.vars_len b.vars) b.variable_slots l.vars b.assertions l.asserted l.principals l.sender
  some_sender = record { session = s; sends = sends }

-- Exit and the default delegator: what the commands do to a running session, by numbers.
use mathlib.Core.Path.{◌≡◌, refl, ap}
use mathlib.Core.Bool.{Bool, false}
use Prim.Native.Nat.{ℕ, ◌<◌}
use native.Mathlib.Omega.{arith}
use borrow.Author.Tests.{le-ltb}
use lib.Dec.{T, ltb}
use Rattle.language.specs.Outcomes.{gives, provided, ◌>>◌}
use Rattle.language.specs.Syntax.{Name, default_delegator, exit}
use Rattle.language.specs.Weight.{limit}
use Rattle.language.specs.Output.{status}
use Rattle.language.specs.Values.{Session}
use Rattle.language.specs.Commands.{with_store, with_delegator, closed, Effect, effect, session_weight, step, refused, went, DENIED, FAILED, done}
use Rattle.language.proofs.Parsing.ValidPrograms.{valid_command}
use Rattle.store.specs.Rows.{position}
use Rattle.named_rights.specs.Numbers.{principals_of}
use Rattle.session.specs.declared.Layout.{Layout}
use Rattle.session.specs.Sessions.{Slices, Running}
use Rattle.session.specs.Endings.{Succeeds}
use Rattle.session.proofs.Steps.{is_denied, is_failed, is_done, after_ready}
use Rattle.session.proofs.Denials.{others_denied, admin_may}
use Rattle.session.proofs.Finding.{is_missing, is_there}

-- ---- exit

abbrev pub shut : Layout → Layout
shut l = record {
  principals_len = l.principals_len;
  principals = l.principals;
  vars_len = l.vars_len;
  vars = l.vars;
  locals_len = l.locals_len;
  locals = l.locals;
  asserted = l.asserted;
  delegator = l.delegator;
  sender = l.sender;
  weight = l.weight;
  is_open = false;
}

module _ (s : Session) (l : Layout) (b : Slices) (R : Running s l b) where
  pub not_heavier : ltb limit (session_weight s) ≡ false
  not_heavier = le-ltb limit (session_weight s) (omega (arith, R.weighed, R.light))

  pub exit_denied : (l.sender ≡ 0 → ⊥) → step s exit ≡ refused DENIED
  exit_denied h = is_denied s exit (others_denied s l b R h)

  pub exit_done : l.sender ≡ 0 → Succeeds (step s exit) (shut l) b
  exit_done h =
      let f : Effect = record { after = with_store s (closed s.store); line = status "EXITING" } in
      let e : step s exit ≡ went f = is_done s exit f (admin_may s l b R h) refl not_heavier in
      record {
        effect = f;
        is_step = e;
        running = record {
          sized = R.sized;
          ready = after_ready s exit f R.ready tt e;
          principals = R.principals;
          principals_within = R.principals_within;
          variables = R.variables;
          vars_within = R.vars_within;
          local_variables = R.local_variables;
          locals_within = R.locals_within;
          assertions = record { within = R.assertions.within; are = R.assertions.are };
          delegator = R.delegator;
          sender = R.sender;
          is_open = refl;
          weighed = R.weighed;
          light = R.light;
        };
      }

-- ---- the default delegator

abbrev pub delegated_by : Layout → ℕ → Layout
delegated_by l n = record {
  principals_len = l.principals_len;
  principals = l.principals;
  vars_len = l.vars_len;
  vars = l.vars;
  locals_len = l.locals_len;
  locals = l.locals;
  asserted = l.asserted;
  delegator = n;
  sender = l.sender;
  weight = l.weight;
  is_open = l.is_open;
}

module _ (s : Session) (l : Layout) (b : Slices) (R : Running s l b) (p : Name) where
  pub delegator_denied : (l.sender ≡ 0 → ⊥) → step s (default_delegator p) ≡ refused DENIED
  delegator_denied h = is_denied s (default_delegator p) (others_denied s l b R h)

  module _ (n : ℕ) (n-is : n ≡ position (principals_of s.store) p) (by-admin : l.sender ≡ 0) where
    abbrev after : Session
    after = with_store s (with_delegator s.store p)

    pub delegator_failed : n ≡ l.principals → step s (default_delegator p) ≡ refused FAILED
    delegator_failed h =
        is_failed s (default_delegator p) (admin_may s l b R by-admin)
        (ap (λ (c : Bool). provided c >> done "DEFAULT_DELEGATOR" after) (is_missing s l b R p n n-is h))

    pub delegator_done : n < l.principals → T (valid_command (default_delegator p)) → Succeeds (step s (default_delegator p)) (delegated_by l n) b
    delegator_done h v =
        let f : Effect = record { after = after; line = status "DEFAULT_DELEGATOR" } in
        let there : effect s (default_delegator p) ≡ gives f = ap (λ (c : Bool). provided c >> done "DEFAULT_DELEGATOR" after) (is_there s l b R p n n-is h) in
        let e : step s (default_delegator p) ≡ went f = is_done s (default_delegator p) f (admin_may s l b R by-admin) there (not_heavier s l b R) in
        record {
          effect = f;
          is_step = e;
          running = record {
            sized = R.sized;
            ready = after_ready s (default_delegator p) f R.ready v e;
            principals = R.principals;
            principals_within = R.principals_within;
            variables = R.variables;
            vars_within = R.vars_within;
            local_variables = R.local_variables;
            locals_within = R.locals_within;
            assertions = record { within = R.assertions.within; are = R.assertions.are };
            delegator = n-is;
            sender = R.sender;
            is_open = R.is_open;
            weighed = R.weighed;
            light = R.light;
          };
        }

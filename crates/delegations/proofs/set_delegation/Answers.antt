use mathlib.Core.Path.{◌≡◌, refl, sym, subst, ◌∙◌}
use mathlib.Core.Bool.{true}
use Prim.Native.Nat.{◌≤◌}
use native.Mathlib.Omega.{arith}
use borrow.Author.Tests.{not-true, not-false}
use lib.ListN.{length}
use Rattle.language.specs.Syntax.{Name, Right, Target, Command, set_delegation}
use Rattle.language.specs.Values.{Session}
use Rattle.language.specs.Commands.{targets, assertions_on, denied}
use Rattle.text.specs.Meaning.{part}
use Rattle.forms.specs.Forms.{right_meant, target_meant}
use Rattle.store.proofs.Holders.{some_principals, some_variables}
use Rattle.session.specs.Sessions.{Slices, slices, Running}
use Rattle.session.proofs.Steps.{is_denied}
use Rattle.assertion_changes.specs.declared.Entered.{Entered}
use Rattle.assertion_changes.specs.Entering.{Ends, entered}
use Rattle.delegations.specs.Delegates.{Delegates}
use Rattle.delegation_rules.specs.Asking.{Names}
use Rattle.delegation_rules.proofs.Existing.{complete}
use Rattle.session.proofs.Weighed.{ends_full, ends_done}
use Rattle.delegations.proofs.Ending.{set_fails, setting, set_goes, giver_there, delegates}
use Rattle.named_rights.specs.Numbers.{variables}
use Rattle.delegation_rules.proofs.Denials.{aim_few}
use Rattle.delegation_rules.proofs.Fitting.{few_variables}
use borrow.Author.Rules.{rules}
use Rattle.delegations.proofs.set_delegation.Goals as goal

pub asked-k-requires : goal.asked-k-requires
asked-k-requires c =
    record {
      principals_len_in_bounds = (c.requires.some_running.running.principals_within, some_principals c.requires.some_running.session.store.principals _ _ _ c.requires.some_running.running.principals);
      vars_len_in_bounds = (c.requires.some_running.running.vars_within, some_variables c.requires.some_running.session.store.variables _ _ _ c.requires.some_running.running.variables);
      target_within = (c.requires.target_within.0, c.requires.target_within.1, c.requires.target_within.2);
    }

pub set_denied-requires : goal.set_denied-requires
set_denied-requires c =
    let lent : Slices = let a = c.args in slices a.principals.now a.principal_slots.now a.vars.now a.variable_slots.now a.locals.now a.local_slots.now a.assertions.now in
    record { session = c.requires.some_running.session; buffers = lent; runs = record { running = c.requires.some_running.running; stood = refl } }

pub returns-then-set_denied : goal.returns-then-set_denied
returns-then-set_denied c s R =
    let target-of : Target = target_meant c.args.text.now c.args.target in
    let from-of : Name = part c.args.text.now c.args.q in
    let right_of : Right = right_meant c.args.right in
    let to-of : Name = part c.args.text.now c.args.p in
    let command : Command = set_delegation target-of from-of right_of to-of in
    let lent : Slices = let a = c.args in slices a.principals.now a.principal_slots.now a.vars.now a.variable_slots.now a.locals.now a.local_slots.now a.assertions.now in
    let named : (s : Session) → Running s c.args.l lent → Names s target-of from-of to-of c.asked-k.result = λ s R. let a = c.args in c.asked-k.ensures s a.locals.now a.local_slots.now a.assertions.now R in
    let judged : (s : Session) → Running s c.args.l lent → c.set_denied.result ≡ denied s command = λ s R. c.set_denied.ensures s lent target-of from-of right_of to-of (record { running = R; stood = refl }) (named s R) in
    is_denied s command (sym (judged s R) ∙ c.if-set_denied.true)

pub returns-then-missing : goal.returns-then-missing
returns-then-missing c s R =
    let lent : Slices = let a = c.args in slices a.principals.now a.principal_slots.now a.vars.now a.variable_slots.now a.locals.now a.local_slots.now a.assertions.now in
    let target-of : Target = target_meant c.args.text.now c.args.target in
    let from-of : Name = part c.args.text.now c.args.q in
    let right_of : Right = right_meant c.args.right in
    let to-of : Name = part c.args.text.now c.args.p in
    let named : (s : Session) → Running s c.args.l lent → Names s target-of from-of to-of c.asked-k.result = λ s R. let a = c.args in c.asked-k.ensures s a.locals.now a.local_slots.now a.assertions.now R in
    let command : Command = set_delegation target-of from-of right_of to-of in
    let judged : (s : Session) → Running s c.args.l lent → c.set_denied.result ≡ denied s command = λ s R. c.set_denied.ensures s lent target-of from-of right_of to-of (record { running = R; stood = refl }) (named s R) in
    set_fails s target-of from-of right_of to-of (sym (judged s R) ∙ c.if-set_denied.false)
    (not-true _ (sym (c.missing.ensures s lent target-of from-of to-of R (named s R)) ∙ c.if-missing.true))

pub choose-count-requires : goal.choose-count-requires
choose-count-requires c =
    let lent : Slices = let a = c.args in slices a.principals.now a.principal_slots.now a.vars.now a.variable_slots.now a.locals.now a.local_slots.now a.assertions.now in
    let target-of : Target = target_meant c.args.text.now c.args.target in
    let from-of : Name = part c.args.text.now c.args.q in
    let to-of : Name = part c.args.text.now c.args.p in
    let named : (s : Session) → Running s c.args.l lent → Names s target-of from-of to-of c.asked-k.result = λ s R. let a = c.args in c.asked-k.ensures s a.locals.now a.local_slots.now a.assertions.now R in (
      record { session = c.requires.some_running.session; buffers = lent; runs = record { running = c.requires.some_running.running; stood = refl } },
      c.requires.target_within.3,
      aim_few (variables c.requires.some_running.session.store) target-of _
          (few_variables c.requires.some_running.session _ _ c.requires.some_running.running) (named c.requires.some_running.session c.requires.some_running.running).aim_is,
    )

pub enter_all-done-requires : goal.enter_all-done-requires
enter_all-done-requires c =
    let lent : Slices = let a = c.args in slices a.principals.now a.principal_slots.now a.vars.now a.variable_slots.now a.locals.now a.local_slots.now a.assertions.now in
    let target-of : Target = target_meant c.args.text.now c.args.target in
    let from-of : Name = part c.args.text.now c.args.q in
    let right_of : Right = right_meant c.args.right in
    let to-of : Name = part c.args.text.now c.args.p in
    let named : (s : Session) → Running s c.args.l lent → Names s target-of from-of to-of c.asked-k.result = λ s R. let a = c.args in c.asked-k.ensures s a.locals.now a.local_slots.now a.assertions.now R in
    let whole : (s : Session) → Running s c.args.l lent → complete s target-of from-of to-of ≡ true = λ s R. not-false _ (sym (c.missing.ensures s lent target-of from-of to-of R (named s R)) ∙ c.if-missing.false) in
    let delegating : (s : Session) → Running s c.args.l lent → Delegates s c.args.l lent c.choose-count.new.chosen c.choose-count.result c.asked-k.result.giver c.right_code-code.result c.asked-k.result.taker (targets s.store target-of from-of) from-of right_of to-of = λ s R. let z : length c.choose-count.new.chosen ≡ length c.args.targets.now = c.choose-count.auto.chosen in
    let w : c.choose-count.result ≤ length c.choose-count.new.chosen = omega (arith, z, c.choose-count.ensures.within, c.requires.target_within.3) in
    let N = named s R in
    let k = whole s R in
    delegates s target-of from-of right_of to-of c.args.l lent c.asked-k.result c.choose-count.new.chosen c.choose-count.result c.right_code-code.result R N k w
    (c.choose-count.ensures.are s lent target-of from-of to-of (record { running = R; stood = refl }) N (giver_there s target-of from-of right_of to-of k))
    c.right_code-code.ensures in
    record { session = c.requires.some_running.session; variables_named = _; from = _; of_right = _; to = _; delegates = delegating c.requires.some_running.session c.requires.some_running.running }

pub returns-in-Full : goal.returns-in-Full
returns-in-Full c s R =
    let target-of : Target = target_meant c.args.text.now c.args.target in
    let from-of : Name = part c.args.text.now c.args.q in
    let right_of : Right = right_meant c.args.right in
    let to-of : Name = part c.args.text.now c.args.p in
    let command : Command = set_delegation target-of from-of right_of to-of in
    let lent : Slices = let a = c.args in slices a.principals.now a.principal_slots.now a.vars.now a.variable_slots.now a.locals.now a.local_slots.now a.assertions.now in
    let named : (s : Session) → Running s c.args.l lent → Names s target-of from-of to-of c.asked-k.result = λ s R. let a = c.args in c.asked-k.ensures s a.locals.now a.local_slots.now a.assertions.now R in
    let judged : (s : Session) → Running s c.args.l lent → c.set_denied.result ≡ denied s command = λ s R. c.set_denied.ensures s lent target-of from-of right_of to-of (record { running = R; stood = refl }) (named s R) in
    let whole : (s : Session) → Running s c.args.l lent → complete s target-of from-of to-of ≡ true = λ s R. not-false _ (sym (c.missing.ensures s lent target-of from-of to-of R (named s R)) ∙ c.if-missing.false) in
    let delegating : (s : Session) → Running s c.args.l lent → Delegates s c.args.l lent c.choose-count.new.chosen c.choose-count.result c.asked-k.result.giver c.right_code-code.result c.asked-k.result.taker (targets s.store target-of from-of) from-of right_of to-of = λ s R. let z : length c.choose-count.new.chosen ≡ length c.args.targets.now = c.choose-count.auto.chosen in
    let w : c.choose-count.result ≤ length c.choose-count.new.chosen = omega (arith, z, c.choose-count.ensures.within, c.requires.target_within.3) in
    let N = named s R in
    let k = whole s R in
    delegates s target-of from-of right_of to-of c.args.l lent c.asked-k.result c.choose-count.new.chosen c.choose-count.result c.right_code-code.result R N k w
    (c.choose-count.ensures.are s lent target-of from-of to-of (record { running = R; stood = refl }) N (giver_there s target-of from-of right_of to-of k))
    c.right_code-code.ensures in
    let ended : (s : Session) → Running s c.args.l lent → (r : Entered) → c.enter_all-done.result ≡ r → let a = c.args in Ends r (entered s (assertions_on (targets s.store target-of from-of) from-of right_of to-of)) (slices a.principals.now a.principal_slots.now a.vars.now a.variable_slots.now a.locals.now a.local_slots.now c.enter_all-done.new.assertions) = λ s R r e. let a = c.args in
    subst (λ (r : Entered). Ends r (entered s (assertions_on (targets s.store target-of from-of) from-of right_of to-of))
    (slices a.principals.now a.principal_slots.now a.vars.now a.variable_slots.now a.locals.now a.local_slots.now c.enter_all-done.new.assertions)) e
    (c.enter_all-done.ensures s _ _ _ _ (delegating s R)) in
    let t = target-of in
    ends_full s command (setting s t from-of right_of to-of)
    (sym (judged s R) ∙ c.if-set_denied.false) (set_goes s t from-of right_of to-of (whole s R))
    (ended s R _ c.in-Full.is)

pub returns-in-Done : goal.returns-in-Done
returns-in-Done c s R =
    let target-of : Target = target_meant c.args.text.now c.args.target in
    let from-of : Name = part c.args.text.now c.args.q in
    let right_of : Right = right_meant c.args.right in
    let to-of : Name = part c.args.text.now c.args.p in
    let command : Command = set_delegation target-of from-of right_of to-of in
    let lent : Slices = let a = c.args in slices a.principals.now a.principal_slots.now a.vars.now a.variable_slots.now a.locals.now a.local_slots.now a.assertions.now in
    let named : (s : Session) → Running s c.args.l lent → Names s target-of from-of to-of c.asked-k.result = λ s R. let a = c.args in c.asked-k.ensures s a.locals.now a.local_slots.now a.assertions.now R in
    let judged : (s : Session) → Running s c.args.l lent → c.set_denied.result ≡ denied s command = λ s R. c.set_denied.ensures s lent target-of from-of right_of to-of (record { running = R; stood = refl }) (named s R) in
    let whole : (s : Session) → Running s c.args.l lent → complete s target-of from-of to-of ≡ true = λ s R. not-false _ (sym (c.missing.ensures s lent target-of from-of to-of R (named s R)) ∙ c.if-missing.false) in
    let delegating : (s : Session) → Running s c.args.l lent → Delegates s c.args.l lent c.choose-count.new.chosen c.choose-count.result c.asked-k.result.giver c.right_code-code.result c.asked-k.result.taker (targets s.store target-of from-of) from-of right_of to-of = λ s R. let z : length c.choose-count.new.chosen ≡ length c.args.targets.now = c.choose-count.auto.chosen in
    let w : c.choose-count.result ≤ length c.choose-count.new.chosen = omega (arith, z, c.choose-count.ensures.within, c.requires.target_within.3) in
    let N = named s R in
    let k = whole s R in
    delegates s target-of from-of right_of to-of c.args.l lent c.asked-k.result c.choose-count.new.chosen c.choose-count.result c.right_code-code.result R N k w
    (c.choose-count.ensures.are s lent target-of from-of to-of (record { running = R; stood = refl }) N (giver_there s target-of from-of right_of to-of k))
    c.right_code-code.ensures in
    let ended : (s : Session) → Running s c.args.l lent → (r : Entered) → c.enter_all-done.result ≡ r → let a = c.args in Ends r (entered s (assertions_on (targets s.store target-of from-of) from-of right_of to-of)) (slices a.principals.now a.principal_slots.now a.vars.now a.variable_slots.now a.locals.now a.local_slots.now c.enter_all-done.new.assertions) = λ s R r e. let a = c.args in
    subst (λ (r : Entered). Ends r (entered s (assertions_on (targets s.store target-of from-of) from-of right_of to-of))
    (slices a.principals.now a.principal_slots.now a.vars.now a.variable_slots.now a.locals.now a.local_slots.now c.enter_all-done.new.assertions)) e
    (c.enter_all-done.ensures s _ _ _ _ (delegating s R)) in
    let t = target-of in
    ends_done s command (setting s t from-of right_of to-of)
    (sym (judged s R) ∙ c.if-set_denied.false) (set_goes s t from-of right_of to-of (whole s R)) _ _
    (ended s R _ c.in-Done.is)

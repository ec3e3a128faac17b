-- `principals::create_principal` meets its contract: the principal is added, and then given each right in turn.
-- Assumes nothing.
use mathlib.Core.Path.{◌≡◌, subst}
use native.Mathlib.Omega.{arith}
use Rattle.language.specs.Values.{Session}
use Rattle.language.specs.Commands.{with_store, with_principal, created}
use Rattle.text.specs.Meaning.{part}
use Rattle.store.specs.Rows.{position}
use Rattle.named_rights.specs.Numbers.{principals_of}
use Rattle.session.specs.declared.Layout.{Layout}
use Rattle.session.specs.Sessions.{slices, Running}
use Rattle.assertion_changes.specs.declared.Entered.{Entered}
use Rattle.assertion_changes.specs.Entering.{Ends}
use Rattle.creation.specs.Creating.{New, Gives}
use Rattle.store.proofs.Holders.{some_principals}
use Rattle.session.proofs.Finding.{row_number, number_below, part_length}
use Rattle.principals.proofs.Creating.{create_denied, create_failed, create_new, create_full, create_over, create_done, create_gives}
use borrow.Author.Rules.{rules}
use Rattle.principals.proofs.create_principal.Goals as goal

pub returns-then-sender-ne0 : goal.returns-then-sender-ne0
returns-then-sender-ne0 c s R = create_denied s c.args.l _ R _ _ c.if-sender-ne0.true

pub number_of-n-requires : goal.number_of-n-requires
number_of-n-requires c = (c.requires.some_running.running.principals_within, some_principals c.requires.some_running.session.store.principals _ _ _ c.requires.some_running.running.principals)

pub returns-then-n-count : goal.returns-then-n-count
returns-then-n-count c s R =
    let number_is : (s : Session) → let a = c.args in Running s a.l (slices a.principals.now a.principal_slots.now a.vars.now a.variable_slots.now a.locals.now a.local_slots.now a.assertions.now) → c.number_of-n.result ≡ position (principals_of s.store) (part a.text.now a.p) = λ s R. row_number s c.args.l _ R _ c.number_of-n.result c.number_of-n.ensures in
    let a = c.args in
    let n : c.number_of-n.result ≡ position (principals_of s.store) (part a.text.now a.p) = number_is s R in
    create_failed s a.l _ R (part a.text.now a.p) (part a.text.now a.password) c.number_of-n.result n c.if-sender-ne0.false
    (number_below s a.l _ R (part a.text.now a.p) c.number_of-n.result n c.if-n-count.true)

pub add-added-requires : goal.add-added-requires
add-added-requires c =
    let number_is : (s : Session) → let a = c.args in Running s a.l (slices a.principals.now a.principal_slots.now a.vars.now a.variable_slots.now a.locals.now a.local_slots.now a.assertions.now) → c.number_of-n.result ≡ position (principals_of s.store) (part a.text.now a.p) = λ s R. row_number s c.args.l _ R _ c.number_of-n.result c.number_of-n.ensures in
    let is_new : (s : Session) → let a = c.args in Running s a.l (slices a.principals.now a.principal_slots.now a.vars.now a.variable_slots.now a.locals.now a.local_slots.now a.assertions.now) → New s a.l (slices a.principals.now a.principal_slots.now a.vars.now a.variable_slots.now a.locals.now a.local_slots.now a.assertions.now) a.principals.now a.principal_slots.now (part a.text.now a.p) (part a.text.now a.password) = λ s R. let a = c.args in
    create_new s a.l _ R (part a.text.now a.p) (part a.text.now a.password) c.number_of-n.result (number_is s R) c.if-sender-ne0.false c.if-n-count.false c.requires.within.2 in
    let a = c.args in (
      record { session = c.requires.some_running.session; buffers = _; new = is_new c.requires.some_running.session c.requires.some_running.running },
      omega (arith, part_length a.text.now a.p.start a.p.end c.requires.within.0.1, c.requires.within.0.1, c.requires.within.3),
      omega (arith, part_length a.text.now a.password.start a.password.end c.requires.within.1.1, c.requires.within.1.1, c.requires.within.3),
    )

pub returns-in_default : goal.returns-in_default
returns-in_default c s R =
    let number_is : (s : Session) → let a = c.args in Running s a.l (slices a.principals.now a.principal_slots.now a.vars.now a.variable_slots.now a.locals.now a.local_slots.now a.assertions.now) → c.number_of-n.result ≡ position (principals_of s.store) (part a.text.now a.p) = λ s R. row_number s c.args.l _ R _ c.number_of-n.result c.number_of-n.ensures in
    let is_new : (s : Session) → let a = c.args in Running s a.l (slices a.principals.now a.principal_slots.now a.vars.now a.variable_slots.now a.locals.now a.local_slots.now a.assertions.now) → New s a.l (slices a.principals.now a.principal_slots.now a.vars.now a.variable_slots.now a.locals.now a.local_slots.now a.assertions.now) a.principals.now a.principal_slots.now (part a.text.now a.p) (part a.text.now a.password) = λ s R. let a = c.args in
    create_new s a.l _ R (part a.text.now a.p) (part a.text.now a.password) c.number_of-n.result (number_is s R) c.if-sender-ne0.false c.if-n-count.false c.requires.within.2 in
    let added-ends : (s : Session) → let a = c.args in Running s a.l (slices a.principals.now a.principal_slots.now a.vars.now a.variable_slots.now a.locals.now a.local_slots.now a.assertions.now) → (r : Entered) → c.add-added.result ≡ r → Ends r (with_store s (with_principal s.store (part a.text.now a.p) (part a.text.now a.password))) (slices c.add-added.new.principals c.add-added.new.principal_slots a.vars.now a.variable_slots.now a.locals.now a.local_slots.now a.assertions.now) = λ s R r e. let a = c.args in
    subst (λ (r : Entered). Ends r (with_store s (with_principal s.store (part a.text.now a.p) (part a.text.now a.password)))
    (slices c.add-added.new.principals c.add-added.new.principal_slots a.vars.now a.variable_slots.now a.locals.now a.local_slots.now a.assertions.now)) e
    (c.add-added.ensures s (slices a.principals.now a.principal_slots.now a.vars.now a.variable_slots.now a.locals.now a.local_slots.now a.assertions.now) (is_new s R)) in
    let a = c.args in
    create_over s a.l _ R (part a.text.now a.p) (part a.text.now a.password) c.number_of-n.result (number_is s R) c.if-sender-ne0.false c.if-n-count.false
    (added-ends s R _ c.in_default.is)

pub delegate_rights-given-requires : goal.delegate_rights-given-requires
delegate_rights-given-requires c =
    let number_is : (s : Session) → let a = c.args in Running s a.l (slices a.principals.now a.principal_slots.now a.vars.now a.variable_slots.now a.locals.now a.local_slots.now a.assertions.now) → c.number_of-n.result ≡ position (principals_of s.store) (part a.text.now a.p) = λ s R. row_number s c.args.l _ R _ c.number_of-n.result c.number_of-n.ensures in
    let is_new : (s : Session) → let a = c.args in Running s a.l (slices a.principals.now a.principal_slots.now a.vars.now a.variable_slots.now a.locals.now a.local_slots.now a.assertions.now) → New s a.l (slices a.principals.now a.principal_slots.now a.vars.now a.variable_slots.now a.locals.now a.local_slots.now a.assertions.now) a.principals.now a.principal_slots.now (part a.text.now a.p) (part a.text.now a.password) = λ s R. let a = c.args in
    create_new s a.l _ R (part a.text.now a.p) (part a.text.now a.password) c.number_of-n.result (number_is s R) c.if-sender-ne0.false c.if-n-count.false c.requires.within.2 in
    let added-ends : (s : Session) → let a = c.args in Running s a.l (slices a.principals.now a.principal_slots.now a.vars.now a.variable_slots.now a.locals.now a.local_slots.now a.assertions.now) → (r : Entered) → c.add-added.result ≡ r → Ends r (with_store s (with_principal s.store (part a.text.now a.p) (part a.text.now a.password))) (slices c.add-added.new.principals c.add-added.new.principal_slots a.vars.now a.variable_slots.now a.locals.now a.local_slots.now a.assertions.now) = λ s R r e. let a = c.args in
    subst (λ (r : Entered). Ends r (with_store s (with_principal s.store (part a.text.now a.p) (part a.text.now a.password)))
    (slices c.add-added.new.principals c.add-added.new.principal_slots a.vars.now a.variable_slots.now a.locals.now a.local_slots.now a.assertions.now)) e
    (c.add-added.ensures s (slices a.principals.now a.principal_slots.now a.vars.now a.variable_slots.now a.locals.now a.local_slots.now a.assertions.now) (is_new s R)) in
    let now-gives : (s : Session) → let a = c.args in let k : Layout = c.in-Done.k in Running s a.l (slices a.principals.now a.principal_slots.now a.vars.now a.variable_slots.now a.locals.now a.local_slots.now a.assertions.now) → Gives (with_store s (with_principal s.store (part a.text.now a.p) (part a.text.now a.password))) k (slices c.add-added.new.principals c.add-added.new.principal_slots a.vars.now a.variable_slots.now a.locals.now a.local_slots.now a.assertions.now) k.delegator a.l.principals s.store.delegator (part a.text.now a.p) = λ s R. let a = c.args in
    create_gives s a.l _ R (part a.text.now a.p) (part a.text.now a.password) c.number_of-n.result (number_is s R) c.if-sender-ne0.false c.if-n-count.false
    c.in-Done.k _ (added-ends s R _ c.in-Done.is) in
    let a = c.args in (
      record {
        session = with_store c.requires.some_running.session (with_principal c.requires.some_running.session.store (part a.text.now a.p) (part a.text.now a.password));
        from = c.requires.some_running.session.store.delegator;
        to = part a.text.now a.p;
        gives = now-gives c.requires.some_running.session c.requires.some_running.running;
      },
      omega (arith, c.requires.targets_len),
    )

pub returns-in-Full : goal.returns-in-Full
returns-in-Full c s R =
    let number_is : (s : Session) → let a = c.args in Running s a.l (slices a.principals.now a.principal_slots.now a.vars.now a.variable_slots.now a.locals.now a.local_slots.now a.assertions.now) → c.number_of-n.result ≡ position (principals_of s.store) (part a.text.now a.p) = λ s R. row_number s c.args.l _ R _ c.number_of-n.result c.number_of-n.ensures in
    let is_new : (s : Session) → let a = c.args in Running s a.l (slices a.principals.now a.principal_slots.now a.vars.now a.variable_slots.now a.locals.now a.local_slots.now a.assertions.now) → New s a.l (slices a.principals.now a.principal_slots.now a.vars.now a.variable_slots.now a.locals.now a.local_slots.now a.assertions.now) a.principals.now a.principal_slots.now (part a.text.now a.p) (part a.text.now a.password) = λ s R. let a = c.args in
    create_new s a.l _ R (part a.text.now a.p) (part a.text.now a.password) c.number_of-n.result (number_is s R) c.if-sender-ne0.false c.if-n-count.false c.requires.within.2 in
    let added-ends : (s : Session) → let a = c.args in Running s a.l (slices a.principals.now a.principal_slots.now a.vars.now a.variable_slots.now a.locals.now a.local_slots.now a.assertions.now) → (r : Entered) → c.add-added.result ≡ r → Ends r (with_store s (with_principal s.store (part a.text.now a.p) (part a.text.now a.password))) (slices c.add-added.new.principals c.add-added.new.principal_slots a.vars.now a.variable_slots.now a.locals.now a.local_slots.now a.assertions.now) = λ s R r e. let a = c.args in
    subst (λ (r : Entered). Ends r (with_store s (with_principal s.store (part a.text.now a.p) (part a.text.now a.password)))
    (slices c.add-added.new.principals c.add-added.new.principal_slots a.vars.now a.variable_slots.now a.locals.now a.local_slots.now a.assertions.now)) e
    (c.add-added.ensures s (slices a.principals.now a.principal_slots.now a.vars.now a.variable_slots.now a.locals.now a.local_slots.now a.assertions.now) (is_new s R)) in
    let now-gives : (s : Session) → let a = c.args in let k : Layout = c.in-Done.k in Running s a.l (slices a.principals.now a.principal_slots.now a.vars.now a.variable_slots.now a.locals.now a.local_slots.now a.assertions.now) → Gives (with_store s (with_principal s.store (part a.text.now a.p) (part a.text.now a.password))) k (slices c.add-added.new.principals c.add-added.new.principal_slots a.vars.now a.variable_slots.now a.locals.now a.local_slots.now a.assertions.now) k.delegator a.l.principals s.store.delegator (part a.text.now a.p) = λ s R. let a = c.args in
    create_gives s a.l _ R (part a.text.now a.p) (part a.text.now a.password) c.number_of-n.result (number_is s R) c.if-sender-ne0.false c.if-n-count.false
    c.in-Done.k _ (added-ends s R _ c.in-Done.is) in
    let given-ends : (s : Session) → let a = c.args in Running s a.l (slices a.principals.now a.principal_slots.now a.vars.now a.variable_slots.now a.locals.now a.local_slots.now a.assertions.now) → (r : Entered) → c.delegate_rights-given.result ≡ r → Ends r (with_store s (created s.store (part a.text.now a.p) (part a.text.now a.password))) (slices c.add-added.new.principals c.add-added.new.principal_slots a.vars.now a.variable_slots.now a.locals.now a.local_slots.now c.delegate_rights-given.new.assertions) = λ s R r e. let a = c.args in
    subst (λ (r : Entered). Ends r (with_store s (created s.store (part a.text.now a.p) (part a.text.now a.password)))
    (slices c.add-added.new.principals c.add-added.new.principal_slots a.vars.now a.variable_slots.now a.locals.now a.local_slots.now c.delegate_rights-given.new.assertions)) e
    (c.delegate_rights-given.ensures (with_store s (with_principal s.store (part a.text.now a.p) (part a.text.now a.password))) s.store.delegator (part a.text.now a.p) (now-gives s R)) in
    let a = c.args in
    create_full s a.l _ R (part a.text.now a.p) (part a.text.now a.password) c.number_of-n.result (number_is s R) c.if-sender-ne0.false c.if-n-count.false
    (given-ends s R _ c.in-Full.is)

pub returns-in-Done-given : goal.returns-in-Done-given
returns-in-Done-given c s R =
    let number_is : (s : Session) → let a = c.args in Running s a.l (slices a.principals.now a.principal_slots.now a.vars.now a.variable_slots.now a.locals.now a.local_slots.now a.assertions.now) → c.number_of-n.result ≡ position (principals_of s.store) (part a.text.now a.p) = λ s R. row_number s c.args.l _ R _ c.number_of-n.result c.number_of-n.ensures in
    let is_new : (s : Session) → let a = c.args in Running s a.l (slices a.principals.now a.principal_slots.now a.vars.now a.variable_slots.now a.locals.now a.local_slots.now a.assertions.now) → New s a.l (slices a.principals.now a.principal_slots.now a.vars.now a.variable_slots.now a.locals.now a.local_slots.now a.assertions.now) a.principals.now a.principal_slots.now (part a.text.now a.p) (part a.text.now a.password) = λ s R. let a = c.args in
    create_new s a.l _ R (part a.text.now a.p) (part a.text.now a.password) c.number_of-n.result (number_is s R) c.if-sender-ne0.false c.if-n-count.false c.requires.within.2 in
    let added-ends : (s : Session) → let a = c.args in Running s a.l (slices a.principals.now a.principal_slots.now a.vars.now a.variable_slots.now a.locals.now a.local_slots.now a.assertions.now) → (r : Entered) → c.add-added.result ≡ r → Ends r (with_store s (with_principal s.store (part a.text.now a.p) (part a.text.now a.password))) (slices c.add-added.new.principals c.add-added.new.principal_slots a.vars.now a.variable_slots.now a.locals.now a.local_slots.now a.assertions.now) = λ s R r e. let a = c.args in
    subst (λ (r : Entered). Ends r (with_store s (with_principal s.store (part a.text.now a.p) (part a.text.now a.password)))
    (slices c.add-added.new.principals c.add-added.new.principal_slots a.vars.now a.variable_slots.now a.locals.now a.local_slots.now a.assertions.now)) e
    (c.add-added.ensures s (slices a.principals.now a.principal_slots.now a.vars.now a.variable_slots.now a.locals.now a.local_slots.now a.assertions.now) (is_new s R)) in
    let now-gives : (s : Session) → let a = c.args in let k : Layout = c.in-Done.k in Running s a.l (slices a.principals.now a.principal_slots.now a.vars.now a.variable_slots.now a.locals.now a.local_slots.now a.assertions.now) → Gives (with_store s (with_principal s.store (part a.text.now a.p) (part a.text.now a.password))) k (slices c.add-added.new.principals c.add-added.new.principal_slots a.vars.now a.variable_slots.now a.locals.now a.local_slots.now a.assertions.now) k.delegator a.l.principals s.store.delegator (part a.text.now a.p) = λ s R. let a = c.args in
    create_gives s a.l _ R (part a.text.now a.p) (part a.text.now a.password) c.number_of-n.result (number_is s R) c.if-sender-ne0.false c.if-n-count.false
    c.in-Done.k _ (added-ends s R _ c.in-Done.is) in
    let given-ends : (s : Session) → let a = c.args in Running s a.l (slices a.principals.now a.principal_slots.now a.vars.now a.variable_slots.now a.locals.now a.local_slots.now a.assertions.now) → (r : Entered) → c.delegate_rights-given.result ≡ r → Ends r (with_store s (created s.store (part a.text.now a.p) (part a.text.now a.password))) (slices c.add-added.new.principals c.add-added.new.principal_slots a.vars.now a.variable_slots.now a.locals.now a.local_slots.now c.delegate_rights-given.new.assertions) = λ s R r e. let a = c.args in
    subst (λ (r : Entered). Ends r (with_store s (created s.store (part a.text.now a.p) (part a.text.now a.password)))
    (slices c.add-added.new.principals c.add-added.new.principal_slots a.vars.now a.variable_slots.now a.locals.now a.local_slots.now c.delegate_rights-given.new.assertions)) e
    (c.delegate_rights-given.ensures (with_store s (with_principal s.store (part a.text.now a.p) (part a.text.now a.password))) s.store.delegator (part a.text.now a.p) (now-gives s R)) in
    let a = c.args in
    create_done s a.l _ R (part a.text.now a.p) (part a.text.now a.password) c.number_of-n.result (number_is s R) c.if-sender-ne0.false c.if-n-count.false _ _
    (given-ends s R _ c.in-Done-given.is)

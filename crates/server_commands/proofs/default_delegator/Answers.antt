-- `server_commands::default_delegator` meets its contract: the number of the name is that of the delegator.
-- Assumes nothing.
use mathlib.Core.Path.{◌≡◌}
use Rattle.language.specs.Values.{Session}
use Rattle.text.specs.Meaning.{part}
use Rattle.session.specs.Sessions.{slices, Running}
use Rattle.store.specs.Rows.{position}
use Rattle.named_rights.specs.Numbers.{principals_of}
use Rattle.store.proofs.Holders.{some_principals}
use Rattle.session.proofs.Finding.{row_number, number_below}
use Rattle.server_commands.proofs.Naming.{delegator_denied, delegator_failed, delegator_done}
use borrow.Author.Rules.{rules}
use Rattle.server_commands.proofs.default_delegator.Goals as goal

pub returns-then-sender-ne0 : goal.returns-then-sender-ne0
returns-then-sender-ne0 c s R = delegator_denied s c.args.l _ R _ c.if-sender-ne0.true

pub number_of-n-requires : goal.number_of-n-requires
number_of-n-requires c = (c.requires.some_running.running.principals_within, some_principals c.requires.some_running.session.store.principals _ _ _ c.requires.some_running.running.principals)

pub returns-then-n-count : goal.returns-then-n-count
returns-then-n-count c s R =
    let number_is : (s : Session) → let a = c.args in Running s a.l (slices a.principals.now a.principal_slots.now a.vars.now a.variable_slots.now a.locals.now a.local_slots.now a.assertions.now) → c.number_of-n.result ≡ position (principals_of s.store) (part a.text.now a.p) = λ s R. row_number s c.args.l _ R _ c.number_of-n.result c.number_of-n.ensures in
    delegator_failed s c.args.l _ R (part c.args.text.now c.args.p) c.number_of-n.result (number_is s R) c.if-sender-ne0.false c.if-n-count.true

pub returns : goal.returns
returns c s R =
    let number_is : (s : Session) → let a = c.args in Running s a.l (slices a.principals.now a.principal_slots.now a.vars.now a.variable_slots.now a.locals.now a.local_slots.now a.assertions.now) → c.number_of-n.result ≡ position (principals_of s.store) (part a.text.now a.p) = λ s R. row_number s c.args.l _ R _ c.number_of-n.result c.number_of-n.ensures in
    let n : c.number_of-n.result ≡ position (principals_of s.store) (part c.args.text.now c.args.p) = number_is s R in
    delegator_done s c.args.l _ R (part c.args.text.now c.args.p) c.number_of-n.result n c.if-sender-ne0.false
    (number_below s c.args.l _ R _ _ n c.if-n-count.false) c.requires.within.1

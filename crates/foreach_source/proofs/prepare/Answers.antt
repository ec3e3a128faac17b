use mathlib.Core.Path.{◌≡◌, sym, ap, subst, ◌∙◌}
use mathlib.Core.Bool.{false, not}
use native.Mathlib.Omega.{arith}
use borrow.Author.Tests.{not-true, not-false}
use lib.Seq.{length-take-le}
use Rattle.language.specs.Text.{Text}
use Rattle.language.specs.Values.{Session}
use Rattle.language.specs.Commands.{elements}
use Rattle.text.specs.Meaning.{part}
use Rattle.session.specs.Sessions.{Slices, slices, Running}
use Rattle.session.proofs.Scoping.{sends}
use Rattle.lookup.proofs.Looking.{scoped, sending}
use Rattle.foreach_source.specs.declared.Source.{Source}
use Rattle.foreach_source.specs.Sources.{forbidden, Sourced, Copied}
use Rattle.permits.specs.Knowledge.{terms}
use Rattle.expression_rights.proofs.Within.{found_knows}
use borrow.Author.Rules.{rules}
use Rattle.foreach_source.proofs.prepare.Reads as reads
use Rattle.foreach_source.proofs.prepare.Lts as lts
use Rattle.expression_rights.proofs.known.Reads as known-reads
use Rattle.foreach_source.proofs.copy_list.Reads as copy-list-reads
use Rattle.foreach_source.proofs.may_replace.Reads as may-replace-reads
use Rattle.foreach_source.proofs.prepare.Goals as goal

pub may_replace-requires : goal.may_replace-requires
may_replace-requires c =
    let lent : Slices = let a = c.args in slices a.principals.now a.principal_slots.now a.vars.now a.variable_slots.now a.locals.now a.local_slots.now a.assertions.now in
    record { session = c.requires.some_running.session; sending = sending c.requires.some_running.session c.args.l lent c.requires.some_running.running }

pub returns-then-not-may_replace : goal.returns-then-not-may_replace
returns-then-not-may_replace c s u R m =
    let lent : Slices = let a = c.args in slices a.principals.now a.principal_slots.now a.vars.now a.variable_slots.now a.locals.now a.local_slots.now a.assertions.now in
    c.may_replace.ensures s (sending s c.args.l lent R) ∙ ap not (not-true c.may_replace.result c.if-not-may_replace.true-raw)

pub copy_list-found-requires : goal.copy_list-found-requires
copy_list-found-requires c =
    let lent : Slices = let a = c.args in slices a.principals.now a.principal_slots.now a.vars.now a.variable_slots.now a.locals.now a.local_slots.now a.assertions.now in
    record {
      some_light = record { session = c.requires.some_running.session; scoped = scoped c.requires.some_running.session c.args.l lent c.requires.some_running.running; is_light = omega (arith, c.requires.some_running.running.weighed, c.requires.some_running.running.light) };
      within = (c.requires.within.0, c.requires.within.1, c.requires.within.3);
    }

pub returns-in_default : goal.returns-in_default
returns-in_default c s u R m =
    let lent : Slices = let a = c.args in slices a.principals.now a.principal_slots.now a.vars.now a.variable_slots.now a.locals.now a.local_slots.now a.assertions.now in
    let x-of : Text = part c.args.text.now c.args.x in
    let Runs : Session → Type 0 = λ s. Running s c.args.l lent in
    let may : (s : Session) → Runs s → forbidden s x-of ≡ false = λ s R. c.may_replace.ensures s (sending s c.args.l lent R) ∙ ap not (not-false c.may_replace.result c.if-not-may_replace.false-raw) in
    let y_of : Text = part c.args.text.now c.args.y in
    let found : (s : Session) → Runs s → (r : Source) → c.copy_list-found.result ≡ r → Sourced r (elements s y_of x-of) c.copy_list-found.new.out = λ s R r e. subst (λ (q : Source). Sourced q (elements s y_of x-of) c.copy_list-found.new.out) e
    (c.copy_list-found.ensures s (scoped s c.args.l lent R)) in
    (may s R, found s R _ c.in_default.is)

pub returns-then-n-eq2 : goal.returns-then-n-eq2
returns-then-n-eq2 c s u R m =
    let lent : Slices = let a = c.args in slices a.principals.now a.principal_slots.now a.vars.now a.variable_slots.now a.locals.now a.local_slots.now a.assertions.now in
    let x-of : Text = part c.args.text.now c.args.x in
    let Runs : Session → Type 0 = λ s. Running s c.args.l lent in
    let may : (s : Session) → Runs s → forbidden s x-of ≡ false = λ s R. c.may_replace.ensures s (sending s c.args.l lent R) ∙ ap not (not-false c.may_replace.result c.if-not-may_replace.false-raw) in
    let y_of : Text = part c.args.text.now c.args.y in
    let found : (s : Session) → Runs s → (r : Source) → c.copy_list-found.result ≡ r → Sourced r (elements s y_of x-of) c.copy_list-found.new.out = λ s R r e. subst (λ (q : Source). Sourced q (elements s y_of x-of) c.copy_list-found.new.out) e
    (c.copy_list-found.ensures s (scoped s c.args.l lent R)) in
    let copied : (s : Session) → Runs s → Copied (elements s y_of x-of) c.copy_list-found.new.out c.in-List.n = λ s R. found s R _ c.in-List.is in
    (may s R, copied s R, tt)

pub slice_bounds-known-end : goal.slice_bounds-known-end
slice_bounds-known-end c = sym (length-take-le _ _ c.requires.some_running.running.vars_within)

pub known-known-requires : goal.known-known-requires
known-known-requires c =
    let lent : Slices = let a = c.args in slices a.principals.now a.principal_slots.now a.vars.now a.variable_slots.now a.locals.now a.local_slots.now a.assertions.now in
    (record { session = c.requires.some_running.session; sends = sends c.requires.some_running.session c.args.l lent c.requires.some_running.running }, c.requires.within.2)

pub returns : goal.returns
returns c s u R m =
    let lent : Slices = let a = c.args in slices a.principals.now a.principal_slots.now a.vars.now a.variable_slots.now a.locals.now a.local_slots.now a.assertions.now in
    let x-of : Text = part c.args.text.now c.args.x in
    let Runs : Session → Type 0 = λ s. Running s c.args.l lent in
    let may : (s : Session) → Runs s → forbidden s x-of ≡ false = λ s R. c.may_replace.ensures s (sending s c.args.l lent R) ∙ ap not (not-false c.may_replace.result c.if-not-may_replace.false-raw) in
    let y_of : Text = part c.args.text.now c.args.y in
    let found : (s : Session) → Runs s → (r : Source) → c.copy_list-found.result ≡ r → Sourced r (elements s y_of x-of) c.copy_list-found.new.out = λ s R r e. subst (λ (q : Source). Sourced q (elements s y_of x-of) c.copy_list-found.new.out) e
    (c.copy_list-found.ensures s (scoped s c.args.l lent R)) in
    let copied : (s : Session) → Runs s → Copied (elements s y_of x-of) c.copy_list-found.new.out c.in-List.n = λ s R. found s R _ c.in-List.is in
    (may s R, copied s R, found_knows s (terms u) c.known-known.result (c.known-known.ensures s u (sends s c.args.l lent R) m))

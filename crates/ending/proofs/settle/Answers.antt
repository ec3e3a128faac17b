-- `ending::settle` meets its contract. A refusal leaves the state as it was, and so does a text that is no program; a completed program's session is saved.
-- Assumes nothing.
use mathlib.Core.Path.{ap, subst}
use native.Mathlib.Omega.{arith}
use mathlib.Core.Option.{Option}
use Rattle.language.specs.Text.{Text}
use Rattle.language.specs.Syntax.{Name}
use Rattle.language.specs.Run.{End, tallied}
use Rattle.value_text.proofs.Pieces.{written_length}
use Rattle.session.specs.Sessions.{Slices, slices}
use Rattle.outcome.specs.declared.Performed.{Performed}
use Rattle.outcome.specs.Ends.{Completes, Ends}
use Rattle.ending.specs.Endings.{end_or}
use Rattle.ending.proofs.Closings.{closed_refusal, kept, kind_is, count_is, bytes_are, lines_are, state_is}
use borrow.Author.Rules.{rules}
use Rattle.ending.proofs.settle.Goals as goal

pub save-requires : goal.save-requires
save-requires c =
    let lent : Slices = let a = c.args in slices a.principals.now a.principal_slots.now a.work.now a.variable_slots.now a.locals.now a.local_slots.now a.assertions.now in
    let Ending : Name → Option End → Text → Performed → Type 0 = λ p e before d. Ends d p e lent before c.args.output.now in
    let completes : (p : Name) (e : Option End) (before : Text) → Ending p e before c.args.performed → Completes p e c.in-Completed.l c.in-Completed.n c.in-Completed.lines lent before c.args.output.now = λ p e before D. subst (Ending p e before) c.in-Completed.is D in
    let C = completes c.requires.some_end.sender c.requires.some_end.end c.requires.some_end.before c.requires.some_end.ends in record {
      some_running = record { session = C.session; running = C.running };
      state_len = (c.requires.work_len.1, c.requires.work_len.3, c.requires.work_len.4);
    }

pub close-requires : goal.close-requires
close-requires c =
    let lent : Slices = let a = c.args in slices a.principals.now a.principal_slots.now a.work.now a.variable_slots.now a.locals.now a.local_slots.now a.assertions.now in
    let Ending : Name → Option End → Text → Performed → Type 0 = λ p e before d. Ends d p e lent before c.args.output.now in
    let completes : (p : Name) (e : Option End) (before : Text) → Ending p e before c.args.performed → Completes p e c.in-Completed.l c.in-Completed.n c.in-Completed.lines lent before c.args.output.now = λ p e before D. subst (Ending p e before) c.in-Completed.is D in
    let C = completes c.requires.some_end.sender c.requires.some_end.end c.requires.some_end.before c.requires.some_end.ends in
    (c.requires.work_len.0, c.requires.work_len.2, omega (arith, C.printed.fits, written_length C.printed, c.requires.work_len.2))

pub returns-in-Broken : goal.returns-in-Broken
returns-in-Broken c p e before D =
    let lent : Slices = let a = c.args in slices a.principals.now a.principal_slots.now a.work.now a.variable_slots.now a.locals.now a.local_slots.now a.assertions.now in
    let Ending : Name → Option End → Text → Performed → Type 0 = λ p e before d. Ends d p e lent before c.args.output.now in
    let h = ap end_or (subst (Ending p e before) c.in-Broken.is D) in
    (closed_refusal c.refuse.ensures h, kept c.refuse.ensures (ap (tallied p) h) c.args.state.now)

pub returns-in-Refused : goal.returns-in-Refused
returns-in-Refused c p e before D =
    let lent : Slices = let a = c.args in slices a.principals.now a.principal_slots.now a.work.now a.variable_slots.now a.locals.now a.local_slots.now a.assertions.now in
    let Ending : Name → Option End → Text → Performed → Type 0 = λ p e before d. Ends d p e lent before c.args.output.now in
    let h = ap end_or (subst (Ending p e before) c.in-Refused.is D) in
    (closed_refusal c.refuse-in-Refused.ensures h, kept c.refuse-in-Refused.ensures (ap (tallied p) h) c.args.state.now)

pub returns-in-Completed : goal.returns-in-Completed
returns-in-Completed c p e before D =
    let lent : Slices = let a = c.args in slices a.principals.now a.principal_slots.now a.work.now a.variable_slots.now a.locals.now a.local_slots.now a.assertions.now in
    let Ending : Name → Option End → Text → Performed → Type 0 = λ p e before d. Ends d p e lent before c.args.output.now in
    let completes : (p : Name) (e : Option End) (before : Text) → Ending p e before c.args.performed → Completes p e c.in-Completed.l c.in-Completed.n c.in-Completed.lines lent before c.args.output.now = λ p e before D. subst (Ending p e before) c.in-Completed.is D in
    let C = completes p e before D in (
      c.close.ensures (end_or e) (kind_is C c.end_kind-kind.result c.end_kind-kind.ensures) (count_is C) (bytes_are C) (lines_are C),
      state_is C c.args.state.now _ (c.save.ensures C.session C.running),
    )

-- `engine::perform` meets its contract: each command takes the program a stage further, ends it or breaks it off.
-- Assumes nothing.
use mathlib.Core.Path.{sym, subst}
use native.Mathlib.Omega.{arith}
use Rattle.language.specs.Text.{Text, present}
use Rattle.language.specs.Commands.{step}
use Rattle.parser.specs.Bodies.{body_from, rest_from, First}
use Rattle.session.specs.Sessions.{Slices, slices}
use Rattle.refusal.specs.Refusals.{refusal_meant}
use Rattle.outcome.specs.declared.Performed.{Performed}
use Rattle.outcome.specs.Ends.{end_on, Ends}
use Rattle.outcome.proofs.Refusing.{refuses}
use Rattle.engine.proofs.Stages.{starts, few_lines, has_room, stops, goes_on, ends}
use Rattle.engine.proofs.perform.Goals as goal

pub loop-read-init : goal.loop-read-init
loop-read-init c = record { within = c.requires.at_in_bounds.0; stage = λ s R. starts c.args.text.now c.args.output.now c.args.at R }

pub act-acted-requires-clause-some_running : goal.act-acted-requires-clause-some_running
act-acted-requires-clause-some_running c =
    let S = c.loop-read.invariant.stage c.requires.some_running.session c.requires.some_running.running in
    record { session = S.session; running = S.running }

pub tell-done-requires : goal.tell-done-requires
tell-done-requires c =
    let S = c.loop-read.invariant.stage c.requires.some_running.session c.requires.some_running.running in
    let F = c.in-Some.ensures in (
      record {
        step = step S.session F.command;
        session = S.session;
        buffers = slices c.act-acted.new.principals c.act-acted.new.principal_slots c.act-acted.new.vars c.act-acted.new.variable_slots c.act-acted.new.locals c.act-acted.new.local_slots c.act-acted.new.assertions;
        acts = c.act-acted.ensures S.session F.command S.running F.meant;
      },
      omega (arith, c.loop-read.auto.output, c.requires.at_in_bounds.2, has_room S c.loop-read.invariant.within c.requires.at_in_bounds.1),
    )

pub returns-in-Err : goal.returns-in-Err
returns-in-Err c s R =
    let S = c.loop-read.invariant.stage s R in
    let F = c.in-Some.ensures in
    let left : Slices = slices c.act-acted.new.principals c.act-acted.new.principal_slots c.act-acted.new.vars c.act-acted.new.variable_slots c.act-acted.new.locals c.act-acted.new.local_slots c.act-acted.new.assertions in
    let printed : Text = c.tell-done.new.output in
    let t = c.args.text.now in
    let how = c.in-Err.how in
    let k = c.in-Err.ensures (step S.session F.command) S.session left (c.act-acted.ensures S.session F.command S.running F.meant) in
    let o = end_on s (body_from t c.args.at) in
    subst (λ (x : Performed). Ends x s.sender o left c.args.output.now printed) (sym c.refused.ensures)
    (refuses how (present (rest_from t c.in-Some.read.rest)) s.sender o left c.args.output.now printed (stops S F (refusal_meant how) k))

pub overflow_add-lines : goal.overflow_add-lines
overflow_add-lines c =
    let S = c.loop-read.invariant.stage c.requires.some_running.session c.requires.some_running.running in
    omega (arith, few_lines S, has_room S c.loop-read.invariant.within c.requires.at_in_bounds.1)

pub returns-in_default-rest : goal.returns-in_default-rest
returns-in_default-rest c s R =
    let S = c.loop-read.invariant.stage s R in
    let F = subst (First c.args.text.now c.loop-read.p c.in-Some.read.command) c.in_default-rest.is c.in-Some.ensures in
    let left : Slices = slices c.act-acted.new.principals c.act-acted.new.principal_slots c.act-acted.new.vars c.act-acted.new.variable_slots c.act-acted.new.locals c.act-acted.new.local_slots c.act-acted.new.assertions in
    ends S F (c.in-Ok.ensures (step S.session F.command) S.session left (c.act-acted.ensures S.session F.command S.running F.meant))

pub loop-read-preserved : goal.loop-read-preserved
loop-read-preserved c =
    let F = subst (First c.args.text.now c.loop-read.p c.in-Some.read.command) c.in-Some-rest.is c.in-Some.ensures in
    let left : Slices = slices c.act-acted.new.principals c.act-acted.new.principal_slots c.act-acted.new.vars c.act-acted.new.variable_slots c.act-acted.new.locals c.act-acted.new.local_slots c.act-acted.new.assertions in
    record {
      within = F.placed.1;
      stage = λ s R.
          let S = c.loop-read.invariant.stage s R in
          goes_on S F (c.in-Ok.ensures (step S.session F.command) S.session left (c.act-acted.ensures S.session F.command S.running F.meant));
    }

-- `engine::command::tell` meets its contract. A refusal is passed on; a status or a value is printed.
-- Assumes nothing.
use mathlib.Core.Path.{sym, subst}
use borrow.Author.Rules.{rules}
use Rattle.language.specs.Values.{Session}
use Rattle.session.specs.Sessions.{Running}
use Rattle.value_text.proofs.Pieces.{rewritten}
use Rattle.tokens.proofs.Reading.{known}
use Rattle.status.specs.declared.Acted.{Acted}
use Rattle.status.specs.Acts.{Acts, Hands}
use Rattle.engine.proofs.Spoken.{json_room, from_start}
use Rattle.engine.proofs.command.tell.Goals as goal

pub slice_bounds-returning-end : goal.slice_bounds-returning-end
slice_bounds-returning-end c =
    let here : let S = c.requires.0 in Hands S.step S.session c.args.l S.buffers c.args.value.now c.in-Value.n = let S = c.requires.0 in
    known (λ (a : Acted). Acts a S.step S.session c.args.l S.buffers c.args.value.now) S.acts c.in-Value.is in
    here.returned.within

pub returning-end-requires : goal.returning-end-requires
returning-end-requires c =
    let here : let S = c.requires.0 in Hands S.step S.session c.args.l S.buffers c.args.value.now c.in-Value.n = let S = c.requires.0 in
    known (λ (a : Acted). Acts a S.step S.session c.args.l S.buffers c.args.value.now) S.acts c.in-Value.is in
    let W = here.returned in
    json_room W.value _ c.args.output.now _ (from_start W.value c.args.value.now c.in-Value.n W.held) W.light c.requires.1

pub returns-in-Refused : goal.returns-in-Refused
returns-in-Refused c k s b A = known (λ (a : Acted). Acts a k s c.args.l b c.args.value.now) A c.in-Refused.is

pub returns-in-Done : goal.returns-in-Done
returns-in-Done c k s b A =
    let S = known (λ (a : Acted). Acts a k s c.args.l b c.args.value.now) A c.in-Done.is in
    record {
      effect = S.succeeds.effect;
      is_step = S.succeeds.is_step;
      running = S.succeeds.running;
      printed = rewritten (sym S.line) c.print-end.ensures;
    }

pub returns-in-Value : goal.returns-in-Value
returns-in-Value c k s b A =
    let H = known (λ (a : Acted). Acts a k s c.args.l b c.args.value.now) A c.in-Value.is in
    let W = H.returned in
    record {
      effect = W.effect;
      is_step = W.is_step;
      running = subst (λ (z : Session). Running z c.args.l b) (sym W.unchanged) H.running;
      printed = rewritten (sym W.printed) (c.returning-end.ensures W.value (from_start W.value c.args.value.now c.in-Value.n W.held));
    }

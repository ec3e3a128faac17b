-- `assignment::declare` meets its contract. The local is added where the session stays light enough.
-- Assumes nothing.
use mathlib.Core.Path.{sym, subst}
use native.Mathlib.Omega.{arith}
use Rattle.language.specs.State.{put, value_in}
use Rattle.language.specs.Commands.{with_locals}
use Rattle.session.specs.declared.Layout.{Layout}
use Rattle.session.specs.Sessions.{slices, Running}
use Rattle.variable_text.proofs.Weighing.{few, put_full, put_done}
use Rattle.assignment.proofs.Assigning.{neither, locals_lie, locals_full, local_put}
use Rattle.assignment.proofs.declare.Goals as goal

pub add-put-requires : goal.add-put-requires
add-put-requires c = let P = c.requires in (P.0, P.2, P.1, omega (arith, P.3))

pub returns-in_default : goal.returns-in_default
returns-in_default c s pe pm sv sm st v R u W =
    let a = c.args in
    let b = slices pe pm sv sm a.locals.now a.local_slots.now st in
    let n = neither (value_in s.locals a.name.now) (value_in s.store.variables a.name.now) u in
    locals_full s a.l b R a.name.now v W.held.is_valid
    (put_full s.locals (put a.name.now v s.locals) a.l.weight c.add-put.result c.add-put.new.buf _ c.add-put.new.slots (c.add-put.ensures s.locals v (locals_lie s a.l b R) n W) c.in_default.is)

pub overflow_add-count : goal.overflow_add-count
overflow_add-count c = omega (arith, few c.requires.0.lies, c.requires.3)

pub returns : goal.returns
returns c s pe pm sv sm st v R u W =
    let a = c.args in
    let b = slices pe pm sv sm a.locals.now a.local_slots.now st in
    let n = neither (value_in s.locals a.name.now) (value_in s.store.variables a.name.now) u in
    subst (λ (k : Layout). Running (with_locals s (put a.name.now v s.locals)) k (slices pe pm sv sm c.add-put.new.buf c.add-put.new.slots st)) (sym c.with_locals.ensures)
    (local_put s a.l b R a.name.now v W.held.is_valid c.add-put.new.buf c.add-put.new.slots c.in-Done.len _ c.in-Done.w c.add-put.auto.buf
    (put_done s.locals (put a.name.now v s.locals) a.l.weight c.add-put.result c.add-put.new.buf _ c.add-put.new.slots (c.add-put.ensures s.locals v (locals_lie s a.l b R) n W) c.in-Done.len c.in-Done.w c.in-Done.is))

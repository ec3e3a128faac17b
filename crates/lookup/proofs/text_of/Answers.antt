-- `lookup::text_of` meets its contract. The parts of the buffers are what is read, a local before a shared variable.
-- Assumes nothing.
use mathlib.Core.Path.{sym}
use lib.Seq.{length-take-le}
use lib.ListN.{take}
use Rattle.store.proofs.Holders.{some_variables}
use Rattle.evaluate.proofs.Found.{read_name}
use Rattle.lookup.proofs.text_of.Goals as goal

pub slice_bounds-read-end : goal.slice_bounds-read-end
slice_bounds-read-end c = sym (length-take-le _ _ c.requires.scoped.vars_within)

pub slice_bounds-read-end-2 : goal.slice_bounds-read-end-2
slice_bounds-read-end-2 c = sym (length-take-le _ _ c.requires.scoped.locals_within)

pub read-requires : goal.read-requires
read-requires c =
    let a = c.args in
    let S = c.requires.scoped.scope in
    let s = c.requires.session in (
      some_variables s.store.variables (take a.l.vars_len a.vars.now) a.l.vars a.variable_slots.now S.shared_held,
      some_variables s.locals (take a.l.locals_len a.locals.now) a.l.locals a.local_slots.now S.locals_held,
    )

pub returns : goal.returns
returns c s S = read_name S.scope c.args.name.now c.read.result.now (c.read.ensures s.store.variables s.locals S.scope.shared_held S.scope.locals_held)

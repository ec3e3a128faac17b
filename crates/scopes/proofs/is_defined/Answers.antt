-- `scopes::is_defined` meets its contract. A value's text is never empty, so the length says whether there is one.
-- Assumes nothing.
use Rattle.store.proofs.Holders.{some_variables}
use Rattle.scopes.proofs.Defining.{defined_by_bytes}
use Rattle.scopes.proofs.is_defined.Goals as goal

pub read-value-requires : goal.read-value-requires
read-value-requires c =
    let a = c.args in
    let S = c.requires.scope in
    let s = c.requires.session in (
      some_variables s.store.variables a.shared.now a.count a.slots.now S.shared_held,
      some_variables s.locals a.locals.now a.lcount a.lslots.now S.locals_held,
    )

pub returns : goal.returns
returns c s S = defined_by_bytes s c.args.name.now c.read-value.result.now (c.read-value.ensures s.store.variables s.locals S.shared_held S.locals_held)

-- `opening::begin` meets its contract. Two copies; all else is as the check of the state's buffer left it.
-- Assumes nothing.
use native.Mathlib.Omega.{arith}
use Rattle.opening.proofs.Copies.{principals_fit, variables_fit, begun}
use Rattle.opening.proofs.begin.Goals as goal

pub copy_in-principals_len-requires : goal.copy_in-principals_len-requires
copy_in-principals_len-requires c =
    let a = c.args in
    omega (arith, c.requires.sized.principals_size, principals_fit a.state.now a.principal_slots.now a.variable_slots.now a.assertions.now a.parts c.requires.some_valid.state c.requires.some_valid.represents c.requires.some_valid.is_valid)

pub copy_in-vars_len-requires : goal.copy_in-vars_len-requires
copy_in-vars_len-requires c =
    let a = c.args in
    omega (arith, c.requires.sized.vars_size, variables_fit a.state.now a.principal_slots.now a.variable_slots.now a.assertions.now a.parts c.requires.some_valid.state c.requires.some_valid.represents c.requires.some_valid.is_valid)

pub returns : goal.returns
returns c s p R v e k =
    let a = c.args in
    begun a.state.now a.principal_slots.now a.variable_slots.now a.assertions.now a.parts s R v a.principals.now _ a.vars.now _ a.locals.now a.local_slots.now _ _
    c.requires.sized c.copy_in-principals_len.ensures c.copy_in-vars_len.ensures p a.sender e k

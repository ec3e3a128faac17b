-- What is gathered are the delegations that are asked about.
use mathlib.Core.Path.{refl, sym}
use mathlib.Core.List.{map}
use Rattle.assertion.specs.Packed.{fields}
use Rattle.chains.specs.Chain.{asked}
use Rattle.rights.proofs.run_gathered.Goals as goal

pub returns : goal.returns
returns c =
    let a = c.args in
    c.run.ensures (asked (map fields a.assertions.now) a.count a.variable a.right) (sym c.gather-n.ensures.those) refl

-- What is gathered are the delegations that are asked about.
use mathlib.Core.Path.{sym, ap, ◌∙◌}
use mathlib.Core.List.{map}
use native.Mathlib.Omega.{arith}
use lib.ListN.{length}
use Rattle.assertion.specs.Packed.{fields}
use Rattle.chains.specs.Chain.{asked}
use Rattle.chains.specs.Rounds.{start}
use Rattle.marking.proofs.lengths.Goals as goal

pub rounds-requires : goal.rounds-requires
unfolding start
rounds-requires c = (omega arith, omega arith, c.start.ensures ∙ ap start (sym c.start.auto.dist))

pub returns : goal.returns
returns c =
    let a = c.args in
    c.rounds.ensures (asked (map fields a.assertions.now) (length a.dist.now) a.variable a.right) (sym c.gather-n.ensures.those) (sym c.start.auto.dist)

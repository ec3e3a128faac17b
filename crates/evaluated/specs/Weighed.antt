-- Document 01, "Values": what a value comes to by its weight.
use Rattle.std.proofs.Math.Option.{Option}
use Rattle.std.specs.Prelude.{[]}
use Rattle.language.specs.Outcomes.{Outcome, ◌>>=◌, from}
use Rattle.language.specs.State.{Value}
use Rattle.language.specs.Expressions.{weighed}

-- what an operand or a record comes to, by the value that it has, where it has one
abbrev pub by_weight : Option Value → Outcome Value
by_weight o = from o >>= weighed []

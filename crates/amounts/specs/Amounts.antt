-- What an amount that was found, or was not, means (request M-104).
use Rattle.std.proofs.Math.Option.{Option, none, some}
use Rattle.std.specs.Prelude.{ℤ, Option as Answer, Some, None}

abbrev pub amount_meant : Answer ℤ → Option ℤ
amount_meant (Some a) = some a
amount_meant None = none

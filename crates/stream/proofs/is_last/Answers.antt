-- `stream::is_last` meets its contract. Assumes nothing.
use Rattle.stream.specs.Stream.{last_line}
use Rattle.stream.proofs.Streaming.{three_stars}
use Rattle.stream.proofs.is_last.Goals as goal

pub returns : goal.returns
returns c stream program reads = three_stars (last_line stream) _ reads.line

-- `foreach_piece::is_blank` meets its contract. Its text is the only one of three bytes.
-- Assumes nothing.
use Rattle.foreach_piece.proofs.Settling.{three_bytes}
use Rattle.foreach_piece.proofs.is_blank.Goals as goal

pub returns : goal.returns
returns c v h = three_bytes v c.args.value.now h

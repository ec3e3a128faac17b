-- `closing::close` meets its contract. Zeros after the output's lines, and in the whole work buffer.
-- Assumes nothing.
use Rattle.closing.proofs.Closings.{closes}
use borrow.Author.Rules.{rules}
use Rattle.closing.proofs.close.Goals as goal

pub returns : goal.returns
returns c e k l b t =
    let a = c.args in
    closes a.kind a.lines a.bytes e a.work.now _ a.output.now _ c.requires.0 c.requires.1 c.zero_rest-2.ensures c.zero_rest.ensures k l b t

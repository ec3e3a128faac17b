-- `closing::refuse` meets its contract. The line stands at the output's start, whatever was printed before.
-- Assumes nothing.
use mathlib.Core.Path.{refl}
use Rattle.language.specs.Run.{refusal}
use Rattle.refusal.specs.Refusals.{refusal_meant}
use Rattle.closing.proofs.Closings.{first_bytes, first_text, one_line}
use borrow.Author.Rules.{rules}
use Rattle.closing.proofs.refuse.Goals as goal

pub returns : goal.returns
returns c =
    let f = refusal_meant c.args.how in
    c.close.ensures (refusal f) refl (one_line f) (first_bytes refl c.put_refusal-n.ensures) (first_text refl c.put_refusal-n.ensures)

use Rattle.std.proofs.Common.{sym, ◌∙◌}
use Rattle.language.specs.Bytes.{word_byte}
use Rattle.language.specs.Identifiers.{is_name}
use Rattle.language.proofs.StateText.Clean.{name_word}
use Rattle.lines.proofs.Cuts.{refused}
use Rattle.lines.proofs.name_end.Goals as goal

pub returns-in_err-e : goal.returns-in_err-e
returns-in_err-e c = rw c.from_residual.ensures (λ x r h d. c.in_err-e.ensures x r (name_word x h) d)

pub returns-then-not-is_name : goal.returns-then-not-is_name
returns-then-not-is_name c =
    let a = c.args in
    refused word_byte is_name name_word a.stop c.requires.1 a.text.now a.at c.in_ok-e.e c.in_ok-e.ensures (sym c.is_name.ensures ∙ c.if-not-is_name.true)

use mathlib.Core.Path.{sym, ◌∙◌}
use native.Mathlib.Omega.{arith}
use lib.ListN.{drop}
use Rattle.std.proofs.lemmas.Grind.{common_steps}
use Rattle.language.specs.Tokens.{lex}
use Rattle.text.specs.Meaning.{part}
use Rattle.term_readers.proofs.Terms.{no_record, one_record}
use Rattle.term_readers.proofs.read_enclosed.Goals as goal

pub returns-in_err-skip_record-clause-meant : goal.returns-in_err-skip_record-clause-meant
returns-in_err-skip_record-clause-meant c =
    let s = c.args.scanner.now in
    let e = no_record (part s.text.now c.args.word) (lex (drop s.at s.text.now)) (sym c.is.ensures ∙ c.if-is.true) (sym c.in_err-skip_record.ensures.meant) in
    grind (arith, common_steps, e)

pub returns-then-is-clause-meant : goal.returns-then-is-clause-meant
returns-then-is-clause-meant c =
    let s = c.args.scanner.now in
    sym (one_record (part s.text.now c.args.word) (lex (drop s.at s.text.now)) (sym c.is.ensures ∙ c.if-is.true) (sym c.in_ok-skip_record.ensures.meant))

use mathlib.Core.Path.{sym}
use lib.ListN.{drop}
use Rattle.language.specs.Tokens.{lex}
use Rattle.expression_readers.proofs.Lets.{term_read}
use Rattle.expression_readers.proofs.read_expression.Goals as goal

pub returns-in-Some-clause-meant : goal.returns-in-Some-clause-meant
returns-in-Some-clause-meant c =
    let s = c.args.scanner.now in
    let us = lex (drop c.read_term.new.scanner.at s.text.now) in
    term_read s.text.now c.in-Some.term (lex (drop s.at s.text.now)) us c.in-Some.ensures.placed.0 (sym c.in-Some.ensures.meant)

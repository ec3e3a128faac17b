use mathlib.Core.Path.{sym, ◌∙◌}
use Rattle.tokens.proofs.Lexing.{word_sign, word_name, word_long}
use Rattle.tokens.proofs.token.word_at.Goals as goal

pub returns-then-is_keyword-clause-meant : goal.returns-then-is_keyword-clause-meant
returns-then-is_keyword-clause-meant c =
    word_sign c.args.text.now c.args.at c.requires.at_in_bounds c.run_end-end.result c.run_end-end.ensures.ends c.requires.at_value (sym c.is_keyword.ensures ∙ c.if-is_keyword.true)

pub returns-then-end-at-le-LONGEST_NAME-clause-meant : goal.returns-then-end-at-le-LONGEST_NAME-clause-meant
returns-then-end-at-le-LONGEST_NAME-clause-meant c =
    word_name c.args.text.now c.args.at c.requires.at_in_bounds c.run_end-end.result c.run_end-end.ensures.ends c.requires.at_value (sym c.is_keyword.ensures ∙ c.if-is_keyword.false) c.if-end-at-le-LONGEST_NAME.true

pub returns-else-end-at-le-LONGEST_NAME-clause-meant : goal.returns-else-end-at-le-LONGEST_NAME-clause-meant
returns-else-end-at-le-LONGEST_NAME-clause-meant c =
    word_long c.args.text.now c.args.at c.requires.at_in_bounds c.run_end-end.result c.run_end-end.ensures.ends c.requires.at_value (sym c.is_keyword.ensures ∙ c.if-is_keyword.false) c.if-end-at-le-LONGEST_NAME.false

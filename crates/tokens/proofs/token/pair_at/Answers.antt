use borrow.Author.Tests.{ne_eqb}
use native.Mathlib.Omega.{arith}
use lib.ListN.{get_or}
use Rattle.tokens.proofs.Lexing.{class_mark, pair_sign, pair_bad}
use Rattle.tokens.proofs.token.pair_at.Goals as goal

pub returns-in-45-eq62-clause-meant : goal.returns-in-45-eq62-clause-meant
returns-in-45-eq62-clause-meant c =
    let a = c.args in
    pair_sign a.text.now a.at (omega (arith, c.requires.at_in_bounds)) a.m a.n c.requires.at_in_bounds c.requires.at_value c.requires.at_value_2 c.requires.text_value (class_mark (get_or a.text.now a.at 0) a.m c.requires.at_value) (rw (c.in-45-eq62.is-0, c.in-45-eq62.is-1))

pub returns-in-45-eq62-2-clause-meant : goal.returns-in-45-eq62-2-clause-meant
returns-in-45-eq62-2-clause-meant c =
    let a = c.args in
    pair_sign a.text.now a.at (omega (arith, c.requires.at_in_bounds)) a.m a.n c.requires.at_in_bounds c.requires.at_value c.requires.at_value_2 c.requires.text_value (class_mark (get_or a.text.now a.at 0) a.m c.requires.at_value) (rw (c.in-45-eq62.is-0, c.in-45-eq62.is-1))

pub returns-in_default-clause-meant : goal.returns-in_default-clause-meant
returns-in_default-clause-meant c =
    let a = c.args in
    pair_bad a.text.now a.at (omega (arith, c.requires.at_in_bounds)) a.m a.n c.requires.at_in_bounds c.requires.at_value c.requires.at_value_2 c.requires.text_value (rw (c.in_default.is-0, ne_eqb a.n 62 c.in_default.is-1.1))

pub returns-in_default-2-clause-meant : goal.returns-in_default-2-clause-meant
returns-in_default-2-clause-meant c =
    let a = c.args in
    pair_bad a.text.now a.at (omega (arith, c.requires.at_in_bounds)) a.m a.n c.requires.at_in_bounds c.requires.at_value c.requires.at_value_2 c.requires.text_value (rw (c.in_default.is-0, ne_eqb a.n 93 c.in_default.is-1.1))

pub returns-in_default-3-clause-meant : goal.returns-in_default-3-clause-meant
returns-in_default-3-clause-meant c =
    let a = c.args in
    pair_bad a.text.now a.at (omega (arith, c.requires.at_in_bounds)) a.m a.n c.requires.at_in_bounds c.requires.at_value c.requires.at_value_2 c.requires.text_value (rw (c.in_default.is-0, ne_eqb a.n 47 c.in_default.is-1.1))

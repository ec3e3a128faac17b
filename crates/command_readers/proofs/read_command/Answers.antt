use mathlib.Core.Path.{sym, ap, ◌∙◌}
use lib.ListN.{drop}
use Rattle.language.specs.Text.{bytes}
use Rattle.language.specs.Tokens.{lex}
use Rattle.language.specs.Grammar.{any_command}
use Rattle.text.specs.Meaning.{part}
use Rattle.tokens.proofs.Reading.{sign_is, spelled}
use Rattle.command_readers.proofs.Dispatch.{append_is, local_is, foreach_is, filtereach_is, principals_only}
use Rattle.command_readers.proofs.read_command.Goals as goal

pub returns-then-is-clause-meant : goal.returns-then-is-clause-meant
returns-then-is-clause-meant c =
    let s = c.args.scanner.now in
    let q = c.in_ok-word.ensures.text in
    let us = lex (drop c.sign.new.self.at s.text.now) in
    let e = spelled {us = us} (bytes "set") (sign_is (lex (drop s.at s.text.now)) (sym c.in_ok-word.ensures.meant)) (sym (rw q at c.is.ensures) ∙ c.if-is.true) in
    rw q at c.read_set.ensures.meant ∙ sym (ap any_command e)

pub returns-then-is-2-clause-meant : goal.returns-then-is-2-clause-meant
returns-then-is-2-clause-meant c =
    let s = c.args.scanner.now in
    let q = c.in_ok-word.ensures.text in
    let us = lex (drop c.sign.new.self.at s.text.now) in
    let e = spelled {us = us} (bytes "append") (sign_is (lex (drop s.at s.text.now)) (sym c.in_ok-word.ensures.meant)) (sym (rw q at c.is-2.ensures) ∙ c.if-is-2.true) in
    rw q at c.read_append.ensures.meant ∙ sym (ap any_command e ∙ append_is us)

pub returns-then-is-3-clause-meant : goal.returns-then-is-3-clause-meant
returns-then-is-3-clause-meant c =
    let s = c.args.scanner.now in
    let q = c.in_ok-word.ensures.text in
    let us = lex (drop c.sign.new.self.at s.text.now) in
    let e = spelled {us = us} (bytes "local") (sign_is (lex (drop s.at s.text.now)) (sym c.in_ok-word.ensures.meant)) (sym (rw q at c.is-3.ensures) ∙ c.if-is-3.true) in
    rw q at c.read_local.ensures.meant ∙ sym (ap any_command e ∙ local_is us)

pub returns-then-is-4-clause-meant : goal.returns-then-is-4-clause-meant
returns-then-is-4-clause-meant c =
    let s = c.args.scanner.now in
    let q = c.in_ok-word.ensures.text in
    let us = lex (drop c.sign.new.self.at s.text.now) in
    let e = spelled {us = us} (bytes "foreach") (sign_is (lex (drop s.at s.text.now)) (sym c.in_ok-word.ensures.meant)) (sym (rw q at c.is-4.ensures) ∙ c.if-is-4.true) in
    rw q at c.read_foreach.ensures.meant ∙ sym (ap any_command e ∙ foreach_is us)

pub returns-then-is-5-clause-meant : goal.returns-then-is-5-clause-meant
returns-then-is-5-clause-meant c =
    let s = c.args.scanner.now in
    let q = c.in_ok-word.ensures.text in
    let us = lex (drop c.sign.new.self.at s.text.now) in
    let e = spelled {us = us} (bytes "filtereach") (sign_is (lex (drop s.at s.text.now)) (sym c.in_ok-word.ensures.meant)) (sym (rw q at c.is-5.ensures) ∙ c.if-is-5.true) in
    rw q at c.read_filtereach.ensures.meant ∙ sym (ap any_command e ∙ filtereach_is us)

pub returns-clause-meant : goal.returns-clause-meant
returns-clause-meant c =
    let s = c.args.scanner.now in
    let q = c.in_ok-word.ensures.text in
    let w = part s.text.now c.in_ok-word.word in
    let us = lex (drop c.sign.new.self.at s.text.now) in
    let set = sym (rw q at c.is.ensures) ∙ c.if-is.false in
    let append = sym (rw q at c.is-2.ensures) ∙ c.if-is-2.false in
    let local = sym (rw q at c.is-3.ensures) ∙ c.if-is-3.false in
    let foreach = sym (rw q at c.is-4.ensures) ∙ c.if-is-4.false in
    let filtereach = sym (rw q at c.is-5.ensures) ∙ c.if-is-5.false in
    let e = ap any_command (sign_is (lex (drop s.at s.text.now)) (sym c.in_ok-word.ensures.meant)) ∙ principals_only w us set append local foreach filtereach in
    rw q at c.read_about_principals.ensures.meant ∙ sym e

use mathlib.Core.Path.{refl, sym, ap, ◌∙◌}
use lib.ListN.{drop}
use Rattle.language.specs.Text.{bytes}
use Rattle.language.specs.Tokens.{lex}
use Rattle.text.specs.Meaning.{part}
use Rattle.tokens.proofs.Reading.{spelled}
use Rattle.command_readers.specs.Commands.{about_principals}
use Rattle.command_readers.proofs.Dispatch.{create_is, change_is, delete_is}
use Rattle.command_readers.proofs.read_about_principals.Goals as goal

pub returns-then-is-clause-meant : goal.returns-then-is-clause-meant
returns-then-is-clause-meant c =
    let s = c.args.scanner.now in
    let us = lex (drop s.at s.text.now) in
    let e = ap about_principals (spelled {us = us} {v = part s.text.now c.args.word} (bytes "create") refl (sym c.is.ensures ∙ c.if-is.true)) in
    c.read_create.ensures.meant ∙ sym (e ∙ create_is us)

pub returns-then-is-2-clause-meant : goal.returns-then-is-2-clause-meant
returns-then-is-2-clause-meant c =
    let s = c.args.scanner.now in
    let us = lex (drop s.at s.text.now) in
    let e = ap about_principals (spelled {us = us} {v = part s.text.now c.args.word} (bytes "change") refl (sym c.is-2.ensures ∙ c.if-is-2.true)) in
    c.read_change.ensures.meant ∙ sym (e ∙ change_is us)

pub returns-then-is-3-clause-meant : goal.returns-then-is-3-clause-meant
returns-then-is-3-clause-meant c =
    let s = c.args.scanner.now in
    let us = lex (drop s.at s.text.now) in
    let e = ap about_principals (spelled {us = us} {v = part s.text.now c.args.word} (bytes "delete") refl (sym c.is-3.ensures ∙ c.if-is-3.true)) in
    c.read_delete.ensures.meant ∙ sym (e ∙ delete_is us)

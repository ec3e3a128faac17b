use mathlib.Core.Path.{sym, ◌∙◌}
use Rattle.parser.proofs.Firsts.{first_command, first_ending}
use Rattle.parser.proofs.read_at.Goals as goal

pub returns-in-Some : goal.returns-in-Some
returns-in-Some c =
    let q = c.in-Tokens.ensures.placed in
    first_command c.args.text.now c.args.at c.in-Tokens.s c.in-Tokens.n q.0 q.1 q.2 c.in-Tokens.ensures.meant c.in-Some.command c.in-Some.ensures.placed (sym c.in-Some.ensures.meant)

pub returns-else-not-stars_at : goal.returns-else-not-stars_at
returns-else-not-stars_at c =
    let q = c.in-Tokens.ensures.placed in
    let ending = c.in_ok-command-in-Tokens in
    first_ending c.args.text.now c.args.at c.in-Tokens.s c.in-Tokens.n q.0 q.1 q.2 c.in-Tokens.ensures.meant (sym c.in_default.ensures.meant) ending.command ending.ensures.placed (sym ending.ensures.meant)
    (sym c.stars_at.ensures ∙ c.if-not-stars_at.false)

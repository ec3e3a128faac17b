use Rattle.std.proofs.Common.{ap, ◌∙◌}
use Rattle.language.specs.Syntax.{Term}
use Rattle.language.specs.Expressions.{term_names}
use Rattle.permits.specs.Permits.{unread}
use Rattle.syntax.proofs.Said.{record_meant, record_safe}
use Rattle.permits.proofs.readable.Goals as goal

pub fields_readable-requires : goal.fields_readable-requires
fields_readable-requires c = (c.requires.0, record_safe c.args.text.now c.args.e c.requires.1 c.in-Record.at c.in-Record.is)

pub returns-in-Record : goal.returns-in-Record
returns-in-Record c s x W m =
    let F = record_meant c.args.text.now c.args.e c.in-Record.at x c.in-Record.is m in
    ap (λ (y : Term). unread s (term_names y)) F.is_record ∙ c.fields_readable.ensures s F.bindings F.others W F.here

-- `keywords::is_base_keyword` meets its contract. One arm for each first letter.
-- Assumes nothing.
use Rattle.std.proofs.Common.{arith, rules, refl, ◌∙◌}
use Rattle.language.specs.Text.{bytes, parts}
use Rattle.language.specs.Identifiers.{base_keywords}
use Rattle.keywords.proofs.Keywords.{one_of_lem}
use Rattle.keywords.proofs.is_base_keyword.Goals as goal

pub returns-in-114 : goal.returns-in-114
returns-in-114 c =
    c.among-in-114.ensures ∙ one_of_lem c.args.w.now 114 (omega arith) (search rules) base_keywords (parts 32 (bytes "read replacewith return")) refl

-- `keywords::is_keyword` meets its contract. A keyword is one of document 01, or one that was added.
-- Assumes nothing.
use mathlib.Core.Path.{sym, ap, ◌∙◌}
use mathlib.Core.Bool.{Bool, ◌||◌}
use Rattle.language.specs.Text.{Text, ◌≟◌, member}
use Rattle.language.specs.Identifiers.{base_keywords, price_keywords}
use Rattle.language.proofs.Logic.Lists.{any_joined}
use Rattle.keywords.proofs.is_keyword.Goals as goal

pub returns-else-is_base_keyword : goal.returns-else-is_base_keyword
returns-else-is_base_keyword c =
    let w = c.args.w.now in
    c.is_price_keyword.ensures
    ∙ sym (any_joined (λ (u : Text). w ≟ u) base_keywords price_keywords
    ∙ ap (λ (b : Bool). b || member w price_keywords) (sym c.is_base_keyword.ensures ∙ c.if-is_base_keyword.false))

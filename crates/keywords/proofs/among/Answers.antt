-- `keywords::among` meets its contract: what `any` answers over the parts that `split` yields.
-- Assumes nothing.
use Rattle.std.proofs.Common.{rules, tests, eqb, ◌∙◌}
use Rattle.std.proofs.lemmas.Iterator.Search.{any_from_yields_List}
use Rattle.std.proofs.lemmas.Iterator.Splits.{YieldsList-from_slice_split}
use Rattle.language.specs.Text.{◌≟◌}
use Rattle.keywords.proofs.Keywords.{member_parts}
use Rattle.keywords.proofs.among.Goals as goal

pub returns : goal.returns
returns c =
    let a = c.args in
    any_from_yields_List (λ u. a.w.now ≟ u) _ _ c.any.result c.any.ensures.ran
    (YieldsList-from_slice_split _ (λ b. eqb b 32) a.words.now c.split.ensures.rest c.split.ensures.done c.split.ensures.closure (λ x b q k. search (rules, tests)))
    (λ x b q k. search (rules, tests))
    ∙ member_parts a.w.now a.words.now 32

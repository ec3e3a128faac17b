use Rattle.state_lookups.proofs.Saying.{says_found}
use borrow.Author.Rules.{rules}
use Rattle.state_lookups.proofs.write.Goals as goal

pub returns : goal.returns
returns c =
    let a = c.args in
    says_found a.number a.text.now a.out.now _ _ (search rules) c.copy.ensures

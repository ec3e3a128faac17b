use Rattle.named_rights.proofs.Chains.{says}
use Rattle.named_rights.proofs.chain.Goals as goal

pub returns : goal.returns
returns c s r x p v t k =
    let a = c.args in
    says s r x p a.n a.count a.variable a.right a.principal a.assertions.now c.shortest.result.answer v t k c.shortest.ensures.answer

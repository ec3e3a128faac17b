-- `rights::shortest` meets its contract. Assumes nothing.
use mathlib.Core.Path.{refl}
use mathlib.Core.List.{map}
use native.Mathlib.Omega.{arith}
use Rattle.assertion.specs.Packed.{fields}
use Rattle.chains.specs.Chain.{Asked, asked}
use Rattle.chains.proofs.Searching.{admin_first, answer_outside}
use Rattle.rights.proofs.shortest.Goals as goal

pub returns-then-count-principal : goal.returns-then-count-principal
returns-then-count-principal c =
    let A : Asked = asked (map fields c.args.assertions.now) c.args.count c.args.variable c.args.right in
    record { answer = answer_outside A c.args.principal c.if-count-principal.true; begun = λ lt. absurd (omega (arith, c.if-count-principal.true)); outside = λ o. refl }

pub returns-then-principal-eq0 : goal.returns-then-principal-eq0
returns-then-principal-eq0 c =
    let A : Asked = asked (map fields c.args.assertions.now) c.args.count c.args.variable c.args.right in
    record { answer = admin_first A c.args.principal c.if-principal-eq0.true c.if-count-principal.false; begun = λ lt. refl; outside = λ o. refl }

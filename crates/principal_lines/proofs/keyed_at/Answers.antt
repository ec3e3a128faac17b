use Rattle.std.proofs.Common.{◌≡◌, ℕ, ◌+◌, None, Some, subst, arith}
use Rattle.language.specs.Weight.{name_weight}
use Rattle.language.specs.Former.{Form}
use Rattle.text.specs.Parts.{part}
use Rattle.store.proofs.NameWeights.{name_light}
use Rattle.principal_lines.specs.Principals.{form_meant, base_of, SecretMeant}
use Rattle.principal_lines.proofs.OneLine.{base_small, keyed_unnamed, keyed_secretless, keyed_good}
use Rattle.principal_lines.proofs.keyed_at.Goals as goal

pub returns-in_err-name_end : goal.returns-in_err-name_end
returns-in_err-name_end c =
    let form : Form = form_meant c.args.form in
    let a = c.args in
    rw c.from_residual.ensures (keyed_unnamed form a.text.now a.at a.w c.requires.1 c.requires.0 c.in_err-name_end.ensures)

pub secret_at-requires : goal.secret_at-requires
secret_at-requires c =
    let f = c.in_ok-name_end.ensures in
    let l = name_light (part c.args.text.now (c.args.at + 2) c.in_ok-name_end.name_end) f.is_fine in
    (omega (arith, f.high), omega (arith, l.1, c.name_weight.ensures, base_small (form_meant c.args.form), c.base.ensures, c.requires.2))

pub returns-in_err-end : goal.returns-in_err-end
returns-in_err-end c =
    let form : Form = form_meant c.args.form in
    let a = c.args in
    let weighs : c.args.w + c.base.result + c.name_weight.result ≡ c.args.w + base_of form + name_weight (part c.args.text.now (c.args.at + 2) c.in_ok-name_end.name_end) = λ i. c.args.w + c.base.ensures i + c.name_weight.ensures i in
    rw c.from_residual-in_err-end.ensures
    (keyed_secretless form a.text.now a.at a.w c.requires.1 c.requires.0 c.in_ok-name_end.name_end c.in_ok-name_end.ensures
    (subst (λ (k : ℕ). SecretMeant form a.text.now (c.in_ok-name_end.name_end + 1) k None) weighs c.in_err-end.ensures))

pub returns : goal.returns
returns c =
    let form : Form = form_meant c.args.form in
    let a = c.args in
    let weighs : c.args.w + c.base.result + c.name_weight.result ≡ c.args.w + base_of form + name_weight (part c.args.text.now (c.args.at + 2) c.in_ok-name_end.name_end) = λ i. c.args.w + c.base.ensures i + c.name_weight.ensures i in
    keyed_good form a.text.now a.at a.w c.requires.1 c.requires.0 c.in_ok-name_end.name_end c.in_ok-name_end.ensures c.in_ok-end.end c.in_ok-end.weighed
    (subst (λ (k : ℕ). SecretMeant form a.text.now (c.in_ok-name_end.name_end + 1) k (Some (c.in_ok-end.end, c.in_ok-end.weighed))) weighs c.in_ok-end.ensures)

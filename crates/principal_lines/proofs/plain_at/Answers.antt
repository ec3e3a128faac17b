use Rattle.std.proofs.Common.{◌≡◌, ℕ, ◌+◌, None, subst, arith}
use Rattle.language.specs.Identifiers.{is_name}
use Rattle.language.specs.Weight.{name_weight}
use Rattle.language.specs.Former.{Form}
use Rattle.lines.specs.Cuts.{CutMeant, Field}
use Rattle.text.specs.Parts.{part}
use Rattle.principal_lines.specs.Principals.{form_meant, stop_of, base_of}
use Rattle.principal_lines.proofs.OneLine.{plain_unnamed, plain_heavy, plain_tailless, plain_good}
use Rattle.principal_lines.proofs.plain_at.Goals as goal

pub returns-in_err-name_end : goal.returns-in_err-name_end
returns-in_err-name_end c =
    let form : Form = form_meant c.args.form in
    let a = c.args in
    rw c.from_residual.ensures
    (plain_unnamed form a.text.now a.at a.w c.requires.1 c.requires.0
    (subst (λ (b : ℕ). CutMeant is_name b a.text.now (a.at + 2) None) c.stop.ensures c.in_err-name_end.ensures))

pub returns-then-weighed-gt-LIMIT : goal.returns-then-weighed-gt-LIMIT
returns-then-weighed-gt-LIMIT c =
    let form : Form = form_meant c.args.form in
    let a = c.args in
    let field : Field is_name (stop_of form) c.args.text.now (c.args.at + 2) c.in_ok-name_end.name_end = subst (λ (b : ℕ). Field is_name b c.args.text.now (c.args.at + 2) c.in_ok-name_end.name_end) c.stop.ensures c.in_ok-name_end.ensures in
    let weighs : c.args.w + c.base.result + c.name_weight.result ≡ c.args.w + base_of form + name_weight (part c.args.text.now (c.args.at + 2) c.in_ok-name_end.name_end) = λ i. c.args.w + c.base.ensures i + c.name_weight.ensures i in
    plain_heavy form a.text.now a.at a.w c.requires.1 c.requires.0 c.in_ok-name_end.name_end field (omega (arith, c.if-weighed-gt-LIMIT.true, weighs))

pub returns-in_err-end : goal.returns-in_err-end
returns-in_err-end c =
    let form : Form = form_meant c.args.form in
    let a = c.args in
    let field : Field is_name (stop_of form) c.args.text.now (c.args.at + 2) c.in_ok-name_end.name_end = subst (λ (b : ℕ). Field is_name b c.args.text.now (c.args.at + 2) c.in_ok-name_end.name_end) c.stop.ensures c.in_ok-name_end.ensures in
    rw c.from_residual-in_err-end.ensures (plain_tailless form a.text.now a.at a.w c.requires.1 c.requires.0 c.in_ok-name_end.name_end field c.in_err-end.ensures)

pub returns : goal.returns
returns c =
    let form : Form = form_meant c.args.form in
    let a = c.args in
    let field : Field is_name (stop_of form) c.args.text.now (c.args.at + 2) c.in_ok-name_end.name_end = subst (λ (b : ℕ). Field is_name b c.args.text.now (c.args.at + 2) c.in_ok-name_end.name_end) c.stop.ensures c.in_ok-name_end.ensures in
    let weighs : c.args.w + c.base.result + c.name_weight.result ≡ c.args.w + base_of form + name_weight (part c.args.text.now (c.args.at + 2) c.in_ok-name_end.name_end) = λ i. c.args.w + c.base.ensures i + c.name_weight.ensures i in
    let r = c.in_ok-end.ensures in
    plain_good form a.text.now a.at a.w c.requires.1 c.requires.0 c.in_ok-name_end.name_end field r.0 _ _ r.1 weighs c.if-weighed-gt-LIMIT.false

use Rattle.std.proofs.Common.{ℕ, refl, subst, arith}
use Rattle.language.specs.Text.{all}
use Rattle.language.specs.Bytes.{string_byte}
use Rattle.language.specs.Former.{Form}
use Rattle.lines.specs.Cuts.{Field}
use Rattle.principal_lines.specs.Principals.{form_meant, stop_of}
use Rattle.principal_lines.proofs.OneLine.{secret_heavy, secret_tailless, secret_good}
use Rattle.principal_lines.proofs.secret_at.Goals as goal
use Rattle.principal_lines.proofs.secret_at.Goals.{then-size-gt-LIMIT-via-then-size-gt-LIMIT, then-size-gt-LIMIT-via-else-size-gt-LIMIT+then-w-size-gt-LIMIT}

pub returns-then-size-gt-LIMIT : goal.returns-then-size-gt-LIMIT
returns-then-size-gt-LIMIT c =
    let form : Form = form_meant c.args.form in
    let a = c.args in
    let field : Field (all string_byte) (stop_of form) c.args.text.now c.args.at c.in_ok-m.m = subst (λ (b : ℕ). Field (all string_byte) b c.args.text.now c.args.at c.in_ok-m.m) c.stop.ensures c.in_ok-m.ensures in
    secret_heavy form a.text.now a.at a.w c.in_ok-m.m field
    (elim c.then-size-gt-LIMIT.branch [ then-size-gt-LIMIT-via-then-size-gt-LIMIT v ↦ omega arith | then-size-gt-LIMIT-via-else-size-gt-LIMIT+then-w-size-gt-LIMIT v ↦ omega arith ])

pub returns-in_err-e : goal.returns-in_err-e
returns-in_err-e c =
    let form : Form = form_meant c.args.form in
    let a = c.args in
    let field : Field (all string_byte) (stop_of form) c.args.text.now c.args.at c.in_ok-m.m = subst (λ (b : ℕ). Field (all string_byte) b c.args.text.now c.args.at c.in_ok-m.m) c.stop.ensures c.in_ok-m.ensures in
    rw c.from_residual-in_err-e.ensures (secret_tailless form a.text.now a.at a.w c.in_ok-m.m field c.in_err-e.ensures)

pub returns : goal.returns
returns c =
    let form : Form = form_meant c.args.form in
    let a = c.args in
    let field : Field (all string_byte) (stop_of form) c.args.text.now c.args.at c.in_ok-m.m = subst (λ (b : ℕ). Field (all string_byte) b c.args.text.now c.args.at c.in_ok-m.m) c.stop.ensures c.in_ok-m.ensures in
    let r = c.in_ok-e.ensures in
    secret_good form a.text.now a.at a.w c.in_ok-m.m field r.0 _ _ r.1 refl c.if-w-size-gt-LIMIT.false

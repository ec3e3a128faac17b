use Rattle.std.proofs.Common.{Bool, ◌≡◌, ℕ, ◌*◌, ◌≤◌, T, eqb, length, drop, get_or, sym, subst, ◌∙◌, arith, rules}
use borrow.Author.Tests.{not-true, not-false}
use Rattle.language.specs.Valid.{has_password}
use Rattle.language.specs.Former.{Form}
use Rattle.principal_lines.specs.Principals.{form_meant, least_of, off_principal}
use Rattle.principal_lines.proofs.OneLine.{letter_password}
use Rattle.principal_lines.proofs.Ranks.{ranking_start, too_few, principals_good, principals_stuck, principal_ahead, principal_light, principal_entering, misplaced, principal_again, principal_next}
use Rattle.principal_lines.proofs.principals.Goals as goal

pub loop-form-init : goal.loop-form-init
loop-form-init c = (search rules, ranking_start (form_meant c.args.form) c.args.text.now c.args.at _ c.requires.0)

pub returns-in_err-line : goal.returns-in_err-line
returns-in_err-line c =
    let a = c.args in
    let l = c.loop-form in
    let form : Form = form_meant c.args.form in
    let on : T (off_principal (drop l.i a.text.now)) → ⊥ = λ h. subst (λ (b : Bool). T b) (not-true (off_principal (drop l.i a.text.now)) (sym c.goes_on.ensures ∙ c.loop-form-test.true)) h in
    rw c.from_residual.ensures (principals_stuck form a.text.now a.at l.slots l.i l.n l.now l.invariant.1 on c.in_err-line.ensures)

pub returns-then-not-in_place : goal.returns-then-not-in_place
returns-then-not-in_place c =
    let a = c.args in
    let l = c.loop-form in
    let form : Form = form_meant c.args.form in
    let on : T (off_principal (drop l.i a.text.now)) → ⊥ = λ h. subst (λ (b : Bool). T b) (not-true (off_principal (drop l.i a.text.now)) (sym c.goes_on.ensures ∙ c.loop-form-test.true)) h in
    let E = c.in_ok-line.ensures in
    let letter : eqb (get_or a.text.now l.i 0) 80 ≡ has_password E.one.row = letter_password form a.text.now l.i 0 E.one.row _ E.one.reads.here in
    misplaced form a.text.now a.at l.slots l.i l.n l.now l.invariant.1 on _ _ _ E _ letter (sym c.in_place.ensures ∙ c.if-not-in_place.true)

pub enter-requires : goal.enter-requires
enter-requires c =
    let a = c.args in
    let l = c.loop-form in
    let form : Form = form_meant c.args.form in
    let on : T (off_principal (drop l.i a.text.now)) → ⊥ = λ h. subst (λ (b : Bool). T b) (not-true (off_principal (drop l.i a.text.now)) (sym c.goes_on.ensures ∙ c.loop-form-test.true)) h in
    let E = c.in_ok-line.ensures in
    let whole : 8192 ≤ least_of form * length l.slots = subst (λ (n : ℕ). 8192 ≤ least_of form * n) (sym l.auto.slots) c.requires.2 in
    principal_entering form a.text.now a.at l.slots l.i l.n l.now l.invariant.1 on _ _ _ E c.requires.1 whole

pub returns-then-not-enter : goal.returns-then-not-enter
returns-then-not-enter c =
    let a = c.args in
    let l = c.loop-form in
    let form : Form = form_meant c.args.form in
    let on : T (off_principal (drop l.i a.text.now)) → ⊥ = λ h. subst (λ (b : Bool). T b) (not-true (off_principal (drop l.i a.text.now)) (sym c.goes_on.ensures ∙ c.loop-form-test.true)) h in
    let E = c.in_ok-line.ensures in
    let letter : eqb (get_or a.text.now l.i 0) 80 ≡ has_password E.one.row = letter_password form a.text.now l.i 0 E.one.row _ E.one.reads.here in
    principal_again form a.text.now a.at l.slots l.i l.n l.now l.invariant.1 on _ _ _ E _ letter c.requires.1 c.enter.new.slots c.if-not-enter.ensures

pub overflow_add-n : goal.overflow_add-n
overflow_add-n c =
    let a = c.args in
    let l = c.loop-form in
    let form : Form = form_meant c.args.form in
    let on : T (off_principal (drop l.i a.text.now)) → ⊥ = λ h. subst (λ (b : Bool). T b) (not-true (off_principal (drop l.i a.text.now)) (sym c.goes_on.ensures ∙ c.loop-form-test.true)) h in
    let E = c.in_ok-line.ensures in
    let whole : 8192 ≤ least_of form * length l.slots = subst (λ (n : ℕ). 8192 ≤ least_of form * n) (sym l.auto.slots) c.requires.2 in
    let h = principal_entering form a.text.now a.at l.slots l.i l.n l.now l.invariant.1 on _ _ _ E c.requires.1 whole in
    omega (arith, h.room)

pub loop-form-smaller : goal.loop-form-smaller
loop-form-smaller c =
    let a = c.args in
    let l = c.loop-form in
    let form : Form = form_meant c.args.form in
    let on : T (off_principal (drop l.i a.text.now)) → ⊥ = λ h. subst (λ (b : Bool). T b) (not-true (off_principal (drop l.i a.text.now)) (sym c.goes_on.ensures ∙ c.loop-form-test.true)) h in
    let E = c.in_ok-line.ensures in
    omega (arith, principal_ahead form a.text.now a.at l.slots l.i l.n l.now l.invariant.1 on _ _ _ E, E.one.reads.high)

pub loop-form-preserved : goal.loop-form-preserved
loop-form-preserved c =
    let a = c.args in
    let l = c.loop-form in
    let form : Form = form_meant c.args.form in
    let on : T (off_principal (drop l.i a.text.now)) → ⊥ = λ h. subst (λ (b : Bool). T b) (not-true (off_principal (drop l.i a.text.now)) (sym c.goes_on.ensures ∙ c.loop-form-test.true)) h in
    let E = c.in_ok-line.ensures in
    let letter : eqb (get_or a.text.now l.i 0) 80 ≡ has_password E.one.row = letter_password form a.text.now l.i 0 E.one.row _ E.one.reads.here in
    let whole : 8192 ≤ least_of form * length l.slots = subst (λ (n : ℕ). 8192 ≤ least_of form * n) (sym l.auto.slots) c.requires.2 in (
      principal_light form a.text.now a.at l.slots l.i l.n l.now l.invariant.1 on _ _ _ E,
      principal_next form a.text.now a.at l.slots l.i l.n l.now l.invariant.1 on _ _ _ E _ letter c.requires.1 c.enter.new.slots whole (sym c.in_place.ensures ∙ c.if-not-in_place.false) c.if-not-enter.ensures,
    )

pub returns-then-n-lt2 : goal.returns-then-n-lt2
returns-then-n-lt2 c =
    let a = c.args in
    let l = c.loop-form in
    let form : Form = form_meant c.args.form in
    let off : T (off_principal (drop l.i a.text.now)) = subst (λ (b : Bool). T b) (sym (not-false (off_principal (drop l.i a.text.now)) (sym c.goes_on.ensures ∙ c.loop-form-test.false))) tt in
    too_few form a.text.now a.at l.slots l.i l.n l.now l.invariant.1 off c.if-n-lt2.true l.invariant.0

pub returns : goal.returns
returns c =
    let a = c.args in
    let l = c.loop-form in
    let form : Form = form_meant c.args.form in
    let off : T (off_principal (drop l.i a.text.now)) = subst (λ (b : Bool). T b) (sym (not-false (off_principal (drop l.i a.text.now)) (sym c.goes_on.ensures ∙ c.loop-form-test.false))) tt in
    principals_good form a.text.now a.at l.slots l.i l.n l.now l.invariant.1 off c.if-n-lt2.false l.invariant.0 c.requires.1

use Rattle.std.proofs.Common.{refl, arith}
use Rattle.language.specs.Text.{decimal}
use Rattle.language.proofs.StateText.Digits.{decimal_digits}
use Rattle.lines.specs.Cuts.{is_digit}
use Rattle.text.specs.Parts.{part}
use Rattle.lines.proofs.Cuts.{found, is_field}
use Rattle.lines.proofs.Decimals.{Spelled, one_decimal, not_decimal, worth_much, is_decimal}
use Rattle.lines.proofs.number_at.Goals as goal
use Rattle.lines.proofs.number_at.Goals.{then-size-eq0-via-then-size-eq0, then-size-eq0-via-else-size-eq0+then-size-gt10, then-e-text-via-then-e-text, then-e-text-via-else-e-text+then-text-e-ne10, else-text-at-eq48-via-then-text-at-eq48+else-size-gt1, else-text-at-eq48-via-else-text-at-eq48}

pub returns-then-e-text : goal.returns-then-e-text
returns-then-e-text c =
    λ n r h d.
    let f = found is_digit 10 refl c.args.text.now c.args.at c.digits_end-e.result c.requires c.digits_end-e.ensures.ends (decimal n) r (decimal_digits n h) d in
    elim c.then-e-text.branch [ then-e-text-via-then-e-text w ↦ omega (arith, f.0, w.if-e-text.true) | then-e-text-via-else-e-text+then-text-e-ne10 w ↦ w.if-text-e-ne10.true f.1 ]

pub returns-then-size-eq0 : goal.returns-then-size-eq0
returns-then-size-eq0 c =
    λ n r h d.
    let f = is_field is_digit 10 refl c.args.text.now c.args.at c.digits_end-e.result c.requires c.digits_end-e.ensures.ends (omega arith) c.if-text-e-ne10.false in
    not_decimal c.args.text.now c.args.at c.digits_end-e.result f n r h d
    (λ s. elim c.then-size-eq0.branch [ then-size-eq0-via-then-size-eq0 w ↦ omega (arith, s.1, w.if-size-eq0.true) | then-size-eq0-via-else-size-eq0+then-size-gt10 w ↦ omega (arith, s.2, w.if-size-gt10.true) ])

pub returns-then-size-gt1 : goal.returns-then-size-gt1
returns-then-size-gt1 c =
    λ n r h d.
    let f = is_field is_digit 10 refl c.args.text.now c.args.at c.digits_end-e.result c.requires c.digits_end-e.ensures.ends (omega arith) c.if-text-e-ne10.false in
    not_decimal c.args.text.now c.args.at c.digits_end-e.result f n r h d (λ s. omega (arith, s.3 c.if-text-at-eq48.true, c.if-size-gt1.true))

pub value_of-n-requires : goal.value_of-n-requires
value_of-n-requires c =
    let f = is_field is_digit 10 refl c.args.text.now c.args.at c.digits_end-e.result c.requires c.digits_end-e.ensures.ends (omega arith) c.if-text-e-ne10.false in
    f.is_fine

pub returns-then-n-gt-LAST_COUNT : goal.returns-then-n-gt-LAST_COUNT
returns-then-n-gt-LAST_COUNT c =
    λ n r h d.
    let f = is_field is_digit 10 refl c.args.text.now c.args.at c.digits_end-e.result c.requires c.digits_end-e.ensures.ends (omega arith) c.if-text-e-ne10.false in
    not_decimal c.args.text.now c.args.at c.digits_end-e.result f n r h d (λ s. worth_much c.value_of-n.ensures n h s.0 c.if-n-gt-LAST_COUNT.true)

pub returns : goal.returns
returns c =
    let f = is_field is_digit 10 refl c.args.text.now c.args.at c.digits_end-e.result c.requires c.digits_end-e.ensures.ends (omega arith) c.if-text-e-ne10.false in
    let spelled : Spelled (part c.args.text.now c.args.at c.digits_end-e.result) = one_decimal c.args.text.now c.args.at c.digits_end-e.result f (omega arith) (omega arith)
    (elim c.else-text-at-eq48.branch [ else-text-at-eq48-via-then-text-at-eq48+else-size-gt1 w ↦ λ e. omega arith | else-text-at-eq48-via-else-text-at-eq48 w ↦ λ e. absurd (w.if-text-at-eq48.false e) ]) in
    is_decimal c.args.text.now c.args.at c.digits_end-e.result f spelled c.value_of-n.result c.value_of-n.ensures c.if-n-gt-LAST_COUNT.false

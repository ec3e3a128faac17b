use Rattle.std.proofs.Common.{◌+◌, ◌*◌, ◌-◌, drop, get_or, arith}
use Rattle.lines.specs.Cuts.{is_digit}
use Rattle.lines.proofs.Decimals.{all_at, digit_range, number_step, number_grows}
use Rattle.lines.proofs.value_of.Goals as goal

pub returns-then-n-gt-LAST_COUNT : goal.returns-then-n-gt-LAST_COUNT
returns-then-n-gt-LAST_COUNT c =
    let l = c.loop-b in
    let w = c.args.w.now in
    let r = digit_range (get_or w l.b-index 0) (all_at is_digit w l.b-index (omega arith) c.requires) in
    let s = number_step l.n w l.b-index (omega arith) in
    let g = number_grows (l.n * 10 + (get_or w l.b-index 0 - 48)) (drop (l.b-index + 1) w) in
    record { exact = λ h. absurd (omega (arith, h, c.if-n-gt-LAST_COUNT.true)); large = λ h. omega arith }

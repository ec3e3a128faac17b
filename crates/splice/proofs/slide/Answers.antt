use mathlib.Core.Path.{◌≡◌, sym, ap, ◌∙◌}
use Prim.Native.Nat.{ℕ}
use native.Mathlib.Omega.{arith}
use Rattle.text.specs.Parts.{part}
use Rattle.splice.specs.Splices.{over}
use Rattle.splice.proofs.Sliding.{over_empty, over_same}
use Rattle.splice.proofs.slide.Goals as goal

pub returns-then-from-len : goal.returns-then-from-len
returns-then-from-len c =
    let a = c.args in
    sym (ap (λ (n : ℕ). over a.buf.now a.to (part a.buf.now a.from n)) (sym c.if-from-len.true) ∙ over_empty a.buf.now a.to a.from)

pub returns-else-from-to : goal.returns-else-from-to
returns-else-from-to c =
    let a = c.args in
    let e : a.to ≡ a.from = omega arith in
    sym (ap (λ (n : ℕ). over a.buf.now n (part a.buf.now a.from a.len)) e ∙ over_same a.buf.now a.from a.len c.requires.0 c.requires.1)

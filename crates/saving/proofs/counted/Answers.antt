-- `saving::counted` meets its contract. By the test that the definition makes.
-- Assumes nothing.
use mathlib.Core.Path.{sym, ap}
use mathlib.Core.Bool.{Bool}
use Prim.Native.Nat.{◌+◌}
use native.Mathlib.Omega.{arith}
use borrow.Author.Rules.{rules}
use borrow.Author.Tests.{lt-ltb, le-ltb}
use Rattle.language.specs.Text.{when◌then◌else◌}
use Rattle.saving.proofs.counted.Goals as goal

pub returns-then-count-lt4294967295 : goal.returns-then-count-lt4294967295
returns-then-count-lt4294967295 c =
    let n = c.args.count in
    (sym (ap (λ (b : Bool). when b then n + 1 else n) (lt-ltb n 4294967295 c.if-count-lt4294967295.true)), omega arith)

pub returns : goal.returns
returns c =
    let n = c.args.count in
    (sym (ap (λ (b : Bool). when b then n + 1 else n) (le-ltb n 4294967295 c.if-count-lt4294967295.false)), omega arith)

-- `value_text::copy_in` meets its contract. The loop's invariant: the first i bytes are copied.
-- Assumes nothing.
use mathlib.Core.Path.{◌≡◌, ap, ◌∙◌}
use Prim.Native.Nat.{ℕ}
use native.Mathlib.Omega.{arith}
use native.Mathlib.Numerals.{add-one}
use lib.ListN.{length}
use lib.Seq.{paste, paste-zero, paste-suc}
use Rattle.value_text.proofs.Pieces.{copy_written}
use Rattle.value_text.proofs.copy_in.Goals as goal

pub loop-i-init : goal.loop-i-init
loop-i-init c = paste-zero c.args.out.now c.args.at c.args.src.now

pub loop-i-preserved : goal.loop-i-preserved
loop-i-preserved c =
    let a = c.args in
    let l = c.loop-i in
    rw (l.invariant, add-one) (paste-suc a.out.now a.at a.src.now l.i 0 (omega arith) (omega arith))

pub returns : goal.returns
returns c =
    let a = c.args in
    let l = c.loop-i in
    let all : l.i ≡ length a.src.now = omega arith in
    copy_written a.out.now l.out a.at a.src.now (length a.src.now) c.requires (omega arith)
    (l.invariant ∙ ap (λ (k : ℕ). paste a.out.now a.at a.src.now k) all)

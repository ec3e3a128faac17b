-- `functions::copy_lower` meets its contract. The loop's invariant: the first i bytes are copied in small letters.
-- Assumes nothing.
use mathlib.Core.Path.{◌≡◌, ap, ◌∙◌}
use mathlib.Core.List.{map}
use Prim.Native.Nat.{ℕ}
use native.Mathlib.Omega.{arith}
use native.Mathlib.Numerals.{add-one}
use lib.ListN.{length, length-map}
use lib.Seq.{paste, paste-zero, paste-suc}
use Rattle.language.specs.Functions.{lower_byte}
use Rattle.value_text.proofs.Pieces.{copy_written}
use Rattle.functions.proofs.Bytewise.{lower_at}
use Rattle.functions.proofs.copy_lower.Goals as goal

pub loop-i-init : goal.loop-i-init
loop-i-init c = paste-zero c.args.out.now c.args.at (map lower_byte c.args.src.now)

pub loop-i-preserved : goal.loop-i-preserved
loop-i-preserved c =
    let a = c.args in
    let l = c.loop-i in
    let f = c.lower_byte.ensures ∙ lower_at a.src.now l.i in
    let n = length-map a.src.now lower_byte in
    rw (l.invariant, f, add-one) (paste-suc a.out.now a.at (map lower_byte a.src.now) l.i 0 (omega arith) (omega (arith, n)))

pub returns : goal.returns
returns c =
    let a = c.args in
    let l = c.loop-i in
    let n = length-map a.src.now lower_byte in
    let all : l.i ≡ length a.src.now = omega arith in
    copy_written a.out.now l.out a.at (map lower_byte a.src.now) (length a.src.now) (omega (arith, n)) (omega (arith, n))
    (l.invariant ∙ ap (λ (k : ℕ). paste a.out.now a.at (map lower_byte a.src.now) k) all)

-- `splice::copy` meets its contract. The loop's invariant: the first i are copied.
-- Assumes nothing.
use mathlib.Core.Path.{◌≡◌, sym, ap, ◌∙◌}
use Prim.Native.Nat.{ℕ, ◌+◌}
use native.Mathlib.Omega.{arith}
use native.Mathlib.Numerals.{add-one}
use lib.ListN.{length, set}
use lib.Seq.{paste, paste-zero, paste-suc}
use Rattle.splice.proofs.Splicing.{paste_over}
use Rattle.splice.proofs.copy.Goals as goal

pub loop-i-init : goal.loop-i-init
loop-i-init g c = paste-zero c.args.dst.now c.args.at c.args.src.now

pub loop-i-preserved : goal.loop-i-preserved
loop-i-preserved g c =
    let a = c.args in
    let l = c.loop-i in
    let e = paste-suc a.dst.now a.at a.src.now l.i c.index-src-i.result (omega arith) (omega arith) in
    ap (λ d. set d (a.at + l.i) c.index-src-i.result) l.invariant ∙ ap (set (paste a.dst.now a.at a.src.now l.i) (a.at + l.i)) c.index-src-i.is ∙ e ∙ ap (paste a.dst.now a.at a.src.now) (sym (add-one l.i))

pub returns : goal.returns
returns g c =
    let a = c.args in
    let l = c.loop-i in
    let all : l.i ≡ length a.src.now = omega arith in
    l.invariant ∙ ap (λ (k : ℕ). paste a.dst.now a.at a.src.now k) all ∙ paste_over a.dst.now a.src.now a.at

use mathlib.Core.Path.{◌≡◌, refl, sym, ap, ◌∙◌}
use Prim.Native.Nat.{ℕ, ◌+◌, ◌-◌}
use native.Mathlib.Omega.{arith}
use lib.ListN.{length, take}
use Rattle.text.specs.Parts.{part}
use Rattle.splice.specs.Splices.{over}
use Rattle.splice.proofs.Splicing.{length_part}
use Rattle.splice.proofs.Sliding.{over_empty, through, down_more}
use Rattle.splice.proofs.slide_down.Goals as goal

pub loop-i-init : goal.loop-i-init
loop-i-init c =
    let a = c.args in
    (omega arith, omega arith, sym (over_empty a.buf.now a.to a.from), refl, refl)

pub slice_bounds-copy-end : goal.slice_bounds-copy-end
slice_bounds-copy-end c = sym c.loop-i.invariant.4

pub copy-requires : goal.copy-requires
copy-requires c =
    let piece : let l = c.loop-i in length (part l.buf l.i (l.i + c.min-n.result)) ≡ c.min-n.result = let l = c.loop-i in
    length_part l.buf l.i (l.i + c.min-n.result) (omega arith) (omega arith) ∙ omega arith in
    omega (arith, piece)

pub copy-requires-in-loop-i : goal.copy-requires-in-loop-i
copy-requires-in-loop-i c =
    let piece : let l = c.loop-i in length (part l.buf l.i (l.i + c.min-n.result)) ≡ c.min-n.result = let l = c.loop-i in
    length_part l.buf l.i (l.i + c.min-n.result) (omega arith) (omega arith) ∙ omega arith in
    let back : let l = c.loop-i in take c.min-n.result c.copy.new.dst ≡ part l.buf l.i (l.i + c.min-n.result) = let l = c.loop-i in
    ap (take c.min-n.result) c.copy.ensures ∙ through l.block (part l.buf l.i (l.i + c.min-n.result)) c.min-n.result piece in
    let e = ap length back ∙ piece in
    omega (arith, e)

pub loop-i-preserved : goal.loop-i-preserved
loop-i-preserved c =
    let piece : let l = c.loop-i in length (part l.buf l.i (l.i + c.min-n.result)) ≡ c.min-n.result = let l = c.loop-i in
    length_part l.buf l.i (l.i + c.min-n.result) (omega arith) (omega arith) ∙ omega arith in
    let back : let l = c.loop-i in take c.min-n.result c.copy.new.dst ≡ part l.buf l.i (l.i + c.min-n.result) = let l = c.loop-i in
    ap (take c.min-n.result) c.copy.ensures ∙ through l.block (part l.buf l.i (l.i + c.min-n.result)) c.min-n.result piece in
    let a = c.args in
    let l = c.loop-i in (
      omega arith,
      omega arith,
      c.copy-in-loop-i.ensures
          ∙ ap (over l.buf (l.i - (a.from - a.to))) back
          ∙ down_more a.buf.now l.buf a.from a.to l.i (l.i + c.min-n.result) (omega arith) (omega arith) (omega arith) (omega arith) l.invariant.2,
      c.copy-in-loop-i.auto.dst ∙ l.invariant.3,
      c.copy.auto.dst ∙ l.invariant.4,
    )

pub shape_of-buf : goal.shape_of-buf
shape_of-buf c = c.loop-i.invariant.3

pub returns : goal.returns
returns c =
    let a = c.args in
    let l = c.loop-i in
    let e : l.i ≡ a.len = omega arith in
    l.invariant.2 ∙ ap (λ (i : ℕ). over a.buf.now a.to (part a.buf.now a.from i)) e

use mathlib.Core.Path.{◌≡◌, ap, ◌∙◌}
use Prim.Native.Nat.{◌+◌}
use native.Mathlib.Omega.{arith}
use lib.ListN.{length, set, length-set}
use Rattle.language.specs.Text.{Text}
use Rattle.edits.proofs.Adding.{head_over}
use Rattle.edits.proofs.add.head.Goals as goal

pub bounds-buf-tab : goal.bounds-buf-tab
bounds-buf-tab c = let a = c.args in omega (arith, length-set a.buf.now a.at a.letter, c.requires)

pub copy-requires : goal.copy-requires
copy-requires c =
    let two : let a = c.args in length (set (set a.buf.now a.at a.letter) (a.at + 1) 9) ≡ length a.buf.now = let a = c.args in length-set (set a.buf.now a.at a.letter) (a.at + 1) 9 ∙ length-set a.buf.now a.at a.letter in
    omega (arith, two, c.requires)

pub bounds-buf-last : goal.bounds-buf-last
bounds-buf-last c =
    let two : let a = c.args in length (set (set a.buf.now a.at a.letter) (a.at + 1) 9) ≡ length a.buf.now = let a = c.args in length-set (set a.buf.now a.at a.letter) (a.at + 1) 9 ∙ length-set a.buf.now a.at a.letter in
    omega (arith, two, c.requires, c.copy.auto.dst)

pub shape_of-buf : goal.shape_of-buf
shape_of-buf c =
    let two : let a = c.args in length (set (set a.buf.now a.at a.letter) (a.at + 1) 9) ≡ length a.buf.now = let a = c.args in length-set (set a.buf.now a.at a.letter) (a.at + 1) 9 ∙ length-set a.buf.now a.at a.letter in
    simp length-set (c.copy.auto.dst ∙ two)

pub returns : goal.returns
returns c =
    let a = c.args in record {
      size = omega arith;
      left = ap (λ (d : Text). set d (a.at + 2 + length a.name.now) 9) c.copy.ensures ∙ head_over a.buf.now a.name.now a.at a.letter c.requires;
    }

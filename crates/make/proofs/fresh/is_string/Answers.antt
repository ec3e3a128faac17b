-- `make::fresh::is_string` meets its contract. A text is a string where its run is as long as it is.
-- Assumes nothing.
use mathlib.Core.Path.{◌≡◌, ap, ◌∙◌}
use Prim.Native.Nat.{ℕ}
use native.Mathlib.Omega.{arith}
use lib.Dec.{eqb}
use lib.ListN.{length}
use Rattle.language.specs.Text.{front}
use Rattle.language.specs.Bytes.{string_byte}
use Rattle.make.proofs.Texts.{whole_run}
use borrow.Author.Rules.{rules}
use Rattle.make.proofs.fresh.is_string.Goals as goal

pub returns : goal.returns
returns c =
    let t = c.args.text.now in
    let e : c.run_end.result ≡ length (front string_byte t) = omega (arith, c.run_end.ensures.ends) in
    ap (λ (n : ℕ). eqb n (length t)) e ∙ whole_run string_byte t

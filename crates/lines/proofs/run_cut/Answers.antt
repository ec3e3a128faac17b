use Rattle.std.proofs.Common.{arith}
use Rattle.text.specs.Meaning.{in_alphabet}
use Rattle.lines.proofs.Cuts.{found, is_field}
use Rattle.lines.proofs.run_cut.Goals as goal
use Rattle.lines.proofs.run_cut.Goals.{then-e-text-via-then-e-text, then-e-text-via-else-e-text+then-text-e}

pub returns-then-e-text : goal.returns-then-e-text
returns-then-e-text c =
    λ x r h d.
    let a = c.args in
    let f = found (in_alphabet a.a) a.stop c.requires.1 a.text.now a.at c.run_end-e.result c.requires.0 c.run_end-e.ensures.ends x r h d in
    elim c.then-e-text.branch [ then-e-text-via-then-e-text w ↦ omega arith | then-e-text-via-else-e-text+then-text-e w ↦ w.if-text-e.true f.1 ]

pub returns : goal.returns
returns c =
    let a = c.args in
    is_field (in_alphabet a.a) a.stop c.requires.1 a.text.now a.at c.run_end-e.result c.requires.0 c.run_end-e.ensures.ends (omega arith) c.if-text-e.false

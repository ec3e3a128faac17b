use mathlib.Core.Path.{refl, ap, ◌∙◌}
use Rattle.language.specs.Text.{Text}
use Rattle.splice.specs.Splices.{over}
use Rattle.splice.proofs.Sliding.{moved_and_written}
use Rattle.splice.proofs.splice.Goals as goal

pub returns : goal.returns
returns c =
    let a = c.args in record {
      size = refl;
      left = c.copy.ensures
          ∙ ap (λ (t : Text). over t a.from a.src.now) c.slide.ensures
          ∙ moved_and_written a.buf.now a.src.now a.len a.from a.to c.requires.0 c.requires.1 c.requires.2 c.requires.3;
    }

-- How a run ends: what it answers, and what it leaves in the output and in the work buffer (document 01, "A run").
use Rattle.std.specs.Prelude.{◌≡◌, []}
use Rattle.language.specs.Text.{Text}
use Rattle.language.specs.Encode.{padded}
use Rattle.language.specs.Run.{End, output, result}
use Rattle.language.specs.Calls.{ended}
use Rattle.answers.specs.declared.Answer.{Answer}
use Rattle.answers.specs.Answers.{answer_meant}

-- the answer is the result of the end e, the output has its lines and then zeros, and the work buffer is zero
pub record Closed (r : Answer) (e : End) (work out : Text) : Type 0 where
  pub answered : answer_meant r ≡ ended (result e)
  pub output_is : out ≡ padded (output e)
  pub work_is : work ≡ padded []

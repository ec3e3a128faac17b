use mathlib.Core.Path.{sym}
use native.Mathlib.Omega.{arith}
use Rattle.program_lines.proofs.Comments.{slashes}
use Rattle.program_lines.proofs.is_comment.Goals as goal

pub returns-then-starts_with : goal.returns-then-starts_with
returns-then-starts_with c = slashes c.args.line.now c.run_end.result (omega arith) (sym c.if-starts_with.ensures.value) c.run_end.ensures.ends

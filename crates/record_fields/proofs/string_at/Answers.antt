use Rattle.std.proofs.Common.{refl, arith}
use Rattle.record_fields.proofs.Sorts.{string_heavy, string_good}
use Rattle.record_fields.proofs.string_at.Goals as goal
use Rattle.record_fields.proofs.string_at.Goals.{then-size-gt-LIMIT-via-then-size-gt-LIMIT, then-size-gt-LIMIT-via-else-size-gt-LIMIT+then-w-size-gt-LIMIT}

pub returns-then-size-gt-LIMIT : goal.returns-then-size-gt-LIMIT
returns-then-size-gt-LIMIT c =
    let a = c.args in
    string_heavy a.text.now a.at a.w c.in_ok-e.e c.in_ok-e.ensures
    (elim c.then-size-gt-LIMIT.branch [ then-size-gt-LIMIT-via-then-size-gt-LIMIT w ↦ omega arith | then-size-gt-LIMIT-via-else-size-gt-LIMIT+then-w-size-gt-LIMIT w ↦ omega arith ])

pub returns : goal.returns
returns c = let a = c.args in string_good a.text.now a.at a.w c.in_ok-e.e c.in_ok-e.ensures _ refl (omega arith)

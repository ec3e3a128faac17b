-- `stream::more_stars` meets its contract. Assumes nothing.
use mathlib.Core.Path.{sym, subst}
use Rattle.stream.specs.Stream.{Stars, last_line}
use Rattle.stream.proofs.Streaming.{at_newline, elsewhere, stars_none, stars_other, star_more, star_many}
use Rattle.stream.proofs.more_stars.Goals as goal

pub returns-then-b-eq10 : goal.returns-then-b-eq10
returns-then-b-eq10 c stream s = subst (λ l. Stars l 0) (sym (at_newline stream _ c.if-b-eq10.true)) stars_none

pub returns-then-b-ne42 : goal.returns-then-b-ne42
returns-then-b-ne42 c stream s = subst (λ l. Stars l 4) (sym (elsewhere stream _ c.if-b-eq10.false)) (stars_other (last_line stream) _ c.if-b-ne42.true)

pub returns-then-stars-lt3 : goal.returns-then-stars-lt3
returns-then-stars-lt3 c stream s = star_more stream _ _ c.if-b-eq10.false c.if-b-ne42.false s c.if-stars-lt3.true

pub returns : goal.returns
returns c stream s = star_many stream _ _ c.if-b-eq10.false c.if-b-ne42.false s c.if-stars-lt3.false

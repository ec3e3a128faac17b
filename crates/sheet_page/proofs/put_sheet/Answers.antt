-- `sheet_page::put_sheet` meets its contract. The loop's invariant: the lines of the first i principals are written, 40 bytes each.
-- Assumes nothing.
use mathlib.Core.List.{map}
use native.Mathlib.Omega.{arith}
use Rattle.store.specs.Rows.{row_at, principal_row}
use Rattle.store.proofs.Holders.{principals_rows}
use Rattle.sheet_lines.specs.Rights.{had_by}
use Rattle.sheet_page.proofs.Lines.{line_written, line_ends}
use Rattle.sheet_page.proofs.put_sheet.Goals as goal

pub loop-i-preserved : goal.loop-i-preserved
loop-i-preserved c =
    let a = c.args in
    let S = c.requires.some_rows in
    let l = c.loop-i in
    let e = line_ends (row_at S.rows l.i).name (had_by c.had_at-had.result) (c.put_one-p.ensures S.rows S.held) in (
      omega (arith, e, l.invariant.0),
      λ s x H M.
          line_written s x a.text.now a.count a.slots.now H l.i c.loop-i-test.true a.reads.now a.writes.now a.appends.now a.delegates.now M c.had_at-had.result c.had_at-had.ensures
          (omega (arith, l.invariant.0))
          (l.invariant.1 s x H M)
          (c.put_one-p.ensures (map principal_row s.principals) (principals_rows s.principals a.text.now a.count a.slots.now H)),
    )

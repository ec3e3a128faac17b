use mathlib.Core.Path.{◌≡◌}
use Prim.Native.Nat.{◌*◌}
use lib.ListN.{take}
use Rattle.language.specs.Text.{joined}
use Rattle.language.specs.Syntax.{Name}
use Rattle.language.specs.State.{Store}
use Rattle.language.specs.Sheet.{sheet_line}
use Rattle.store.specs.Held.{Principals}
use Rattle.value_text.specs.Writing.{Written}
use Rattle.sheet_page.specs.Marks.{Marked}
use Rattle.sheet_page.proofs.put_sheet.Given as goal

abbrev pub invariant-loop-i : goal.invariant-loop-i
invariant-loop-i l = (l.p ≡ 40 * l.i) × ((s : Store) (x : Name) → Principals s.principals l.text l.count l.slots → Marked s x l.reads l.writes l.appends l.delegates → Written l.initial.out 0 (joined (sheet_line s x) (take l.i s.principals)) l.p l.out)

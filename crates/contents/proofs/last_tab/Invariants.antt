use Rattle.contents.proofs.Tabs.{NoTab}
use Rattle.contents.proofs.last_tab.Given as goal

abbrev pub invariant-loop-i : goal.invariant-loop-i
invariant-loop-i l = NoTab l.text l.i l.to

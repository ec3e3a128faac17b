-- The rights that are had, as a function of the right.
use Rattle.std.specs.Prelude.{Bool}
use Rattle.language.specs.Syntax.{Right, read, write, append, delegate}
use Rattle.sheet_lines.specs.declared.Had.{Had}

abbrev pub had_by : Had → Right → Bool
had_by h read = h.read
had_by h write = h.write
had_by h append = h.append
had_by h delegate = h.delegate

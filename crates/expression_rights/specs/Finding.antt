-- What is found out of the rights to read the terms of an expression.
use Rattle.std.specs.Prelude.{◌≡◌, false, List}
use Rattle.language.specs.Syntax.{Term}
use Rattle.language.specs.Values.{Session}
use Rattle.permits.specs.Permits.{unread}
use Rattle.permits.specs.declared.Known.{Known}
use Rattle.permits.specs.declared.Known.TheVariants as Is
use Rattle.permits.specs.Knowledge.{names_of, FirstUnread}

-- that all of them may be read, or which is the first that may not
abbrev pub Finds : Known → Session → List Term → Type 0
Finds Is.All s ts = unread s (names_of ts) ≡ false
Finds (Is.Until k) s ts = FirstUnread s ts k
Finds Is.Nothing s ts = ⊥

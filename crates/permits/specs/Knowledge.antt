-- Request M-106: what is known of the rights to read the terms of an expression. The terms that are tried are the first of those that stand in it,
-- since one that cannot be done leaves all behind it untried; so it is enough to know the first that may not be read.
use Rattle.std.specs.Prelude.{◌≡◌, ℕ, zero, suc, ◌-◌, true, false, not, List, [], ◌∷◌, ◌++◌, ltb}
use Rattle.language.specs.Syntax.{Name, Term, Expr, term, let_in}
use Rattle.language.specs.Values.{Session}
use Rattle.language.specs.Expressions.{term_names}
use Rattle.permits.specs.Permits.{unread}
use Rattle.permits.specs.declared.Known.{Known}
use Rattle.permits.specs.declared.Known.TheVariants as Is

-- the terms of an expression, in the order in which they stand, and others behind them
abbrev pub terms_then : Expr → List Term → List Term
terms_then (term t) rest = t ∷ rest
terms_then (let_in x e f) rest = terms_then e (terms_then f rest)

abbrev pub terms : Expr → List Term
terms x = terms_then x []

-- the names that they evaluate
abbrev pub names_of : List Term → List Name
names_of [] = []
names_of (t ∷ rest) = term_names t ++ names_of rest

-- k terms may be read, and the next one may not
abbrev pub FirstUnread : Session → List Term → ℕ → Type 0
FirstUnread s [] k = ⊥
FirstUnread s (t ∷ rest) zero = unread s (term_names t) ≡ true
FirstUnread s (t ∷ rest) (suc k) = (unread s (term_names t) ≡ false) × FirstUnread s rest k

-- what is known of terms in a row
abbrev pub Knows : Known → Session → List Term → Type 0
Knows Is.All s ts = unread s (names_of ts) ≡ false
Knows (Is.Until k) s ts = FirstUnread s ts k
Knows Is.Nothing s ts = Unit {0}

-- what is known of the first of them, which evaluates these names
abbrev pub KnowsFirst : Known → Session → List Name → Type 0
KnowsFirst Is.All s xs = unread s xs ≡ false
KnowsFirst (Is.Until k) s xs = unread s xs ≡ not (ltb 0 k)
KnowsFirst Is.Nothing s xs = Unit {0}

-- and of those behind it
abbrev pub past : Known → Known
past Is.All = Is.All
past (Is.Until k) = Is.Until (k - 1)
past Is.Nothing = Is.Nothing

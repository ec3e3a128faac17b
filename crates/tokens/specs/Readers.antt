-- What the answers of the readers mean in the terms of document 01's grammar, and where the scanner stands behind what was read.
use Rattle.std.specs.Prelude.{ℕ, ◌≤◌, ◌<◌, List, [], ◌∷◌, length, drop, Option, Some, None}
use Rattle.std.proofs.Math.Option.{none, some}
use Rattle.std.proofs.Math.Option as Math
use Rattle.language.specs.Text.{Text}
use Rattle.language.specs.Tokens.{Token, sign, ident, text, wrong, lex}
use Rattle.language.specs.Grammar.{Reader}
use Rattle.text.specs.declared.Span.{Span}
use Rattle.tokens.specs.Tokens.{Stands}

-- a keyword or a mark, whichever it is
abbrev pub any_sign : Reader Text
any_sign [] = none
any_sign (sign w ∷ ts) = some (w, ts)
any_sign (ident w ∷ ts) = none
any_sign (text w ∷ ts) = none
any_sign (wrong ∷ ts) = none

-- what was found, where f is what it means
abbrev pub found_meant : {A B : Type 0} → (A → B) → Option A → Math.Option B
found_meant f (Some x) = some (f x)
found_meant f None = none

-- what a reader read, where f is what it means, and the tokens that follow the place n
abbrev pub read_meant : {A B : Type 0} → (Text → A → B) → Text → Option A → ℕ → Math.Option (B × List Token)
read_meant f t (Some x) n = some (f t x, lex (drop n t))
read_meant f t None n = none

-- what was read from place `at` on is W, and the place n is past it
abbrev pub ReadPlaced : {A : Type 0} → (Text → A → Type 0) → Text → ℕ → Option A → ℕ → Type 0
ReadPlaced W t at (Some x) n = W t x × (at < n) × (n ≤ length t)
ReadPlaced W t at None n = Unit

-- what was found from place `at` on stands at s, and the place n is past it
abbrev pub FoundPlaced : Text → ℕ → Option Span → ℕ → Type 0
FoundPlaced t at (Some s) n = Stands t at s n
FoundPlaced t at None n = Unit

-- of a keyword or a mark that is asked for nothing is kept
abbrev pub nothing_kept : Text → Unit {0} → Unit {0}
nothing_kept t u = u

abbrev pub anywhere : {A : Type 0} → Text → A → Type 0
anywhere t x = Unit

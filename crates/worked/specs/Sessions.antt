-- Programs as lines of text, and what a list of programs prints and leaves.
use Rattle.std.specs.Prelude.{ℕ, List, [], ◌∷◌, ◌++◌, replicate}
use Prim.Native.String.{String}
use Rattle.std.proofs.Math.Option.{Option, none, some}
use Rattle.language.specs.Text.{Text, bytes, joined, decimal}
use Rattle.language.specs.State.{Store, fresh}
use Rattle.language.specs.Programs.{parse}
use Rattle.language.specs.Run.{End, run, output, left}

-- lines, each ended by byte 10
abbrev pub page : List String → Text
page ls = joined (λ l. bytes l ++ (10 ∷ [])) ls

-- what is printed, and the state after
pub record Done : Type 0 where
  pub printed : Text
  pub state : Store

-- programs from their bytes, one after the other
abbrev pub runs : Store → List Text → Done
runs s [] = record { printed = []; state = s }
runs s (t ∷ rest) =
    let e : End = run s (parse t) in
    let d : Done = runs (left s e) rest in
    record { printed = output e ++ d.printed; state = d.state }

-- a program of admin's, and one of rosa's: its lines between the login and the last
abbrev pub admin_sends : List String → Text
admin_sends ls = page ("as principal admin password \"desk\" do" ∷ []) ++ page ls ++ page ("***" ∷ [])

abbrev pub rosa_sends : List String → Text
rosa_sends ls = page ("as principal rosa password \"r1\" do" ∷ []) ++ page ls ++ page ("***" ∷ [])

abbrev pub new : Store
new = fresh (bytes "desk")

-- the session of document 01
abbrev pub session : List Text
session =
    admin_sends ("create principal rosa \"r1\"" ∷ "set queue = []" ∷ "set delegation queue admin append -> rosa" ∷ "return queue" ∷ [])
    ∷ rosa_sends ("append to queue with {song=\"Blue Moon\",key=\"F\"}" ∷ "return \"ok\"" ∷ [])
    ∷ []

abbrev pub after_session : Store
after_session = (runs new session).state

-- what programs sent after the session print
abbrev pub answer : List Text → Text
answer ts = (runs after_session ts).printed

abbrev pub length_text : Option ℕ → Text
length_text none = bytes "no"
length_text (some n) = decimal n

-- a row of a table: what it shows, the value of a definition, and what document 01 says it is
pub record Case : Type 0 where
  pub what : String
  pub gives : Text
  pub expected : Text

-- n times the letter a
abbrev pub letters : ℕ → Text
letters n = replicate n 97

-- a program of admin's that sets x to n letters: a server just made weighs 28, and `x` adds 2 and its text
abbrev pub setting : ℕ → Text
setting n = bytes "as principal admin password \"desk\" do\nset x = \"" ++ letters n ++ bytes "\"\nreturn \"\"\n***\n"

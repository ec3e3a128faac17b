-- Request M-100, `split`, `concat` and `tolower`: programs that call them, from their bytes to the lines they print.
use Rattle.std.specs.Prelude.{◌≡◌, refl, ℕ, List, [], ◌∷◌, ◌++◌, map, replicate}
use Prim.Native.String.{String}
use Rattle.std.proofs.Math.Option.{none}
use Rattle.language.specs.Text.{Text, bytes, joined}
use Rattle.language.specs.State.{Store}
use Rattle.language.specs.Weight.{store_weight}
use Rattle.language.specs.Programs.{parse}
use Rattle.worked.specs.Sessions.{page, runs, new, after_session, admin_sends, rosa_sends, letters}

-- ---- programs of lines that are long, and rows of a table

-- n times the letter b
abbrev pub letters_b : ℕ → Text
letters_b n = replicate n 98

-- lines given by their bytes, each ended by byte 10
abbrev pub lined : List Text → Text
lined ls = joined (λ l. l ++ (10 ∷ [])) ls

-- a program of admin's by the bytes of its lines
abbrev pub admin_writes : List Text → Text
admin_writes ls = page ("as principal admin password \"desk\" do" ∷ []) ++ lined ls ++ page ("***" ∷ [])

-- what a row shows, the program, and the lines it prints
pub record Sent : Type 0 where
  pub what : String
  pub program : Text
  pub prints : Text

-- what each program of a table prints when it is run in the same state
abbrev pub printed_from : Store → List Sent → List Text
printed_from s cs = map (λ c. (runs s (c.program ∷ [])).printed) cs

abbrev pub expected_of : List Sent → List Text
expected_of cs = map (λ c. c.prints) cs

-- rows by how the program ends: refused, or completed with a line for each command and the value of the last
abbrev pub is_denied : String → Text → Sent
is_denied what program = record { what = what; program = program; prints = page ("{\"status\":\"DENIED\"}" ∷ []) }

abbrev pub is_failed : String → Text → Sent
is_failed what program = record { what = what; program = program; prints = page ("{\"status\":\"FAILED\"}" ∷ []) }

abbrev pub is_full : String → Text → Sent
is_full what program = record { what = what; program = program; prints = page ("{\"status\":\"FULL\"}" ∷ []) }

abbrev pub ended : List String → String → Text
ended statuses value = joined (λ w. bytes "{\"status\":\"" ++ bytes w ++ bytes "\"}\n") statuses ++ bytes "{\"status\":\"RETURNING\",\"output\":" ++ bytes value ++ bytes "}\n"

abbrev pub completes : String → Text → List String → String → Sent
completes what program statuses value = record { what = what; program = program; prints = ended statuses value }

-- ---- the states that the programs start from: a new server's, that of document 01's session, and the one after this program

-- songs, a card and a word that anyone may read, and a secret that admin alone may
abbrev pub songs_program : Text
songs_program =
    admin_sends ("create principal rosa \"r1\"" ∷ "set queue = []" ∷ "set secret = \"s3\"" ∷ "set word = \"Blue Moon\""
    ∷ "set card = {song=\"Fever\",key=\"A\"}" ∷ "set songs = []" ∷ "append to songs with {song=\"Blue Moon\",key=\"F\"}"
    ∷ "append to songs with {song=\"Fever\",key=\"A\"}" ∷ "append to songs with {song=\"Halo\",key=\"F\"}"
    ∷ "set delegation word admin read -> anyone" ∷ "set delegation card admin read -> anyone"
    ∷ "set delegation songs admin read -> anyone" ∷ "set delegation songs admin write -> anyone" ∷ "return \"ok\"" ∷ [])

abbrev pub after_songs : Store
after_songs = (runs new (songs_program ∷ [])).state

pub songs_printed : (runs new (songs_program ∷ [])).printed
    ≡ page ("{\"status\":\"CREATE_PRINCIPAL\"}" ∷ "{\"status\":\"SET\"}" ∷ "{\"status\":\"SET\"}" ∷ "{\"status\":\"SET\"}"
    ∷ "{\"status\":\"SET\"}" ∷ "{\"status\":\"SET\"}" ∷ "{\"status\":\"APPEND\"}" ∷ "{\"status\":\"APPEND\"}"
    ∷ "{\"status\":\"APPEND\"}" ∷ "{\"status\":\"SET_DELEGATION\"}" ∷ "{\"status\":\"SET_DELEGATION\"}"
    ∷ "{\"status\":\"SET_DELEGATION\"}" ∷ "{\"status\":\"SET_DELEGATION\"}" ∷ "{\"status\":\"RETURNING\",\"output\":\"ok\"}" ∷ [])
songs_printed = refl

pub their_weights : map store_weight (new ∷ after_session ∷ after_songs ∷ []) ≡ 28 ∷ 82 ∷ 181 ∷ []
their_weights = refl

-- ---- on a new server

abbrev pub fresh_cases : List Sent
fresh_cases =
    record {
      what = "001's example, records in the order written";
      program = admin_sends ("set x = \"hello\"" ∷ "set y = split(x,\"--\")" ∷ "set z = concat(x,y.fst)" ∷ "return { x=x, y=y.snd, z=z }" ∷ []);
      prints = page ("{\"status\":\"SET\"}" ∷ "{\"status\":\"SET\"}" ∷ "{\"status\":\"SET\"}" ∷ "{\"status\":\"RETURNING\",\"output\":{\"x\":\"hello\",\"y\":\"llo\",\"z\":\"hellohe\"}}" ∷ []);
    }
    ∷ record {
      what = "split: fst, then snd";
      program = admin_sends ("return split(\"abc\",\"ab\")" ∷ []);
      prints = page ("{\"status\":\"RETURNING\",\"output\":{\"fst\":\"ab\",\"snd\":\"c\"}}" ∷ []);
    }
    ∷ record {
      what = "cut past the end: all, and the empty string";
      program = admin_sends ("return split(\"abc\",\"abcdef\")" ∷ []);
      prints = page ("{\"status\":\"RETURNING\",\"output\":{\"fst\":\"abc\",\"snd\":\"\"}}" ∷ []);
    }
    ∷ record {
      what = "cut at 0: the empty string, and all";
      program = admin_sends ("return split(\"abc\",\"\")" ∷ []);
      prints = page ("{\"status\":\"RETURNING\",\"output\":{\"fst\":\"\",\"snd\":\"abc\"}}" ∷ []);
    }
    ∷ record {
      what = "both empty";
      program = admin_sends ("return split(\"\",\"\")" ∷ []);
      prints = page ("{\"status\":\"RETURNING\",\"output\":{\"fst\":\"\",\"snd\":\"\"}}" ∷ []);
    }
    ∷ record {
      what = "tolower: letters only";
      program = admin_sends ("return tolower(\"Blue MOON, 7-Up_Z!\")" ∷ []);
      prints = page ("{\"status\":\"RETURNING\",\"output\":\"blue moon, 7-up_z!\"}" ∷ []);
    }
    ∷ record {
      what = "spaces part tokens";
      program = admin_sends ("return concat ( \"a\" , \"\" )" ∷ []);
      prints = page ("{\"status\":\"RETURNING\",\"output\":\"a\"}" ∷ []);
    }
    ∷ record {
      what = "one argument";
      program = admin_sends ("return tolower(\"a\")" ∷ []);
      prints = page ("{\"status\":\"RETURNING\",\"output\":\"a\"}" ∷ []);
    }
    ∷ []

pub fresh_right : printed_from new fresh_cases ≡ expected_of fresh_cases
fresh_right = refl

-- ---- programs that do not parse

abbrev pub unparsed : List Sent
unparsed =
    record {
      what = "two arguments of tolower do not parse";
      program = admin_sends ("return tolower(\"a\",\"b\")" ∷ []);
      prints = page ("{\"status\":\"FAILED\"}" ∷ []);
    }
    ∷ record {
      what = "one argument of concat does not parse";
      program = admin_sends ("return concat(\"a\")" ∷ []);
      prints = page ("{\"status\":\"FAILED\"}" ∷ []);
    }
    ∷ record {
      what = "three arguments do not parse";
      program = admin_sends ("return split(\"a\",\"b\",\"c\")" ∷ []);
      prints = page ("{\"status\":\"FAILED\"}" ∷ []);
    }
    ∷ record { what = "no argument does not parse"; program = admin_sends ("return concat()" ∷ []); prints = page ("{\"status\":\"FAILED\"}" ∷ []) }
    ∷ record {
      what = "a call is no value: does not parse";
      program = admin_sends ("return concat(concat(\"a\",\"b\"),\"c\")" ∷ []);
      prints = page ("{\"status\":\"FAILED\"}" ∷ []);
    }
    ∷ record {
      what = "[] is no value: does not parse";
      program = admin_sends ("return concat(\"a\",[])" ∷ []);
      prints = page ("{\"status\":\"FAILED\"}" ∷ []);
    }
    ∷ record {
      what = "a field is a value: does not parse";
      program = admin_sends ("return {a=tolower(\"A\")}" ∷ []);
      prints = page ("{\"status\":\"FAILED\"}" ∷ []);
    }
    ∷ record {
      what = "no parentheses: does not parse";
      program = admin_sends ("return tolower \"A\"" ∷ []);
      prints = page ("{\"status\":\"FAILED\"}" ∷ []);
    }
    ∷ record {
      what = "no parentheses round an expression: does not parse";
      program = admin_sends ("return (tolower(\"A\"))" ∷ []);
      prints = page ("{\"status\":\"FAILED\"}" ∷ []);
    }
    ∷ record {
      what = "the words were keywords before: does not parse";
      program = admin_sends ("set split = \"a\"" ∷ "return \"ok\"" ∷ []);
      prints = page ("{\"status\":\"FAILED\"}" ∷ []);
    }
    ∷ []

pub none_parses : map (λ c. parse c.program) unparsed ≡ map (λ c. none) unparsed
none_parses = refl

pub unparsed_right : printed_from new unparsed ≡ expected_of unparsed
unparsed_right = refl

-- ---- from the session's state

abbrev pub session_cases : List Sent
session_cases =
    record {
      what = "it does not parse, so FAILED before the login is looked at";
      program = page ("as principal nobody password \"x\" do" ∷ "return concat(\"a\")" ∷ "***" ∷ []);
      prints = page ("{\"status\":\"FAILED\"}" ∷ []);
    }
    ∷ record {
      what = "the same with a wrong password: FAILED, not DENIED";
      program = page ("as principal rosa password \"wrong\" do" ∷ "return concat(\"a\")" ∷ "***" ∷ []);
      prints = page ("{\"status\":\"FAILED\"}" ∷ []);
    }
    ∷ record {
      what = "it parses: DENIED by the password";
      program = page ("as principal rosa password \"wrong\" do" ∷ "return concat(\"a\",\"b\")" ∷ "***" ∷ []);
      prints = page ("{\"status\":\"DENIED\"}" ∷ []);
    }
    ∷ record {
      what = "in foreach";
      program = admin_sends ("foreach e in queue replacewith concat(e.song,\"!\")" ∷ "return queue" ∷ []);
      prints = page ("{\"status\":\"FOREACH\"}" ∷ "{\"status\":\"RETURNING\",\"output\":[\"Blue Moon!\"]}" ∷ []);
    }
    ∷ record {
      what = "a record as an element";
      program = admin_sends ("foreach e in queue replacewith split(e.song,\"Blue\")" ∷ "return queue" ∷ []);
      prints = page ("{\"status\":\"FOREACH\"}" ∷ "{\"status\":\"RETURNING\",\"output\":[{\"fst\":\"Blue\",\"snd\":\" Moon\"}]}" ∷ []);
    }
    ∷ record {
      what = "the element is a record: FAILED";
      program = admin_sends ("foreach e in queue replacewith tolower(e)" ∷ "return queue" ∷ []);
      prints = page ("{\"status\":\"FAILED\"}" ∷ []);
    }
    ∷ record {
      what = "on an empty list the arguments are not evaluated";
      program = admin_sends ("set queue = []" ∷ "foreach e in queue replacewith concat(nosuch,e.a)" ∷ "return queue" ∷ []);
      prints = page ("{\"status\":\"SET\"}" ∷ "{\"status\":\"FOREACH\"}" ∷ "{\"status\":\"RETURNING\",\"output\":[]}" ∷ []);
    }
    ∷ record {
      what = "append, local and set";
      program = rosa_sends ("append to queue with tolower(\"HALO\")" ∷ "local l = concat(\"a\",\"b\")" ∷ "set own = split(l,\"a\")" ∷ "return own.snd" ∷ []);
      prints = page ("{\"status\":\"APPEND\"}" ∷ "{\"status\":\"LOCAL\"}" ∷ "{\"status\":\"SET\"}" ∷ "{\"status\":\"RETURNING\",\"output\":\"b\"}" ∷ []);
    }
    ∷ record {
      what = "rosa may append, not read: DENIED";
      program = rosa_sends ("append to queue with concat(queue,\"a\")" ∷ "return \"ok\"" ∷ []);
      prints = page ("{\"status\":\"DENIED\"}" ∷ []);
    }
    ∷ record {
      what = "no write on queue goes before the missing name: DENIED";
      program = rosa_sends ("set queue = concat(nosuch,\"a\")" ∷ "return \"ok\"" ∷ []);
      prints = page ("{\"status\":\"DENIED\"}" ∷ []);
    }
    ∷ []

pub session_right : printed_from after_session session_cases ≡ expected_of session_cases
session_right = refl

-- ---- from the state with the songs

abbrev pub songs_cases : List Sent
songs_cases =
    record {
      what = "a readable variable";
      program = rosa_sends ("return concat(word,\"!\")" ∷ []);
      prints = page ("{\"status\":\"RETURNING\",\"output\":\"Blue Moon!\"}" ∷ []);
    }
    ∷ record {
      what = "a field";
      program = rosa_sends ("return tolower(card.song)" ∷ []);
      prints = page ("{\"status\":\"RETURNING\",\"output\":\"fever\"}" ∷ []);
    }
    ∷ record {
      what = "an argument that is a record: FAILED";
      program = rosa_sends ("return concat(card,\"!\")" ∷ []);
      prints = page ("{\"status\":\"FAILED\"}" ∷ []);
    }
    ∷ record {
      what = "an argument that is a list: FAILED";
      program = rosa_sends ("return concat(word,songs)" ∷ []);
      prints = page ("{\"status\":\"FAILED\"}" ∷ []);
    }
    ∷ record { what = "a missing name: FAILED"; program = rosa_sends ("return concat(nosuch,word)" ∷ []); prints = page ("{\"status\":\"FAILED\"}" ∷ []) }
    ∷ record {
      what = "a missing field: FAILED";
      program = rosa_sends ("return concat(card.nosuch,word)" ∷ []);
      prints = page ("{\"status\":\"FAILED\"}" ∷ []);
    }
    ∷ record {
      what = "DENIED goes before FAILED among the arguments";
      program = rosa_sends ("return concat(nosuch,secret)" ∷ []);
      prints = page ("{\"status\":\"DENIED\"}" ∷ []);
    }
    ∷ record {
      what = "DENIED though the field before it would fail";
      program = rosa_sends ("return split(secret.x,card)" ∷ []);
      prints = page ("{\"status\":\"DENIED\"}" ∷ []);
    }
    ∷ []

pub songs_right : printed_from after_songs songs_cases ≡ expected_of songs_cases
songs_right = refl

-- ---- at the limit of 8,192, on a new server

abbrev pub limit_cases : List Sent
limit_cases =
    record {
      what = "a result of exactly 8,192";
      program = admin_writes ((bytes "return concat(\"" ++ letters 4096 ++ bytes "\",\"" ++ letters_b 4096 ++ bytes "\")") ∷ []);
      prints = lined ((bytes "{\"status\":\"RETURNING\",\"output\":\"" ++ letters 4096 ++ letters_b 4096 ++ bytes "\"}") ∷ []);
    }
    ∷ record {
      what = "a result of 8,193: FULL";
      program = admin_writes ((bytes "return concat(\"" ++ letters 4096 ++ bytes "\",\"" ++ letters_b 4097 ++ bytes "\")") ∷ []);
      prints = page ("{\"status\":\"FULL\"}" ∷ []);
    }
    ∷ record {
      what = "split's record weighs 8 more than the string: 8,192 fits";
      program = admin_writes ((bytes "return split(\"" ++ letters 8184 ++ bytes "\",\"b\")") ∷ []);
      prints = lined ((bytes "{\"status\":\"RETURNING\",\"output\":{\"fst\":\"a\",\"snd\":\"" ++ letters 8183 ++ bytes "\"}}") ∷ []);
    }
    ∷ record {
      what = "8,193: FULL";
      program = admin_writes ((bytes "return split(\"" ++ letters 8185 ++ bytes "\",\"b\")") ∷ []);
      prints = page ("{\"status\":\"FULL\"}" ∷ []);
    }
    ∷ record {
      what = "an argument of 8,193 is FULL though the result is light";
      program = admin_writes ((bytes "return split(\"abc\",\"" ++ letters_b 8193 ++ bytes "\")") ∷ []);
      prints = page ("{\"status\":\"FULL\"}" ∷ []);
    }
    ∷ record {
      what = "an argument of 8,192";
      program = admin_writes ((bytes "return split(\"abc\",\"" ++ letters_b 8192 ++ bytes "\")") ∷ []);
      prints = page ("{\"status\":\"RETURNING\",\"output\":{\"fst\":\"abc\",\"snd\":\"\"}}" ∷ []);
    }
    ∷ record {
      what = "FAILED goes before FULL";
      program = admin_writes ((bytes "return concat(\"" ++ letters 8193 ++ bytes "\",nosuch)") ∷ []);
      prints = page ("{\"status\":\"FAILED\"}" ∷ []);
    }
    ∷ record {
      what = "heavy argument and heavy result: FULL";
      program = admin_writes ((bytes "return concat(\"" ++ letters 8193 ++ bytes "\",\"\")") ∷ []);
      prints = page ("{\"status\":\"FULL\"}" ∷ []);
    }
    ∷ record {
      what = "at the limit of the state, the returned value is no part of it";
      program = admin_writes ((bytes "set x = \"" ++ letters 8162 ++ bytes "\"") ∷ bytes "return tolower(x)" ∷ []);
      prints = lined (bytes "{\"status\":\"SET\"}" ∷ (bytes "{\"status\":\"RETURNING\",\"output\":\"" ++ letters 8162 ++ bytes "\"}") ∷ []);
    }
    ∷ record {
      what = "the state would weigh too much after the set: FULL";
      program = admin_writes ((bytes "set x = \"" ++ letters 4000 ++ bytes "\"") ∷ bytes "set y = concat(x,x)" ∷ bytes "return \"ok\"" ∷ []);
      prints = page ("{\"status\":\"FULL\"}" ∷ []);
    }
    ∷ record {
      what = "local on a defined name with a heavy value: FAILED";
      program = admin_writes (bytes "local x = \"1\"" ∷ (bytes "local x = concat(\"" ++ letters 8193 ++ bytes "\",\"\")") ∷ bytes "return x" ∷ []);
      prints = page ("{\"status\":\"FAILED\"}" ∷ []);
    }
    ∷ []

pub limits_right : printed_from new limit_cases ≡ expected_of limit_cases
limits_right = refl

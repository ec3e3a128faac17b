-- Request M-105, a name that is missing is answered as a wrong password is: programs, from their bytes to the lines they print.
use Rattle.std.specs.Prelude.{◌≡◌, refl, ℕ, List, [], ◌∷◌, ◌++◌, map, length}
use Prim.Native.String.{String}
use Rattle.language.specs.Text.{Text, bytes}
use Rattle.language.specs.State.{Store}
use Rattle.worked.specs.Sessions.{page, runs, after_session, admin_sends, letters}
use Rattle.worked.specs.Functions.{Sent, lined, printed_from, expected_of, is_denied, is_failed}
use Rattle.worked.specs.Counts.{said, sends}

-- a program that would return a string
abbrev pub returns : String → String → Text
returns name word = sends name word ("return \"a\"" ∷ [])

-- lines of bytes behind a name's login
abbrev pub writes : Text → List Text → Text
writes name ls = bytes "as principal " ++ name ++ bytes " password \"b\" do\n" ++ lined ls

abbrev pub return_a : List Text
return_a = bytes "return \"a\"" ∷ bytes "***" ∷ []

-- 46 bytes around a string of n
abbrev pub long : ℕ → Text
long n = bytes "as principal bob password \"b\" do\nreturn \"" ++ letters n ++ bytes "\"\n***"

pub long_lengths : map (λ n. length (long n)) (16338 ∷ 16339 ∷ []) ≡ 16384 ∷ 16385 ∷ []
long_lengths = refl

-- ---- on the state of document 01's session: admin, anyone without a password, rosa with `r1`, and the variable queue

abbrev pub logins : List Sent
logins =
    is_denied "a missing name" (returns "bob" "b")
    ∷ is_denied "a name that exists, another password" (returns "rosa" "b")
    ∷ is_denied "anyone, who has no password" (returns "anyone" "")
    ∷ is_failed "a missing name, and no last command: it does not parse" (sends "bob" "b" [])
    ∷ is_failed "a missing name, and a command that does not parse" (sends "bob" "b" ("retrun \"a\"" ∷ []))
    ∷ is_failed "a line behind that" (sends "bob" "b" ("retrun \"a\"" ∷ "return \"a\"" ∷ []))
    ∷ is_failed "a missing name, and a line behind the last command" (sends "bob" "b" ("return \"a\"" ∷ "return \"a\"" ∷ []))
    ∷ is_failed "a missing name, and no line of three asterisks" (writes (bytes "bob") (bytes "return \"a\"" ∷ []))
    ∷ is_failed "a keyword for a name" (returns "set" "b")
    ∷ is_denied "a missing name of 255 letters" (writes (letters 255) return_a)
    ∷ is_failed "one of 256 does not parse" (writes (letters 256) return_a)
    ∷ is_denied "a missing name reads a missing variable: the login decides" (sends "bob" "b" ("return nosuch" ∷ []))
    ∷ is_denied "a missing name, and what would be too heavy" (writes (bytes "bob") ((bytes "return \"" ++ letters 8193 ++ bytes "\"") ∷ bytes "***" ∷ []))
    ∷ is_denied "names are told by case" (returns "Rosa" "r1")
    ∷ is_denied "a variable's name is no principal's" (returns "queue" "b")
    ∷ is_denied "a missing name, exit" (sends "bob" "b" ("exit" ∷ []))
    ∷ is_failed "16,385 bytes of a missing name do not parse" (long 16339)
    ∷ is_denied "16,384 bytes of a missing name" (long 16338)
    ∷ is_denied "to create oneself is too late" (sends "bob" "b" ("create principal bob \"b\"" ∷ "return \"a\"" ∷ []))
    ∷ is_failed "a missing name in a command: FAILED" (admin_sends ("change password bob \"b\"" ∷ "return \"a\"" ∷ []))
    ∷ is_failed "so in a delegation" (admin_sends ("set delegation queue admin read -> bob" ∷ "return \"a\"" ∷ []))
    ∷ []

pub logins_right : printed_from after_session logins ≡ expected_of logins
logins_right = refl

-- once the name was created, the same program is done
pub created_then :
    (runs after_session (returns "bob" "b" ∷ admin_sends ("create principal bob \"b\"" ∷ "return \"\"" ∷ []) ∷ returns "bob" "b" ∷ [])).printed
    ≡ page ("{\"status\":\"DENIED\"}" ∷ "{\"status\":\"CREATE_PRINCIPAL\"}" ∷ "{\"status\":\"RETURNING\",\"output\":\"\"}" ∷ "{\"status\":\"RETURNING\",\"output\":\"a\"}" ∷ [])
created_then = refl

-- ---- beside another state, which has bob and not rosa, anyone with a password, and other variables

abbrev pub elsewhere : Store
elsewhere = said ("O" ∷ "P\tadmin\tx\t7" ∷ "P\tanyone\t\t0" ∷ "P\tbob\tc\t3" ∷ "D\tbob" ∷ "V\tnosuch\tS\ta" ∷ [])

pub elsewhere_read : (runs elsewhere (returns "bob" "c" ∷ [])).printed ≡ page ("{\"status\":\"RETURNING\",\"output\":\"a\"}" ∷ [])
elsewhere_read = refl

-- logins that are right on neither
abbrev pub tries : List Text
tries =
    returns "bob" "b" ∷ returns "rosa" "b" ∷ returns "admin" "b" ∷ returns "anyone" "b" ∷ returns "eve" "b"
    ∷ sends "bob" "b" ("return nosuch" ∷ []) ∷ sends "admin" "b" ("exit" ∷ []) ∷ sends "rosa" "b" [] ∷ returns "set" "b" ∷ []

pub tries_alike : map (λ t. (runs after_session (t ∷ [])).printed) tries ≡ map (λ t. (runs elsewhere (t ∷ [])).printed) tries
tries_alike = refl

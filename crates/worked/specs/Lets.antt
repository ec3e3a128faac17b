-- Request M-106, `let`: programs that name a value for the time of an expression, from their bytes to the lines they print.
use Rattle.std.specs.Prelude.{◌≡◌, refl, ℕ, List, [], ◌∷◌, ◌++◌, map, length, replicate}
use Rattle.std.proofs.Math.Option.{none}
use Rattle.language.specs.Text.{Text, bytes, joined}
use Rattle.language.specs.Programs.{parse}
use Rattle.worked.specs.Sessions.{page, runs, new, admin_sends, rosa_sends, letters}
use Rattle.worked.specs.Functions.{Sent, letters_b, printed_from, expected_of, admin_writes, is_denied, is_failed, is_full, completes, ended, after_songs}

-- ---- on a new server

abbrev pub lets : List Sent
lets =
    completes "001's example of let" (admin_sends ("set x = { f1 = \"hello\", f2 = \"there\" }" ∷ "set y = let z = concat(x.f1, \" \") in concat(z, x.f2)" ∷ "return y" ∷ [])) ("SET" ∷ "SET" ∷ []) "\"hello there\""
    ∷ completes "the plain form" (admin_sends ("return let z = \"a\" in z" ∷ [])) [] "\"a\""
    ∷ completes "the inner name is gone before the outer one is there" (admin_sends ("return let a = let a = \"x\" in a in concat(a,a)" ∷ [])) [] "\"xx\""
    ∷ is_failed "defined by the let around: FAILED" (admin_sends ("return let a = \"x\" in let a = \"y\" in a" ∷ []))
    ∷ completes "in the second expression" (admin_sends ("return let a = \"x\" in let b = a in concat(a,b)" ∷ [])) [] "\"xx\""
    ∷ is_failed "its own name is not there in the first: FAILED" (admin_sends ("return let a = a in a" ∷ []))
    ∷ completes "a list as value" (admin_sends ("return let a = [] in a" ∷ [])) [] "[]"
    ∷ completes "a record as value" (admin_sends ("return let a = {x=\"1\"} in a.x" ∷ [])) [] "\"1\""
    ∷ is_failed "the name is gone with its expression: FAILED" (admin_sends ("set a = let z = \"1\" in z" ∷ "return z" ∷ []))
    ∷ completes "and may come again" (admin_sends ("set a = let z = \"1\" in z" ∷ "set b = let z = \"2\" in z" ∷ "return concat(a,b)" ∷ [])) ("SET" ∷ "SET" ∷ []) "\"12\""
    ∷ completes "the same name for the local that it makes" (admin_sends ("local x = let x = \"1\" in x" ∷ "return x" ∷ [])) ("LOCAL" ∷ []) "\"1\""
    ∷ completes "and for the variable" (admin_sends ("set x = let x = \"1\" in x" ∷ "return x" ∷ [])) ("SET" ∷ []) "\"1\""
    ∷ is_failed "not where it is defined: FAILED" (admin_sends ("set x = \"0\"" ∷ "set x = let x = \"1\" in x" ∷ "return x" ∷ []))
    ∷ completes "spaces only where two words meet" (admin_sends ("return let a=\"\"in let b=\"\"in\"\"" ∷ [])) [] "\"\""
    ∷ []

pub lets_right : printed_from new lets ≡ expected_of lets
lets_right = refl

-- ---- from the state with the songs: what is tried, and so asks for its rights

abbrev pub tried_lets : List Sent
tried_lets =
    is_failed "on a shared name: FAILED" (rosa_sends ("return let word = \"a\" in word" ∷ []))
    ∷ is_failed "on an unreadable one: FAILED, not DENIED" (rosa_sends ("return let secret = \"a\" in \"b\"" ∷ []))
    ∷ is_denied "the first is evaluated before: DENIED" (rosa_sends ("return let word = secret in \"b\"" ∷ []))
    ∷ is_failed "FAILED: the second is untried" (rosa_sends ("return let word = nosuch in secret" ∷ []))
    ∷ is_failed "FAILED on the defined name: the second is untried" (rosa_sends ("return let word = \"a\" in secret" ∷ []))
    ∷ is_failed "the first fails: the second is untried, FAILED" (rosa_sends ("return let z = nosuch in secret" ∷ []))
    ∷ is_denied "the second is tried: DENIED" (rosa_sends ("return let z = \"a\" in secret" ∷ []))
    ∷ is_denied "DENIED by the first" (rosa_sends ("return let z = secret in nosuch" ∷ []))
    ∷ is_denied "DENIED before FAILED within the first" (rosa_sends ("return let z = {a=nosuch,b=secret} in \"a\"" ∷ []))
    ∷ is_failed "the inner one fails: both seconds untried, FAILED" (rosa_sends ("return let z = let q = nosuch in \"a\" in secret" ∷ []))
    ∷ is_denied "DENIED in the inner second" (rosa_sends ("return let z = let q = \"a\" in secret in nosuch" ∷ []))
    ∷ is_failed "defined name and FULL first: FAILED" (admin_writes ((bytes "return let word = \"" ++ letters 8193 ++ bytes "\" in \"a\"") ∷ []))
    ∷ []

pub tried_lets_right : printed_from after_songs tried_lets ≡ expected_of tried_lets
tried_lets_right = refl

-- ---- for each element of a list

abbrev pub lets_in_lists : List Sent
lets_in_lists =
    completes "in foreach" (admin_sends ("foreach s in songs replacewith let t = tolower(s.song) in concat(t,s.key)" ∷ "return songs" ∷ [])) ("FOREACH" ∷ []) "[\"blue moonF\",\"feverA\",\"haloF\"]"
    ∷ is_failed "foreach's y is defined: FAILED" (admin_sends ("foreach s in songs replacewith let s = \"a\" in s" ∷ "return songs" ∷ []))
    ∷ completes "in filtereach" (admin_sends ("filtereach s in songs with let k = s.key in equal(k,\"A\")" ∷ "return songs" ∷ [])) ("FILTEREACH" ∷ []) "[{\"song\":\"Fever\",\"key\":\"A\"}]"
    ∷ []

pub lets_in_lists_right : printed_from after_songs lets_in_lists ≡ expected_of lets_in_lists
lets_in_lists_right = refl

-- the first element fails, for it is no record; the second reads what may not be read
pub denied_behind_a_failure :
    (runs new (admin_sends ("create principal rosa \"r1\"" ∷ "set secret = \"s\"" ∷ "set l = []" ∷ "append to l with \"a\"" ∷ "append to l with {k=\"1\"}" ∷ "set delegation l admin read -> rosa" ∷ "set delegation l admin write -> rosa" ∷ "return \"ok\"" ∷ []) ∷ rosa_sends ("foreach e in l replacewith let z = e.k in secret" ∷ "return l" ∷ []) ∷ [])).printed
    ≡ ended ("CREATE_PRINCIPAL" ∷ "SET" ∷ "SET" ∷ "APPEND" ∷ "APPEND" ∷ "SET_DELEGATION" ∷ "SET_DELEGATION" ∷ []) "\"ok\"" ++ page ("{\"status\":\"DENIED\"}" ∷ [])
denied_behind_a_failure = refl

-- all elements fail before what may not be read is tried
pub failed_before_it_is_tried :
    (runs new (admin_sends ("create principal rosa \"r1\"" ∷ "set secret = \"s\"" ∷ "set l = []" ∷ "append to l with \"a\"" ∷ "append to l with \"b\"" ∷ "set delegation l admin read -> rosa" ∷ "set delegation l admin write -> rosa" ∷ "return \"ok\"" ∷ []) ∷ rosa_sends ("foreach e in l replacewith let z = e.k in secret" ∷ "return l" ∷ []) ∷ [])).printed
    ≡ ended ("CREATE_PRINCIPAL" ∷ "SET" ∷ "SET" ∷ "APPEND" ∷ "APPEND" ∷ "SET_DELEGATION" ∷ "SET_DELEGATION" ∷ []) "\"ok\"" ++ page ("{\"status\":\"FAILED\"}" ∷ [])
failed_before_it_is_tried = refl

-- ---- at the limit of 8,192, on a new server

abbrev pub heavy_lets : List Sent
heavy_lets =
    is_full "the first is FULL: the second is untried, FULL" (admin_writes ((bytes "return let z = \"" ++ letters 8193 ++ bytes "\" in nosuch") ∷ []))
    ∷ completes "z weighs 1 + 1 + 8,190 = 8,192: fits" (admin_writes ((bytes "return let z = \"" ++ letters 8190 ++ bytes "\" in \"a\"") ∷ [])) [] "\"a\""
    ∷ is_full "8,193: FULL though the value is light" (admin_writes ((bytes "return let z = \"" ++ letters 8191 ++ bytes "\" in \"a\"") ∷ []))
    ∷ is_full "FULL: the second is untried" (admin_writes ((bytes "return let z = \"" ++ letters 8191 ++ bytes "\" in nosuch") ∷ []))
    ∷ completes "4,002 and 4,190 at once: 8,192 fits" (admin_writes ((bytes "return let a = \"" ++ letters 4000 ++ bytes "\" in let b = \"" ++ letters_b 4188 ++ bytes "\" in \"c\"") ∷ [])) [] "\"c\""
    ∷ is_full "one more: FULL" (admin_writes ((bytes "return let a = \"" ++ letters 4000 ++ bytes "\" in let b = \"" ++ letters_b 4189 ++ bytes "\" in \"c\"") ∷ []))
    ∷ completes "not at once: the inner is gone (3 and 8,182)" (admin_writes ((bytes "return let a = let b = \"" ++ letters_b 8000 ++ bytes "\" in \"x\" in let c = \"" ++ letters 8180 ++ bytes "\" in \"d\"") ∷ [])) [] "\"d\""
    ∷ completes "locals do not count with let names (z 8,002)" (admin_writes ((bytes "local l = \"" ++ letters 8000 ++ bytes "\"") ∷ bytes "return let z = l in \"x\"" ∷ [])) ("LOCAL" ∷ []) "\"x\""
    ∷ is_full "the first element FULL (8,193), the second done (4,194): FULL" (admin_writes (bytes "set l = []" ∷ (bytes "append to l with \"" ++ letters 4000 ++ bytes "\"") ∷ bytes "append to l with \"b\"" ∷ (bytes "foreach e in l replacewith let z = e in concat(z,\"" ++ letters 4193 ++ bytes "\")") ∷ bytes "return \"ok\"" ∷ []))
    ∷ is_failed "the first element FULL, the second FAILED: FAILED" (admin_writes (bytes "set l = []" ∷ (bytes "append to l with \"" ++ letters 4000 ++ bytes "\"") ∷ bytes "append to l with {k=\"b\"}" ∷ (bytes "foreach e in l replacewith concat(e,\"" ++ letters 4193 ++ bytes "\")") ∷ bytes "return \"ok\"" ∷ []))
    ∷ []

pub heavy_lets_right : printed_from new heavy_lets ≡ expected_of heavy_lets
heavy_lets_right = refl

-- ---- programs that do not parse

abbrev pub unparsed_lets : List Sent
unparsed_lets =
    is_failed "does not parse: a let is no argument" (admin_sends ("return concat(let a = \"x\" in a,\"b\")" ∷ []))
    ∷ is_failed "does not parse: nor a field" (admin_sends ("return {f=let a = \"x\" in a}" ∷ []))
    ∷ is_failed "does not parse: without in" (admin_sends ("return let a = \"x\"" ∷ []))
    ∷ is_failed "does not parse: without the second" (admin_sends ("return let a = \"x\" in" ∷ []))
    ∷ is_failed "does not parse: a name is asked" (admin_sends ("return let a.b = \"x\" in \"y\"" ∷ []))
    ∷ is_failed "does not parse: not a keyword" (admin_sends ("return let in = \"x\" in \"y\"" ∷ []))
    ∷ is_failed "does not parse: no parentheses" (admin_sends ("return (let a = \"x\" in a)" ∷ []))
    ∷ []

pub no_let_parses : map (λ c. parse c.program) unparsed_lets ≡ map (λ c. none) unparsed_lets
no_let_parses = refl

pub unparsed_lets_right : printed_from new unparsed_lets ≡ expected_of unparsed_lets
unparsed_lets_right = refl

-- ---- many lets

-- a text n times
abbrev pub repeated : ℕ → Text → Text
repeated n t = joined (λ u. u) (replicate n t)

-- n lets, each in the first expression of another
abbrev pub deep : ℕ → Text
deep n = admin_writes ((bytes "return " ++ repeated n (bytes "let a=") ++ bytes "\"x\"" ++ repeated n (bytes " in a")) ∷ [])

pub thousand_deep : (runs new (deep 1000 ∷ [])).printed ≡ ended [] "\"x\""
thousand_deep = refl

-- 1,630 of them, in a program that is nearly as long as one may be
abbrev pub deepest : Text
deepest = admin_writes ((bytes "return " ++ repeated 1630 (bytes "let a=") ++ bytes "\"\"" ++ repeated 1630 (bytes "in\"\"")) ∷ [])

pub deepest_done : (runs new (deepest ∷ [])).printed ≡ ended [] "\"\""
deepest_done = refl

pub deepest_length : length deepest ≡ 16352
deepest_length = refl

-- Request M-106, `equal` and `notequal`: programs that compare, from their bytes to the lines they print.
use Rattle.std.specs.Prelude.{◌≡◌, refl, List, [], ◌∷◌, ◌++◌}
use Rattle.language.specs.Text.{bytes}
use Rattle.worked.specs.Sessions.{new, admin_sends, rosa_sends, letters}
use Rattle.worked.specs.Functions.{Sent, printed_from, expected_of, admin_writes, is_denied, is_failed, is_full, completes, after_songs}

-- ---- on a new server

abbrev pub comparisons : List Sent
comparisons =
    completes "equal strings: the empty string" (admin_sends ("return equal(\"a\",\"a\")" ∷ [])) [] "\"\""
    ∷ completes "different strings: 0" (admin_sends ("return equal(\"a\",\"A\")" ∷ [])) [] "\"0\""
    ∷ completes "notequal of equal: 0 (not as 001 prints it)" (admin_sends ("return notequal(\"a\",\"a\")" ∷ [])) [] "\"0\""
    ∷ completes "notequal of different: the empty string" (admin_sends ("return notequal(\"a\",\"b\")" ∷ [])) [] "\"\""
    ∷ completes "records in another order are equal" (admin_sends ("set a = {x=\"1\",y=\"2\"}" ∷ "set b = {y=\"2\",x=\"1\"}" ∷ "return equal(a,b)" ∷ [])) ("SET" ∷ "SET" ∷ []) "\"\""
    ∷ completes "another text" (admin_sends ("set a = {x=\"1\",y=\"2\"}" ∷ "set b = {x=\"1\",y=\"3\"}" ∷ "return equal(a,b)" ∷ [])) ("SET" ∷ "SET" ∷ []) "\"0\""
    ∷ completes "another label" (admin_sends ("set a = {x=\"1\",y=\"2\"}" ∷ "set b = {x=\"1\",z=\"2\"}" ∷ "return equal(a,b)" ∷ [])) ("SET" ∷ "SET" ∷ []) "\"0\""
    ∷ completes "a part of the fields, either way round" (admin_sends ("set a = {x=\"1\",y=\"2\"}" ∷ "set b = {x=\"1\"}" ∷ "set c = equal(a,b)" ∷ "set d = equal(b,a)" ∷ "return {c=c,d=d}" ∷ [])) ("SET" ∷ "SET" ∷ "SET" ∷ "SET" ∷ []) "{\"c\":\"0\",\"d\":\"0\"}"
    ∷ completes "a record and a string are different" (admin_sends ("set a = {x=\"1\"}" ∷ "set c = equal(a,\"1\")" ∷ "set d = notequal(\"1\",a)" ∷ "set e = equal(a,a)" ∷ "return {c=c,d=d,e=e}" ∷ [])) ("SET" ∷ "SET" ∷ "SET" ∷ "SET" ∷ []) "{\"c\":\"0\",\"d\":\"\",\"e\":\"\"}"
    ∷ is_failed "one argument does not parse" (admin_sends ("return equal(\"a\")" ∷ []))
    ∷ is_full "an argument of 8,193 is FULL" (admin_writes ((bytes "return equal(\"" ++ letters 8193 ++ bytes "\",\"b\")") ∷ []))
    ∷ is_failed "no: the program is too long to parse, FAILED" (admin_writes ((bytes "return equal(\"" ++ letters 8192 ++ bytes "\",\"" ++ letters 8192 ++ bytes "\")") ∷ []))
    ∷ completes "two long strings" (admin_writes ((bytes "return equal(\"" ++ letters 8100 ++ bytes "\",\"" ++ letters 8100 ++ bytes "\")") ∷ [])) [] "\"\""
    ∷ []

pub comparisons_right : printed_from new comparisons ≡ expected_of comparisons
comparisons_right = refl

-- ---- from the state with the songs

abbrev pub song_comparisons : List Sent
song_comparisons =
    is_failed "a list as argument: FAILED" (admin_sends ("return equal(songs,songs)" ∷ []))
    ∷ is_failed "a list as the second: FAILED" (admin_sends ("return notequal(\"a\",songs)" ∷ []))
    ∷ is_failed "a missing name: FAILED" (admin_sends ("return equal(nosuch,\"a\")" ∷ []))
    ∷ is_denied "DENIED before FAILED" (rosa_sends ("return equal(songs,secret)" ∷ []))
    ∷ is_failed "FAILED before FULL" (admin_writes ((bytes "return equal(\"" ++ letters 8193 ++ bytes "\",songs)") ∷ []))
    ∷ []

pub song_comparisons_right : printed_from after_songs song_comparisons ≡ expected_of song_comparisons
song_comparisons_right = refl

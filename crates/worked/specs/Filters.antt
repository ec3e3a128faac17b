-- Request M-106, `filtereach`: programs that pick elements out of a list, from their bytes to the lines they print.
use Rattle.std.specs.Prelude.{◌≡◌, refl, List, [], ◌∷◌, ◌++◌}
use Rattle.language.specs.Text.{bytes}
use Rattle.worked.specs.Sessions.{new, admin_sends, rosa_sends, letters}
use Rattle.worked.specs.Functions.{Sent, printed_from, expected_of, admin_writes, is_denied, is_failed, is_full, completes, after_songs}

abbrev pub first_filters : List Sent
first_filters =
    completes "001's example of filtereach" (admin_sends ("set records = []" ∷ "append to records with { name = \"mike\", date = \"1-1-90\" }" ∷ "append to records with { name = \"sandy\", date = \"1-1-90\" }" ∷ "append to records with { name = \"dave\", date = \"1-1-85\" }" ∷ "filtereach rec in records with equal(rec.date,\"1-1-90\")" ∷ "return records" ∷ [])) ("SET" ∷ "APPEND" ∷ "APPEND" ∷ "APPEND" ∷ "FILTEREACH" ∷ []) "[{\"name\":\"mike\",\"date\":\"1-1-90\"},{\"name\":\"sandy\",\"date\":\"1-1-90\"}]"
    ∷ []

pub first_filters_right : printed_from new first_filters ≡ expected_of first_filters
first_filters_right = refl

-- ---- from the state with the songs

abbrev pub filters : List Sent
filters =
    completes "keeps where the result is the empty string; rosa has read and write" (rosa_sends ("filtereach s in songs with equal(s.key,\"F\")" ∷ "return songs" ∷ [])) ("FILTEREACH" ∷ []) "[{\"song\":\"Blue Moon\",\"key\":\"F\"},{\"song\":\"Halo\",\"key\":\"F\"}]"
    ∷ completes "the others" (rosa_sends ("filtereach s in songs with notequal(s.key,\"F\")" ∷ "return songs" ∷ [])) ("FILTEREACH" ∷ []) "[{\"song\":\"Fever\",\"key\":\"A\"}]"
    ∷ completes "a record removes" (rosa_sends ("filtereach s in songs with s" ∷ "return songs" ∷ [])) ("FILTEREACH" ∷ []) "[]"
    ∷ completes "a list removes, and is no failure" (rosa_sends ("filtereach s in songs with []" ∷ "return songs" ∷ [])) ("FILTEREACH" ∷ []) "[]"
    ∷ completes "so does the list itself" (rosa_sends ("filtereach s in songs with songs" ∷ "return songs" ∷ [])) ("FILTEREACH" ∷ []) "[]"
    ∷ completes "all stay" (rosa_sends ("filtereach s in songs with \"\"" ∷ "return songs" ∷ [])) ("FILTEREACH" ∷ []) "[{\"song\":\"Blue Moon\",\"key\":\"F\"},{\"song\":\"Fever\",\"key\":\"A\"},{\"song\":\"Halo\",\"key\":\"F\"}]"
    ∷ completes "a space is not the empty string" (rosa_sends ("filtereach s in songs with \" \"" ∷ "return songs" ∷ [])) ("FILTEREACH" ∷ []) "[]"
    ∷ is_failed "a missing field: FAILED" (rosa_sends ("filtereach s in songs with s.nosuch" ∷ "return songs" ∷ []))
    ∷ is_failed "y defined: FAILED" (rosa_sends ("filtereach word in songs with \"\"" ∷ "return songs" ∷ []))
    ∷ is_failed "y defined though unreadable: FAILED" (rosa_sends ("filtereach secret in songs with \"\"" ∷ "return songs" ∷ []))
    ∷ is_failed "then e is not evaluated: FAILED, not DENIED" (rosa_sends ("filtereach word in songs with secret" ∷ "return songs" ∷ []))
    ∷ is_denied "rosa has read on word, not write: DENIED" (rosa_sends ("filtereach s in word with secret" ∷ "return \"ok\"" ∷ []))
    ∷ is_failed "no list: FAILED" (admin_sends ("filtereach s in word with \"\"" ∷ "return \"ok\"" ∷ []))
    ∷ is_failed "a missing x: FAILED, e is not evaluated" (rosa_sends ("filtereach s in nosuch with secret" ∷ "return \"ok\"" ∷ []))
    ∷ is_denied "no right on queue: DENIED, though it is empty" (rosa_sends ("filtereach s in queue with \"\"" ∷ "return \"ok\"" ∷ []))
    ∷ is_denied "e reads secret: DENIED" (rosa_sends ("filtereach s in songs with secret" ∷ "return \"ok\"" ∷ []))
    ∷ is_denied "DENIED before FAILED in e" (rosa_sends ("filtereach s in songs with {a=nosuch,b=secret}" ∷ "return \"ok\"" ∷ []))
    ∷ completes "an empty list: e is never evaluated" (admin_sends ("filtereach s in queue with nosuch" ∷ "return queue" ∷ [])) ("FILTEREACH" ∷ []) "[]"
    ∷ completes "on a local" (admin_sends ("local l = songs" ∷ "filtereach s in l with equal(s.song,\"Halo\")" ∷ "return l" ∷ [])) ("LOCAL" ∷ "FILTEREACH" ∷ []) "[{\"song\":\"Halo\",\"key\":\"F\"}]"
    ∷ is_full "a result of 8,193: FULL" (admin_writes ((bytes "filtereach s in songs with \"" ++ letters 8193 ++ bytes "\"") ∷ bytes "return songs" ∷ []))
    ∷ is_failed "replacewith does not parse here" (admin_sends ("filtereach s in songs replacewith \"\"" ∷ "return songs" ∷ []))
    ∷ is_failed "y is a name" (admin_sends ("filtereach songs.a in songs with \"\"" ∷ "return songs" ∷ []))
    ∷ []

pub filters_right : printed_from after_songs filters ≡ expected_of filters
filters_right = refl

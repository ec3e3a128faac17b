-- Document 01, "Wrong turns" and "Worthless desks": values that each of them would get wrong.
use Rattle.std.specs.Prelude.{◌≡◌, refl, List, [], ◌∷◌, map}
use Rattle.language.specs.Text.{Text, bytes}
use Rattle.language.specs.Syntax.{read, append}
use Rattle.language.specs.Chains.{chain_length}
use Rattle.worked.specs.Sessions.{page, runs, after_session, answer, admin_sends, rosa_sends, length_text, Case}

-- four principals in a row, the chain's assertions entered from its far end
abbrev pub far_end_first : Text
far_end_first = admin_sends (
    "create principal a \"\"" ∷ "create principal b \"\"" ∷ "create principal c \"\"" ∷ "set x = []"
    ∷ "set delegation x admin delegate -> a" ∷ "set delegation x a delegate -> b"
    ∷ "set delegation x b read -> c" ∷ "set delegation x a read -> b" ∷ "set delegation x admin read -> a" ∷ "return \"\"" ∷ [])

-- a second way round to b, and the withdrawal of one of the two
abbrev pub second_way : Text
second_way = admin_sends ("set delegation x admin read -> b" ∷ "return \"\"" ∷ [])

abbrev pub first_withdrawn : Text
first_withdrawn = admin_sends ("delete delegation x admin read -> b" ∷ "return \"\"" ∷ [])

abbrev pub both_withdrawn : Text
both_withdrawn = admin_sends ("delete delegation x a read -> b" ∷ "return \"\"" ∷ [])

-- the length of c's chain for read on x after some programs
abbrev pub chain_to : List Text → Text
chain_to ts = length_text (chain_length (runs after_session ts).state read (bytes "x") (bytes "c"))

abbrev pub turns : List Case
turns =
    record { what = "a chain entered from its far end"; gives = chain_to (far_end_first ∷ []); expected = bytes "3" }
    ∷ record { what = "a second way round is shorter"; gives = chain_to (far_end_first ∷ second_way ∷ []); expected = bytes "2" }
    ∷ record { what = "one way withdrawn, the other remains"; gives = chain_to (far_end_first ∷ second_way ∷ first_withdrawn ∷ []); expected = bytes "3" }
    ∷ record { what = "both withdrawn"; gives = chain_to (far_end_first ∷ second_way ∷ first_withdrawn ∷ both_withdrawn ∷ []); expected = bytes "no" }
    ∷ record {
      what = "DENIED goes before an earlier FAILED of the same command";
      gives = answer (rosa_sends ("return {a=nosuch,b=queue}" ∷ []) ∷ rosa_sends ("set own = {a=nosuch,a=queue}" ∷ "return \"\"" ∷ []) ∷ []);
      expected = page ("{\"status\":\"DENIED\"}" ∷ "{\"status\":\"DENIED\"}" ∷ []);
    }
    ∷ record {
      what = "a command that cannot be done ends the program before a later DENIED";
      gives = answer (rosa_sends ("set own = nosuch" ∷ "return queue" ∷ []) ∷ []);
      expected = page ("{\"status\":\"FAILED\"}" ∷ []);
    }
    ∷ record {
      what = "foreach evaluates nothing for no elements";
      gives = answer (admin_sends ("set x = []" ∷ "foreach y in x replacewith nosuch" ∷ "return x" ∷ []) ∷ []);
      expected = page ("{\"status\":\"SET\"}" ∷ "{\"status\":\"FOREACH\"}" ∷ "{\"status\":\"RETURNING\",\"output\":[]}" ∷ []);
    }
    ∷ record {
      what = "and for one element it does";
      gives = answer (admin_sends ("foreach y in queue replacewith y.song" ∷ "return queue" ∷ []) ∷ admin_sends ("foreach y in queue replacewith nosuch" ∷ "return queue" ∷ []) ∷ []);
      expected = page ("{\"status\":\"FOREACH\"}" ∷ "{\"status\":\"RETURNING\",\"output\":[\"Blue Moon\"]}" ∷ "{\"status\":\"FAILED\"}" ∷ []);
    }
    ∷ record {
      what = "denies everybody: a chain exists";
      gives = answer (rosa_sends ("append to queue with \"b\"" ∷ "return \"\"" ∷ []) ∷ []);
      expected = page ("{\"status\":\"APPEND\"}" ∷ "{\"status\":\"RETURNING\",\"output\":\"\"}" ∷ []);
    }
    ∷ record {
      what = "one SET line for every program";
      gives = answer (admin_sends ("return queue" ∷ []) ∷ []);
      expected = page ("{\"status\":\"RETURNING\",\"output\":[{\"song\":\"Blue Moon\",\"key\":\"F\"}]}" ∷ []);
    }
    ∷ record {
      what = "prints well, stores nothing: the next program";
      gives = answer (rosa_sends ("set own = \"a\"" ∷ "return \"\"" ∷ []) ∷ rosa_sends ("return own" ∷ []) ∷ []);
      expected = page ("{\"status\":\"SET\"}" ∷ "{\"status\":\"RETURNING\",\"output\":\"\"}" ∷ "{\"status\":\"RETURNING\",\"output\":\"a\"}" ∷ []);
    }
    ∷ record {
      what = "settles all rights at the first command: this program's earlier commands";
      gives = answer (rosa_sends ("set own = []" ∷ "append to own with \"b\"" ∷ "delete delegation queue admin append -> rosa" ∷ "append to queue with \"b\"" ∷ "return \"\"" ∷ []) ∷ []);
      expected = page ("{\"status\":\"DENIED\"}" ∷ []);
    }
    ∷ record {
      what = "and where they give a right";
      gives = answer (rosa_sends ("set own = []" ∷ "append to own with \"b\"" ∷ "return own" ∷ []) ∷ []);
      expected = page ("{\"status\":\"SET\"}" ∷ "{\"status\":\"APPEND\"}" ∷ "{\"status\":\"RETURNING\",\"output\":[\"b\"]}" ∷ []);
    }
    ∷ record {
      what = "invents a chain length: where there is none";
      gives = length_text (chain_length after_session append (bytes "queue") (bytes "anyone"));
      expected = bytes "no";
    }
    ∷ []

pub turns_right : map (λ c. c.gives) turns ≡ map (λ c. c.expected) turns
turns_right = refl

-- The starred cases of document 01, "Desk sessions", as request M-101 moved them: one table of the definitions' values, and one theorem.
-- Programs are given by their bytes. All but the last two start from the session's own state.
use Rattle.std.specs.Prelude.{◌≡◌, refl, List, [], ◌∷◌, map}
use Rattle.language.specs.Text.{bytes, decimal}
use Rattle.language.specs.Syntax.{read}
use Rattle.language.specs.Weight.{store_weight}
use Rattle.language.specs.Chains.{chain_length}
use Rattle.language.specs.Encode.{state_text, assertions_text}
use Rattle.worked.specs.Sessions.{page, runs, new, session, after_session, answer, admin_sends, rosa_sends, length_text, Case, setting}

abbrev pub starred : List Case
starred =
    record {
      what = "the session's six lines";
      gives = (runs new session).printed;
      expected = page ("{\"status\":\"CREATE_PRINCIPAL\"}" ∷ "{\"status\":\"SET\"}" ∷ "{\"status\":\"SET_DELEGATION\"}"
          ∷ "{\"status\":\"RETURNING\",\"output\":[]}" ∷ "{\"status\":\"APPEND\"}" ∷ "{\"status\":\"RETURNING\",\"output\":\"ok\"}" ∷ []);
    }
    ∷ record {
      what = "the session's state text";
      gives = state_text after_session;
      expected = page ("O" ∷ "P\tadmin\tdesk\t1" ∷ "N\tanyone\t0" ∷ "P\trosa\tr1\t1" ∷ "D\tanyone" ∷ "V\tqueue\tL" ∷ "R"
          ∷ "F\tsong\tBlue Moon" ∷ "F\tkey\tF" ∷ "A\tqueue\tadmin\ta\trosa" ∷ []);
    }
    ∷ record { what = "its weight"; gives = decimal (store_weight after_session); expected = bytes "82" }
    ∷ record { what = "rosa returns queue"; gives = answer (rosa_sends ("return queue" ∷ []) ∷ []); expected = page ("{\"status\":\"DENIED\"}" ∷ []) }
    ∷ record { what = "rosa returns nosuch"; gives = answer (rosa_sends ("return nosuch" ∷ []) ∷ []); expected = page ("{\"status\":\"FAILED\"}" ∷ []) }
    ∷ record {
      what = "rosa returns nosuch and queue in one record";
      gives = answer (rosa_sends ("return {a=nosuch,b=queue}" ∷ []) ∷ []);
      expected = page ("{\"status\":\"DENIED\"}" ∷ []);
    }
    ∷ record { what = "rosa sets queue"; gives = answer (rosa_sends ("set queue = []" ∷ "return \"\"" ∷ []) ∷ []); expected = page ("{\"status\":\"DENIED\"}" ∷ []) }
    ∷ record {
      what = "rosa sets own: done";
      gives = answer (rosa_sends ("set own = \"a\"" ∷ "return \"\"" ∷ []) ∷ []);
      expected = page ("{\"status\":\"SET\"}" ∷ "{\"status\":\"RETURNING\",\"output\":\"\"}" ∷ []);
    }
    ∷ record {
      what = "and four assertions";
      gives = assertions_text (runs after_session (rosa_sends ("set own = \"a\"" ∷ "return \"\"" ∷ []) ∷ [])).state.assertions;
      expected = page ("A\tqueue\tadmin\ta\trosa" ∷ "A\town\tadmin\tr\trosa" ∷ "A\town\tadmin\tw\trosa" ∷ "A\town\tadmin\ta\trosa" ∷ "A\town\tadmin\td\trosa" ∷ []);
    }
    ∷ record {
      what = "admin delegates read on queue to anyone: the length of rosa's chain";
      gives = length_text (chain_length
          (runs after_session (admin_sends ("set delegation queue admin read -> anyone" ∷ "return \"\"" ∷ []) ∷ [])).state
          read (bytes "queue") (bytes "rosa"));
      expected = bytes "2";
    }
    ∷ record {
      what = "admin delegates rosa's append, which she may not";
      gives = answer (admin_sends ("set delegation queue rosa append -> anyone" ∷ "return \"\"" ∷ []) ∷ []);
      expected = page ("{\"status\":\"DENIED\"}" ∷ []);
    }
    ∷ record {
      what = "rosa deletes admin's append to her, then appends";
      gives = answer (rosa_sends ("delete delegation queue admin append -> rosa" ∷ "return \"\"" ∷ [])
          ∷ rosa_sends ("append to queue with \"b\"" ∷ "return \"\"" ∷ []) ∷ []);
      expected = page ("{\"status\":\"DELETE_DELEGATION\"}" ∷ "{\"status\":\"RETURNING\",\"output\":\"\"}" ∷ "{\"status\":\"DENIED\"}" ∷ []);
    }
    ∷ record { what = "the empty program"; gives = answer ([] ∷ []); expected = page ("{\"status\":\"FAILED\"}" ∷ []) }
    ∷ record {
      what = "x of 8,162 characters, on a server just made";
      gives = (runs new (setting 8162 ∷ [])).printed;
      expected = page ("{\"status\":\"SET\"}" ∷ "{\"status\":\"RETURNING\",\"output\":\"\"}" ∷ []);
    }
    ∷ record { what = "of 8,163"; gives = (runs new (setting 8163 ∷ [])).printed; expected = page ("{\"status\":\"FULL\"}" ∷ []) }
    ∷ []

pub starred_cases : map (λ c. c.gives) starred ≡ map (λ c. c.expected) starred
starred_cases = refl

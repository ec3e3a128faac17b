-- Request M-101, programs counted by principal: state texts and weights with counts, and former states brought over.
use Rattle.std.specs.Prelude.{◌≡◌, refl, ℕ, true, false, ◌&&◌, List, [], ◌∷◌, ◌++◌, map, replicate}
use Prim.Native.String.{String}
use Rattle.std.proofs.Math.Option.{Option, none, some}
use Rattle.language.specs.Text.{Text, bytes, parts, ◌>>=◌, ◌>>◌, given, ◌≟◌}
use Rattle.language.specs.State.{string, single, Store, fresh}
use Rattle.language.specs.Weight.{store_weight}
use Rattle.language.specs.Encode.{newline, state_text, buffer_size}
use Rattle.language.specs.Decode.{read_lines}
use Rattle.language.specs.Former.{former_text, valid_former}
use Rattle.language.specs.Calls.{Answer, wrong, ready, decoded, bring_on, bring_call}
use Rattle.worked.specs.Sessions.{page, letters, runs, new, after_session, admin_sends, rosa_sends}
use Rattle.worked.specs.Texts.{Judged, well_formed}

-- ---- servers just made

pub fresh_text : state_text new ≡ page ("O" ∷ "P\tadmin\tdesk\t0" ∷ "N\tanyone\t0" ∷ "D\tanyone" ∷ [])
fresh_text = refl

pub fresh_weights : map (λ t. store_weight (fresh t)) (bytes "desk" ∷ [] ∷ letters 1024 ∷ []) ≡ 28 ∷ 24 ∷ 1048 ∷ []
fresh_weights = refl

-- ---- counts, from the bytes of programs to the bytes of the state

-- a program of a principal with a password: its lines between the login and the last
abbrev pub sends : String → String → List String → Text
sends name word ls = bytes "as principal " ++ bytes name ++ bytes " password \"" ++ bytes word ++ bytes "\" do\n" ++ page ls ++ page ("***" ∷ [])

-- the lines of 01's session behind its principals
abbrev pub queue_lines : List String
queue_lines = "D\tanyone" ∷ "V\tqueue\tL" ∷ "R" ∷ "F\tsong\tBlue Moon" ∷ "F\tkey\tF" ∷ "A\tqueue\tadmin\ta\trosa" ∷ []

-- the store that lines say
abbrev pub or_new : Option Store → Store
or_new none = new
or_new (some s) = s

abbrev pub said : List String → Store
said ls = or_new (read_lines (parts newline (page ls)) >>= λ b. some b.store)

pub record Counted : Type 0 where
  pub what : String
  pub start : Store
  pub programs : List Text
  pub leaves : List String

abbrev pub counted : List Counted
counted =
    record {
      what = "rosa's completed programs count for her, admin's for admin; one denied, failed, under a wrong password or that does not parse for nobody";
      start = after_session;
      programs = rosa_sends ("return \"a\"" ∷ []) ∷ admin_sends ("return \"b\"" ∷ []) ∷ rosa_sends ("return \"c\"" ∷ [])
          ∷ rosa_sends ("return queue" ∷ []) ∷ rosa_sends ("return nosuch" ∷ []) ∷ sends "rosa" "r2" ("return \"\"" ∷ []) ∷ rosa_sends ("return" ∷ []) ∷ [];
      leaves = ("O" ∷ "P\tadmin\tdesk\t2" ∷ "N\tanyone\t0" ∷ "P\trosa\tr1\t3" ∷ []) ++ queue_lines;
    }
    ∷ record {
      what = "9 to 10, 99 to 100";
      start = said ("O" ∷ "P\tadmin\tp\t9" ∷ "N\tanyone\t0" ∷ "P\trosa\tr1\t99" ∷ "D\tanyone" ∷ []);
      programs = sends "admin" "p" ("return \"\"" ∷ []) ∷ rosa_sends ("return \"\"" ∷ []) ∷ [];
      leaves = "O" ∷ "P\tadmin\tp\t10" ∷ "N\tanyone\t0" ∷ "P\trosa\tr1\t100" ∷ "D\tanyone" ∷ [];
    }
    ∷ record {
      what = "a count stays at its last value";
      start = said ("O" ∷ "P\tadmin\tp\t4294967294" ∷ "N\tanyone\t4294967295" ∷ "P\trosa\tr1\t4294967295" ∷ "D\tanyone" ∷ []);
      programs = sends "admin" "p" ("return \"\"" ∷ []) ∷ sends "admin" "p" ("return \"\"" ∷ []) ∷ rosa_sends ("return \"\"" ∷ []) ∷ [];
      leaves = "O" ∷ "P\tadmin\tp\t4294967295" ∷ "N\tanyone\t4294967295" ∷ "P\trosa\tr1\t4294967295" ∷ "D\tanyone" ∷ [];
    }
    ∷ record {
      what = "exit counts too";
      start = after_session;
      programs = admin_sends ("exit" ∷ []) ∷ [];
      leaves = ("C" ∷ "P\tadmin\tdesk\t2" ∷ "N\tanyone\t0" ∷ "P\trosa\tr1\t1" ∷ []) ++ queue_lines;
    }
    ∷ record {
      what = "a new principal starts at 0; anyone keeps its count with its first password, and can then be counted";
      start = after_session;
      programs = admin_sends ("create principal bo \"b\"" ∷ "change password anyone \"x\"" ∷ "return \"\"" ∷ []) ∷ sends "anyone" "x" ("return \"\"" ∷ []) ∷ [];
      leaves = ("O" ∷ "P\tadmin\tdesk\t2" ∷ "P\tanyone\tx\t1" ∷ "P\trosa\tr1\t1" ∷ "P\tbo\tb\t0" ∷ []) ++ queue_lines;
    }
    ∷ record {
      what = "a changed password keeps the count, and the program counts for its sender";
      start = after_session;
      programs = rosa_sends ("change password rosa \"zz\"" ∷ "return \"\"" ∷ []) ∷ [];
      leaves = ("O" ∷ "P\tadmin\tdesk\t1" ∷ "N\tanyone\t0" ∷ "P\trosa\tzz\t2" ∷ []) ++ queue_lines;
    }
    ∷ record {
      what = "rosa takes admin's append from herself, and is denied the next";
      start = after_session;
      programs = rosa_sends ("delete delegation queue admin append -> rosa" ∷ "return \"\"" ∷ []) ∷ rosa_sends ("append to queue with \"b\"" ∷ "return \"\"" ∷ []) ∷ [];
      leaves = "O" ∷ "P\tadmin\tdesk\t1" ∷ "N\tanyone\t0" ∷ "P\trosa\tr1\t2" ∷ "D\tanyone" ∷ "V\tqueue\tL" ∷ "R" ∷ "F\tsong\tBlue Moon" ∷ "F\tkey\tF" ∷ [];
    }
    ∷ []

pub counts_right : map (λ c. state_text (runs c.start c.programs).state) counted ≡ map (λ c. page c.leaves) counted
counts_right = refl

-- what they weigh does not depend on how many digits a count has
pub their_weights : map (λ c. store_weight (runs c.start c.programs).state) counted ≡ 82 ∷ 42 ∷ 42 ∷ 82 ∷ 97 ∷ 82 ∷ 71 ∷ []
their_weights = refl

-- one letter and an empty password weigh 12: the server of 8,180 has room for such a principal, that of 8,181 has not
abbrev pub heavy_server : ℕ → Store
heavy_server n = record {
  is_open = true;
  principals = new.principals;
  delegator = new.delegator;
  variables = record { name = bytes "x"; value = single (string (letters n)) } ∷ [];
  assertions = [];
}

pub one_more : map (λ n. (runs (heavy_server n) (admin_sends ("create principal b \"\"" ∷ "return \"\"" ∷ []) ∷ [])).printed) (8150 ∷ 8151 ∷ [])
    ≡ page ("{\"status\":\"CREATE_PRINCIPAL\"}" ∷ "{\"status\":\"RETURNING\",\"output\":\"\"}" ∷ []) ∷ page ("{\"status\":\"FULL\"}" ∷ []) ∷ []
one_more = refl

-- ---- state texts with counts

abbrev pub state_texts : List Judged
state_texts =
    record { what = "the former first line"; gives = well_formed ("O\t0" ∷ "P\tadmin\tp\t0" ∷ "N\tanyone\t0" ∷ "D\tanyone" ∷ []); expected = false }
    ∷ record { what = "a first line with an empty field"; gives = well_formed ("O\t" ∷ "P\tadmin\tp\t0" ∷ "N\tanyone\t0" ∷ "D\tanyone" ∷ []); expected = false }
    ∷ record { what = "no count on P"; gives = well_formed ("O" ∷ "P\tadmin\tp" ∷ "N\tanyone\t0" ∷ "D\tanyone" ∷ []); expected = false }
    ∷ record { what = "no count on N"; gives = well_formed ("O" ∷ "P\tadmin\tp\t0" ∷ "N\tanyone" ∷ "D\tanyone" ∷ []); expected = false }
    ∷ record { what = "an empty count"; gives = well_formed ("O" ∷ "P\tadmin\tp\t" ∷ "N\tanyone\t0" ∷ "D\tanyone" ∷ []); expected = false }
    ∷ record { what = "a leading zero"; gives = well_formed ("O" ∷ "P\tadmin\tp\t00" ∷ "N\tanyone\t0" ∷ "D\tanyone" ∷ []); expected = false }
    ∷ record { what = "a sign"; gives = well_formed ("O" ∷ "P\tadmin\tp\t+1" ∷ "N\tanyone\t0" ∷ "D\tanyone" ∷ []); expected = false }
    ∷ record { what = "the count before the password"; gives = well_formed ("O" ∷ "P\tadmin\t0\tp" ∷ "N\tanyone\t0" ∷ "D\tanyone" ∷ []); expected = false }
    ∷ record { what = "a password of digits, and no count"; gives = well_formed ("O" ∷ "P\tadmin\t12" ∷ "N\tanyone\t0" ∷ "D\tanyone" ∷ []); expected = false }
    ∷ record { what = "N with a password's place"; gives = well_formed ("O" ∷ "P\tadmin\tp\t0" ∷ "N\tanyone\t\t0" ∷ "D\tanyone" ∷ []); expected = false }
    ∷ record { what = "closed, an empty password, the last count"; gives = well_formed ("C" ∷ "P\tadmin\t\t4294967295" ∷ "P\tanyone\t\t7" ∷ "D\tadmin" ∷ []); expected = true }
    ∷ record { what = "a password of digits"; gives = well_formed ("O" ∷ "P\tadmin\t12\t3" ∷ "N\tanyone\t0" ∷ "D\tanyone" ∷ []); expected = true }
    ∷ []

pub state_texts_right : map (λ c. c.gives) state_texts ≡ map (λ c. c.expected) state_texts
state_texts_right = refl

-- ---- former states

-- as `decode_former` of the buffer, with the zero bytes left out to spare the time
abbrev pub former : Text → Option Store
former t = read_lines (parts newline t) >>= λ b. given (valid_former b.count b.store && (former_text b.count b.store ≟ t)) >> some b.store

-- what bringing such a text over answers, and the text that it leaves
abbrev pub brings : Text → Answer
brings t = (decoded (record { former = []; state = [] }) (former t) 10 (bring_on (record { former = []; state = [] }))).answer

abbrev pub text_of : Option Store → Text
text_of none = []
text_of (some s) = state_text s

abbrev pub former_queue : List String
former_queue = ("O\t2" ∷ "P\tadmin\tdesk" ∷ "N\tanyone" ∷ "P\trosa\tr1" ∷ []) ++ queue_lines

abbrev pub former_closed : List String
former_closed = "C\t4294967295" ∷ "P\tadmin\tp" ∷ "P\tanyone\tx" ∷ "P\trosa\t" ∷ "D\trosa" ∷ "V\tq\tL" ∷ "S\ta" ∷ "A\tq\trosa\td\tanyone" ∷ []

pub brought_texts : map (λ ls. text_of (former (page ls))) (former_queue ∷ ("O\t0" ∷ "P\tadmin\tdesk" ∷ "N\tanyone" ∷ "D\tanyone" ∷ []) ∷ former_closed ∷ [])
    ≡ page (("O" ∷ "P\tadmin\tdesk\t0" ∷ "N\tanyone\t0" ∷ "P\trosa\tr1\t0" ∷ []) ++ queue_lines)
    ∷ state_text new
    ∷ page ("C" ∷ "P\tadmin\tp\t0" ∷ "P\tanyone\tx\t0" ∷ "P\trosa\t\t0" ∷ "D\trosa" ∷ "V\tq\tL" ∷ "S\ta" ∷ "A\tq\trosa\td\tanyone" ∷ []) ∷ []
brought_texts = refl

pub not_former : map (λ t. brings t) (
    page former_queue
    ∷ state_text new
    ∷ page ("O\t0" ∷ "P\tadmin\tdesk" ∷ "N\tanyone" ∷ [])
    ∷ page ("O\t02" ∷ "P\tadmin\tdesk" ∷ "N\tanyone" ∷ "D\tanyone" ∷ [])
    ∷ (page ("O\t0" ∷ "P\tadmin\tdesk" ∷ "N\tanyone" ∷ "D\tanyone" ∷ []) ++ bytes "x")
    ∷ [])
    ≡ ready ∷ wrong 10 ∷ wrong 10 ∷ wrong 10 ∷ wrong 10 ∷ []
not_former = refl

-- two principals, and a variable that makes a former weight of 8,172, 8,173, 8,192 and 8,193: two principals weigh 20 more now
abbrev pub former_weighing : ℕ → Text
former_weighing n = bytes "O\t7\nP\tadmin\tdesk\nN\tanyone\nD\tanyone\nV\tx\tS\t" ++ letters n ++ bytes "\n"

pub brought_weights : map (λ n. brings (former_weighing n)) (8162 ∷ 8163 ∷ 8182 ∷ 8183 ∷ []) ≡ ready ∷ wrong 11 ∷ wrong 11 ∷ wrong 10 ∷ []
brought_weights = refl

-- buffers of another size, before the text is looked at; and one that is no text
abbrev pub zeros : Text
zeros = replicate buffer_size 0

pub bring_numbers : map (λ (c : Text × Text). (bring_call (record { former = c.0; state = c.1 })).answer) (([], zeros) ∷ (zeros, []) ∷ ([], []) ∷ (zeros, zeros) ∷ [])
    ≡ wrong 2 ∷ wrong 2 ∷ wrong 2 ∷ wrong 10 ∷ []
bring_numbers = refl

-- ---- after it

abbrev pub brought : List String → Store
brought ls = or_new (former (page ls))

-- rosa appends by the assertion that stood in the former text, and may still not read
pub brought_rights : (runs (brought former_queue) (rosa_sends ("append to queue with \"b\"" ∷ "return \"\"" ∷ []) ∷ rosa_sends ("return queue" ∷ []) ∷ [])).printed
    ≡ page ("{\"status\":\"APPEND\"}" ∷ "{\"status\":\"RETURNING\",\"output\":\"\"}" ∷ "{\"status\":\"DENIED\"}" ∷ [])
brought_rights = refl

-- an assertion of the former text that is withdrawn and entered again goes last; the former default delegator works for a new principal
pub brought_assertions : map state_text (
    (runs (brought ("O\t9" ∷ "P\tadmin\tdesk" ∷ "N\tanyone" ∷ "P\trosa\tr1" ∷ "D\tanyone" ∷ "V\tqueue\tL" ∷ "A\tqueue\tadmin\ta\trosa" ∷ "A\tqueue\tadmin\tr\tanyone" ∷ []))
    (admin_sends ("delete delegation queue admin append -> rosa" ∷ "set delegation queue admin append -> rosa" ∷ "return \"\"" ∷ []) ∷ [])).state
    ∷ (runs (brought ("O\t0" ∷ "P\tadmin\tp" ∷ "N\tanyone" ∷ "P\trosa\tr1" ∷ "D\trosa" ∷ "V\tq\tS\t" ∷ "A\tq\tadmin\td\trosa" ∷ []))
    (sends "admin" "p" ("create principal bo \"b\"" ∷ "return \"\"" ∷ []) ∷ [])).state
    ∷ [])
    ≡ page ("O" ∷ "P\tadmin\tdesk\t1" ∷ "N\tanyone\t0" ∷ "P\trosa\tr1\t0" ∷ "D\tanyone" ∷ "V\tqueue\tL" ∷ "A\tqueue\tadmin\tr\tanyone" ∷ "A\tqueue\tadmin\ta\trosa" ∷ [])
    ∷ page ("O" ∷ "P\tadmin\tp\t1" ∷ "N\tanyone\t0" ∷ "P\trosa\tr1\t0" ∷ "P\tbo\tb\t0" ∷ "D\trosa" ∷ "V\tq\tS\t"
    ∷ "A\tq\tadmin\td\trosa" ∷ "A\tq\trosa\tr\tbo" ∷ "A\tq\trosa\tw\tbo" ∷ "A\tq\trosa\ta\tbo" ∷ "A\tq\trosa\td\tbo" ∷ []) ∷ []
brought_assertions = refl

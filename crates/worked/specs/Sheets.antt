-- Request M-102, the sheet of a shared variable: worked cases computed from the definitions.
use Rattle.std.specs.Prelude.{◌≡◌, refl, true, List, [], ◌∷◌, ◌++◌, map, replicate}
use Prim.Native.String.{String}
use Rattle.std.proofs.Math.Option.{some}
use Rattle.language.specs.Text.{Text, bytes}
use Rattle.language.specs.Syntax.{read, write, rights}
use Rattle.language.specs.State.{list, Store, admin}
use Rattle.language.specs.Sheet.{shown_name, sheet_text, line_at, cell}
use Rattle.language.specs.Calls.{Answer, wrong, listed, SheetBuffers, sheet_on, sheet_call}
use Rattle.worked.specs.Sessions.{page, runs, new, after_session, admin_sends}
use Rattle.worked.specs.Counts.{said, zeros}

-- the state that more commands of admin's leave after 01's session
abbrev pub sent : List String → Store
sent ls = (runs after_session (admin_sends (ls ++ ("return \"\"" ∷ [])) ∷ [])).state

-- names of 33, 34, 35, 255 and 35 characters, the second of which reads x and the third of which writes it
abbrev pub long_names : Store
long_names =
    let names : List Text = replicate 33 97 ∷ replicate 34 98 ∷ replicate 35 99 ∷ replicate 255 100 ∷ (replicate 34 99 ++ bytes "e") ∷ [] in record {
      is_open = true;
      principals = new.principals ++ map (λ p. record { name = p; password = some (bytes "p"); count = 0 }) names;
      delegator = new.delegator;
      variables = record { name = bytes "x"; value = list [] } ∷ [];
      assertions = record { variable = bytes "x"; from = admin; right = read; to = replicate 34 98 } ∷ record { variable = bytes "x"; from = admin; right = write; to = replicate 35 99 } ∷ [];
    }

pub record Shown : Type 0 where
  pub what : String
  pub state : Store
  pub variable : String
  pub lines : List String

abbrev pub shown : List Shown
shown =
    record {
      what = "01's session: rosa appends and may not read";
      state = after_session;
      variable = "queue";
      lines = "admin                              rwad"
          ∷ "anyone                             ...."
          ∷ "rosa                               ..a." ∷ [];
    }
    ∷ record {
      what = "what anyone has, everybody has";
      state = sent ("set delegation queue admin read -> anyone" ∷ []);
      variable = "queue";
      lines = "admin                              rwad"
          ∷ "anyone                             r..."
          ∷ "rosa                               r.a." ∷ [];
    }
    ∷ record {
      what = "withdrawn from anyone, and given to rosa by herself";
      state = sent ("set delegation queue admin read -> anyone" ∷ "delete delegation queue admin read -> anyone" ∷ "set delegation queue admin read -> rosa" ∷ []);
      variable = "queue";
      lines = "admin                              rwad"
          ∷ "anyone                             ...."
          ∷ "rosa                               r.a." ∷ [];
    }
    ∷ record {
      what = "entered from its far end, a chain counts; without one from admin neither a delegation nor one to oneself gives anything";
      state = said ("O" ∷ "P\tadmin\tp\t0" ∷ "N\tanyone\t0" ∷ "P\ta\tp\t0" ∷ "P\tb\tp\t0" ∷ "P\tc\tp\t0" ∷ "D\tanyone" ∷ "V\tx\tL" ∷ "A\tx\tb\tr\tc" ∷ "A\tx\ta\tr\tb" ∷ "A\tx\tadmin\tr\ta" ∷ "A\tx\ta\tw\tb" ∷ "A\tx\tc\ta\tc" ∷ []);
      variable = "x";
      lines = "admin                              rwad"
          ∷ "anyone                             ...."
          ∷ "a                                  r..."
          ∷ "b                                  r..."
          ∷ "c                                  r..." ∷ [];
    }
    ∷ record {
      what = "anyone and a hand to one another what neither has";
      state = said ("O" ∷ "P\tadmin\tp\t0" ∷ "N\tanyone\t0" ∷ "P\ta\tp\t0" ∷ "D\tanyone" ∷ "V\tx\tL" ∷ "A\tx\tanyone\tr\ta" ∷ "A\tx\ta\tr\tanyone" ∷ []);
      variable = "x";
      lines = "admin                              rwad"
          ∷ "anyone                             ...."
          ∷ "a                                  ...." ∷ [];
    }
    ∷ record {
      what = "delegate by way of anyone, append to b alone";
      state = said ("O" ∷ "P\tadmin\tp\t0" ∷ "N\tanyone\t0" ∷ "P\ta\tp\t0" ∷ "P\tb\tp\t0" ∷ "D\tanyone" ∷ "V\tx\tL" ∷ "A\tx\tadmin\td\ta" ∷ "A\tx\ta\td\tanyone" ∷ "A\tx\tadmin\ta\tb" ∷ []);
      variable = "x";
      lines = "admin                              rwad"
          ∷ "anyone                             ...d"
          ∷ "a                                  ...d"
          ∷ "b                                  ..ad" ∷ [];
    }
    ∷ record {
      what = "34 characters are shown whole, of more the first 33 and ~; two that look alike have a line each";
      state = long_names;
      variable = "x";
      lines = "admin                              rwad"
          ∷ "anyone                             ...."
          ∷ "aaaaaaaaaaaaaaaaaaaaaaaaaaaaaaaaa  ...."
          ∷ "bbbbbbbbbbbbbbbbbbbbbbbbbbbbbbbbbb r..."
          ∷ "ccccccccccccccccccccccccccccccccc~ .w.."
          ∷ "ddddddddddddddddddddddddddddddddd~ ...."
          ∷ "ccccccccccccccccccccccccccccccccc~ ...." ∷ [];
    }
    ∷ record {
      what = "a closed server";
      state = said ("C" ∷ "P\tadmin\tp\t0" ∷ "N\tanyone\t0" ∷ "D\tanyone" ∷ "V\tx\tL" ∷ []);
      variable = "x";
      lines = "admin                              rwad"
          ∷ "anyone                             ...." ∷ [];
    }
    ∷ record {
      what = "a variable named admin";
      state = said ("O" ∷ "P\tadmin\tp\t0" ∷ "N\tanyone\t0" ∷ "D\tanyone" ∷ "V\tadmin\tL" ∷ "V\tanyone\tL" ∷ []);
      variable = "admin";
      lines = "admin                              rwad"
          ∷ "anyone                             ...." ∷ [];
    }
    ∷ record {
      what = "a variable named anyone";
      state = said ("O" ∷ "P\tadmin\tp\t0" ∷ "N\tanyone\t0" ∷ "D\tanyone" ∷ "V\tadmin\tL" ∷ "V\tanyone\tL" ∷ []);
      variable = "anyone";
      lines = "admin                              rwad"
          ∷ "anyone                             ...." ∷ [];
    }
    ∷ record {
      what = "rights on another variable do not show";
      state = said ("O" ∷ "P\tadmin\tp\t0" ∷ "N\tanyone\t0" ∷ "P\ta\tp\t0" ∷ "D\tanyone" ∷ "V\tx\tL" ∷ "V\ty\tL" ∷ "A\ty\tadmin\tr\ta" ∷ "A\ty\tadmin\tw\ta" ∷ []);
      variable = "x";
      lines = "admin                              rwad"
          ∷ "anyone                             ...."
          ∷ "a                                  ...." ∷ [];
    }
    ∷ []

pub sheets_right : map (λ c. sheet_text c.state (bytes c.variable)) shown ≡ map (λ c. page c.lines) shown
sheets_right = refl

-- ---- the call

abbrev pub unlent : SheetBuffers
unlent = record { state = []; output = [] }

-- the answer where a state is held: lines and bytes, or 7 where the name is no shared variable
abbrev pub answers : Store → String → Answer
answers s x = (sheet_on unlent (bytes x) s).answer

pub lines_and_bytes : map (λ c. answers c.state c.variable) shown
    ≡ listed 3 120 ∷ listed 3 120 ∷ listed 3 120 ∷ listed 5 200 ∷ listed 3 120 ∷ listed 4 160 ∷ listed 7 280 ∷ listed 2 80 ∷ listed 2 80 ∷ listed 2 80 ∷ listed 3 120 ∷ []
lines_and_bytes = refl

-- unknown; empty; a principal that is no variable; a local of a program that is over
pub no_variable : map (answers (sent ("local l = \"1\"" ∷ []))) ("nosuch" ∷ "" ∷ "rosa" ∷ "l" ∷ "queue" ∷ [])
    ≡ wrong 7 ∷ wrong 7 ∷ wrong 7 ∷ wrong 7 ∷ listed 3 120 ∷ []
no_variable = refl

-- the output's size before the state's, both before the text is looked at
pub sheet_numbers : map (λ (c : Text × Text). (sheet_call (record { state = c.0; output = c.1 }) (bytes "x")).answer) (([], []) ∷ (zeros, []) ∷ ([], zeros) ∷ (zeros, zeros) ∷ [])
    ≡ wrong 1 ∷ wrong 1 ∷ wrong 2 ∷ wrong 4 ∷ []
sheet_numbers = refl

-- ---- where a letter stands

-- rosa's line of 01's session, and its four columns
pub rosa_line : map (λ r. cell r (line_at 2 (sheet_text after_session (bytes "queue")))) rights ≡ bytes "." ∷ bytes "." ∷ bytes "a" ∷ bytes "." ∷ []
rosa_line = refl

pub names_shown : map (λ n. shown_name (replicate n 98)) (1 ∷ 33 ∷ 34 ∷ 35 ∷ [])
    ≡ (98 ∷ replicate 33 32) ∷ (replicate 33 98 ++ bytes " ") ∷ replicate 34 98 ∷ (replicate 33 98 ++ bytes "~") ∷ []
names_shown = refl

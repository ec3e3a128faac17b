-- Laws of the lines of a program: its login, its commands and its ending.
-- Assumes nothing.
use mathlib.Core.Path.{◌≡◌, refl, sym, ap, ◌∙◌}
use mathlib.Core.Bool.{Bool, true, false}
use mathlib.Core.Option.{Option, none, some}
use mathlib.Core.List.{List, [], ◌∷◌}
use Prim.Native.Nat.{◌≤◌, ◌<◌}
use lib.ListN.{length}
use borrow.Author.Tests.{le-leb, lt-leb}
use Rattle.language.specs.Text.{Text, bytes, ◌>>=◌, ◌≟◌, parts, present}
use Rattle.language.specs.Tokens.{Token, sign, ident, text, wrong, lex}
use Rattle.language.specs.Syntax.{Command}
use Rattle.language.specs.Grammar.{Opening, spent, whole, any_command, any_ending}
use Rattle.language.specs.Programs.{above, written, login_line, command_line, ending_line, body, program, longest, parse}
use Rattle.text.proofs.Words.{same_true}
use Rattle.program_lines.specs.Lines.{written_from, ahead}
use Rattle.parser.specs.Bodies.{is_empty, with_body}

-- tokens are not both those of a command and those of an ending, and so no line is both
disjoint : (ts : List Token) → present (whole any_command ts) ≡ true → any_ending ts ≡ none
disjoint [] h = refl
disjoint (sign w ∷ ts) h = go (w ≟ bytes "exit") (w ≟ bytes "return") refl refl
  where
    go : (a b : Bool) → (w ≟ bytes "exit") ≡ a → (w ≟ bytes "return") ≡ b → any_ending (sign w ∷ ts) ≡ none
    go true b p q =
        let other : present (whole any_command (sign w ∷ ts)) ≡ false = ap (λ (v : Text). present (whole any_command (sign v ∷ ts))) (same_true w (bytes "exit") p) in
        let z : ◌≡◌ {A = Bool} true false = sym h ∙ other in
        cc
    go false true p q =
        let other : present (whole any_command (sign w ∷ ts)) ≡ false = ap (λ (v : Text). present (whole any_command (sign v ∷ ts))) (same_true w (bytes "return") q) in
        let z : ◌≡◌ {A = Bool} true false = sym h ∙ other in
        cc
    go false false p q = rw (p, q)
disjoint (ident w ∷ ts) h = refl
disjoint (text w ∷ ts) h = refl
disjoint (wrong ∷ ts) h = refl

no_ending : (l : Text) → present (command_line l) ≡ true → ending_line l ≡ none
no_ending l h = ap spent (disjoint (lex l) h)

-- what k makes of what is there is there
pub bound : {A B : Type 0} (o : Option A) (k : A → B) → present (o >>= λ a. some (k a)) ≡ present o
bound none k = refl
bound (some a) k = refl

-- ---- the lines of a body: a line l in front of those in o
module _ (l : Text) where
  pub command_body : (o : Option (List Text)) (k : Command) → command_line l ≡ some k → (ahead l o >>= body) ≡ ((o >>= body) >>= λ cs. some (k ∷ cs))
  command_body none k h = refl
  command_body (some []) k h = rw (no_ending l (ap present h))
  command_body (some (m ∷ ls)) k h = rw h

  pub ending_body : (o : Option (List Text)) (k : Command) → ending_line l ≡ some k → is_empty o ≡ true → (ahead l o >>= body) ≡ some (k ∷ [])
  ending_body none k h z = cc
  ending_body (some []) k h z = rw h
  ending_body (some (m ∷ ls)) k h z = cc

  pub ending_more : (o : Option (List Text)) → command_line l ≡ none → is_empty o ≡ false → (ahead l o >>= body) ≡ none
  ending_more none h z = refl
  ending_more (some []) h z = cc
  ending_more (some (m ∷ ls)) h z = rw h

  pub neither_body : (o : Option (List Text)) → command_line l ≡ none → ending_line l ≡ none → (ahead l o >>= body) ≡ none
  neither_body none h e = refl
  neither_body (some []) h e = rw e
  neither_body (some (m ∷ ls)) h e = rw h

pub ahead_more : (l : Text) (o : Option (List Text)) → is_empty (ahead l o) ≡ false
ahead_more l none = refl
ahead_more l (some ls) = refl

-- ---- the program
pub no_login : (l : Text) (o : Option (List Text)) → login_line l ≡ none → (ahead l o >>= program) ≡ none
no_login l none h = refl
no_login l (some ls) h = rw h

pub with_login : (l : Text) (o : Option (List Text)) {p : Opening} → login_line l ≡ some p → (ahead l o >>= program) ≡ with_body p (o >>= body)
with_login l none h = refl
with_login l (some ls) h = rw h

joined : (o : Option (List Text)) → (o >>= λ ls. program (written ls)) ≡ ((o >>= λ ls. some (written ls)) >>= program)
joined none = refl
joined (some ls) = refl

pub parse_long : (t : Text) → longest < length t → parse t ≡ none
parse_long t h = rw (lt-leb (length t) longest h)

pub parse_is : (t : Text) → length t ≤ longest → parse t ≡ (written_from t 0 >>= program)
parse_is t h = rw (le-leb (length t) longest h) (joined (above (parts 10 t)))

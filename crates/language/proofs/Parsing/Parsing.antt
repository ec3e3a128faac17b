-- A text that parses is a valid program, and its commands have room in the text.
use mathlib.Core.Path.{◌≡◌, refl, sym, subst}
use Prim.Native.Nat.{ℕ, suc, ◌+◌, ◌≤◌}
use native.Mathlib.Nat.{le_refl}
use native.Mathlib.Omega.{arith}
use mathlib.Core.Bool.{Bool, true, false, ◌&&◌, not}
use mathlib.Core.Option.{Option, none, some}
use mathlib.Core.List.{List, [], ◌∷◌}
use lib.ListN.{length}
use lib.Dec.{T, eqb, leb, leb→le}
use Rattle.language.specs.Text.{Text, bytes, parts, to_first, when◌then◌else◌, ◌>>=◌, ◌≟◌, all, sum}
use Rattle.language.specs.Tokens.{lex}
use Rattle.language.specs.Syntax.{Command, Program}
use Rattle.language.specs.Identifiers.{is_identifier, is_string}
use Rattle.language.specs.Grammar.{Reader, whole}
use Rattle.language.specs.Programs.{ended, above, is_comment, written, login_line, command_line, ending_line, body, program, longest, parse}
use Rattle.language.proofs.Parsing.ValidPrograms.{valid_command, is_ending, ends_once, valid_program}
use Rattle.language.proofs.Logic.Tests.{and, ==→≡}
use Rattle.language.proofs.Logic.Outcomes.{Where, where_map, bind_where, if_where}
use Rattle.language.proofs.Parsing.Lexing.{room, tokens_valid, lex_room}
use Rattle.language.proofs.Parsing.Readers.{Reads}
use Rattle.language.proofs.Parsing.Reading.{least_room, Inner, Ending, command_reads, ending_reads, login_reads, whole_reads}

-- each with its newline
abbrev pub command_room : Command → ℕ
command_room c = least_room c + 1

abbrev line_room : Text → ℕ
line_room l = length l + 1

pub record Parsed (p : Program) : Type 0 where
  pub is_valid : T (valid_program p)
  pub has_room : sum command_room p.commands ≤ longest

-- ---- lines

parts_room : (mark : ℕ) (t : Text) → sum line_room (parts mark t) ≡ length t + 1
parts_room mark [] = refl
parts_room mark (b ∷ t) = go (eqb b mark) (parts mark t) (parts_room mark t)
  where
    go : (c : Bool) (ls : List Text) → sum line_room ls ≡ length t + 1 → sum line_room (when c then [] ∷ ls else to_first b ls) ≡ suc (length t) + 1
    go true ls h = omega arith
    go false [] h = absurd (empty h)
      where
        empty : ◌≡◌ {A = ℕ} 0 (length t + 1) → ⊥
        empty h = omega arith
    go false (l ∷ ls) h = omega arith

above_room : (ls : List Text) → Where (λ ms. sum line_room ms + 4 ≤ sum line_room ls) (above ls)
above_room [] = tt
above_room (l ∷ ls) = go (l ≟ bytes "***") (==→≡ l (bytes "***")) (above ls) (above_room ls)
  where
    go : (c : Bool) → (T c → l ≡ bytes "***") → (o : Option (List Text)) → Where (λ ms. sum line_room ms + 4 ≤ sum line_room ls) o
        → Where (λ ms. sum line_room ms + 4 ≤ sum line_room (l ∷ ls)) (when c then (when ended ls then some [] else none) else (o >>= λ rest. some (l ∷ rest)))
    go true e o h =
        if_where (λ ms. sum line_room ms + 4 ≤ sum line_room (l ∷ ls)) (ended ls) (some []) none
        (λ t. subst (λ y. 0 + 4 ≤ length y + 1 + sum line_room ls) (sym (e tt)) (omega arith)) (λ t. tt)
    go false e none h = tt
    go false e (some ms) h = omega arith

written_room : (ls : List Text) → sum line_room (written ls) ≤ sum line_room ls
written_room [] = le_refl 0
written_room (l ∷ ls) = go (is_comment l) (written_room ls)
  where
    go : (c : Bool) → sum line_room (written ls) ≤ sum line_room ls → sum line_room (when c then written ls else l ∷ written ls) ≤ sum line_room (l ∷ ls)
    go true h = omega arith
    go false h = omega arith

-- what a reader makes of a line is valid, and takes room of it
line_reads : {A : Type 0} {P : A → Type 0} {least : A → ℕ} {m : Reader A} → Reads P least false false 0 m → (l : Text)
    → Where (λ a. P a × (least a ≤ length l)) (whole m (lex l))
line_reads {A} {P} {least} {m} h l =
    where_map (λ a. P a × (least a ≤ room false (lex l))) (λ a. P a × (least a ≤ length l)) (whole m (lex l)) (λ a k. (k.0, omega (arith, k.1, lex_room l)))
    (whole_reads h (lex l) (tokens_valid l 0))

pub command_line_valid : (l : Text) → Where (λ c. Inner c × (least_room c ≤ length l)) (command_line l)
command_line_valid l = line_reads command_reads l

pub ending_line_valid : (l : Text) → Where (λ c. Ending c × (least_room c ≤ length l)) (ending_line l)
ending_line_valid l = line_reads ending_reads l

-- ---- commands

pub record Body (cs : List Command) (limit : ℕ) : Type 0 where
  pub all_valid : T (all valid_command cs)
  pub ends_once_lem : T (ends_once cs)
  pub body_room : sum command_room cs ≤ limit

one_more : (c : Command) (cs : List Command) → T (not (is_ending c)) → T (ends_once cs) → T (ends_once (c ∷ cs))
one_more c [] h k = absurd k
one_more c (d ∷ cs) h k = and (not (is_ending c)) (ends_once (d ∷ cs)) h k

body_valid : (ls : List Text) → Where (λ cs. Body cs (sum line_room ls)) (body ls)
body_valid [] = tt
body_valid (l ∷ []) =
    bind_where (λ c. Ending c × (least_room c ≤ length l)) (λ cs. Body cs (sum line_room (l ∷ []))) (ending_line l) (λ c. some (c ∷ []))
    (ending_line_valid l)
    (λ c k. record { all_valid = and (valid_command c) true k.0.0 tt; ends_once_lem = k.0.1; body_room = omega (arith, k.1) })
body_valid (l ∷ m ∷ ls) = go (body_valid (m ∷ ls))
  where
    go : Where (λ cs. Body cs (sum line_room (m ∷ ls))) (body (m ∷ ls)) → Where (λ cs. Body cs (sum line_room (l ∷ m ∷ ls))) (body (l ∷ m ∷ ls))
    go ih =
        bind_where (λ c. Inner c × (least_room c ≤ length l)) (λ cs. Body cs (sum line_room (l ∷ m ∷ ls))) (command_line l) _ (command_line_valid l)
        (λ c k. bind_where (λ cs. Body cs (sum line_room (m ∷ ls))) (λ cs. Body cs (sum line_room (l ∷ m ∷ ls))) (body (m ∷ ls)) (λ cs. some (c ∷ cs)) ih
        (λ cs b. record {
          all_valid = and (valid_command c) (all valid_command cs) k.0.0 b.all_valid;
          ends_once_lem = one_more c cs k.0.1 b.ends_once_lem;
          body_room = omega (arith, k.1, b.body_room);
        }))

program_valid : (ls : List Text) → Where (λ p. T (valid_program p) × (sum command_room p.commands ≤ sum line_room ls)) (program ls)
program_valid [] = tt
program_valid (l ∷ ls) =
    bind_where (λ o. T (is_identifier o.sender && is_string o.password) × (0 ≤ length l)) Q (login_line l) _ (line_reads login_reads l)
    (λ o k. bind_where (λ cs. Body cs (sum line_room ls)) Q (body ls) _ (body_valid ls) (λ cs b. (
      and (is_identifier o.sender && is_string o.password) (all valid_command cs && ends_once cs) k.0 (and (all valid_command cs) (ends_once cs) b.all_valid b.ends_once_lem),
      omega (arith, b.body_room),
    )))
  where
    Q : Program → Type 0
    Q p = T (valid_program p) × (sum command_room p.commands ≤ sum line_room (l ∷ ls))

pub parsed : (text : Text) → Where Parsed (parse text)
parsed text =
    if_where Parsed (leb (length text) longest) (above (parts 10 text) >>= λ ls. program (written ls)) none
    (λ h. bind_where (λ ms. sum line_room ms + 4 ≤ sum line_room (parts 10 text)) Parsed (above (parts 10 text)) _ (above_room (parts 10 text)) (λ ms k.
    shorter ms (leb→le (length text) longest h) k (program (written ms)) (program_valid (written ms))))
    (λ h. tt)
  where
    shorter : (ms : List Text) → length text ≤ longest → sum line_room ms + 4 ≤ sum line_room (parts 10 text) → (o : Option Program)
        → Where (λ p. T (valid_program p) × (sum command_room p.commands ≤ sum line_room (written ms))) o → Where Parsed o
    shorter ms h k none w = tt
    shorter ms h k (some p) w = record { is_valid = w.0; has_room = omega (arith, h, k, w.1, written_room ms, parts_room 10 text) }

pub valid_parsed : (text : Text) → Where (λ p. T (valid_program p)) (parse text)
valid_parsed text = go (parse text) (parsed text)
  where
    go : (o : Option Program) → Where Parsed o → Where (λ p. T (valid_program p)) o
    go none h = tt
    go (some p) h = h.is_valid

pub parse_valid : (text : Text) (p : Program) → parse text ≡ some p → T (valid_program p)
parse_valid text p e = (subst (Where Parsed) e (parsed text)).is_valid

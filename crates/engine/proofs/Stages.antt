-- A program under way: some of its commands are done, and the others are not read yet.
use mathlib.Core.Path.{◌≡◌, refl, sym, ap, ◌∙◌}
use Prim.Native.Nat.{ℕ, ◌+◌, ◌*◌, ◌≤◌}
use native.Mathlib.Omega.{arith}
use mathlib.Core.Bool.{Bool, true, false, not}
use mathlib.Core.Option.{Option, none, some}
use mathlib.Core.List.{List, [], ◌∷◌, ◌++◌, append_assoc, append-nil}
use lib.Dec.{T}
use lib.ListN.{length}
use Rattle.language.specs.Text.{Text, ◌>>=◌, present, when◌then◌else◌}
use Rattle.language.specs.Syntax.{Command}
use Rattle.language.specs.Encode.{buffer_size}
use Rattle.language.specs.Programs.{longest}
use Rattle.language.specs.Values.{Session}
use Rattle.language.specs.Commands.{Effect, Step, Refusal, refused, went, step}
use Rattle.language.specs.Run as Run
use Rattle.language.specs.Run.{End, refusal, completed, line_count}
use Rattle.language.proofs.Parsing.ValidPrograms.{is_ending}
use Rattle.language.proofs.Parsing.Parsing.{command_room}
use Rattle.language.proofs.Parsing.Printing.{inner_short}
use Rattle.language.proofs.Meaning.Sent.{step_sender}
use Rattle.language.proofs.Meaning.Printed.{count_append, few_lines as lines-short}
use Rattle.command_readers.specs.declared.Command as Read
use Rattle.std.proofs.Common as Code
use Rattle.std.proofs.Common.{Some, None}
use Rattle.parser.specs.Bodies.{body_from, rest_from, First}
use Rattle.value_text.specs.Writing.{Written}
use Rattle.value_text.proofs.Pieces.{◌▸◌, written_none}
use Rattle.session.specs.declared.Layout.{Layout}
use Rattle.session.specs.Sessions.{Slices, Running}
use Rattle.command_readers.specs.Commands.{SomeCommand}
use Rattle.engine.specs.Commands.{Advances}
use Rattle.outcome.specs.Ends.{RestWithin, end_on, Completes}
use Rattle.language.proofs.Meaning.LineCounts.{line_one}

-- ---- lines in front of an end

abbrev printing : Text → Option End → Option End
printing u none = none
printing u (some e) = some (Run.after u e)

printing_none : (o : Option End) → o ≡ printing [] o
printing_none none = refl
printing_none (some (refusal r)) = refl
printing_none (some (completed lines s)) = refl

printing_more : (t u : Text) (o : Option End) → printing t (printing u o) ≡ printing (t ++ u) o
printing_more t u none = refl
printing_more t u (some (refusal r)) = refl
printing_more t u (some (completed lines s)) = ap (λ l. some (completed l s)) (sym (append_assoc t u lines))

-- the command k in front of those that o is
after_refused : (s : Session) (k : Command) (r : Refusal) → step s k ≡ refused r → (o : Option (List Command))
    → end_on s (o >>= λ cs. some (k ∷ cs)) ≡ (when present o then some (refusal r) else none)
after_refused s k r e none = refl
after_refused s k r e (some cs) = ap (λ (j : Step). some (Run.next j (λ u. Run.perform u cs))) e

after_went : (s : Session) (k : Command) (f : Effect) → step s k ≡ went f → (o : Option (List Command))
    → end_on s (o >>= λ cs. some (k ∷ cs)) ≡ printing f.line (end_on f.after o)
after_went s k f e none = refl
after_went s k f e (some cs) = ap (λ (j : Step). some (Run.next j (λ u. Run.perform u cs))) e

-- ---- where a program stands

-- the program of the lines from `at` on, on the session s, has come to p: the session now is in the buffers, and what was printed is in the
-- first n bytes of the output, no more than 17 bytes for 8 of the text
pub record Stage (s : Session) (t : Text) (at : ℕ) (before : Text) (l : Layout) (b : Slices) (p n lines : ℕ) (output : Text) : Type 0 where
  pub session : Session
  pub sent : session.sender ≡ s.sender
  pub running : Running session l b
  pub so_far : Text
  pub same_end : end_on s (body_from t at) ≡ printing so_far (end_on session (body_from t p))
  pub printed : Written before 0 so_far n output
  pub counted : lines ≡ line_count so_far
  pub short : 8 * n ≤ 17 * p

-- at the start nothing is read
pub starts : {s : Session} (t before : Text) {l : Layout} {b : Slices} (p : ℕ) → Running s l b → Stage s t p before l b p 0 0 before
starts {s} t before p R = record {
  session = s;
  sent = refl;
  running = R;
  so_far = [];
  same_end = printing_none (end_on s (body_from t p));
  printed = written_none before 0 (omega arith);
  counted = refl;
  short = omega arith;
}

module _ {s : Session} {t : Text} {at : ℕ} {before : Text} {l : Layout} {b : Slices} {p n lines : ℕ} {output : Text} (S : Stage s t at before l b p n lines output) where
  -- what follows is not the rest of a program
  pub breaks : body_from t p ≡ none → end_on s (body_from t at) ≡ none
  breaks e = S.same_end ∙ ap (λ (o : Option (List Command)). printing S.so_far (end_on S.session o)) e

  pub few_lines : lines ≤ n
  few_lines = omega (arith, S.counted, lines-short S.so_far, S.printed.ends)

  -- the longest line has room
  pub has_room : p ≤ length t → length t ≤ longest → n + 28707 ≤ buffer_size
  has_room h k = omega (arith, S.short)

  module _ {c : Read.Command} {rest : Code.Option ℕ} (F : First t p c rest) where
    -- the command cannot be done
    pub stops : (r : Refusal) → step S.session F.command ≡ refused r
        → end_on s (body_from t at) ≡ (when present (rest_from t rest) then some (refusal r) else none)
    stops r e =
        S.same_end
        ∙ ap (λ (o : Option (List Command)). printing S.so_far (end_on S.session o)) F.all
        ∙ ap (printing S.so_far) (after_refused S.session F.command r e (rest_from t rest))
        ∙ unprinted (present (rest_from t rest))
      where
        unprinted : (c : Bool) → printing S.so_far (when c then some (refusal r) else none) ≡ (when c then some (refusal r) else none)
        unprinted true = refl
        unprinted false = refl

    -- it is done
    module _ {m : Layout} {d : Slices} {r : ℕ} {out : Text} (A : Advances (step S.session F.command) m d output n r out) where
      pub goes_on_as : end_on s (body_from t at) ≡ printing (S.so_far ++ A.effect.line) (end_on A.effect.after (rest_from t rest))
      goes_on_as =
          S.same_end
          ∙ ap (λ (o : Option (List Command)). printing S.so_far (end_on S.session o)) F.all
          ∙ ap (printing S.so_far) (after_went S.session F.command A.effect A.is_step (rest_from t rest))
          ∙ printing_more S.so_far A.effect.line (end_on A.effect.after (rest_from t rest))

      pub one_more : lines + 1 ≡ line_count (S.so_far ++ A.effect.line)
      one_more =
          let one : line_count A.effect.line ≡ 1 = line_one S.session S.running.ready F.command F.is_valid A.effect A.is_step in
          omega (arith, S.counted, one, count_append S.so_far A.effect.line)

pub some_command : {t : Text} {p : ℕ} {c : Read.Command} {rest : Code.Option ℕ} → First t p c rest → SomeCommand t c
some_command F = record { command = F.command; meant = F.meant; within = F.within; is_valid = F.is_valid }

pub rest_within : {t : Text} {p : ℕ} {c : Read.Command} (rest : Code.Option ℕ) → First t p c rest → RestWithin t rest
rest_within (Some n) F = F.placed.1
rest_within None F = tt

module _ {s : Session} {t : Text} {at : ℕ} {before : Text} {l : Layout} {b : Slices} {p n lines : ℕ} {output : Text} (S : Stage s t at before l b p n lines output)
    {c : Read.Command} {m : Layout} {d : Slices} {r : ℕ} {out : Text} where
  pub goes_on : {next : ℕ} (F : First t p c (Some next)) → Advances (step S.session F.command) m d output n r out
      → Stage s t at before m d next r (lines + 1) out
  goes_on {next} F A = record {
    session = A.effect.after;
    sent = step_sender S.session F.command A.effect A.is_step ∙ S.sent;
    running = A.running;
    so_far = S.so_far ++ A.effect.line;
    same_end = goes_on_as S F A;
    printed = S.printed ▸ A.printed;
    counted = one_more S F A;
    short =
        let line : 8 * length A.effect.line ≤ 17 * command_room F.command = inner_short S.session F.command A.effect (not_last (is_ending F.command) F.is_last_lem) A.is_step in
        omega (arith, S.short, line, F.placed.0, A.printed.ends);
  }
    where
      not_last : (e : Bool) → e ≡ false → T (not e)
      not_last true h = let z : ◌≡◌ {A = ℕ} 0 1 = cc in absurd (omega arith)
      not_last false h = tt

  pub ends : (F : First t p c None) → Advances (step S.session F.command) m d output n r out
      → Completes s.sender (end_on s (body_from t at)) m r (lines + 1) d before out
  ends F A = record {
    session = A.effect.after;
    sent = step_sender S.session F.command A.effect A.is_step ∙ S.sent;
    lines = S.so_far ++ A.effect.line;
    is_end = goes_on_as S F A ∙ ap (λ u. some (completed u A.effect.after.store)) (append-nil (S.so_far ++ A.effect.line));
    running = A.running;
    printed = S.printed ▸ A.printed;
    counted = one_more S F A;
  }

-- The first command of the lines from a place on: it is valid, no longer than its line, and in front of those that follow.
-- Assumes nothing.
use mathlib.Core.Path.{◌≡◌, refl, ap, ◌∙◌, subst}
use mathlib.Core.Bool.{Bool, true, false, not}
use mathlib.Core.Option.{Option, none, some}
use mathlib.Core.List.{List}
use Prim.Native.Nat.{ℕ, ◌+◌, ◌≤◌, ◌<◌}
use native.Mathlib.Omega.{arith}
use lib.Dec.{T}
use lib.ListN.{length}
use Rattle.language.specs.Text.{Text, ◌>>=◌, present}
use Rattle.language.specs.Syntax.{Command}
use Rattle.language.specs.Programs.{command_line, ending_line, body}
use Rattle.language.proofs.Logic.Outcomes.{Where}
use Rattle.language.proofs.Parsing.ValidPrograms.{is_ending}
use Rattle.language.proofs.Parsing.Reading.{least_room, Inner, Ending}
use Rattle.language.proofs.Parsing.Parsing.{command_line_valid, ending_line_valid}
use Rattle.command_readers.specs.declared.Command as Places
use Rattle.command_readers.specs.Commands.{command_meant, CommandWithin}
use Rattle.program_lines.specs.Lines.{written_from, ahead, line_from, line_length}
use Rattle.std.proofs.Common.{Some, None}
use Rattle.parser.specs.Bodies.{is_empty, body_from, First}
use Rattle.line_readers.proofs.Wholes.{command_meant_lem}
use Rattle.parser.proofs.Bodies.{command_body, ending_body, neither_body, ending_more}
use Rattle.language.proofs.Logic.Tests.{true_of}

is_false : (b : Bool) → T (not b) → b ≡ false
is_false true h = absurd h
is_false false h = refl

-- the line at s is the first from `at` on that is no comment, and the next one starts at n
module _ (t : Text) (at s n : ℕ) (later : at ≤ s) (past : s + line_length t s < n) (within : n ≤ length t)
    (lines : written_from t at ≡ ahead (line_from t s) (written_from t n)) where
  from_here : {o : Option (List Command)} → (ahead (line_from t s) (written_from t n) >>= body) ≡ o → body_from t at ≡ o
  from_here e = ap (λ (z : Option (List Text)). z >>= body) lines ∙ e

  pub first_command : (c : Places.Command) → CommandWithin t c → command_line (line_from t s) ≡ command_meant t c → First t at c (Some n)
  first_command c w e = go (command_meant t c) refl (command_meant_lem t c w)
    where
      go : (m : Option Command) → command_meant t c ≡ m → present m ≡ true → First t at c (Some n)
      go none q h = absurd (let z : ◌≡◌ {A = ℕ} 0 1 = cc in omega arith)
      go (some k) q h =
          let K : Inner k × (least_room k ≤ length (line_from t s)) =
          subst (Where (λ k. Inner k × (least_room k ≤ length (line_from t s)))) (e ∙ q) (command_line_valid (line_from t s)) in
          record {
            command = k;
            meant = q;
            within = w;
            is_valid = K.0.0;
            is_last_lem = is_false (is_ending k) K.0.1;
            placed = (omega (arith, K.1), within);
            all = from_here (command_body (line_from t s) (written_from t n) k (e ∙ q));
          }

  module _ (inner : command_line (line_from t s) ≡ none) where
    pub first_ending : (c : Places.Command) → CommandWithin t c → ending_line (line_from t s) ≡ command_meant t c → is_empty (written_from t n) ≡ true → First t at c None
    first_ending c w e z = go (command_meant t c) refl (command_meant_lem t c w)
      where
        go : (m : Option Command) → command_meant t c ≡ m → present m ≡ true → First t at c None
        go none q h = absurd (let z : ◌≡◌ {A = ℕ} 0 1 = cc in omega arith)
        go (some k) q h =
            let K : Ending k × (least_room k ≤ length (line_from t s)) =
            subst (Where (λ k. Ending k × (least_room k ≤ length (line_from t s)))) (e ∙ q) (ending_line_valid (line_from t s)) in
            record {
              command = k;
              meant = q;
              within = w;
              is_valid = K.0.0;
              is_last_lem = true_of (is_ending k) K.0.1;
              placed = omega (arith, K.1);
              all = from_here (ending_body (line_from t s) (written_from t n) k (e ∙ q) z);
            }

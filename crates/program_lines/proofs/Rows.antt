-- Laws of lines in a row: what stands from the start of a line on.
-- Assumes nothing.
use mathlib.Core.Path.{◌≡◌, refl, sym, ap, ◌∙◌}
use mathlib.Core.Bool.{Bool, true, false}
use mathlib.Core.Option.{Option, none, some}
use mathlib.Core.List.{List, [], ◌∷◌}
use Prim.Native.Nat.{ℕ, suc, ◌+◌, ◌-◌, ◌≤◌, ◌<◌}
use native.Mathlib.Omega.{arith}
use native.Mathlib.Decide.{dec_le}
use lib.Dec.{eqb}
use lib.ListN.{length, get_or, take, drop, drop_of_length-le}
use lib.Seq.{drop-cons}
use borrow.Author.Tests.{le-leb, lt-leb}
use Rattle.language.specs.Text.{Text, when◌then◌else◌, bytes, ◌>>=◌, ◌≟◌, front, past, parts}
use Rattle.language.specs.Programs.{ended, above, is_comment, written}
use Rattle.text.specs.Meaning.{is_not}
use Rattle.text.proofs.Runs.{run_part}
use Rattle.text.proofs.Words.{next, split_run, parts_from, parts_step}
use Rattle.program_lines.specs.Lines.{written_from, line_from, ahead}

-- more than one newline, or anything else, after `***`
ended_more : (b : ℕ) (bs : Text) → ended (parts 10 (b ∷ bs)) ≡ false
ended_more b bs = rw (split_run 10 bs) (go (eqb b 10) (front (is_not 10) bs) (next 10 (past (is_not 10) bs)))
  where
    go : (c : Bool) (l : Text) (ls : List Text) → ended (when c then [] ∷ l ∷ ls else (b ∷ l) ∷ ls) ≡ false
    go true l ls = refl
    go false l ls = refl

-- a line in front of others: a comment is skipped, any other line is kept
skips : (l : Text) (o : Option (List Text)) → is_comment l ≡ true → ((o >>= λ rest. some (l ∷ rest)) >>= λ ls. some (written ls)) ≡ (o >>= λ ls. some (written ls))
skips l none e = refl
skips l (some ls) e = rw e

leads : (l : Text) (o : Option (List Text)) → is_comment l ≡ false
    → ((o >>= λ rest. some (l ∷ rest)) >>= λ ls. some (written ls)) ≡ ahead l (o >>= λ ls. some (written ls))
leads l none e = refl
leads l (some ls) e = rw e

-- the line from `at` up to e
module _ (t : Text) (at e : ℕ) (h : at ≤ length t) (ends : e ≡ at + length (front (is_not 10) (drop at t))) where
  abbrev line : Text
  line = take (e - at) (drop at t)

  lines : parts 10 (drop at t) ≡ line ∷ parts_from 10 (e + 1) t
  lines =
      let whole : parts_from 10 at t ≡ parts 10 (drop at t) = rw (le-leb at (length t) h) in
      sym whole ∙ parts_step 10 at e t h ends

  last : length t ≤ e → parts_from 10 (e + 1) t ≡ []
  last k = rw (lt-leb (e + 1) (length t) (omega arith))

  others : e < length t → parts_from 10 (e + 1) t ≡ parts 10 (drop (e + 1) t)
  others k = rw (le-leb (e + 1) (length t) (omega arith))

  ended_right : e ≤ length t → length t - e ≤ 1 → ended (parts_from 10 (e + 1) t) ≡ true
  ended_right k q = elim (dec_le (e + 1) (length t)) [
    | yes y ↦ rw (others (omega arith), drop_of_length-le t {i = e + 1} (omega arith))
    | no n ↦ rw (last (omega arith))
  ]

  ended_wrong : 1 < length t - e → ended (parts_from 10 (e + 1) t) ≡ false
  ended_wrong q = rw (others (omega arith), drop-cons t (e + 1) 0 (omega arith)) (ended_more (get_or t (e + 1) 0) (drop (suc (e + 1)) t))

  pub stars : (line ≟ bytes "***") ≡ true → e ≤ length t → length t - e ≤ 1 → written_from t at ≡ some []
  stars s k q = rw (lines, s, ended_right k q)

  pub stars_more : (line ≟ bytes "***") ≡ true → 1 < length t - e → written_from t at ≡ none
  stars_more s q = rw (lines, s, ended_wrong q)

  pub no_newline : (line ≟ bytes "***") ≡ false → length t ≤ e → written_from t at ≡ none
  no_newline s k = rw (lines, s, last k)

  pub comment_row : (line ≟ bytes "***") ≡ false → e < length t → is_comment line ≡ true → written_from t at ≡ written_from t (e + 1)
  comment_row s k c = rw (lines, s, others k) (skips line (above (parts 10 (drop (e + 1) t))) c)

  pub token_row : (line ≟ bytes "***") ≡ false → e < length t → is_comment line ≡ false → written_from t at ≡ ahead (line_from t at) (written_from t (e + 1))
  token_row s k c =
      let row : written_from t at ≡ ahead line (written_from t (e + 1)) = rw (lines, s, others k) (leads line (above (parts 10 (drop (e + 1) t))) c) in
      row ∙ ap (λ (l : Text). ahead l (written_from t (e + 1))) (run_part (is_not 10) t at e ends)

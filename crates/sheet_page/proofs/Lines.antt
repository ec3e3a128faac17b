-- A principal's line by its marks is its line of the sheet; the lines of the first principals, and one more.
-- Assumes nothing.
use mathlib.Core.Path.{◌≡◌, refl, sym, ap, subst, ◌∙◌}
use mathlib.Core.Bool.{Bool, true, false, not}
use mathlib.Core.Option.{none}
use mathlib.Core.List.{List, [], ◌++◌, map}
use Prim.Native.Nat.{ℕ, ◌+◌, ◌<◌}
use native.Mathlib.Numerals.{add-one}
use native.Mathlib.Omega.{arith}
use lib.Dec.{eqb}
use lib.ListN.{length, get_or, take, length-map}
use Rattle.language.specs.Text.{Text, joined, present}
use Rattle.language.specs.Syntax.{Name, Right, read, write, append, delegate}
use Rattle.language.specs.State.{Principal, Store}
use Rattle.language.specs.Chains.{chain_length, has}
use Rattle.language.specs.Sheet.{shown_line, sheet_line}
use Rattle.language.proofs.Histories.Sheets.{line_40}
use Rattle.store.specs.Held.{Principals}
use Rattle.store.specs.Rows.{Row, no_row, row_at, principal_row}
use Rattle.store.specs.Contents.{principal_at}
use Rattle.store.proofs.Records.{joined_suc}
use Rattle.store.proofs.Answers.{map_at}
use Rattle.named_rights.specs.Numbers.{principals_of, length_marked}
use Rattle.search_steps.specs.Steps.{unreached}
use Rattle.value_text.specs.Writing.{Written}
use Rattle.value_text.proofs.Pieces.{◌▸◌, rewritten}
use Rattle.sheet_lines.specs.declared.Had.{Had}
use Rattle.sheet_lines.specs.Rights.{had_by}
use Rattle.sheet_page.specs.Marks.{Marked, HadAt}

-- a mark says that there is a chain where it is not the one of the unreached
pub reached_is : (m : ℕ) → not (eqb m unreached) ≡ present (length_marked m)
reached_is m = go (eqb m unreached) refl
  where
    go : (b : Bool) → eqb m unreached ≡ b → not (eqb m unreached) ≡ present (length_marked m)
    go true e = rw e
    go false e = rw e

-- what stands at a place of two lists that are mapped to the same
same_at : {A B C : Type 0} (f : A → C) (g : B → C) (l : List A) (m : List B) (a : A) (b : B) (i : ℕ) → i < length m → map f l ≡ map g m → f (get_or l i a) ≡ g (get_or m i b)
same_at f g l m a b i h e =
    let n : length l ≡ length m = sym (length-map l f) ∙ ap length e ∙ length-map m g in
    let k : i < length l = omega (arith, n) in
    sym (map_at f l i a (f a) k) ∙ ap (λ c. get_or c i (f a)) e ∙ map_at g m i b (f a) h

-- what `principal_at` gives behind the last
abbrev nobody : Principal
nobody = record { name = []; password = none; count = 0 }

module _ (s : Store) (x : Name) (t : Text) (count : ℕ) (slots : List ℕ) (H : Principals s.principals t count slots) where
  module _ (i : ℕ) (h : i < count) where
    abbrev one : Principal
    one = principal_at s.principals i

    there : i < length s.principals
    there = omega (arith, H.counted)

    name_at : get_or (principals_of s) i [] ≡ one.name
    name_at = map_at (λ k. k.name) s.principals i nobody [] there

    row_name : (row_at (map principal_row s.principals) i).name ≡ one.name
    row_name = ap (λ (r : Row). r.name) (map_at principal_row s.principals i nobody no_row there)

    right_at : (r : Right) (marks : List ℕ) → map length_marked marks ≡ map (chain_length s r x) (principals_of s) → present (length_marked (get_or marks i 0)) ≡ has s r x one.name
    right_at r marks e =
        let k : i < length (principals_of s) = omega (arith, there, length-map s.principals (λ k. k.name)) in
        ap present (same_at length_marked (chain_length s r x) marks (principals_of s) 0 [] i k e ∙ ap (chain_length s r x) name_at)

    module _ (reads writes appends delegates : List ℕ) (M : Marked s x reads writes appends delegates) (had : Had) (A : HadAt reads writes appends delegates i had) where
      had_is : (r : Right) → had_by had r ≡ has s r x one.name
      had_is read = A.read_is ∙ right_at read reads M.reads_are
      had_is write = A.write_is ∙ right_at write writes M.writes_are
      had_is append = A.append_is ∙ right_at append appends M.appends_are
      had_is delegate = A.delegate_is ∙ right_at delegate delegates M.delegates_are

      line_here : shown_line (row_at (map principal_row s.principals) i).name (had_by had) ≡ sheet_line s x one
      line_here = λ j. shown_line (row_name j) (λ r. had_is r j)

      -- one line more, where those before it end
      pub line_written : {before mid after : Text} {p q r : ℕ} → q ≡ p → Written before 0 (joined (sheet_line s x) (take i s.principals)) p mid
          → Written mid q (shown_line (row_at (map principal_row s.principals) i).name (had_by had)) r after
          → Written before 0 (joined (sheet_line s x) (take (i + 1) s.principals)) r after
      line_written {mid = mid} {after = after} {r = r} at w z =
          let y = subst (λ (n : ℕ). Written mid n (shown_line (row_at (map principal_row s.principals) i).name (had_by had)) r after) at z in
          let e : joined (sheet_line s x) (take i s.principals) ++ sheet_line s x one ≡ joined (sheet_line s x) (take (i + 1) s.principals) =
          sym (ap (λ (n : ℕ). joined (sheet_line s x) (take n s.principals)) (add-one i) ∙ joined_suc (sheet_line s x) s.principals i nobody there) in
          rewritten e (w ▸ rewritten line_here y)

-- how far a line reaches
pub line_ends : (name : Name) (had : Right → Bool) {before after : Text} {p r : ℕ} → Written before p (shown_line name had) r after → r ≡ p + 40
line_ends name had {p = p} w = w.ends ∙ ap (λ (n : ℕ). p + n) (line_40 name had)

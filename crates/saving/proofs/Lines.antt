-- The assertions' lines, one after the other.
-- Assumes nothing.
use mathlib.Core.Path.{◌≡◌, sym, ap, ◌∙◌}
use Prim.Native.Nat.{ℕ, suc, ◌+◌, ◌≤◌, ◌<◌}
use native.Mathlib.Numerals.{add-one}
use native.Mathlib.Omega.{arith}
use mathlib.Core.List.{List, [], ◌∷◌, ◌++◌}
use lib.ListN.{length, get_or, take, drop, length-append, length-map}
use lib.Seq.{length-take-le}
use Rattle.language.specs.Text.{Text, joined}
use Rattle.language.specs.Syntax.{read}
use Rattle.language.specs.State.{Assertion, Store}
use Rattle.language.specs.Encode.{letter, assertion_text, assertions_text}
use Rattle.language.specs.Valid.{valid_assertion}
use Rattle.store.proofs.Records.{joined_split, joined_suc, all_at}
use Rattle.store.proofs.Answers.{map_at}
use Rattle.value_text.specs.Writing.{Written}
use Rattle.value_text.proofs.Pieces.{◌▸◌, rewritten}
use Rattle.state_lines.specs.Lines.{assertion_line}
use Rattle.state_lines.proofs.Lines.{assertion_line_lem}
use Rattle.named_rights.specs.Numbers.{principals_of, variables, numbered, Standing}
use Rattle.named_rights.proofs.Few.{store_shape}
use Rattle.session.specs.declared.Layout.{Layout}
use Rattle.saving.specs.Stores.{Named, Assertions}

-- a line's parts are an assertion's
pub line_of : (a : Assertion) (b : ℕ) (x q p : Text) → x ≡ a.variable → q ≡ a.from → p ≡ a.to → letter a.right ≡ b ∷ [] → assertion_line x q b p ≡ assertion_text a
line_of a b x q p ex eq ep eb = (λ i. assertion_line (ex i) (eq i) b (ep i)) ∙ assertion_line_lem a b eb

line_size_lem : (x q : Text) (b : ℕ) (p : Text) → length (assertion_line x q b p) ≡ length x + length q + length p + 7
line_size_lem x q b p = simp length-append (omega arith)

pub line_room_lem : (a : Assertion) (b : ℕ) (x q p : Text) (at size : ℕ) → x ≡ a.variable → q ≡ a.from → p ≡ a.to → letter a.right ≡ b ∷ []
    → at + length (assertion_text a) ≤ size → at + length x + length q + length p + 7 ≤ size
line_room_lem a b x q p at size ex eq ep eb h = omega (arith, h, ap length (line_of a b x q p ex eq ep eb), line_size_lem x q b p)

-- the assertion of a number
abbrev pub assertion_at : Store → ℕ → Assertion
assertion_at s k = get_or s.assertions k (record { variable = []; from = []; right = read; to = [] })

module _ (s : Store) (l : Layout) (principals_text_lem : Text) (principal_slots : List ℕ) (vars-text : Text) (variable_slots assertions : List ℕ)
    (N : Named s l principals_text_lem principal_slots vars-text variable_slots) (S : Standing s l.asserted assertions) where
  pub assertions_count : l.asserted ≡ length s.assertions
  assertions_count = sym (length-take-le l.asserted assertions S.within) ∙ ap length S.are ∙ length-map s.assertions (numbered (principals_of s) (variables s))

  module _ (i : ℕ) (h : i < length (take l.asserted assertions)) where
    there : i < length s.assertions
    there = omega (arith, assertions_count, length-take-le l.asserted assertions S.within)

    pub assertion_at_lem : Assertions s (assertion_at s i) (get_or (take l.asserted assertions) i 0)
    assertion_at_lem = record {
      known = all_at (valid_assertion s) s.assertions i (record { variable = []; from = []; right = read; to = [] }) (store_shape s N.is_valid).assertions_valid there;
      number =
          ap (λ (m : List ℕ). get_or m i 0) S.are
          ∙ map_at (numbered (principals_of s) (variables s)) s.assertions i (record { variable = []; from = []; right = read; to = [] }) 0 there;
    }

    next_line : joined assertion_text (take (suc i) s.assertions) ≡ joined assertion_text (take i s.assertions) ++ assertion_text (assertion_at s i)
    next_line = joined_suc assertion_text s.assertions i (record { variable = []; from = []; right = read; to = [] }) there

    -- the next line has room where all have
    pub assertion_room : (before after : Text) (at p : ℕ) → Written before at (joined assertion_text (take i s.assertions)) p after
        → at + length (assertions_text s.assertions) ≤ length before → p + length (assertion_text (assertion_at s i)) ≤ length before
    assertion_room before after at p w r =
        let whole : length (assertions_text s.assertions) ≡ length (joined assertion_text (take (suc i) s.assertions)) + length (joined assertion_text (drop (suc i) s.assertions)) =
        ap length (joined_split assertion_text s.assertions (suc i)) ∙ length-append (joined assertion_text (take (suc i) s.assertions)) (joined assertion_text (drop (suc i) s.assertions)) in
        omega (arith, r, w.ends, whole, ap length next_line, length-append (joined assertion_text (take i s.assertions)) (assertion_text (assertion_at s i)))

    pub assertion_written : (before mid after : Text) (at p r : ℕ) → Written before at (joined assertion_text (take i s.assertions)) p mid
        → Written mid p (assertion_text (assertion_at s i)) r after → Written before at (joined assertion_text (take (i + 1) s.assertions)) r after
    assertion_written before mid after at p r w x =
        rewritten (sym next_line ∙ ap (λ (n : ℕ). joined assertion_text (take n s.assertions)) (sym (add-one i))) (w ▸ x)

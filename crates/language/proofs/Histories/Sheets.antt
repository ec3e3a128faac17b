-- A sheet has 40 bytes for each principal, and fits the output: a principal weighs 12 at least. Its lines stand where they are looked for,
-- and a letter stands exactly where a chain exists.
use mathlib.Core.Path.{◌≡◌, refl, sym, ap, subst, ◌∙◌}
use mathlib.Core.Logic.{◌↔◌}
use Prim.Native.Nat.{ℕ, suc, ◌+◌, ◌*◌, ◌-◌, ◌≤◌}
use native.Mathlib.Omega.{arith}
use mathlib.Core.Bool.{Bool, true, false}
use mathlib.Core.List.{List, [], ◌∷◌, ◌++◌, append_assoc}
use lib.ListN.{length, take, drop, replicate, length-append, length-replicate}
use lib.Seq.{length-take-le, take_at, drop-append-add}
use lib.Dec.{T, leb, leb→le}
use borrow.Author.Tests.{leb-true, leb-false}
use Rattle.language.specs.Chains.{Chain, has}
use Rattle.language.specs.Text.{Text, bytes, when◌then◌else◌, joined}
use Rattle.language.specs.Syntax.{Name, Right, read, write, append, delegate}
use Rattle.language.specs.State.{Principal, Store}
use Rattle.language.specs.Weight.{limit, store_weight}
use Rattle.language.specs.Valid.{well_formed, valid_store}
use Rattle.language.specs.Encode.{letter, buffer_size, padded}
use Rattle.language.specs.Sheet.{space, shown_name, shown_right, shown_line, sheet_line, sheet_text, line_size, line_at, cell}
use Rattle.language.specs.Calls.{listed, Reply, SheetBuffers, sheet_reply}
use Rattle.language.specs.History.{Shows, Sheeted}
use Rattle.language.proofs.Logic.Tests.{both, true_of, false_of}
use Rattle.language.proofs.StateText.Least.{principals_weigh}
use Rattle.language.proofs.StateText.Shape.{shape}
use Rattle.language.proofs.Histories.Offences.{right_is_chain}

-- ---- a line

pub shown_name_lem : (p : Name) → length (shown_name p) ≡ 34
shown_name_lem p = go (leb (length p) 34) refl
  where
    go : (b : Bool) → leb (length p) 34 ≡ b → length (when b then p ++ replicate (34 - length p) space else take 33 p ++ bytes "~") ≡ 34
    go true e = omega (arith, length-append p (replicate (34 - length p) space), length-replicate {A = ℕ} (34 - length p) space, leb-true (length p) 34 e)
    go false e = omega (arith, length-append (take 33 p) (bytes "~"), length-take-le 33 p (omega (arith, leb-false (length p) 34 e)))

-- the one byte of a right's column
abbrev pub byte_shown : Bool → Right → ℕ
byte_shown true read = 114
byte_shown true write = 119
byte_shown true append = 97
byte_shown true delegate = 100
byte_shown false r = 46

pub one_byte : (b : Bool) (r : Right) → shown_right b r ≡ byte_shown b r ∷ []
one_byte true read = refl
one_byte true write = refl
one_byte true append = refl
one_byte true delegate = refl
one_byte false r = refl

module _ (p : Name) (had : Right → Bool) where
  -- what follows the name
  abbrev tail : Text
  tail = space ∷ byte_shown (had read) read ∷ byte_shown (had write) write ∷ byte_shown (had append) append ∷ byte_shown (had delegate) delegate ∷ 10 ∷ []

  pub line_is : shown_line p had ≡ shown_name p ++ tail
  line_is =
      rw (one_byte (had read) read, one_byte (had write) write, one_byte (had append) append, one_byte (had delegate) delegate) refl

  pub line_40 : length (shown_line p had) ≡ line_size
  line_40 = ap length line_is ∙ omega (arith, length-append (shown_name p) tail, shown_name_lem p)

  pub line_name : take 34 (shown_line p had) ≡ shown_name p
  line_name = ap (take 34) line_is ∙ take_at (shown_name p) tail 34 (shown_name_lem p)

  behind : (n : ℕ) → drop (34 + n) (shown_line p had) ≡ drop n tail
  behind n = ap (drop (34 + n)) line_is ∙ subst (λ (k : ℕ). drop (k + n) (shown_name p ++ tail) ≡ drop n tail) (shown_name_lem p) (drop-append-add (shown_name p) tail n)

  pub line_cell : (r : Right) → cell r (shown_line p had) ≡ shown_right (had r) r
  line_cell read = ap (take 1) (behind 1) ∙ sym (one_byte (had read) read)
  line_cell write = ap (take 1) (behind 2) ∙ sym (one_byte (had write) write)
  line_cell append = ap (take 1) (behind 3) ∙ sym (one_byte (had append) append)
  line_cell delegate = ap (take 1) (behind 4) ∙ sym (one_byte (had delegate) delegate)

-- ---- a sheet

module _ {A : Type 0} (f : A → Text) (n : ℕ) (same : (a : A) → length (f a) ≡ n) where
  -- texts of the same length joined, and one of them
  pub joined_length : (l : List A) → length (joined f l) ≡ n * length l
  joined_length [] = omega arith
  joined_length (a ∷ l) = length-append (f a) (joined f l) ∙ omega (arith, same a, joined_length l)

  pub joined_at : (earlier later : List A) (a : A) (rest : Text) → take n (drop (n * length earlier) (joined f (earlier ++ a ∷ later) ++ rest)) ≡ f a
  joined_at [] later a rest =
      let none : n * 0 ≡ 0 = omega arith in
      ap (λ (k : ℕ). take n (drop k (joined f (a ∷ later) ++ rest))) none
      ∙ ap (take n) (append_assoc (f a) (joined f later) rest)
      ∙ take_at (f a) (joined f later ++ rest) n (same a)
  joined_at (e ∷ earlier) later a rest =
      let past : n * suc (length earlier) ≡ length (f e) + n * length earlier = omega (arith, same e) in
      ap (λ (k : ℕ). take n (drop k (joined f (e ∷ earlier ++ a ∷ later) ++ rest))) past
      ∙ ap (take n) (ap (drop (length (f e) + n * length earlier)) (append_assoc (f e) (joined f (earlier ++ a ∷ later)) rest) ∙ drop-append-add (f e) (joined f (earlier ++ a ∷ later) ++ rest) (n * length earlier))
      ∙ joined_at earlier later a rest

pub sheet_length : (s : Store) (x : Name) → length (sheet_text s x) ≡ line_size * length s.principals
sheet_length s x = joined_length (sheet_line s x) line_size (λ k. line_40 k.name (λ r. has s r x k.name)) s.principals

-- at most 682 principals, and 27,280 bytes
pub sheet_fits : (s : Store) → T (valid_store s) → line_size * length s.principals ≤ 27280
sheet_fits s v =
    let (w, l) = both (well_formed s) (leb (store_weight s) limit) v in
    omega (arith, principals_weigh s.principals (shape s w).principals_valid, leb→le (store_weight s) limit l)

-- ---- what it says

module _ (s : Store) (v : T (well_formed s)) (x : Name) where
  module _ (earlier later : List Principal) (k : Principal) (e : s.principals ≡ earlier ++ k ∷ later) where
    line : line_at (length earlier) (padded (sheet_text s x)) ≡ sheet_line s x k
    line =
        ap (λ (ks : List Principal). line_at (length earlier) (joined (sheet_line s x) ks ++ replicate (buffer_size - length (sheet_text s x)) 0)) e
        ∙ joined_at (sheet_line s x) line_size (λ j. line_40 j.name (λ r. has s r x j.name)) earlier later k (replicate (buffer_size - length (sheet_text s x)) 0)

    abbrev page_cell : Right → Text
    page_cell r = cell r (line_at (length earlier) (padded (sheet_text s x)))

    module _ (r : Right) where
      shown : page_cell r ≡ shown_right (has s r x k.name) r
      shown = ap (cell r) line ∙ line_cell k.name (λ q. has s q x k.name) r

      chains : T (has s r x k.name) ↔ ((n : ℕ) × Chain s r x n k.name)
      chains = right_is_chain s v r x k.name

      -- no letter is a point
      no_point : (q : Right) → bytes "." ≡ letter q → ⊥
      no_point read h = let z : ◌≡◌ {A = ℕ} 46 114 = cc in omega arith
      no_point write h = let z : ◌≡◌ {A = ℕ} 46 119 = cc in omega arith
      no_point append h = let z : ◌≡◌ {A = ℕ} 46 97 = cc in omega arith
      no_point delegate h = let z : ◌≡◌ {A = ℕ} 46 100 = cc in omega arith

      has_letter : (b : Bool) → shown_right b r ≡ letter r → T b
      has_letter true h = tt
      has_letter false h = absurd (no_point r h)

      lacks_point : (b : Bool) → shown_right b r ≡ bytes "." → T b → ⊥
      lacks_point true h t = no_point r (sym h)
      lacks_point false h t = t

      letter_shown : (page_cell r ≡ letter r) ↔ ((n : ℕ) × Chain s r x n k.name)
      letter_shown = (
        λ h. chains.0 (has_letter (has s r x k.name) (sym shown ∙ h)),
        λ c. shown ∙ ap (λ (b : Bool). shown_right b r) (true_of (has s r x k.name) (chains.1 c)),
      )

      point_shown : (page_cell r ≡ bytes ".") ↔ ((n : ℕ) → ¬ Chain s r x n k.name)
      point_shown = (
        λ h n c. lacks_point (has s r x k.name) (sym shown ∙ h) (chains.1 (n, c)),
        λ f. shown ∙ ap (λ (b : Bool). shown_right b r) (false_of (has s r x k.name) (λ t. let (n, c) = chains.0 t in f n c)),
      )

  pub sheet_shows : Shows s x (padded (sheet_text s x))
  sheet_shows = record {
    named = λ earlier later k e. ap (take 34) (line earlier later k e) ∙ line_name k.name (λ r. has s r x k.name);
    letters = letter_shown;
    points = point_shown;
  }

-- the reply to a sheet rightly asked for
pub sheeted : (b : SheetBuffers) {s : Store} {x : Name} {r : Reply SheetBuffers} → T (valid_store s) → r ≡ sheet_reply b x s → Sheeted s x r
sheeted b {s} {x} v e = record {
  counts = ap (λ (k : Reply SheetBuffers). k.answer) e ∙ ap (listed (length s.principals)) (sheet_length s x);
  fits = sheet_fits s v;
  page = ap (λ (k : Reply SheetBuffers). k.lent.output) e;
  shows = subst (λ (k : Reply SheetBuffers). Shows s x k.lent.output) (sym e) (sheet_shows s (both (well_formed s) (leb (store_weight s) limit) v).0 x);
}

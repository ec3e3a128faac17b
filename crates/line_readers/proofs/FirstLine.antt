-- The tokens of a text are those of its first line: the lexer does not look past a newline.
-- Assumes nothing.
use mathlib.Core.Path.{◌≡◌, refl, sym, ap, ◌∙◌}
use mathlib.Core.List.{List, [], ◌∷◌}
use mathlib.Core.Bool.{Bool, true, false, not}
use Prim.Native.Nat.{ℕ, zero, suc, ◌+◌, ◌≤◌}
use native.Mathlib.Omega.{arith}
use lib.Dec.{eqb, leb}
use lib.ListN.{length}
use borrow.Author.Tests.{eqb-true}
use Rattle.language.specs.Text.{when◌then◌else◌, bytes, front, past, ◌≟◌, member}
use Rattle.language.specs.Bytes.{◌is◌, ◌∈◌, Class, class, letter, digit, space, newline, mark, foreign, word_byte, string_byte, comment_byte}
use Rattle.language.specs.Identifiers.{keywords, longest_name}
use Rattle.language.specs.Tokens.{Token, Lexeme, gap, end, token, bad, sign, ident, text, tokens, lex, lead, lexeme, quoted_by, comment, pair}
use Rattle.text.specs.Meaning.{is_not}
use Rattle.text.proofs.Runs.{run_le}
use Rattle.language.proofs.Logic.Tests.{and_false}

-- the first line
abbrev pub line : List ℕ → List ℕ
line = front (is_not 10)

if_same : {A : Type 0} (t : Bool) (a : A) → (when t then a else a) ≡ a
if_same true a = refl
if_same false a = refl

-- a run of bytes that are no newline ends in the line
run_line : (p : ℕ → Bool) → p 10 ≡ false → (xs : List ℕ) → front p (line xs) ≡ front p xs
run_line p z [] = refl
run_line p z (x ∷ xs) = go (eqb x 10) refl (run_line p z xs)
  where
    go : (t : Bool) → eqb x 10 ≡ t → front p (line xs) ≡ front p xs → front p (when not t then x ∷ line xs else []) ≡ front p (x ∷ xs)
    go true e ih = rw (eqb-true x 10 e, z)
    go false e ih = rw ih

-- what follows the run goes on alike, up to the newline
past_line : (p : ℕ → Bool) → p 10 ≡ false → (xs : List ℕ) → past p (line xs) ≡ line (past p xs)
past_line p z [] = refl
past_line p z (x ∷ xs) = go (eqb x 10) refl (p x) refl (past_line p z xs)
  where
    go : (t : Bool) → eqb x 10 ≡ t → (u : Bool) → p x ≡ u → past p (line xs) ≡ line (past p xs)
        → past p (when not t then x ∷ line xs else []) ≡ line (when u then past p xs else x ∷ xs)
    go true e true q ih = let h : ◌≡◌ {A = Bool} true false = sym q ∙ ap p (eqb-true x 10 e) ∙ z in cc
    go true e false q ih = rw e
    go false e true q ih = rw q ih
    go false e false q ih = rw (q, e)

quoted_line : (s ys : List ℕ) → quoted_by s (line ys) ≡ quoted_by s ys
quoted_line s [] = refl
quoted_line s (y ∷ ys) = go (eqb y 10) refl
  where
    go : (t : Bool) → eqb y 10 ≡ t → quoted_by s (when not t then y ∷ line ys else []) ≡ quoted_by s (y ∷ ys)
    go true e = rw (eqb-true y 10 e)
    go false e = refl

comment_line : (ys : List ℕ) → comment (line ys) ≡ comment ys
comment_line [] = refl
comment_line (y ∷ ys) = go (eqb y 10) refl
  where
    go : (t : Bool) → eqb y 10 ≡ t → comment (when not t then y ∷ line ys else []) ≡ comment (y ∷ ys)
    go true e = rw e
    go false e = refl

comment_10 : comment_byte 10 ≡ false
comment_10 = refl

string_10 : string_byte 10 ≡ false
string_10 = refl

word_10 : word_byte 10 ≡ false
word_10 = refl

pair_line : (b : ℕ) (xs : List ℕ) → pair b (line xs) ≡ pair b xs
pair_line b [] = refl
pair_line b (x ∷ xs) = go (eqb x 10) refl
  where
    after : comment (past comment_byte (line xs)) ≡ comment (past comment_byte xs)
    after = ap comment (past_line comment_byte comment_10 xs) ∙ comment_line (past comment_byte xs)

    go : (t : Bool) → eqb x 10 ≡ t → pair b (when not t then x ∷ line xs else []) ≡ pair b (x ∷ xs)
    go true e = rw (eqb-true x 10 e, and_false (eqb b 45), and_false (eqb b 91), and_false (eqb b 47))
    go false e = rw after

lexeme_line : (c : Class) (b : ℕ) (xs : List ℕ) → lexeme c b (line xs) ≡ lexeme c b xs
lexeme_line letter b xs = rw (run_line word_byte word_10 xs)
lexeme_line digit b xs = refl
lexeme_line space b xs = refl
lexeme_line newline b xs = refl
lexeme_line foreign b xs = refl
lexeme_line (mark m) b xs =
    rw (run_line string_byte string_10 xs, past_line string_byte string_10 xs, quoted_line (front string_byte xs) (past string_byte xs), pair_line m xs)

-- ---- a lexeme is no longer than the text that it is at the front of
abbrev Fits : Lexeme → ℕ → Type 0
Fits gap k = Unit
Fits end k = Unit
Fits (token t n) k = n ≤ k
Fits bad k = Unit

fits_if : (t : Bool) (l m : Lexeme) (k : ℕ) → Fits l k → Fits m k → Fits (when t then l else m) k
fits_if true l m k p q = p
fits_if false l m k p q = q

run_past : (p : ℕ → Bool) (xs : List ℕ) → length (front p xs) + length (past p xs) ≡ length xs
run_past p [] = refl
run_past p (x ∷ xs) = go (p x) (run_past p xs)
  where
    go : (t : Bool) → length (front p xs) + length (past p xs) ≡ length xs
        → length (when t then x ∷ front p xs else []) + length (when t then past p xs else x ∷ xs) ≡ suc (length xs)
    go true h = omega arith
    go false h = omega arith

fits_quoted : (s ys : List ℕ) (k : ℕ) → length s + length ys ≡ k → Fits (quoted_by s ys) k
fits_quoted s [] k h = tt
fits_quoted s (y ∷ ys) k h = fits_if (y is "\"") (token (text s) (suc (length s))) bad k (omega arith) tt

fits_comment : (ys : List ℕ) (k : ℕ) → Fits (comment ys) k
fits_comment [] k = tt
fits_comment (y ∷ ys) k = fits_if (y is "\n") end bad k tt tt

fits_pair : (b : ℕ) (xs : List ℕ) → Fits (pair b xs) (length xs)
fits_pair b [] = tt
fits_pair b (x ∷ xs) =
    let k = suc (length xs) in
    let l₃ = when ((b ∷ x ∷ []) ≟ bytes "//") then comment (past comment_byte xs) else bad in
    let l₂ = when ((b ∷ x ∷ []) ≟ bytes "[]") then token (sign (bytes "[]")) 1 else l₃ in
    let p₃ : Fits l₃ k = fits_if ((b ∷ x ∷ []) ≟ bytes "//") (comment (past comment_byte xs)) bad k (fits_comment (past comment_byte xs) k) tt in
    let p₂ : Fits l₂ k = fits_if ((b ∷ x ∷ []) ≟ bytes "[]") (token (sign (bytes "[]")) 1) l₃ k (omega arith) p₃ in
    fits_if ((b ∷ x ∷ []) ≟ bytes "->") (token (sign (bytes "->")) 1) l₂ k (omega arith) p₂

fits : (c : Class) (b : ℕ) (xs : List ℕ) → Fits (lexeme c b xs) (length xs)
fits letter b xs =
    let w = b ∷ front word_byte xs in
    let n = length (front word_byte xs) in
    let k = length xs in
    fits_if (member w keywords) (token (sign w) n) (when leb (length w) longest_name then token (ident w) n else bad) k (run_le word_byte xs)
    (fits_if (leb (length w) longest_name) (token (ident w) n) bad k (run_le word_byte xs) tt)
fits digit b xs = tt
fits space b xs = tt
fits newline b xs = tt
fits foreign b xs = tt
fits (mark m) b xs =
    fits_if (m is "\"") (quoted_by (front string_byte xs) (past string_byte xs)) (when m ∈ bytes "=.,{}()" then token (sign (m ∷ [])) 0 else pair m xs) (length xs)
    (fits_quoted (front string_byte xs) (past string_byte xs) (length xs) (run_past string_byte xs))
    (fits_if (m ∈ bytes "=.,{}()") (token (sign (m ∷ [])) 0) (pair m xs) (length xs) (omega arith) (fits_pair m xs))

-- ---- the tokens
lead_same : (l : Lexeme) (f g : ℕ → List Token) (k : ℕ) → Fits l k → ((n : ℕ) → n ≤ k → f n ≡ g n) → lead l f ≡ lead l g
lead_same gap f g k p h = h 0 (omega arith)
lead_same end f g k p h = refl
lead_same (token t n) f g k p h = ap (λ (r : List Token). t ∷ r) (h n p)
lead_same bad f g k p h = refl

newline_10 : (xs : List ℕ) → lex (10 ∷ xs) ≡ []
newline_10 xs = refl

pub tokens_line : (xs : List ℕ) (k : ℕ) → k ≤ length (line xs) → tokens (line xs) k ≡ tokens xs k
tokens_line [] k h = refl
tokens_line (x ∷ xs) zero h = go (eqb x 10) refl (λ n. tokens_line xs n)
  where
    go : (t : Bool) → eqb x 10 ≡ t → ((n : ℕ) → n ≤ length (line xs) → tokens (line xs) n ≡ tokens xs n)
        → tokens (when not t then x ∷ line xs else []) 0 ≡ tokens (x ∷ xs) 0
    go true e ih = rw (eqb-true x 10 e) (sym (newline_10 xs))
    go false e ih =
        lead_same (lexeme (class x) x (line xs)) (tokens (line xs)) (tokens xs) (length (line xs)) (fits (class x) x (line xs)) ih
        ∙ rw (lexeme_line (class x) x xs)
tokens_line (x ∷ xs) (suc k) h = go (eqb x 10) refl h (λ n. tokens_line xs n)
  where
    go : (t : Bool) → eqb x 10 ≡ t → suc k ≤ length (when not t then x ∷ line xs else []) → ((n : ℕ) → n ≤ length (line xs) → tokens (line xs) n ≡ tokens xs n)
        → tokens (when not t then x ∷ line xs else []) (suc k) ≡ tokens xs k
    go true e p ih = absurd (omega arith)
    go false e p ih = ih k (omega arith)

-- the tokens of a text are those of its first line
pub lex_line : (xs : List ℕ) → lex (line xs) ≡ lex xs
lex_line xs = tokens_line xs 0 (omega arith)

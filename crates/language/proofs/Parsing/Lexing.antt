-- The tokens of a line are valid, and take no more room than the line has.
use mathlib.Core.Path.{◌≡◌, refl, sym, subst}
use mathlib.Core.Logic.{inl, inr}
use Prim.Native.Nat.{ℕ, zero, suc, ◌+◌, ◌≤◌, zero-le}
use native.Mathlib.Nat.{le_refl, le_of_suc-le-suc}
use native.Mathlib.Omega.{arith}
use mathlib.Core.Bool.{Bool, true, false, ◌&&◌, not}
use mathlib.Core.List.{List, [], ◌∷◌}
use lib.ListN.{length, drop}
use lib.Dec.{T, T_not, not_T, eqb, eqb→eq, leb, lit≤}
use Rattle.language.specs.Text.{Text, bytes, when◌then◌else◌, ◌≟◌, all, member, front, past}
use Rattle.language.specs.Bytes.{◌is◌, ◌∈◌, Class, letter, digit, space, newline, foreign, mark, class, is_letter, in_word, word_byte, string_byte, comment_byte}
use Rattle.language.specs.Identifiers.{is_string, keywords, is_word, is_identifier}
use Rattle.language.specs.Tokens.{Token, sign, ident, text, wrong, Lexeme, gap, end, token, bad, word, quoted_by, comment, pair, lexeme, lead, tokens, lex}
use Rattle.language.proofs.Logic.Tests.{both, and, and_three, one_of_lem}

abbrev pub valid_token : Token → Bool
valid_token (sign w) = true
valid_token (ident w) = is_identifier w
valid_token (text t) = is_string t
valid_token wrong = true

-- the bytes of a token
abbrev pub token_size : Token → ℕ
token_size (sign w) = length w
token_size (ident w) = length w
token_size (text t) = length t + 2
token_size wrong = 0

-- a keyword or an identifier: another such cannot follow at once
abbrev pub is_word_token : Token → Bool
is_word_token (sign []) = false
is_word_token (sign (b ∷ w)) = word_byte b
is_word_token (ident w) = true
is_word_token (text t) = false
is_word_token wrong = false

abbrev pub gap_size : Bool → ℕ
gap_size true = 1
gap_size false = 0

-- the least room that tokens take, after a word or not
abbrev pub room : Bool → List Token → ℕ
room after [] = 0
room after (t ∷ ts) = gap_size (after && is_word_token t) + (token_size t + room (is_word_token t) ts)

-- ---- runs

front_all : (f : ℕ → Bool) (t : Text) → T (all f (front f t))
front_all f [] = tt
front_all f (b ∷ t) = go (f b) refl (front_all f t)
  where
    go : (c : Bool) → f b ≡ c → T (all f (front f t)) → T (all f (when c then b ∷ front f t else []))
    go true e h = and (f b) (all f (front f t)) (subst T (sym e) tt) h
    go false e h = tt

front_past : (f : ℕ → Bool) (t : Text) → length (front f t) + length (past f t) ≡ length t
front_past f [] = refl
front_past f (b ∷ t) = go (f b) (front_past f t)
  where
    go : (c : Bool) → length (front f t) + length (past f t) ≡ length t
        → length (when c then b ∷ front f t else []) + length (when c then past f t else b ∷ t) ≡ suc (length t)
    go true h = omega arith
    go false h = omega arith

-- no word goes on at the front
abbrev Stops : Text → Type 0
Stops [] = Unit {0}
Stops (b ∷ t) = T (not (word_byte b))

front_stops : (t : Text) → Stops (drop (length (front word_byte t)) t)
front_stops [] = tt
front_stops (b ∷ t) = go (word_byte b) refl (front_stops t)
  where
    go : (c : Bool) → word_byte b ≡ c → Stops (drop (length (front word_byte t)) t) → Stops (drop (length (when c then b ∷ front word_byte t else [])) (b ∷ t))
    go true e h = h
    go false e h = not_T (word_byte b) (λ t. subst T e t)

-- ---- lexemes

abbrev Fine : ℕ → Text → Lexeme → Type 0
Fine b bs gap = Unit {0}
Fine b bs end = Unit {0}
Fine b bs bad = Unit {0}
Fine b bs (token t n) = T (valid_token t) × (n ≤ length bs) × (token_size t ≤ suc n) × (T (is_word_token t) → T (word_byte b) × Stops (drop n bs))

if_fine : (b : ℕ) (bs : Text) (c : Bool) (l m : Lexeme) → (T c → Fine b bs l) → (T (not c) → Fine b bs m) → Fine b bs (when c then l else m)
if_fine b bs true l m f g = f tt
if_fine b bs false l m f g = g tt

word_fine : (b : ℕ) (bs : Text) → class b ≡ letter → Fine b bs (word (b ∷ front word_byte bs) (length (front word_byte bs)))
word_fine b bs e =
    if_fine b bs (member w keywords) (token (sign w) n) (when leb (length w) 255 then token (ident w) n else bad)
    (λ k. (tt, fits, le_refl (suc n), λ t. (is_word_lem, front_stops bs)))
    (λ k. if_fine b bs (leb (length w) 255) (token (ident w) n) bad
    (λ l. (and_three (is_word w) (leb (length w) 255) (not (member w keywords)) spelled l k, fits, le_refl (suc n), λ t. (is_word_lem, front_stops bs)))
    (λ l. tt))
  where
    w : Text
    w = b ∷ front word_byte bs

    n : ℕ
    n = length (front word_byte bs)

    fits : length (front word_byte bs) ≤ length bs
    fits = omega (arith, front_past word_byte bs)

    is_word_lem : T (word_byte b)
    is_word_lem = subst (λ c. T (in_word c)) (sym e) tt

    spelled : T (is_word (b ∷ front word_byte bs))
    spelled = and (is_letter (class b)) (all word_byte (front word_byte bs)) (subst (λ c. T (is_letter c)) (sym e) tt) (front_all word_byte bs)

quoted_fine : (b : ℕ) (bs rest : Text) → length (front string_byte bs) + length rest ≡ length bs → Fine b bs (quoted_by (front string_byte bs) rest)
quoted_fine b bs [] h = tt
quoted_fine b bs (c ∷ rest) h =
    if_fine b bs (c is "\"") (token (text (front string_byte bs)) (suc (length (front string_byte bs)))) bad
    (λ k. (front_all string_byte bs, omega arith, omega arith, λ t. absurd t)) (λ k. tt)

comment_fine : (b : ℕ) (bs t : Text) → Fine b bs (comment t)
comment_fine b bs [] = tt
comment_fine b bs (c ∷ t) = if_fine b bs (c is "\n") end bad (λ k. tt) (λ k. tt)

pair_fine : (b m : ℕ) (bs : Text) → Fine b bs (pair m bs)
pair_fine b m [] = tt
pair_fine b m (c ∷ cs) =
    if_fine b (c ∷ cs) ((m ∷ c ∷ []) ≟ bytes "->") (token (sign (bytes "->")) 1) _ (λ k. (tt, omega arith, lit≤ tt, λ t. absurd t)) (λ k.
    if_fine b (c ∷ cs) ((m ∷ c ∷ []) ≟ bytes "[]") (token (sign (bytes "[]")) 1) _ (λ k. (tt, omega arith, lit≤ tt, λ t. absurd t)) (λ k.
    if_fine b (c ∷ cs) ((m ∷ c ∷ []) ≟ bytes "//") (comment (past comment_byte cs)) bad (λ k. comment_fine b (c ∷ cs) (past comment_byte cs)) (λ k. tt)))

-- none of the marks that stand alone goes on a word
alone : (m : ℕ) → T (m ∈ bytes "=.,{}()") → T (word_byte m) → ⊥
alone m h t = go (bytes "=.,{}()") tt h
  where
    go : (l : Text) → T (all (λ b. not (word_byte b)) l) → T (m ∈ l) → ⊥
    go [] k h = h
    go (b ∷ l) k h =
        let (k₁, k₂) = both (not (word_byte b)) (all (λ b. not (word_byte b)) l) k in
        elim (one_of_lem (eqb m b) (m ∈ l) h) [
          | inl u ↦ T_not (word_byte b) k₁ (subst (λ y. T (word_byte y)) (eqb→eq m b u) t)
          | inr u ↦ go l k₂ u
        ]

lexeme_fine : (c : Class) (b : ℕ) (bs : Text) → class b ≡ c → Fine b bs (lexeme c b bs)
lexeme_fine letter b bs e = word_fine b bs e
lexeme_fine digit b bs e = tt
lexeme_fine space b bs e = tt
lexeme_fine newline b bs e = tt
lexeme_fine foreign b bs e = tt
lexeme_fine (mark m) b bs e =
    if_fine b bs (m is "\"") (quoted_by (front string_byte bs) (past string_byte bs)) _ (λ k. quoted_fine b bs (past string_byte bs) (front_past string_byte bs)) (λ k.
    if_fine b bs (m ∈ bytes "=.,{}()") (token (sign (m ∷ [])) 0) (pair m bs) (λ h. (tt, zero-le, le_refl 1, λ t. absurd (alone m h t))) (λ h. pair_fine b m bs))

-- ---- lines

pub tokens_valid : (bs : Text) (k : ℕ) → T (all valid_token (tokens bs k))
tokens_valid [] k = tt
tokens_valid (b ∷ bs) (suc k) = tokens_valid bs k
tokens_valid (b ∷ bs) zero = go (lexeme (class b) b bs) (lexeme_fine (class b) b bs refl) (tokens_valid bs)
  where
    go : (l : Lexeme) → Fine b bs l → ((n : ℕ) → T (all valid_token (tokens bs n))) → T (all valid_token (lead l (λ n. tokens bs n)))
    go gap h f = f 0
    go end h f = tt
    go bad h f = tt
    go (token t n) h f = and (valid_token t) (all valid_token (tokens bs n)) h.0 (f n)

no_gap : (a b : Bool) → (T a → T b → ⊥) → gap_size (a && b) ≡ 0
no_gap true true h = absurd (h tt tt)
no_gap true false h = refl
no_gap false b h = refl

-- after a word the room is at most one byte more, and no less
pub room_after : (after : Bool) (ts : List Token) → (room false ts ≤ room after ts) × (room after ts ≤ suc (room false ts))
room_after after [] = (zero-le, zero-le)
room_after false (t ∷ ts) = (le_refl _, omega arith)
room_after true (t ∷ ts) = go (is_word_token t)
  where
    n : ℕ
    n = token_size t + room (is_word_token t) ts

    go : (b : Bool) → (0 + n ≤ gap_size b + n) × (gap_size b + n ≤ suc (0 + n))
    go true = (omega arith, omega arith)
    go false = (omega arith, omega arith)

tokens_room : (bs : Text) (k : ℕ) (after : Bool) → k ≤ length bs → (T after → Stops (drop k bs)) → k + room after (tokens bs k) ≤ length bs
tokens_room [] k after h f = omega arith
tokens_room (b ∷ bs) (suc k) after h f =
    let i : k + room after (tokens bs k) ≤ length bs = tokens_room bs k after (le_of_suc-le-suc h) f in
    omega arith
tokens_room (b ∷ bs) zero after h f = go (lexeme (class b) b bs) (lexeme_fine (class b) b bs refl) (tokens_room bs)
  where
    go : (l : Lexeme) → Fine b bs l
        → ((n : ℕ) (next : Bool) → n ≤ length bs → (T next → Stops (drop n bs)) → n + room next (tokens bs n) ≤ length bs)
        → 0 + room after (lead l (λ n. tokens bs n)) ≤ suc (length bs)
    go gap h i = omega (arith, (room_after after (tokens bs 0)).1, i 0 false zero-le (λ t. absurd t))
    go end h i = omega arith
    go bad h i = omega (arith, no_gap after false (λ a t. t))
    go (token t n) (v, l, s, w) i =
        omega (arith, l, s, no_gap after (is_word_token t) (λ a u. T_not (word_byte b) (f a) (w u).0), i n (is_word_token t) l (λ u. (w u).1))

pub lex_room : (line : Text) → room false (lex line) ≤ length line
lex_room line = omega (arith, tokens_room line 0 false zero-le (λ t. absurd t))

-- Laws of the lexer: what it does at a place of a text.
-- Assumes nothing.
use mathlib.Core.Path.{◌≡◌, refl, ap, ◌∙◌}
use mathlib.Core.List.{List, [], ◌∷◌}
use mathlib.Core.Bool.{Bool, true, false, ◌||◌}
use Prim.Native.Nat.{ℕ, zero, suc, ◌+◌, ◌-◌, ◌≤◌, ◌<◌}
use native.Mathlib.Omega.{arith}
use native.Mathlib.Numerals.{add-one}
use borrow.Author.Tests.{le-leb, lt-leb, eq-eqb, ne_eqb}
use lib.ListN.{length, get_or, drop, drop_of_length-le}
use lib.Seq.{drop-cons, drop-drop}
use Rattle.language.specs.Text.{Text, when◌then◌else◌, bytes, member, front}
use Rattle.language.specs.Bytes.{◌is◌, ◌∈◌, between, class, letter, digit, space, newline, mark, foreign, marks, word_byte, string_byte, comment_byte}
use Rattle.language.specs.Identifiers.{keywords}
use Rattle.language.specs.Tokens.{Token, token, bad, sign, ident, text, wrong, tokens, lex, lead, lexeme, word, quoted_by, comment, pair}
use Rattle.text.proofs.Runs.{take_run, run_part, past_run}
use Rattle.text.specs.Parts.{part}
use Rattle.tokens.specs.Tokens.{Placed}
use Rattle.tokens.specs.declared.token.Token as Read
use Rattle.tokens.specs.declared.token.Token.TheVariants as Variants

pub tokens_skip : (xs : List ℕ) (k : ℕ) → tokens xs k ≡ lex (drop k xs)
tokens_skip [] zero = refl
tokens_skip [] (suc k) = refl
tokens_skip (x ∷ xs) zero = refl
tokens_skip (x ∷ xs) (suc k) = tokens_skip xs k

pub lex_cons : (b : ℕ) (bs : List ℕ) → lex (b ∷ bs) ≡ lead (lexeme (class b) b bs) (tokens bs)
lex_cons b bs = refl

module _ (t : List ℕ) (i : ℕ) (h : i < length t) where
  pub lex_at : lex (drop i t) ≡ lead (lexeme (class (get_or t i 0)) (get_or t i 0) (drop (i + 1) t)) (tokens (drop (i + 1) t))
  lex_at = ap lex (drop-cons t i 0 h) ∙ lex_cons (get_or t i 0) (drop (suc i) t) ∙ rw add-one

  -- past a lexeme of n bytes after its first
  pub lex_past : (e : ℕ) → i < e → tokens (drop (i + 1) t) (e - (i + 1)) ≡ lex (drop e t)
  lex_past e k =
      let q : i + 1 + (e - (i + 1)) ≡ e = omega arith in
      tokens_skip (drop (i + 1) t) (e - (i + 1)) ∙ ap lex (drop-drop (e - (i + 1)) (i + 1) t) ∙ ap (λ (n : ℕ). lex (drop n t)) q

  -- a run of word bytes after the first byte
  module _ (e : ℕ) (at_end : e ≡ i + 1 + length (front word_byte (drop (i + 1) t))) where
    pub word_part : part t i e ≡ get_or t i 0 ∷ front word_byte (drop (i + 1) t)
    word_part =
        let q : e - i ≡ suc (length (front word_byte (drop (i + 1) t))) = omega arith in
        rw (q, drop-cons t i 0 h, ← add-one i) (ap (λ (l : List ℕ). get_or t i 0 ∷ l) (take_run word_byte (drop (i + 1) t)))

    pub word_lex : class (get_or t i 0) ≡ letter → lex (drop i t) ≡ lead (word (part t i e) (e - (i + 1))) (tokens (drop (i + 1) t))
    word_lex l =
        let q : length (front word_byte (drop (i + 1) t)) ≡ e - (i + 1) = omega arith in
        lex_at ∙ rw (l, word_part) (ap (λ (n : ℕ). lead (word (get_or t i 0 ∷ front word_byte (drop (i + 1) t)) n) (tokens (drop (i + 1) t))) q)

    pub word_length : length (part t i e) ≡ e - i
    word_length = ap length word_part ∙ omega arith

    pub word_sign : class (get_or t i 0) ≡ letter → member (part t i e) keywords ≡ true → lex (drop i t) ≡ sign (part t i e) ∷ lex (drop e t)
    word_sign l k = word_lex l ∙ rw k (ap (λ (r : List Token). sign (part t i e) ∷ r) (lex_past e (omega arith)))

    pub word_name : class (get_or t i 0) ≡ letter → member (part t i e) keywords ≡ false → e - i ≤ 255 → lex (drop i t) ≡ ident (part t i e) ∷ lex (drop e t)
    word_name l k s = word_lex l ∙ rw (k, le-leb (length (part t i e)) 255 (omega (arith, word_length))) (ap (λ (r : List Token). ident (part t i e) ∷ r) (lex_past e (omega arith)))

    pub word_long : class (get_or t i 0) ≡ letter → member (part t i e) keywords ≡ false → 255 < e - i → lex (drop i t) ≡ wrong ∷ []
    word_long l k s = word_lex l ∙ rw (k, lt-leb (length (part t i e)) 255 (omega (arith, word_length)))

  -- ---- strings
  module _ (e : ℕ) (at_end : e ≡ i + 1 + length (front string_byte (drop (i + 1) t))) (l : class (get_or t i 0) ≡ mark 34) where
    quoted_lex : lex (drop i t) ≡ lead (quoted_by (part t (i + 1) e) (drop e t)) (tokens (drop (i + 1) t))
    quoted_lex = lex_at ∙ rw (l, run_part string_byte t (i + 1) e at_end, ← past_run string_byte t (i + 1) e at_end)

    pub quoted_open : length t ≤ e → lex (drop i t) ≡ wrong ∷ []
    quoted_open k = quoted_lex ∙ rw (drop_of_length-le t {i = e} k)

    pub quoted_bad : e < length t → (get_or t e 0 ≡ 34 → ⊥) → lex (drop i t) ≡ wrong ∷ []
    quoted_bad k n = quoted_lex ∙ rw (drop-cons t e 0 k, ne_eqb (get_or t e 0) 34 n)

    pub quoted_text : e < length t → get_or t e 0 ≡ 34 → lex (drop i t) ≡ text (part t (i + 1) e) ∷ lex (drop (e + 1) t)
    quoted_text k n =
        let q : suc (length (part t (i + 1) e)) ≡ e + 1 - (i + 1) = omega (arith, ap length (run_part string_byte t (i + 1) e at_end)) in
        quoted_lex
        ∙ rw (drop-cons t e 0 k, eq-eqb (get_or t e 0) 34 n, q) (ap (λ (r : List Token). text (part t (i + 1) e) ∷ r) (lex_past (e + 1) (omega arith)))

  -- ---- marks of one byte, and of two
  module _ (m : ℕ) (l : class (get_or t i 0) ≡ mark m) where
    pub one_mark : (m is "\"") ≡ false → (m ∈ bytes "=.,{}()") ≡ true → m ≡ get_or t i 0 → lex (drop i t) ≡ sign (part t i (i + 1)) ∷ lex (drop (i + 1) t)
    one_mark q o r =
        let one : i + 1 - i ≡ 1 = omega arith in
        lex_at ∙ rw (l, q, o, one, drop-cons t i 0 h, r)

    pub two_marks : (m is "\"") ≡ false → (m ∈ bytes "=.,{}()") ≡ false → lex (drop i t) ≡ lead (pair m (drop (i + 1) t)) (tokens (drop (i + 1) t))
    two_marks q o = lex_at ∙ rw (l, q, o)

  -- a comment, whose slashes stand at i and after it
  module _
      (k : i + 1 < length t)
      (e : ℕ)
      (at_end : e ≡ i + 2 + length (front comment_byte (drop (i + 2) t)))
      (l : class (get_or t i 0) ≡ mark 47)
      (n : get_or t (i + 1) 0 ≡ 47) where
    comment_lex : lex (drop i t) ≡ lead (comment (drop e t)) (tokens (drop (i + 1) t))
    comment_lex =
        let two : suc (i + 1) ≡ i + 2 = omega arith in
        two_marks 47 l refl refl ∙ rw (drop-cons t (i + 1) 0 k, n, two, past_run comment_byte t (i + 2) e at_end)

    pub comment_last : length t ≤ e → lex (drop i t) ≡ []
    comment_last z = comment_lex ∙ rw (drop_of_length-le t {i = e} z)

    pub comment_line : e < length t → get_or t e 0 ≡ 10 → lex (drop i t) ≡ []
    comment_line z q = comment_lex ∙ rw (drop-cons t e 0 z, eq-eqb (get_or t e 0) 10 q)

    pub comment_bad : e < length t → (get_or t e 0 ≡ 10 → ⊥) → lex (drop i t) ≡ wrong ∷ []
    comment_bad z q = comment_lex ∙ rw (drop-cons t e 0 z, ne_eqb (get_or t e 0) 10 q)

  module _
      (m n : ℕ)
      (k : i + 1 < length t)
      (l : class (get_or t i 0) ≡ mark m)
      (r : get_or t (i + 1) 0 ≡ n)
      (two : lex (drop i t) ≡ lead (pair m (drop (i + 1) t)) (tokens (drop (i + 1) t))) where
    pair_lex : lex (drop i t) ≡ lead (pair m (n ∷ drop (i + 2) t)) (tokens (drop (i + 1) t))
    pair_lex =
        let q : suc (i + 1) ≡ i + 2 = omega arith in
        let d : drop (i + 1) t ≡ n ∷ drop (i + 2) t = rw (drop-cons t (i + 1) 0 k, r, q) in
        two ∙ ap (λ (xs : List ℕ). lead (pair m xs) (tokens (drop (i + 1) t))) d

    pub pair_bad : pair m (n ∷ drop (i + 2) t) ≡ bad → lex (drop i t) ≡ wrong ∷ []
    pair_bad q = pair_lex ∙ rw q

    pub pair_sign : m ≡ get_or t i 0 → pair m (n ∷ drop (i + 2) t) ≡ token (sign (m ∷ n ∷ [])) 1 → lex (drop i t) ≡ sign (part t i (i + 2)) ∷ lex (drop (i + 2) t)
    pair_sign s q =
        let two_bytes : i + 2 - i ≡ 2 = omega arith in
        let one : 1 ≡ i + 2 - (i + 1) = omega arith in
        let q2 : suc (i + 1) ≡ i + 2 = omega arith in
        let after : drop (suc i) t ≡ n ∷ drop (i + 2) t =
        rw (← add-one i, drop-cons t (i + 1) 0 k, r) (ap (λ (j : ℕ). n ∷ drop j t) q2) in
        let both : part t i (i + 2) ≡ m ∷ n ∷ [] = rw (two_bytes, drop-cons t i 0 h, after, s) in
        pair_lex
        ∙ rw (q, both) (ap (λ (rest : List Token). sign (m ∷ n ∷ []) ∷ rest) (ap (tokens (drop (i + 1) t)) one ∙ lex_past (i + 2) (omega arith)))

-- the byte of a mark's class is the mark
pub class_mark : (b m : ℕ) → class b ≡ mark m → m ≡ b
class_mark b m q = go (between "a" "z" b || between "A" "Z" b) (between "0" "9" b) (b is " ") (b is "\n") (b ∈ marks) q
  where
    go : (l d s n k : Bool) → (when l then letter else when d then digit else when s then space else when n then newline else when k then mark b else foreign) ≡ mark m → m ≡ b
    go true d s n k e = cc
    go false true s n k e = cc
    go false false true n k e = cc
    go false false false true k e = cc
    go false false false false true e = cc
    go false false false false false e = cc

-- what is placed from a later place on is placed from an earlier one
pub placed_from : (t : Text) (at i : ℕ) (r : Read.Token) (n : ℕ) → at ≤ i → Placed t i r n → Placed t at r n
placed_from t at i Variants.End n h p = tt
placed_from t at i (Variants.Sign s) n h p = omega arith
placed_from t at i (Variants.Name s) n h p = omega arith
placed_from t at i (Variants.Quoted s) n h p = omega arith
placed_from t at i Variants.Wrong n h p = tt

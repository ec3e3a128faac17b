-- Lines written are read back: the parts of a text, of a line, and of lines in a row.
use mathlib.Core.Path.{◌≡◌, refl, sym, ap, ◌∙◌}
use Prim.Native.Nat.{ℕ}
use mathlib.Core.Bool.{Bool, true, false, ◌&&◌, not}
use mathlib.Core.Option.{some}
use mathlib.Core.List.{List, [], ◌∷◌, ◌++◌, append_assoc}
use lib.Dec.{T, eqb, eqb_refl}
use Rattle.language.specs.Text.{Text, parts, to_first, when◌then◌else◌, ◌>>=◌, all, joined}
use Rattle.language.specs.Encode.{tab, newline, line_of}
use Rattle.language.specs.Decode.{Below, read_line, read_lines}
use Rattle.language.proofs.Logic.Tests.{both, all_map, all_append}

-- no byte of the text is the mark
abbrev pub Free : ℕ → Text → Type 0
Free mark t = T (all (λ b. not (eqb b mark)) t)

pub parts_free : (mark : ℕ) (t : Text) → Free mark t → parts mark t ≡ t ∷ []
parts_free mark [] h = refl
parts_free mark (b ∷ t) h =
    let (h₁, h₂) = both (not (eqb b mark)) (all (λ b. not (eqb b mark)) t) h in
    go (eqb b mark) h₁ (parts_free mark t h₂)
  where
    go : (c : Bool) → T (not c) → parts mark t ≡ t ∷ []
        → (when c then [] ∷ parts mark t else to_first b (parts mark t)) ≡ (b ∷ t) ∷ []
    go true k e = absurd k
    go false k e = ap (to_first b) e

parts_join : (mark : ℕ) (t rest : Text) → Free mark t → parts mark (t ++ mark ∷ rest) ≡ t ∷ parts mark rest
parts_join mark [] rest h = go (eqb mark mark) (eqb_refl mark)
  where
    go : (c : Bool) → T c → (when c then [] ∷ parts mark rest else to_first mark (parts mark rest)) ≡ [] ∷ parts mark rest
    go true k = refl
    go false k = absurd k
parts_join mark (b ∷ t) rest h =
    let (h₁, h₂) = both (not (eqb b mark)) (all (λ b. not (eqb b mark)) t) h in
    go (eqb b mark) h₁ (parts_join mark t rest h₂)
  where
    go : (c : Bool) → T (not c) → parts mark (t ++ mark ∷ rest) ≡ t ∷ parts mark rest
        → (when c then [] ∷ parts mark (t ++ mark ∷ rest) else to_first b (parts mark (t ++ mark ∷ rest))) ≡ (b ∷ t) ∷ parts mark rest
    go true k e = absurd k
    go false k e = ap (to_first b) e

-- ---- one line

-- neither a tab nor a newline
abbrev pub is_clean : Text → Bool
is_clean t = all (λ b. not (eqb b tab) && not (eqb b newline)) t

clean_tab : (t : Text) → T (is_clean t) → Free tab t
clean_tab = all_map _ _ (λ b h. (both (not (eqb b tab)) (not (eqb b newline)) h).0)

clean_newline : (t : Text) → T (is_clean t) → Free newline t
clean_newline = all_map _ _ (λ b h. (both (not (eqb b tab)) (not (eqb b newline)) h).1)

-- a line without its end
abbrev row : Text → List Text → Text
row t [] = t
row t (u ∷ rest) = t ++ tab ∷ row u rest

line_row : (t : Text) (fs : List Text) (rest : Text) → line_of (t ∷ fs) ++ rest ≡ row t fs ++ newline ∷ rest
line_row t [] rest = append_assoc t (newline ∷ []) rest
line_row t (u ∷ fs) rest =
    append_assoc t (tab ∷ line_of (u ∷ fs)) rest
    ∙ ap (λ y. t ++ tab ∷ y) (line_row u fs rest)
    ∙ sym (append_assoc t (tab ∷ row u fs) (newline ∷ rest))

row_free : (t : Text) (fs : List Text) → T (all is_clean (t ∷ fs)) → Free newline (row t fs)
row_free t [] h = clean_newline t (both (is_clean t) true h).0
row_free t (u ∷ fs) h =
    let (h₁, h₂) = both (is_clean t) (all is_clean (u ∷ fs)) h in
    all_append (λ b. not (eqb b newline)) t (tab ∷ row u fs) (clean_newline t h₁) (row_free u fs h₂)

row_parts : (t : Text) (fs : List Text) → T (all is_clean (t ∷ fs)) → parts tab (row t fs) ≡ t ∷ fs
row_parts t [] h = parts_free tab t (clean_tab t (both (is_clean t) true h).0)
row_parts t (u ∷ fs) h =
    let (h₁, h₂) = both (is_clean t) (all is_clean (u ∷ fs)) h in
    parts_join tab t (row u fs) (clean_tab t h₁) ∙ ap (λ y. t ∷ y) (row_parts u fs h₂)

-- ---- lines

abbrev pub Reads : Text → Below → Type 0
Reads t b = read_lines (parts newline t) ≡ some b

parts_shape : (mark : ℕ) (t : Text) → (u : Text) × (us : List Text) × (parts mark t ≡ u ∷ us)
parts_shape mark [] = ([], [], refl)
parts_shape mark (b ∷ t) = go (eqb b mark) (parts_shape mark t)
  where
    go : (c : Bool) → ((u : Text) × (us : List Text) × (parts mark t ≡ u ∷ us))
        → (u : Text) × (us : List Text) × ((when c then [] ∷ parts mark t else to_first b (parts mark t)) ≡ u ∷ us)
    go true s = ([], parts mark t, refl)
    go false (u, us, e) = (b ∷ u, us, ap (to_first b) e)

pub reads_line : (t : Text) (fs : List Text) (rest : Text) {b c : Below} → T (all is_clean (t ∷ fs))
    → Reads rest b → read_line (t ∷ fs) b ≡ some c → Reads (line_of (t ∷ fs) ++ rest) c
reads_line t fs rest {b} {c} h r e =
    ap (λ y. read_lines (parts newline y)) (line_row t fs rest)
    ∙ ap read_lines (parts_join newline (row t fs) rest (row_free t fs h))
    ∙ go (parts newline rest) (parts_shape newline rest) r
  where
    go : (l : List Text) → ((u : Text) × (us : List Text) × (l ≡ u ∷ us)) → read_lines l ≡ some b → read_lines (row t fs ∷ l) ≡ some c
    go l (u, us, k) r =
        ap (λ y. read_lines (row t fs ∷ y)) k
        ∙ ap (λ y. y >>= read_line (parts tab (row t fs))) (ap read_lines (sym k) ∙ r)
        ∙ ap (λ y. read_line y b) (row_parts t fs h)
        ∙ e

-- a list of records, each of which may be several lines
pub reads_joined : {A : Type 0} (text : A → Text) (fine : A → Bool) (made : List A → Below)
    → ((a : A) (l : List A) (rest : Text) → T (fine a) → Reads rest (made l) → Reads (text a ++ rest) (made (a ∷ l)))
    → (l : List A) (rest : Text) → T (all fine l) → Reads rest (made []) → Reads (joined text l ++ rest) (made l)
reads_joined text fine made one [] rest h r = r
reads_joined text fine made one (a ∷ l) rest h r =
    let (h₁, h₂) = both (fine a) (all fine l) h in
    ap (λ y. read_lines (parts newline y)) (append_assoc (text a) (joined text l) rest)
    ∙ one a l (joined text l ++ rest) h₁ (reads_joined text fine made one l rest h₂ r)

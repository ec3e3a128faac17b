-- A completed program counts for its sender: of the principals' text only the digits of one count change.
-- Assumes nothing.
use mathlib.Core.Path.{◌≡◌, refl, sym, ap, subst, ◌∙◌}
use Prim.Native.Nat.{ℕ, suc, ◌+◌, ◌-◌, ◌≤◌, ◌<◌}
use native.Mathlib.Omega.{arith}
use mathlib.Core.Bool.{Bool, true, false, ◌||◌, not}
use mathlib.Core.Option.{Option, none, some}
use mathlib.Core.List.{List, [], ◌∷◌, ◌++◌, map, append_assoc}
use lib.Dec.{T, T_not}
use lib.ListN.{length, take, drop, length-append, length-drop}
use lib.Seq.{take_at, drop_at, take_all}
use Rattle.language.specs.Text.{Text, when◌then◌else◌, ◌≟◌, all, member, distinct, joined, decimal}
use Rattle.language.specs.Syntax.{Name}
use Rattle.language.specs.State.{Principal, Store, last_count}
use Rattle.language.specs.Encode.{tab, newline, principal_line, principal_text, principals_text}
use Rattle.language.specs.Run.{counted, counts, tally}
use Rattle.language.specs.Valid.{valid_principal}
use Rattle.language.proofs.Logic.Tests.{both, right_of, ==→≡, ==_sym}
use Rattle.language.proofs.StateText.Shape.{Shape}
use Rattle.store.specs.Held.{Principals}
use Rattle.store.specs.Rows.{position, row_text, start_of, principal_row}
use Rattle.store.specs.Contents.{principal_at}
use Rattle.store.proofs.Records.{joined_append}
use Rattle.store.proofs.Holders.{principal_text_lem}
use Rattle.named_rights.proofs.Few.{store_shape}
use Rattle.counts.specs.Counted.{SomeCounted, Counted}
use Rattle.counts.specs.declared.Count.{Count}
use Rattle.session.specs.declared.Layout.{Layout}
use Rattle.saving.specs.Stores.{Sent}
use Rattle.saving.proofs.Meant.{principal_below}

abbrev names : List Principal → List Name
names ks = map (λ k. k.name) ks

-- ---- who is counted

abbrev raised : Principal → Principal
raised k = record { name = k.name; password = k.password; count = counted k.count }

untouched : (p : Name) (ks : List Principal) → ¬ T (member p (names ks)) → map (counts p) ks ≡ ks
untouched p [] h = refl
untouched p (k ∷ ks) h =
    let n : ¬ T (member p (names ks)) = λ m. h (right_of (p ≟ k.name) (member p (names ks)) m) in
    let e : counts p k ≡ k = go (k.name ≟ p) (λ m. h (here (p ≟ k.name) (==_sym k.name p m))) in
    (λ i. e i ∷ untouched p ks n i)
  where
    here : (b : Bool) → T b → T (b || member p (names ks))
    here true t = tt
    here false t = absurd t

    go : (b : Bool) → ¬ T b → record { name = k.name; password = k.password; count = when b then counted k.count else k.count } ≡ k
    go true f = absurd (f tt)
    go false f = refl

-- the principals before the one of a name, that one, and those after it
record Parted (p : Name) (ks : List Principal) : Type 0 where
  front : List Principal
  mine : Principal
  back : List Principal
  are : ks ≡ front ++ (mine ∷ back)
  one_raised : map (counts p) ks ≡ front ++ (raised mine ∷ back)
  number : position (names ks) p ≡ length front

parted : (p : Name) (ks : List Principal) → T (member p (names ks)) → T (distinct (names ks)) → Parted p ks
parted p [] m d = absurd m
parted p (k ∷ ks) m d =
    let (x, y) = both (not (member k.name (names ks))) (distinct (names ks)) d in
    go (k.name ≟ p) refl (==→≡ k.name p) (T_not (member k.name (names ks)) x) (λ n. parted p ks n y)
  where
    go : (b : Bool) → (k.name ≟ p) ≡ b → (T b → k.name ≡ p) → ¬ T (member k.name (names ks)) → (T (member p (names ks)) → Parted p ks) → Parted p (k ∷ ks)
    go true e f n r =
        let u : map (counts p) ks ≡ ks = untouched p ks (subst (λ (q : Name). ¬ T (member q (names ks))) (f tt) n) in
        record {
          front = [];
          mine = k;
          back = ks;
          are = refl;
          one_raised = λ i. record { name = k.name; password = k.password; count = when e i then counted k.count else k.count } ∷ u i;
          number = ap (λ (b : Bool). when b then 0 else suc (position (names ks) p)) e;
        }
    go false e f n r =
        let R = r (there (p ≟ k.name) (λ t. subst T e (==_sym p k.name t)) m) in
        record {
          front = k ∷ R.front;
          mine = R.mine;
          back = R.back;
          are = ap (λ (l : List Principal). k ∷ l) R.are;
          one_raised = λ i. record { name = k.name; password = k.password; count = when e i then counted k.count else k.count } ∷ R.one_raised i;
          number = ap (λ (b : Bool). when b then 0 else suc (position (names ks) p)) e ∙ ap suc R.number;
        }
      where
        there : (b : Bool) → ¬ T b → T (b || member p (names ks)) → T (member p (names ks))
        there true f t = absurd (f tt)
        there false f t = t

-- ---- the line of one principal

-- all of a line before the count
abbrev before : Name → Option Text → Text
before p none = 78 ∷ tab ∷ (p ++ tab ∷ [])
before p (some t) = 80 ∷ tab ∷ (p ++ tab ∷ (t ++ tab ∷ []))

line_parts : (p : Name) (o : Option Text) (n : ℕ) (rest : Text) → principal_line p o n ++ rest ≡ before p o ++ (decimal n ++ newline ∷ rest)
line_parts p none n rest = simp append_assoc
line_parts p (some t) n rest = simp append_assoc

-- the text up to a principal's count, the count, and the rest
cut : (ks : List Principal) (x : Principal) (ls : List Principal)
    → principals_text (ks ++ (x ∷ ls)) ≡ (principals_text ks ++ before x.name x.password) ++ (decimal x.count ++ newline ∷ principals_text ls)
cut ks x ls =
    joined_append principal_text ks (x ∷ ls) ∙ ap (λ (t : Text). principals_text ks ++ t) (line_parts x.name x.password x.count (principals_text ls))
    ∙ sym (append_assoc (principals_text ks) (before x.name x.password) (decimal x.count ++ newline ∷ principals_text ls))

line_length_lem : (x : Principal) → length (principal_text x) ≡ length (before x.name x.password) + length (decimal x.count) + 1
line_length_lem x = go x.name x.password x.count
  where
    go : (p : Name) (o : Option Text) (n : ℕ) → length (principal_line p o n) ≡ length (before p o) + length (decimal n) + 1
    go p none n = omega (arith, length-append p (tab ∷ (decimal n ++ newline ∷ [])), length-append (decimal n) (newline ∷ []), length-append p (tab ∷ []))
    go p (some t) n =
        omega (
          arith,
          length-append p (tab ∷ (t ++ tab ∷ (decimal n ++ newline ∷ []))),
          length-append t (tab ∷ (decimal n ++ newline ∷ [])),
          length-append (decimal n) (newline ∷ []),
          length-append p (tab ∷ (t ++ tab ∷ [])),
          length-append t (tab ∷ []),
        )

-- ---- where its line ends, and who it is

line_ends : (ks : List Principal) (x : Principal) (ls : List Principal)
    → start_of (map principal_row (ks ++ (x ∷ ls))) (suc (length ks)) ≡ length (principals_text ks) + length (principal_text x)
line_ends [] x ls = omega (arith, length-append (row_text (principal_row x)) [], ap length (principal_text_lem x))
line_ends (k ∷ ks) x ls =
    omega (
      arith,
      length-append (row_text (principal_row k)) (joined row_text (take (suc (length ks)) (map principal_row (ks ++ (x ∷ ls))))),
      length-append (principal_text k) (principals_text ks),
      ap length (principal_text_lem k),
      line_ends ks x ls,
    )

is_there : (ks : List Principal) (x : Principal) (ls : List Principal) → principal_at (ks ++ (x ∷ ls)) (length ks) ≡ x
is_there [] x ls = refl
is_there (k ∷ ks) x ls = is_there ks x ls

-- ---- the whole text

raised_text : (ks : List Principal) (t : Text) (count : ℕ) (slots : List ℕ) → Principals ks t count slots → (p : Name) → T (member p (names ks)) → T (distinct (names ks))
    → (k : ℕ) → k ≡ position (names ks) p → (r : Count) → Counted ks t k r → (n : ℕ) → n ≡ counted r.value
    → take r.start t ++ (decimal n ++ drop r.end t) ≡ principals_text (map (counts p) ks)
raised_text ks t count slots K p known once k e r C n m =
    let P = parted p ks known once in
    let f : Text = before P.mine.name P.mine.password in
    let a : Text = principals_text P.front ++ f in
    let d : Text = decimal P.mine.count in
    let b : Text = newline ∷ principals_text P.back in
    let i : k ≡ length P.front = e ∙ P.number in
    let w : r.value ≡ P.mine.count = C.is_count ∙ (λ j. (principal_at (P.are j) (i j)).count) ∙ ap (λ (x : Principal). x.count) (is_there P.front P.mine P.back) in
    let l : length (decimal r.value) ≡ length d = ap (λ (v : ℕ). length (decimal v)) w in
    let s : start_of (map principal_row ks) (suc k) ≡ length (principals_text P.front) + length (principal_text P.mine) =
    (λ j. start_of (map principal_row (P.are j)) (suc (i j))) ∙ line_ends P.front P.mine P.back in
    let x : length a ≡ r.start = omega (arith, length-append (principals_text P.front) f, line_length_lem P.mine, s, l, C.size, C.ends) in
    let y : length (a ++ d) ≡ r.end = omega (arith, length-append a d, x, l, C.size) in
    let whole : t ≡ a ++ (d ++ b) = K.is_text_lem ∙ ap principals_text P.are ∙ cut P.front P.mine P.back in
    let first : take r.start t ≡ a = ap (take r.start) whole ∙ take_at a (d ++ b) r.start x in
    let last : drop r.end t ≡ b = ap (drop r.end) (whole ∙ sym (append_assoc a d b)) ∙ drop_at (a ++ d) b r.end y in
    (λ j. first j ++ (decimal ((m ∙ ap counted w) j) ++ last j))
    ∙ sym (cut P.front (raised P.mine) P.back) ∙ ap principals_text (sym P.one_raised)

module _ (s : Store) (p : Name) (l : Layout) (t : Text) (slots : List ℕ) (S : Sent s p l t slots) where
  formed : Shape s
  formed = store_shape s S.is_valid

  pub some_counted : SomeCounted t l.principals slots
  some_counted = record { principals = s.principals; held = S.principals; valid = formed.principals_valid }

  pub sender_below : l.sender < l.principals
  sender_below = principal_below s.principals t l.principals slots S.principals p S.sender_known l.sender S.sender

  -- what is read as the sender's count
  module _ (r : Count) (C : (ks : List Principal) → Principals ks t l.principals slots → T (all valid_principal ks) → Counted ks t l.sender r) where
    here : Counted s.principals t l.sender r
    here = C s.principals S.principals formed.principals_valid

    pub count_fits : r.value ≤ last_count
    count_fits = here.bound

    pub start_inside : r.start ≤ length t
    start_inside = omega (arith, here.size, here.within)

    pub end_inside : r.end ≤ length t
    end_inside = omega (arith, here.within)

    rest_is : take (length t - r.end) (drop r.end t) ≡ drop r.end t
    rest_is = take_all (length t - r.end) (drop r.end t) (omega (arith, length-drop r.end t, end_inside))

    -- the text up to the count, the raised count, and the text behind it
    pub tallied_text : (n : ℕ) → n ≡ counted r.value → take r.start t ++ (decimal n ++ take (length t - r.end) (drop r.end t)) ≡ principals_text (tally p s).principals
    tallied_text n m =
        ap (λ (u : Text). take r.start t ++ (decimal n ++ u)) rest_is
        ∙ raised_text s.principals t l.principals slots S.principals p S.sender_known formed.principals_distinct l.sender S.sender r here n m

    pub tallied_size : (n : ℕ) → n ≡ counted r.value
        → length (take r.start t) + length (decimal n) + length (take (length t - r.end) (drop r.end t)) ≡ length (principals_text (tally p s).principals)
    tallied_size n m =
        let u : Text = take (length t - r.end) (drop r.end t) in
        omega (arith, ap length (tallied_text n m), length-append (take r.start t) (decimal n ++ u), length-append (decimal n) u)

-- Filing: the assertions of a list are entered on a board one after the other, each before the others from the same principal.
use mathlib.Core.Path.{◌≡◌, refl, sym, ap, subst, ◌∙◌}
use mathlib.Core.List.Memᴰ
use mathlib.Core.List.{List, [], ◌∷◌}
use mathlib.Core.Logic.{◌⊎◌, inl, inr, ⊎_elim}
use Prim.Native.Nat.{ℕ, ◌+◌, ◌*◌, ◌≤◌, ◌<◌}
use native.Mathlib.Decide.{ℕ_discrete, dec_le}
use native.Mathlib.Omega.{arith}
use lib.ListN.{length, get_or, set, take, length-set}
use lib.Seq.{get_or-set_same, get_or-set_other, take-set-le}
use borrow.Author.Tests.{eq-eqb, ne_eqb}
use Rattle.assertion.specs.Packed.{Assertion}
use Rattle.search_steps.specs.Steps.{◌∈◌}
use Rattle.board.specs.Board.{at, board_size, Bucket, Ends, entered, Filed, first_from, following, last_from, Linked, next_round, nothing}
use Rattle.board.proofs.Linking.{linked_same, bucket_same, ends_in, bucket_last}

-- ---- the cells that an entry changes

-- the board b' is b with assertion k entered for q
record Entry (n q k : ℕ) (b b' : List ℕ) : Type 0 where
  sized : length b' ≡ length b
  marks : take n b' ≡ take n b
  round : next_round n b' ≡ next_round n b
  first : first_from n b' q ≡ k
  link : following n b' k ≡ first_from n b q
  older : (j : ℕ) → j < k → following n b' j ≡ following n b j
  alone : first_from n b q ≡ nothing → last_from n b' q ≡ k
  kept : (first_from n b q ≡ nothing → ⊥) → last_from n b' q ≡ last_from n b q
  others : (p : ℕ) → p < n → (p ≡ q → ⊥) → (first_from n b' p ≡ first_from n b p) × (last_from n b' p ≡ last_from n b p)

module _ (n q k : ℕ) (b : List ℕ) (q_in : q < n) (room : board_size n k < length b) where
  abbrev one : List ℕ
  one = set b (n + q) k

  -- before the last one is noted
  abbrev two : List ℕ
  two = set one (3 * n + 1 + k) (first_from n b q)

  abbrev three : List ℕ
  three = set two (2 * n + q) k

  pub length_two : length two ≡ length b
  length_two = length-set one (3 * n + 1 + k) (first_from n b q) ∙ length-set b (n + q) k

  two_other : (x : ℕ) → (x ≡ n + q → ⊥) → (x ≡ 3 * n + 1 + k → ⊥) → get_or two x 0 ≡ get_or b x 0
  two_other x f g = get_or-set_other one (3 * n + 1 + k) x (first_from n b q) 0 g ∙ get_or-set_other b (n + q) x k 0 f

  three_two : (x : ℕ) → (x ≡ 2 * n + q → ⊥) → get_or three x 0 ≡ get_or two x 0
  three_two x f = get_or-set_other two (2 * n + q) x k 0 f

  marks_two : take n two ≡ take n b
  marks_two = take-set-le n one (3 * n + 1 + k) (first_from n b q) (omega arith) ∙ take-set-le n b (n + q) k (omega arith)

  first_two : first_from n two q ≡ k
  first_two = get_or-set_other one (3 * n + 1 + k) (n + q) (first_from n b q) 0 (λ e. omega arith) ∙ get_or-set_same b (n + q) k 0 (omega arith)

  link_two : following n two k ≡ first_from n b q
  link_two = get_or-set_same one (3 * n + 1 + k) (first_from n b q) 0 (omega (arith, length-set b (n + q) k))

  some_entry : (first_from n b q ≡ nothing → ⊥) → Entry n q k b two
  some_entry some = record {
    sized = length_two;
    marks = marks_two;
    round = two_other (3 * n) (λ e. omega arith) (λ e. omega arith);
    first = first_two;
    link = link_two;
    older = λ j h. two_other (3 * n + 1 + j) (λ e. omega arith) (λ e. omega arith);
    alone = λ e. absurd (some e);
    kept = λ _. two_other (2 * n + q) (λ e. omega arith) (λ e. omega arith);
    others = λ p p_in ne. (two_other (n + p) (λ e. ne (omega arith)) (λ e. omega arith), two_other (2 * n + p) (λ e. omega arith) (λ e. omega arith));
  }

  none_entry : first_from n b q ≡ nothing → Entry n q k b three
  none_entry none = record {
    sized = length-set two (2 * n + q) k ∙ length_two;
    marks = take-set-le n two (2 * n + q) k (omega arith) ∙ marks_two;
    round = three_two (3 * n) (λ e. omega arith) ∙ two_other (3 * n) (λ e. omega arith) (λ e. omega arith);
    first = three_two (n + q) (λ e. omega arith) ∙ first_two;
    link = three_two (3 * n + 1 + k) (λ e. omega arith) ∙ link_two;
    older = λ j h. three_two (3 * n + 1 + j) (λ e. omega arith) ∙ two_other (3 * n + 1 + j) (λ e. omega arith) (λ e. omega arith);
    alone = λ _. get_or-set_same two (2 * n + q) k 0 (omega (arith, length_two));
    kept = λ some. absurd (some none);
    others = λ p p_in ne. (
      three_two (n + p) (λ e. omega arith) ∙ two_other (n + p) (λ e. ne (omega arith)) (λ e. omega arith),
      three_two (2 * n + p) (λ e. ne (omega arith)) ∙ two_other (2 * n + p) (λ e. omega arith) (λ e. omega arith),
    );
  }

  pub enter_some : (first_from n b q ≡ nothing → ⊥) → two ≡ entered n q k b
  enter_some some = simp (ne_eqb (first_from n b q) nothing some)

  pub enter_none : first_from n b q ≡ nothing → three ≡ entered n q k b
  enter_none none = simp (eq-eqb (first_from n b q) nothing none)

  entry : Entry n q k b (entered n q k b)
  entry =
      elim (ℕ_discrete (first_from n b q) nothing) [
        | yes e ↦ subst (λ (x : List ℕ). Entry n q k b x) (enter_none e) (none_entry e)
        | no ne ↦ subst (λ (x : List ℕ). Entry n q k b x) (enter_some ne) (some_entry ne)
      ]

-- ---- what an entry makes of the buckets

module _ (n : ℕ) (ys : List Assertion) (k : ℕ) (b b' : List ℕ) where
  -- of another principal: as it was
  bucket_kept : (q : ℕ) → ((at ys k).from ≡ q → ⊥) → ((j : ℕ) → j < k → following n b' j ≡ following n b j)
      → first_from n b' q ≡ first_from n b q → last_from n b' q ≡ last_from n b q → Bucket n ys k b q → Bucket n ys (k + 1) b' q
  bucket_kept q other older first last B =
      let same = bucket_same n ys k b b' q B first last (λ j m. older j (B.those j m).0) in record {
        places = same.places;
        linked = same.linked;
        ends = same.ends;
        those = λ j m. (omega (arith, (same.those j m).0), (same.those j m).1);
        all = λ j h e. same.all j (older_than j h e) e;
      }
    where
      older_than : (j : ℕ) → j < k + 1 → (at ys j).from ≡ q → j < k
      older_than j h e =
          elim (ℕ_discrete j k) [
            | yes same ↦ absurd (other (sym (ap (λ (i : ℕ). (at ys i).from) same) ∙ e))
            | no ne ↦ omega arith
          ]

  -- of its own principal: one more
  bucket_new : (q : ℕ) → k ≤ 2048 → (at ys k).from ≡ q → Entry n q k b b' → Bucket n ys k b q → Bucket n ys (k + 1) b' q
  bucket_new q few own E B = record {
    places = k ∷ B.places;
    linked = (
      E.first,
      linked_same (following n b) (following n b') (following n b' k) B.places
          (subst (λ (x : ℕ). Linked (following n b) x B.places) (sym E.link) B.linked) (λ j m. E.older j (B.those j m).0),
    );
    ends = inr (ended B.places B.linked B.ends (λ j m. (B.those j m).0));
    those = λ j m. ⊎_elim (λ e. (omega arith, ap (λ (i : ℕ). (at ys i).from) e ∙ own)) (λ i. (omega (arith, (B.those j i).0), (B.those j i).1)) (Memᴰ.cases_cons m);
    all = λ j h e.
        elim (ℕ_discrete j k) [
          | yes same ↦ Memᴰ.head same
          | no ne ↦ Memᴰ.tail (B.all j (omega arith) e)
        ];
  }
    where
      ended : (ks : List ℕ) → Linked (following n b) (first_from n b q) ks → (ks ≡ []) ⊎ Ends ks (last_from n b q) → ((j : ℕ) → j ∈ ks → j < k) → Ends (k ∷ ks) (last_from n b' q)
      ended [] h _ _ = inl (refl, sym (E.alone h))
      ended (j ∷ ks) h o lt =
          let some : first_from n b q ≡ nothing → ⊥ = λ e. omega (arith, h.0, lt j (Memᴰ.head refl)) in
          let z : Ends (j ∷ ks) (last_from n b q) = ⊎_elim (λ e. absurd (let x : ◌≡◌ {A = ℕ} 0 1 = cc in omega arith)) (λ x. x) o in
          let kept = E.kept some in
          inr (omega (arith, lt (last_from n b q) (ends_in (j ∷ ks) (last_from n b q) z)), subst (λ (x : ℕ). Ends (j ∷ ks) x) (sym kept) z)

-- ---- the board on the way

-- one assertion more, which is from q
pub filed_next : (n : ℕ) (ys : List Assertion) (k q : ℕ) (b b' : List ℕ) → length ys ≤ 2048 → k < length ys → (at ys k).from ≡ q
    → (q < n → b' ≡ entered n q k b) × (n ≤ q → b' ≡ b) → Filed n ys k b → Filed n ys (k + 1) b'
filed_next n ys k q b b' few k-in own did F =
    elim (dec_le (q + 1) n) [
      | yes h ↦
          let E : Entry n q k b b' = subst (λ (x : List ℕ). Entry n q k b x) (sym (did.0 (omega arith))) (entry n q k b (omega arith) (omega (arith, F.sized))) in
          record {
            sized = E.sized ∙ F.sized;
            marks = E.marks ∙ F.marks;
            round = E.round ∙ F.round;
            buckets = λ p p_in.
                elim (ℕ_discrete p q) [
                  | yes same ↦ subst (λ (x : ℕ). Bucket n ys (k + 1) b' x) (sym same) (bucket_new n ys k b b' q (omega arith) own E (F.buckets q (omega arith)))
                  | no ne ↦ bucket_kept n ys k b b' p (λ e. ne (sym e ∙ own)) E.older (E.others p p_in ne).0 (E.others p p_in ne).1 (F.buckets p p_in)
                ];
          }
      | no h ↦
          let e : b' ≡ b = did.1 (omega arith) in
          let outside : (p : ℕ) → p < n → (at ys k).from ≡ p → ⊥ = λ p p_in f. omega arith in
          record {
            sized = ap length e ∙ F.sized;
            marks = ap (take n) e ∙ F.marks;
            round = ap (next_round n) e ∙ F.round;
            buckets = λ p p_in. bucket_kept n ys k b b' p (outside p p_in) (λ j _. ap (λ (x : List ℕ). following n x j) e)
                (ap (λ (x : List ℕ). first_from n x p) e) (ap (λ (x : List ℕ). last_from n x p) e) (F.buckets p p_in);
          }
    ]

-- all are entered, and admin is reached: what a push of the assertions from admin takes
pub filed_pushes : (n : ℕ) (ys : List Assertion) (b : List ℕ) → 0 < n → n ≤ 4096 → Filed n ys (length ys) b
    → (n ≤ 4096) × (0 < n) × (3 * n < length (set b 0 0)) × ((first_from n (set b 0 0) 0 ≡ nothing) ⊎ (board_size n (last_from n (set b 0 0) 0) < length (set b 0 0)))
filed_pushes n ys b pos few F =
    let size = length-set b 0 0 in
    let first : first_from n (set b 0 0) 0 ≡ first_from n b 0 = get_or-set_other b 0 (n + 0) 0 0 (λ e. omega arith) in
    let last : last_from n (set b 0 0) 0 ≡ last_from n b 0 = get_or-set_other b 0 (2 * n + 0) 0 0 (λ e. omega arith) in
    (few, pos, omega (arith, F.sized), ⊎_elim (λ e. inl (first ∙ e)) (λ h. inr (omega arith)) (bucket_last n ys b 0 F.sized (F.buckets 0 pos)))

-- Somebody is reached: the assertions from there are put before those of the round to come. Everything else on the board stays.
use mathlib.Core.Path.{◌≡◌, refl, sym, ap, ◌∙◌, subst}
use mathlib.Core.List.Memᴰ
use mathlib.Core.List.{List, [], ◌∷◌, ◌++◌}
use mathlib.Core.Logic.{◌⊎◌, ⊎_elim}
use Prim.Native.Nat.{ℕ, ◌+◌, ◌*◌, ◌≤◌, ◌<◌}
use native.Mathlib.Decide.{ℕ_discrete}
use native.Mathlib.Omega.{arith}
use lib.ListN.{length, get_or, set, take, length-set, get_or-replicate}
use lib.Seq.{get_or-set_same, get_or-set_other, get_or-take, take-set-le, take-set-lt}
use borrow.Author.Tests.{eq-eqb, ne_eqb}
use Rattle.assertion.specs.Packed.{Assertion}
use Rattle.search_steps.specs.Steps.{◌∈◌, unreached}
use Rattle.board.specs.Board.{at, board_size, Bucket, Ends, Filed, first_from, following, Kept, last_from, Linked, next_round, nothing, pushed, Ready, Walk, Whole}
use Rattle.board.proofs.Linking.{bucket_same, walk_same, linked_joined, ends_in}

-- what a push does to the cells, where `places` are the assertions from t
pub record Effect (n : ℕ) (t v : ℕ) (places : List ℕ) (b c : List ℕ) : Type 0 where
  pub sized : length c ≡ length b
  pub marks : take n c ≡ set (take n b) t v
  pub same : (q : ℕ) → q < n → (q ≡ t → ⊥) → get_or c q 0 ≡ get_or b q 0
  pub new : get_or c t 0 ≡ v
  pub first : (q : ℕ) → q < n → first_from n c q ≡ first_from n b q
  pub last : (q : ℕ) → q < n → last_from n c q ≡ last_from n b q
  pub links : (k : ℕ) → (k ∈ places → ⊥) → following n c k ≡ following n b k
  pub joined : (ws : List ℕ) → Linked (following n c) (next_round n b) ws → Linked (following n c) (next_round n c) (places ++ ws)

module _ (n : ℕ) (ys : List Assertion) (b : List ℕ) (t v : ℕ) (lines : length ys ≤ 2048) (sized : length b ≡ board_size n (length ys)) (t_in : t < n) where
  -- t gets the mark v: the cells past the marks stay
  abbrev c : List ℕ
  c = set b t v

  past : (i : ℕ) → n ≤ i → get_or c i 0 ≡ get_or b i 0
  past i h = get_or-set_other b t i v 0 (λ e. omega arith)

  -- there are none from t
  effect_none : Effect n t v [] b c
  effect_none = record {
    sized = length-set b t v;
    marks = take-set-lt n b t v t_in;
    same = λ q lt ne. get_or-set_other b t q v 0 ne;
    new = get_or-set_same b t v 0 (omega arith);
    first = λ q lt. past (n + q) (omega arith);
    last = λ q lt. past (2 * n + q) (omega arith);
    links = λ k out. past (3 * n + 1 + k) (omega arith);
    joined = λ ws l. subst (λ (j : ℕ). Linked (following n c) j ws) (sym (past (3 * n) (omega arith))) l;
  }

  -- there are some, and z is the last
  module _ (places : List ℕ) (z : ℕ) (chain : Linked (following n b) (first_from n b t) places) (ends : Ends places z) (z-in : z < length ys) where
    abbrev linked : List ℕ
    linked = set c (3 * n + 1 + z) (next_round n c)

    abbrev e : List ℕ
    e = set linked (3 * n) (first_from n c t)

    -- a cell that is neither the last one's link nor the round's first
    stays : (i : ℕ) → (i ≡ 3 * n + 1 + z → ⊥) → (i ≡ 3 * n → ⊥) → get_or e i 0 ≡ get_or c i 0
    stays i f g = get_or-set_other linked (3 * n) i (first_from n c t) 0 g ∙ get_or-set_other c (3 * n + 1 + z) i (next_round n c) 0 f

    e_sized : length e ≡ length b
    e_sized = length-set linked (3 * n) (first_from n c t) ∙ length-set c (3 * n + 1 + z) (next_round n c) ∙ length-set b t v

    at_last : following n e z ≡ next_round n b
    at_last =
        get_or-set_other linked (3 * n) (3 * n + 1 + z) (first_from n c t) 0 (λ f. omega arith)
        ∙ get_or-set_same c (3 * n + 1 + z) (next_round n c) 0 (omega (arith, length-set b t v))
        ∙ past (3 * n) (omega arith)

    at_first : next_round n e ≡ first_from n b t
    at_first =
        get_or-set_same linked (3 * n) (first_from n c t) 0 (omega (arith, length-set c (3 * n + 1 + z) (next_round n c), length-set b t v))
        ∙ past (n + t) (omega arith)

    elsewhere : (k : ℕ) → (k ≡ z → ⊥) → following n e k ≡ following n b k
    elsewhere k ne = stays (3 * n + 1 + k) (λ f. ne (omega arith)) (λ f. omega arith) ∙ past (3 * n + 1 + k) (omega arith)

    effect_some : Effect n t v places b e
    effect_some = record {
      sized = e_sized;
      marks = take-set-le n linked (3 * n) (first_from n c t) (omega arith) ∙ take-set-le n c (3 * n + 1 + z) (next_round n c) (omega arith) ∙ take-set-lt n b t v t_in;
      same = λ q lt ne. stays q (λ f. omega arith) (λ f. omega arith) ∙ get_or-set_other b t q v 0 ne;
      new = stays t (λ f. omega arith) (λ f. omega arith) ∙ get_or-set_same b t v 0 (omega arith);
      first = λ q lt. stays (n + q) (λ f. omega arith) (λ f. omega arith) ∙ past (n + q) (omega arith);
      last = λ q lt. stays (2 * n + q) (λ f. omega arith) (λ f. omega arith) ∙ past (2 * n + q) (omega arith);
      links = λ k out. elsewhere k (λ f. out (subst (λ (j : ℕ). j ∈ places) (sym f) (ends_in places z ends)));
      joined = λ ws l.
          subst (λ (j : ℕ). Linked (following n e) j (places ++ ws)) (sym at_first)
          (linked_joined (following n b) (following n e) (first_from n b t) z (next_round n b) places ws chain ends elsewhere at_last l);
    }

  -- which of the two it is
  effect_of : (places : List ℕ) → Linked (following n b) (first_from n b t) places → (places ≡ []) ⊎ Ends places (last_from n b t) → ((k : ℕ) → k ∈ places → k < length ys) → Effect n t v places b (pushed n t c)
  effect_of [] chain ends those =
      let none : first_from n c t ≡ nothing = past (n + t) (omega arith) ∙ chain in
      let made : pushed n t c ≡ c = simp (eq-eqb (first_from n c t) nothing none) in
      subst (Effect n t v [] b) (sym made) effect_none
  effect_of (k ∷ ks) chain ends those =
      let some : first_from n c t ≡ nothing → ⊥ = λ f. omega (arith, those k (Memᴰ.head refl), past (n + t) (omega arith), chain.0) in
      let z : ℕ = last_from n b t in
      let is_last_lem : last_from n c t ≡ z = past (2 * n + t) (omega arith) in
      let last : Ends (k ∷ ks) z = ⊎_elim (λ f. absurd (not_empty k ks f)) (λ f. f) ends in
      let made : pushed n t c ≡ e (k ∷ ks) z chain last (those z (ends_in (k ∷ ks) z last)) = simp (ne_eqb (first_from n c t) nothing some) (ap (λ (j : ℕ). set (set c (3 * n + 1 + j) (next_round n c)) (3 * n) (first_from n c t)) is_last_lem) in
      subst (Effect n t v (k ∷ ks) b) (sym made) (effect_some (k ∷ ks) z chain last (those z (ends_in (k ∷ ks) z last)))
    where
      not_empty : (x : ℕ) (xs : List ℕ) → x ∷ xs ≡ [] → ⊥
      not_empty x xs f = Memᴰ.not-nil (subst (λ (l : List ℕ). x ∈ l) f (Memᴰ.head refl))

  module _ (t_has : get_or b t 0 ≡ unreached) (kept : Kept n ys b) (v-is : v ≡ unreached → ⊥) where
    pub own : Bucket n ys (length ys) b t
    own = kept t t_in t_has

    abbrev after : List ℕ
    after = pushed n t c

    pub effect : Effect n t v own.places b after
    effect = effect_of own.places own.linked own.ends (λ k m. (own.those k m).0)

    -- assertions from somebody who has a mark are gone over as before
    pub walk_stays : (d i : ℕ) (ks : List ℕ) → (d ≡ unreached → ⊥) → Walk n ys b d i ks → Walk n ys after d i ks
    walk_stays d i ks is w =
        walk_same n ys b after d i ks w (λ k m. effect.links k (λ o. not_own k m (own.those k o).1)) (λ k m. effect.same (at ys k).from (w.those k m).1 (not_own k m))
      where
        not_own : (k : ℕ) → k ∈ ks → (at ys k).from ≡ t → ⊥
        not_own k m e = is (sym (w.those k m).2 ∙ ap (λ (q : ℕ). get_or b q 0) e ∙ t_has)

    module _ (ks : List ℕ) where
      -- the round to come goes over those from t as well
      pub walk_grows : Walk n ys b v (next_round n b) ks → Walk n ys after v (next_round n after) (own.places ++ ks)
      walk_grows w =
          let rest = walk_stays v (next_round n b) ks v-is w in record {
            linked = effect.joined ks rest.linked;
            those = λ k m.
                ⊎_elim
                (λ o.
                let h = own.those k o in
                (h.0, subst (λ (q : ℕ). q < n) (sym h.1) t_in, ap (λ (q : ℕ). get_or after q 0) h.1 ∙ effect.new))
                (λ o. rest.those k o)
                (Memᴰ.append_cases own.places m);
          }

      pub whole_grows : Whole n ys b v ks → Whole n ys after v (own.places ++ ks)
      whole_grows w k lt q_in has =
          elim (ℕ_discrete (at ys k).from t) [
            | yes e ↦ Memᴰ.append_left ks (own.all k lt e)
            | no ne ↦ Memᴰ.append_right own.places (w k lt q_in (sym (effect.same (at ys k).from q_in ne) ∙ has))
          ]

    -- those from whoever is not reached are linked as before
    pub kept_stays : Kept n ys after
    kept_stays q q_in has =
        elim (ℕ_discrete q t) [
          | yes e ↦ absurd (v-is (sym effect.new ∙ ap (λ (j : ℕ). get_or after j 0) (sym e) ∙ has))
          | no ne ↦
              let k = kept q q_in (sym (effect.same q q_in ne) ∙ has) in
              bucket_same n ys (length ys) b after q k (effect.first q q_in) (effect.last q q_in) (λ j m. effect.links j (λ o. ne (sym (k.those j m).1 ∙ (own.those j o).1)))
        ]

-- at the start admin is reached, and nobody else
pub ready : (n : ℕ) (ys : List Assertion) (b : List ℕ) → 0 < n → length ys ≤ 2048 → Filed n ys (length ys) b → Ready n ys (pushed n 0 (set b 0 0))
ready n ys b pos lines f = record {
  sized = e.sized ∙ f.sized;
  marks = e.marks ∙ ap (λ (l : List ℕ). set l 0 0) f.marks;
  front = record {
    next = (own n ys b 0 0 lines f.sized pos none kept is).places ++ [];
    walk = walk_grows n ys b 0 0 lines f.sized pos none kept is [] (record { linked = f.round; those = λ k m. absurd (Memᴰ.not-nil m) });
    whole = whole_grows n ys b 0 0 lines f.sized pos none kept is [] (λ k lt q_in has. absurd (omega (arith, unmarked (at ys k).from q_in)));
    kept = kept_stays n ys b 0 0 lines f.sized pos none kept is;
  };
}
  where
    unmarked : (q : ℕ) → q < n → get_or b q 0 ≡ unreached
    unmarked q lt = sym (get_or-take n b q 0 lt) ∙ ap (λ (l : List ℕ). get_or l q 0) f.marks ∙ get_or-replicate n q unreached 0 lt

    none : get_or b 0 0 ≡ unreached
    none = unmarked 0 pos

    kept : Kept n ys b
    kept q lt has = f.buckets q lt

    is : 0 ≡ unreached → ⊥
    is z = omega arith

    e : Effect n 0 0 (own n ys b 0 0 lines f.sized pos none kept is).places b (pushed n 0 (set b 0 0))
    e = effect n ys b 0 0 lines f.sized pos none kept is

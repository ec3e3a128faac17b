-- Records read one after the other: whatever records stand at a place, those read so far are the first of them.
-- Assumes nothing.
use mathlib.Core.Path.{◌≡◌, refl, sym, ap, subst, ◌∙◌}
use Prim.Native.Nat.{ℕ, ◌+◌, ◌≤◌, ◌<◌}
use native.Mathlib.Omega.{arith}
use mathlib.Core.Bool.{Bool, true}
use mathlib.Core.List.{List, [], ◌∷◌, ◌++◌, append_assoc, append-nil}
use lib.Dec.{T, leb, leb→le, le→leb}
use lib.ListN.{length, drop}
use Rattle.language.specs.Text.{Text, all, joined, sum}
use Rattle.language.proofs.Logic.Tests.{both, and, three, and_three, all_append}
use Rattle.record_fields.specs.Sections.{Reads, Fails, light_one, light_all}
use Rattle.language.proofs.Logic.Lists.{sum_append}

pub joined_last : {A : Type 0} (f : A → Text) (l : List A) (a : A) (r : Text) → joined f (l ++ a ∷ []) ++ r ≡ joined f l ++ (f a ++ r)
joined_last f [] a r = ap (λ (x : Text). x ++ r) (append-nil (f a))
joined_last f (b ∷ l) a r =
    append_assoc (f b) (joined f (l ++ a ∷ [])) r ∙ ap (λ (x : Text). f b ++ x) (joined_last f l a r) ∙ sym (append_assoc (f b) (joined f l) (f a ++ r))

all_parts : {A : Type 0} (f : A → Bool) (l m : List A) → T (all f (l ++ m)) → T (all f m)
all_parts f [] m h = h
all_parts f (a ∷ l) m h = all_parts f l m (both (f a) (all f (l ++ m)) h).1

module _ {A : Type 0} (text : A → Text) (fine : A → Bool) (weight : A → ℕ) (off : Text → Bool) (t : Text) (at w : ℕ) where
  -- what is left to read of any records ls that stand at `at`
  pub record Rest (rows : List A) (i now : ℕ) (ls : List A) (q : Text) : Type 0 where
    pub more : List A
    pub split : ls ≡ rows ++ more
    pub fine_more : T (all fine more)
    pub light : now + sum weight more ≤ 8192
    pub stands : drop i t ≡ joined text more ++ q

  -- what the loop over the records knows: rows were read up to i, and now is weighed
  pub record Run (rows : List A) (i now : ℕ) : Type 0 where
    pub low : at ≤ i
    pub high : i ≤ length t
    pub all_fine : T (all fine rows)
    pub here : drop at t ≡ joined text rows ++ drop i t
    pub weighed : now ≡ w + sum weight rows
    pub follow : (ls : List A) (q : Text) → T (all fine ls) → w + sum weight ls ≤ 8192 → T (off q) → drop at t ≡ joined text ls ++ q → Rest rows i now ls q

-- `clear` may follow a record, `off` the last one
module _ {A : Type 0} (text : A → Text) (fine : A → Bool) (weight : A → ℕ) (clear off : Text → Bool)
    (off-clear : (q : Text) → T (off q) → T (clear q))
    (clear_row : (a : A) (q : Text) → T (clear (text a ++ q)))
    (row_on : (a : A) (q : Text) → T (off (text a ++ q)) → ⊥)
    (t : Text) (at w : ℕ) where
  abbrev Run' : List A → ℕ → ℕ → Type 0
  Run' = Run text fine weight off t at w

  abbrev Rest' : List A → ℕ → ℕ → List A → Text → Type 0
  Rest' = Rest text fine weight off t at w

  pub start : at ≤ length t → Run' [] at w
  start h = record {
    low = omega arith;
    high = h;
    all_fine = tt;
    here = refl;
    weighed = omega arith;
    follow = λ ls q a l o d. record { more = ls; split = refl; fine_more = a; light = l; stands = d };
  }

  clear_joined : (ls : List A) (q : Text) → T (off q) → T (clear (joined text ls ++ q))
  clear_joined [] q h = off-clear q h
  clear_joined (a ∷ ls) q h = subst (λ (x : Text). T (clear x)) (sym (append_assoc (text a) (joined text ls) q)) (clear_row a (joined text ls ++ q))

  module _ (rows : List A) (i now : ℕ) (R : Run' rows i now) (on : T (off (drop i t)) → ⊥) where
    -- the next of any records that stand here
    next : (ls : List A) (q : Text) → T (off q) → Rest' rows i now ls q
        → (m : A) × (ms : List A) × (ls ≡ rows ++ m ∷ ms) × T (light_one fine weight now m) × T (all fine ms) × (now + weight m + sum weight ms ≤ 8192) × (drop i t ≡ text m ++ (joined text ms ++ q)) × T (clear (joined text ms ++ q))
    next ls q o S = go S.more S.split S.fine_more S.light S.stands
      where
        go : (more : List A) → ls ≡ rows ++ more → T (all fine more) → now + sum weight more ≤ 8192 → drop i t ≡ joined text more ++ q
            → (m : A) × (ms : List A) × (ls ≡ rows ++ m ∷ ms) × T (light_one fine weight now m) × T (all fine ms) × (now + weight m + sum weight ms ≤ 8192) × (drop i t ≡ text m ++ (joined text ms ++ q)) × T (clear (joined text ms ++ q))
        go [] s f l d = absurd (on (subst (λ (x : Text). T (off x)) (sym d) o))
        go (m ∷ ms) s f l d =
            let (f₁, f₂) = both (fine m) (all fine ms) f in
            let h : now + weight m ≤ 8192 = omega arith in
            (m, ms, s, and (fine m) (leb (now + weight m) 8192) f₁ (le→leb (now + weight m) 8192 h), f₂, omega arith, d ∙ append_assoc (text m) (joined text ms) q, clear_joined ms q o)

    pub stuck : (good : List A → Bool) → Fails text (light_one fine weight now) clear t i → Fails (joined text) (light_all fine good weight w) off t at
    stuck good never ls q h o d =
        let (f, g, l) = three (all fine ls) (good ls) (leb (w + sum weight ls) 8192) h in
        let (m, ms, s, fm, fs, lm, dm, cm) = next ls q o (R.follow ls q f (leb→le (w + sum weight ls) 8192 l) o d) in
        never m (joined text ms ++ q) fm cm dm

    module _ (a : A) (e now' : ℕ) (r : Reads text (light_one fine weight now) clear t i a e) (weighs : now' ≡ now + weight a) where
      follows : (ls : List A) (q : Text) → T (all fine ls) → w + sum weight ls ≤ 8192 → T (off q) → drop at t ≡ joined text ls ++ q → Rest' (rows ++ a ∷ []) e now' ls q
      follows ls q f l o d =
          let (m, ms, s, fm, fs, lm, dm, cm) = next ls q o (R.follow ls q f l o d) in
          let (same, left) = r.only m (joined text ms ++ q) fm cm dm in
          record {
            more = ms;
            split = s ∙ ap (λ (x : A). rows ++ x ∷ ms) same ∙ sym (append_assoc rows (a ∷ []) ms);
            fine_more = fs;
            light = omega (arith, ap weight same);
            stands = sym left;
          }

      pub step : Run' (rows ++ a ∷ []) e now'
      step = record {
        low = omega (arith, R.low, r.low);
        high = r.high;
        all_fine = all_append fine rows (a ∷ []) R.all_fine (and (fine a) true (both (fine a) (leb (now + weight a) 8192) r.is_fine).0 tt);
        here = R.here ∙ ap (λ (x : Text). joined text rows ++ x) r.here ∙ sym (joined_last text rows a (drop e t));
        weighed = omega (arith, R.weighed, weighs, sum_append weight rows (a ∷ []));
        follow = follows;
      }

      -- no records with these in front are good
      pub spoilt : (good : List A → Bool) → ((ms : List A) → T (good (rows ++ a ∷ ms)) → ⊥) → Fails (joined text) (light_all fine good weight w) off t at
      spoilt good never ls q h o d =
          let (f, g, l) = three (all fine ls) (good ls) (leb (w + sum weight ls) 8192) h in
          let (m, ms, s, fm, fs, lm, dm, cm) = next ls q o (R.follow ls q f (leb→le (w + sum weight ls) 8192 l) o d) in
          let (same, left) = r.only m (joined text ms ++ q) fm cm dm in
          never ms (subst (λ (x : List A). T (good x)) (s ∙ ap (λ (x : A). rows ++ x ∷ ms) same) g)

  -- too much is weighed already
  pub heavy : (good : List A → Bool) (rows : List A) (i now : ℕ) → Run' rows i now → 8192 < now → Fails (joined text) (light_all fine good weight w) off t at
  heavy good rows i now R h ls q f o d =
      let (f, g, l) = three (all fine ls) (good ls) (leb (w + sum weight ls) 8192) f in
      let S = R.follow ls q f (leb→le (w + sum weight ls) 8192 l) o d in
      omega (arith, S.light)

  -- where no record goes on, these are all
  pub finish : (good : List A → Bool) (rows : List A) (i now : ℕ) → Run' rows i now → T (off (drop i t)) → T (good rows) → now ≤ 8192 → Reads (joined text) (light_all fine good weight w) off t at rows i
  finish good rows i now R o g l = record {
    low = R.low;
    high = R.high;
    is_fine = and_three (all fine rows) (good rows) (leb (w + sum weight rows) 8192) R.all_fine g (le→leb (w + sum weight rows) 8192 (omega (arith, R.weighed)));
    here = R.here;
    only = λ ls q h oq d. whole ls q h oq d;
  }
    where
      whole : (ls : List A) (q : Text) → T (light_all fine good weight w ls) → T (off q) → drop at t ≡ joined text ls ++ q → (ls ≡ rows) × (q ≡ drop i t)
      whole ls q h oq d =
          let (f, g, l) = three (all fine ls) (good ls) (leb (w + sum weight ls) 8192) h in
          let S = R.follow ls q f (leb→le (w + sum weight ls) 8192 l) oq d in
          go S.more S.split S.stands
        where
          go : (more : List A) → ls ≡ rows ++ more → drop i t ≡ joined text more ++ q → (ls ≡ rows) × (q ≡ drop i t)
          go [] s e = (s ∙ append-nil rows, sym e)
          go (m ∷ ms) s e = absurd (row_on m (joined text ms ++ q) (subst (λ (x : Text). T (off x)) (e ∙ append_assoc (text m) (joined text ms) q) o))

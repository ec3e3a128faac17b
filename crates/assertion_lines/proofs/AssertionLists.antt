-- The loop over the assertions: their numbers, and that none is there twice.
-- Assumes nothing.
use mathlib.Core.Path.{◌≡◌, refl, sym, ap, subst, ◌∙◌}
use mathlib.Core.Logic.{inl, inr}
use Prim.Native.Nat.{ℕ, ◌+◌, ◌*◌, ◌≤◌, ◌<◌, ◌^◌}
use native.Mathlib.Omega.{arith}
use native.Mathlib.Numerals.{add-one}
use mathlib.Core.Bool.{Bool, true, false, not}
use mathlib.Core.List.{List, [], ◌∷◌, ◌++◌, map}
use lib.Dec.{T, T_not, eqb, eqb→eq, eqb_refl, leb, leb→le}
use lib.ListN.{length, take, drop, get_or, set, length-append}
use lib.Seq.{take-suc-set}
use Rattle.language.specs.Text.{Text, when◌then◌else◌, all, any, joined, sum, member}
use Rattle.language.specs.Syntax.{Name}
use Rattle.language.specs.State.{Assertion, same_assertion, stands}
use Rattle.language.specs.Weight.{assertion_weight}
use Rattle.language.specs.Identifiers.{is_name}
use Rattle.language.specs.Encode.{assertion_text}
use Rattle.language.specs.Valid.{unrepeated}
use Rattle.store.specs.Rows.{position}
use Rattle.language.proofs.Logic.Tests.{both, three, one_of_lem, left_of_lem, right_of, any_right_lem}
use Rattle.language.proofs.Meaning.Standing.{same_assertion_lem, same_self, enter_unrepeated}
use Rattle.language.proofs.StateText.Clean.{name_length}
use Rattle.assertion.specs.Packed as N
use Rattle.assertion.specs.Packed.{fields}
use Rattle.assertion.proofs.Packing.{fields_pack}
use Rattle.named_rights.specs.Numbers.{code, numbered}
use Rattle.named_rights.proofs.Places.{position_lt, same_place, code_lt, same_code}
use Rattle.record_fields.specs.Sections.{Fails, light_one, light_all, any_text}
use Rattle.record_fields.proofs.Follow.{Run, start, step, stuck, spoilt, finish}
use Rattle.record_fields.proofs.Labels.{opens_here, opens_not}
use Rattle.record_fields.proofs.Indexing.{ahead}
use Rattle.text.specs.Parts.{part}
use Rattle.store.specs.Rows.{Row, Rows, row_names}
use Rattle.references.proofs.Members.{member_name, names_count}
use Rattle.assertion_lines.specs.declared.Roll.{Roll}
use Rattle.assertion_lines.specs.Assertions.{known_names, off_assertion, good_assertions, Enrolled, Granting, Granted}
use Rattle.store.proofs.NameWeights.{name_light}

-- ---- equal numbers are equal assertions

module _ (ps xs : List Name) (few-p : length ps ≤ 4096) (few-x : length xs ≤ 4096) where
  parts : (a : Assertion) → T (known_names ps xs a) → fields (numbered ps xs a) ≡ record { variable = position xs a.variable; from = position ps a.from; right = code a.right; to = position ps a.to }
  parts a k =
      let (x, q, p) = three (member a.variable xs) (member a.from ps) (member a.to ps) k in
      fields_pack (position xs a.variable) (position ps a.from) (code a.right) (position ps a.to)
      (wide (position_lt xs a.variable x) few-x) (wide (position_lt ps a.from q) few-p) (small (code_lt a.right)) (wide (position_lt ps a.to p) few-p)
    where
      wide : {i n : ℕ} → i < n → n ≤ 4096 → i < 2 ^ 16
      wide h l = omega arith

      small : {i : ℕ} → i < 4 → i < 2 ^ 16
      small h = omega arith

  same_number : (a b : Assertion) → T (known_names ps xs a) → T (known_names ps xs b) → numbered ps xs a ≡ numbered ps xs b → a ≡ b
  same_number a b ka kb e =
      let (x, q, p) = three (member a.variable xs) (member a.from ps) (member a.to ps) ka in
      let (x', q', p') = three (member b.variable xs) (member b.from ps) (member b.to ps) kb in
      let f = sym (parts a ka) ∙ ap fields e ∙ parts b kb in
      ap (λ (v : Name). record { variable = v; from = a.from; right = a.right; to = a.to }) (same_place xs a.variable b.variable x x' (ap (λ (r : N.Assertion). r.variable) f))
      ∙ ap (λ (v : Name). record { variable = b.variable; from = v; right = a.right; to = a.to }) (same_place ps a.from b.from q q' (ap (λ (r : N.Assertion). r.from) f))
      ∙ ap (λ v. record { variable = b.variable; from = b.from; right = v; to = a.to }) (same_code a.right b.right (ap (λ (r : N.Assertion). r.right) f))
      ∙ ap (λ (v : Name). record { variable = b.variable; from = b.from; right = b.right; to = v }) (same_place ps a.to b.to p p' (ap (λ (r : N.Assertion). r.to) f))

  seen_stands : (a : Assertion) → T (known_names ps xs a) → (l : List Assertion) → T (all (known_names ps xs) l) → T (any (eqb (numbered ps xs a)) (map (numbered ps xs) l)) → T (stands l a)
  seen_stands a ka [] h s = s
  seen_stands a ka (b ∷ l) h s =
      let (kb, kl) = both (known_names ps xs b) (all (known_names ps xs) l) h in
      elim (one_of_lem (eqb (numbered ps xs a) (numbered ps xs b)) (any (eqb (numbered ps xs a)) (map (numbered ps xs) l)) s) [
        | inl e ↦ left_of_lem (same_assertion a b) (stands l a) (subst (λ (z : Assertion). T (same_assertion a z)) (same_number a b ka kb (eqb→eq (numbered ps xs a) (numbered ps xs b) e)) (same_self a))
        | inr e ↦ right_of (same_assertion a b) (stands l a) (seen_stands a ka l kl e)
      ]

  stands_seen : (a : Assertion) (l : List Assertion) → T (stands l a) → T (any (eqb (numbered ps xs a)) (map (numbered ps xs) l))
  stands_seen a [] s = s
  stands_seen a (b ∷ l) s =
      elim (one_of_lem (same_assertion a b) (stands l a) s) [
        | inl e ↦ left_of_lem (eqb (numbered ps xs a) (numbered ps xs b)) (any (eqb (numbered ps xs a)) (map (numbered ps xs) l)) (subst (λ (z : Assertion). T (eqb (numbered ps xs a) (numbered ps xs z))) (same_assertion_lem a b e) (eqb_refl (numbered ps xs a)))
        | inr e ↦ right_of (eqb (numbered ps xs a) (numbered ps xs b)) (any (eqb (numbered ps xs a)) (map (numbered ps xs) l)) (stands_seen a l e)
      ]

new_last : (l : List Assertion) (a : Assertion) → T (unrepeated l) → (T (stands l a) → ⊥) → T (unrepeated (l ++ a ∷ []))
new_last l a u n = go (stands l a) refl (enter_unrepeated l a u)
  where
    go : (b : Bool) → stands l a ≡ b → T (unrepeated (when stands l a then l else l ++ a ∷ [])) → T (unrepeated (l ++ a ∷ []))
    go true e h = absurd (n (subst (λ (x : Bool). T x) (sym e) tt))
    go false e h = subst (λ (x : Bool). T (unrepeated (when x then l else l ++ a ∷ []))) e h

twice_spoils : (l ms : List Assertion) (a : Assertion) → T (stands l a) → T (unrepeated (l ++ a ∷ ms)) → ⊥
twice_spoils [] ms a s u = s
twice_spoils (b ∷ l) ms a s u =
    let (n, r) = both (not (stands (l ++ a ∷ ms) b)) (unrepeated (l ++ a ∷ ms)) u in
    elim (one_of_lem (same_assertion a b) (stands l a) s) [
      | inl e ↦ T_not (stands (l ++ a ∷ ms) b) n (any_right_lem (same_assertion b) l (a ∷ ms) (left_of_lem (same_assertion b a) (stands ms b) (subst (λ (z : Assertion). T (same_assertion z a)) (same_assertion_lem a b e) (same_self a))))
      | inr e ↦ twice_spoils l ms a e r
    ]

-- ---- the loop

assertion_clear : (a : Assertion) (q : Text) → T (any_text (assertion_text a ++ q))
assertion_clear a q = tt

assertion_on : (a : Assertion) (q : Text) → T (off_assertion (assertion_text a ++ q)) → ⊥
assertion_on a q h = h

-- what the loop over the assertions knows
pub record Asserting (ps xs : List Name) (t : Text) (at w : ℕ) (assertions : List ℕ) (i n now : ℕ) : Type 0 where
  pub rows : List Assertion
  pub run : Run assertion_text (known_names ps xs) assertion_weight off_assertion t at w rows i now
  pub counted : n ≡ length rows
  pub numbers : take n assertions ≡ map (numbered ps xs) rows
  pub apart : T (unrepeated rows)

pub asserting_start : (ps xs : List Name) (t : Text) (at w : ℕ) (assertions : List ℕ) → at ≤ length t → Asserting ps xs t at w assertions at 0 w
asserting_start ps xs t at w assertions h = record {
  rows = [];
  run = start assertion_text (known_names ps xs) assertion_weight any_text off_assertion (λ q h. tt) assertion_clear assertion_on t at w h;
  counted = refl;
  numbers = refl;
  apart = tt;
}

map_last : (f : Assertion → ℕ) (l : List Assertion) (a : Assertion) → map f (l ++ a ∷ []) ≡ map f l ++ f a ∷ []
map_last f [] a = refl
map_last f (b ∷ l) a = ap (λ (r : List ℕ). f b ∷ r) (map_last f l a)

weighs_four : (f : Assertion → Bool) → ((a : Assertion) → T (f a) → 4 ≤ assertion_weight a) → (l : List Assertion) → T (all f l) → 4 * length l ≤ sum assertion_weight l
weighs_four f four [] h = omega arith
weighs_four f four (a ∷ l) h =
    let (h₁, h₂) = both (f a) (all f l) h in
    let k = four a h₁ in
    let r = weighs_four f four l h₂ in
    omega arith

-- what the names of the principals and of the variables are: names, and few
pub record Named (ps xs : List Name) : Type 0 where
  pub principals : (x : Text) → T (member x ps) → T (is_name x)
  pub vars : (x : Text) → T (member x xs) → T (is_name x)
  pub few_principals : length ps ≤ 4096
  pub few_vars : length xs ≤ 4096

pub enrolled_names : (t : Text) (roll : Roll) (principals vars : List ℕ) → Enrolled t roll principals vars
    → (prows vrows : List Row) → Rows prows (part t roll.principals_from roll.principals_to) roll.principals principals → Rows vrows (part t roll.vars_from roll.vars_to) roll.vars vars
    → Named (row_names prows) (row_names vrows)
enrolled_names t r principals vars E prows vrows G W = record {
  principals = member_name prows t r.principals_from r.principals_to r.principals principals G;
  vars = member_name vrows t r.vars_from r.vars_to r.vars vars W;
  few_principals = omega (arith, names_count prows t r.principals_from r.principals_to r.principals principals G, E.principals_few);
  few_vars = omega (arith, names_count vrows t r.vars_from r.vars_to r.vars vars W, E.vars_few);
}

module _ (ps xs : List Name) (M : Named ps xs)
    (t : Text) (at w : ℕ) (assertions : List ℕ) (i n now : ℕ) (C : Asserting ps xs t at w assertions i n now) where
  abbrev NoAssertions : Type 0
  NoAssertions = Fails (joined assertion_text) (light_all (known_names ps xs) good_assertions assertion_weight w) off_assertion t at

  four : (a : Assertion) → T (known_names ps xs a) → 4 ≤ assertion_weight a
  four a k =
      let (x, q, p) = three (member a.variable xs) (member a.from ps) (member a.to ps) k in
      let l = name_length a.variable (M.vars a.variable x) in
      let m = name_light a.from (M.principals a.from q) in
      let o = name_light a.to (M.principals a.to p) in
      omega (arith, l.0, m.0, o.0)

  pub asserting_low : w + 4 * n ≤ now
  asserting_low = omega (arith, weighs_four (known_names ps xs) four C.rows C.run.all_fine, C.counted, C.run.weighed)

  pub assertions_good : (get_or t i 0 ≡ 65 → ⊥) → now ≤ 8192 → n ≤ length assertions → Granted ps xs t at w assertions i n now
  assertions_good h l room =
      let o : T (off_assertion (drop i t)) = subst (λ (b : Bool). T (not b)) (sym (opens_not t i 65 h)) tt in
      record {
        records = record {
          rows = C.rows;
          reads = finish assertion_text (known_names ps xs) assertion_weight any_text off_assertion (λ q h. tt) assertion_clear assertion_on t at w good_assertions C.rows i now C.run o C.apart l;
          weighed = C.run.weighed;
          counted = C.counted;
          ends = o;
        };
        numbers = C.numbers;
        within = room;
      }

  module _ (is-a : get_or t i 0 ≡ 65) where
    on : T (off_assertion (drop i t)) → ⊥
    on h = subst (λ (b : Bool). T (not b)) (opens_here t i 65 is-a) h

    pub assertions_stuck : Fails assertion_text (light_one (known_names ps xs) assertion_weight now) any_text t i → NoAssertions
    assertions_stuck = stuck assertion_text (known_names ps xs) assertion_weight any_text off_assertion (λ q h. tt) assertion_clear assertion_on t at w C.rows i now C.run on good_assertions

    module _ (k e after : ℕ) (E : Granting ps xs t i now k e after) where
      known_light : T (known_names ps xs E.row) × (now + assertion_weight E.row ≤ 8192)
      known_light =
          let (f, l) = both (known_names ps xs E.row) (leb (now + assertion_weight E.row) 8192) E.reads.is_fine in
          (f, leb→le (now + assertion_weight E.row) 8192 l)

      pub assertion_ahead : i < e
      assertion_ahead = ahead t (assertion_text E.row) i e E.reads.here (omega arith) E.reads.low E.reads.high

      pub assertion_light : after ≤ 8192
      assertion_light = let (f, l) = known_light in omega (arith, E.weighed)

      pub assertion_room : length assertions ≡ 2048 → n < length assertions
      assertion_room h =
          let (f, l) = known_light in
          let z = four E.row f in
          omega (arith, asserting_low)

      pub assertion_twice : any (eqb k) (take n assertions) ≡ true → NoAssertions
      assertion_twice s =
          let (f, l) = known_light in
          let seen : T (any (eqb (numbered ps xs E.row)) (map (numbered ps xs) C.rows)) =
          subst (λ (b : Bool). T b) (sym (ap (λ (z : ℕ). any (eqb z) (map (numbered ps xs) C.rows)) (sym E.number) ∙ ap (any (eqb k)) (sym C.numbers) ∙ s)) tt in
          spoilt assertion_text (known_names ps xs) assertion_weight any_text off_assertion (λ q h. tt) assertion_clear assertion_on t at w C.rows i now C.run on E.row e after E.reads E.weighed good_assertions
          (λ ms g. twice_spoils C.rows ms E.row (seen_stands ps xs M.few_principals M.few_vars E.row f C.rows C.run.all_fine seen) g)

      pub assertions_next : length assertions ≡ 2048 → any (eqb k) (take n assertions) ≡ false → Asserting ps xs t at w (set assertions n k) e (n + 1) after
      assertions_next h s = record {
        rows = C.rows ++ E.row ∷ [];
        run = step assertion_text (known_names ps xs) assertion_weight any_text off_assertion (λ q h. tt) assertion_clear assertion_on t at w C.rows i now C.run on E.row e after E.reads E.weighed;
        counted = omega (arith, C.counted, length-append C.rows (E.row ∷ []));
        numbers =
            ap (λ (z : ℕ). take z (set assertions n k)) (add-one n) ∙ take-suc-set assertions n k (assertion_room h) ∙ ap (λ (l : List ℕ). l ++ k ∷ []) C.numbers
            ∙ ap (λ (z : ℕ). map (numbered ps xs) C.rows ++ z ∷ []) E.number ∙ sym (map_last (numbered ps xs) C.rows E.row);
        apart = new_last C.rows E.row C.apart (λ z.
            subst (λ (b : Bool). T b)
            (ap (λ (y : ℕ). any (eqb y) (map (numbered ps xs) C.rows)) (sym E.number) ∙ ap (any (eqb k)) (sym C.numbers) ∙ s)
            (stands_seen ps xs M.few_principals M.few_vars E.row C.rows z));
      }

-- The loop over the principals: their order, and their slots.
-- Assumes nothing.
use mathlib.Core.Path.{◌≡◌, sym, ap, subst, ◌∙◌}
use Prim.Native.Nat.{ℕ, suc, ◌+◌, ◌*◌, ◌-◌, ◌≤◌, ◌<◌}
use native.Mathlib.Omega.{arith}
use mathlib.Core.Bool.{Bool, true, false, ◌&&◌}
use mathlib.Core.Option.{Option, none, some}
use mathlib.Core.List.{List, [], ◌∷◌, ◌++◌, map}
use lib.Dec.{T, leb, leb→le}
use lib.ListN.{length, drop}
use Rattle.language.specs.Text.{Text, all, ◌≟◌, joined, distinct, sum}
use Rattle.language.specs.State.{Principal, admin, anyone}
use Rattle.language.specs.Weight.{name_weight}
use Rattle.language.specs.Identifiers.{is_name}
use Rattle.language.specs.Valid.{valid_order, has_password}
use Rattle.language.specs.Former.{Form, current, former, principal_in, principal_weight_in, valid_principal_in}
use Rattle.language.proofs.Logic.Tests.{both, and, three, four}
use Rattle.text.specs.Parts.{part}
use Rattle.store.specs.Rows.{Row, Rows, row_in}
use Rattle.record_fields.specs.Sections.{Fails, light_one, light_all, Entitled, any_text}
use Rattle.record_fields.specs.Entering.{Entering, Entered}
use Rattle.record_fields.proofs.Follow.{stuck, spoilt, finish}
use Rattle.record_fields.proofs.Indexing.{Going, going_start, going_held, going_rows, entering, go_on, again, light, ahead}
use Rattle.principal_lines.specs.Principals.{least_of, off_principal, in_place, orderly, good_principals}
use Rattle.principal_lines.specs.Listed.{Listed}
use Rattle.store.proofs.Holders.{text_in, name_in}
use Rattle.store.proofs.NameWeights.{name_light}
use Rattle.principal_lines.proofs.OneLine.{place_other, valid_in}

-- ---- order

shift : (m n : ℕ) (k : Principal) → T (in_place (m + suc n) k.name (has_password k)) → T (in_place (suc m + n) k.name (has_password k))
shift m n k h = let e : m + suc n ≡ suc m + n = omega arith in subst (λ (x : ℕ). T (in_place x k.name (has_password k))) e h

shift_back : (m n : ℕ) (k : Principal) → T (in_place (suc m + n) k.name (has_password k)) → T (in_place (m + suc n) k.name (has_password k))
shift_back m n k h = let e : suc m + n ≡ m + suc n = omega arith in subst (λ (x : ℕ). T (in_place x k.name (has_password k))) e h

zero_sum : (m : ℕ) (k : Principal) → T (in_place (m + 0) k.name (has_password k)) → T (in_place m k.name (has_password k))
zero_sum m k h = let e : m + 0 ≡ m = omega arith in subst (λ (x : ℕ). T (in_place x k.name (has_password k))) e h

sum_zero : (m : ℕ) (k : Principal) → T (in_place m k.name (has_password k)) → T (in_place (m + 0) k.name (has_password k))
sum_zero m k h = let e : m ≡ m + 0 = omega arith in subst (λ (x : ℕ). T (in_place x k.name (has_password k))) e h

orderly_last : (m : ℕ) (ks : List Principal) (k : Principal) → T (orderly m ks) → T (in_place (m + length ks) k.name (has_password k)) → T (orderly m (ks ++ k ∷ []))
orderly_last m [] k h p = and (in_place m k.name (has_password k)) true (zero_sum m k p) tt
orderly_last m (l ∷ ks) k h p =
    let (h₁, h₂) = both (in_place m l.name (has_password l)) (orderly (suc m) ks) h in
    and (in_place m l.name (has_password l)) (orderly (suc m) (ks ++ k ∷ [])) h₁ (orderly_last (suc m) ks k h₂ (shift m (length ks) k p))

orderly_at : (m : ℕ) (ks ms : List Principal) (k : Principal) → T (orderly m (ks ++ k ∷ ms)) → T (in_place (m + length ks) k.name (has_password k))
orderly_at m [] ms k h = sum_zero m k (both (in_place m k.name (has_password k)) (orderly (suc m) ms) h).0
orderly_at m (l ∷ ks) ms k h =
    shift_back m (length ks) k (orderly_at (suc m) ks ms k (both (in_place m l.name (has_password l)) (orderly (suc m) (ks ++ k ∷ ms)) h).1)

others_orderly : (m : ℕ) (ks : List Principal) → T (all has_password ks) → T (orderly (suc (suc m)) ks)
others_orderly m [] h = tt
others_orderly m (k ∷ ks) h =
    let (h₁, h₂) = both (has_password k) (all has_password ks) h in
    let z : suc (suc m) ≡ 0 → ⊥ = λ e. omega arith in
    let o : suc (suc m) ≡ 1 → ⊥ = λ e. omega arith in
    and (in_place (suc (suc m)) k.name (has_password k)) (orderly (suc (suc (suc m))) ks)
    (subst (λ (b : Bool). T b) (place_other (suc (suc m)) k.name (has_password k) z o) h₁) (others_orderly (suc m) ks h₂)

orderly_others : (m : ℕ) (ks : List Principal) → T (orderly (suc (suc m)) ks) → T (all has_password ks)
orderly_others m [] h = tt
orderly_others m (k ∷ ks) h =
    let (h₁, h₂) = both (in_place (suc (suc m)) k.name (has_password k)) (orderly (suc (suc (suc m))) ks) h in
    let z : suc (suc m) ≡ 0 → ⊥ = λ e. omega arith in
    let o : suc (suc m) ≡ 1 → ⊥ = λ e. omega arith in
    and (has_password k) (all has_password ks)
    (subst (λ (b : Bool). T b) (sym (place_other (suc (suc m)) k.name (has_password k) z o)) h₁) (orderly_others (suc m) ks h₂)

order_orderly : (ks : List Principal) → T (valid_order ks) → (2 ≤ length ks) × T (orderly 0 ks)
order_orderly [] h = absurd h
order_orderly (k ∷ []) h = absurd h
order_orderly (k ∷ l ∷ ks) h =
    let (a, b, c, d) = four (k.name ≟ admin) (has_password k) (l.name ≟ anyone) (all has_password ks) h in (
      omega arith,
      and ((k.name ≟ admin) && has_password k) ((l.name ≟ anyone) && orderly 2 ks) (and (k.name ≟ admin) (has_password k) a b)
          (and (l.name ≟ anyone) (orderly 2 ks) c (others_orderly 0 ks d)),
    )

orderly_order : (ks : List Principal) → 2 ≤ length ks → T (orderly 0 ks) → T (valid_order ks)
orderly_order [] l h = absurd (omega arith)
orderly_order (k ∷ []) l h = absurd (omega arith)
orderly_order (k ∷ m ∷ ks) l h =
    let (h₁, h₂) = both ((k.name ≟ admin) && has_password k) ((m.name ≟ anyone) && orderly 2 ks) h in
    let (a, b) = both (k.name ≟ admin) (has_password k) h₁ in
    let (c, d) = both (m.name ≟ anyone) (orderly 2 ks) h₂ in
    and ((k.name ≟ admin) && has_password k && (m.name ≟ anyone)) (all has_password ks)
    (and ((k.name ≟ admin) && has_password k) (m.name ≟ anyone) (and (k.name ≟ admin) (has_password k) a b) c) (orderly_others 0 ks d)

-- ---- one principal

principal_clear : (f : Form) (k : Principal) (q : Text) → T (any_text (principal_in f k ++ q))
principal_clear f k q = tt

principal_on : (f : Form) (k : Principal) (q : Text) → T (off_principal (principal_in f k ++ q)) → ⊥
principal_on f k q h = go f k.password h
  where
    go : (f : Form) (o : Option Text) → T (off_principal (principal_in f (record { name = k.name; password = o; count = k.count }) ++ q)) → ⊥
    go current none h = h
    go current (some u) h = h
    go former none h = h
    go former (some u) h = h

principal_named : (f : Form) (k : Principal) → T (valid_principal_in f k) → T (is_name k.name)
principal_named f k h = (valid_in f k.name k.password k.count h).0

-- what a principal weighs at least
principal_least : (f : Form) (k : Principal) → T (valid_principal_in f k) → least_of f ≤ principal_weight_in f k
principal_least f k h = go f (name_light k.name (principal_named f k h)).0
  where
    go : (f : Form) → 1 ≤ name_weight k.name → least_of f ≤ principal_weight_in f k
    go current l = omega arith
    go former l = omega arith

principal_two : (f : Form) (k : Principal) → T (valid_principal_in f k) → 2 ≤ principal_weight_in f k
principal_two f k h = go f (principal_least f k h)
  where
    go : (f : Form) → least_of f ≤ principal_weight_in f k → 2 ≤ principal_weight_in f k
    go current l = omega arith
    go former l = l

principals_least : (f : Form) (ks : List Principal) → T (all (valid_principal_in f) ks) → least_of f * length ks ≤ sum (principal_weight_in f) ks
principals_least f ks h = go f ks h (λ k. principal_least f k)
  where
    go : (f : Form) (ks : List Principal) → T (all (valid_principal_in f) ks) → ((k : Principal) → T (valid_principal_in f k) → least_of f ≤ principal_weight_in f k) → least_of f * length ks ≤ sum (principal_weight_in f) ks
    go current [] h l = omega arith
    go former [] h l = omega arith
    go current (k ∷ ks) h l =
        let (a, b) = both (valid_principal_in current k) (all (valid_principal_in current) ks) h in
        let x = l k a in
        let y = go current ks b l in
        omega arith
    go former (k ∷ ks) h l =
        let (a, b) = both (valid_principal_in former k) (all (valid_principal_in former) ks) h in
        let x = l k a in
        let y = go former ks b l in
        omega arith

principal_some : (f : Form) (k : Principal) → 0 < length (principal_in f k)
principal_some f k = go f k.password
  where
    go : (f : Form) (o : Option Text) → 0 < length (principal_in f (record { name = k.name; password = o; count = k.count }))
    go current none = omega arith
    go current (some u) = omega arith
    go former none = omega arith
    go former (some u) = omega arith

-- ---- the loop

-- what the loop over the principals knows
pub record Ranking (f : Form) (t : Text) (at : ℕ) (slots : List ℕ) (i n now : ℕ) : Type 0 where
  pub going : Going (λ (k : Principal). k.name) (principal_in f) (valid_principal_in f) (principal_weight_in f) off_principal t at 0 slots i n now
  pub in_order : T (orderly 0 going.rows)

pub ranking_start : (f : Form) (t : Text) (at : ℕ) (slots : List ℕ) → at ≤ length t → Ranking f t at slots at 0 0
unfolding going_start
ranking_start f t at slots h = record {
  going = going_start (λ (k : Principal). k.name) (principal_in f) (valid_principal_in f) (principal_weight_in f) any_text off_principal (λ q h. tt) (principal_clear f) (principal_on f) t at 0 slots h;
  in_order = tt;
}

module _ (f : Form) (t : Text) (at : ℕ) (slots : List ℕ) (i n now : ℕ) (K : Ranking f t at slots i n now) where
  abbrev NoPrincipals : Type 0
  NoPrincipals = Fails (joined (principal_in f)) (light_all (valid_principal_in f) good_principals (principal_weight_in f) 0) off_principal t at

  abbrev G : Going (λ (k : Principal). k.name) (principal_in f) (valid_principal_in f) (principal_weight_in f) off_principal t at 0 slots i n now
  G = K.going

  -- where no principal follows, these are all
  module _ (o : T (off_principal (drop i t))) where
    pub too_few : n < 2 → now ≤ 8192 → NoPrincipals
    too_few l lt ks q v oq d =
        let (a, g, w) = three (all (valid_principal_in f) ks) (good_principals ks) _ v in
        let r = finish (principal_in f) (valid_principal_in f) (principal_weight_in f) any_text off_principal (λ q h. tt) (principal_clear f) (principal_on f) t at 0 (λ l. true) G.rows i now G.run o tt lt in
        let (same, left) = r.only ks q (and (all (valid_principal_in f) ks && true) _ (and (all (valid_principal_in f) ks) true a tt) w) oq d in
        let (two, x) = order_orderly ks (both (valid_order ks) (distinct (map (λ k. k.name) ks)) g).0 in
        omega (arith, G.counted, ap length same)

    pub principals_good : 2 ≤ n → now ≤ 8192 → length t ≤ 65536 → Listed (λ (k : Principal). k.name) (principal_in f) (valid_principal_in f) good_principals (principal_weight_in f) off_principal t at 0 slots i n now
    principals_good l lt small = record {
      records = record {
        rows = G.rows;
        reads = finish (principal_in f) (valid_principal_in f) (principal_weight_in f) any_text off_principal (λ q h. tt) (principal_clear f) (principal_on f) t at 0 good_principals G.rows i now G.run o
            (and (valid_order G.rows) (distinct (map (λ k. k.name) G.rows)) (orderly_order G.rows (omega (arith, G.counted)) K.in_order) G.apart) lt;
        weighed = G.run.weighed;
        counted = G.counted;
        ends = o;
      };
      held = going_held (λ (k : Principal). k.name) (principal_in f) (valid_principal_in f) (principal_weight_in f) any_text off_principal (λ q h. tt) (principal_clear f) (principal_on f) (principal_named f) (principal_two f) (row_in f) (text_in f) (name_in f) t at 0 slots i n now G small;
    }

  module _ (on : T (off_principal (drop i t)) → ⊥) where
    pub principals_stuck : Fails (principal_in f) (light_one (valid_principal_in f) (principal_weight_in f) now) any_text t i → NoPrincipals
    principals_stuck = stuck (principal_in f) (valid_principal_in f) (principal_weight_in f) any_text off_principal (λ q h. tt) (principal_clear f) (principal_on f) t at 0 G.rows i now G.run on good_principals

    module _ (m e after : ℕ) (E : Entitled (λ (k : Principal). k.name) (principal_in f) (valid_principal_in f) (principal_weight_in f) any_text t i now m e after) where
      -- what the test of the place says
      placed : (has : Bool) → has ≡ has_password E.one.row → in_place n (part t (i + 2) m) has ≡ in_place (0 + length G.rows) E.one.row.name (has_password E.one.row)
      placed has h =
          let z : n ≡ 0 + length G.rows = omega (arith, G.counted) in
          ap (λ (x : ℕ). in_place x (part t (i + 2) m) has) z
          ∙ ap (λ (x : Text). in_place (0 + length G.rows) x has) E.name_holds
          ∙ ap (λ (b : Bool). in_place (0 + length G.rows) E.one.row.name b) h

      pub principal_ahead : i < e
      principal_ahead = ahead t (principal_in f E.one.row) i e E.one.reads.here (principal_some f E.one.row) E.one.reads.low E.one.reads.high

      pub principal_light : after ≤ 8192
      principal_light = light (λ (k : Principal). k.name) (principal_in f) (valid_principal_in f) (principal_weight_in f) any_text off_principal (λ q h. tt) (principal_clear f) (principal_on f) (principal_named f) (principal_two f) (row_in f) (text_in f) (name_in f) t at 0 slots i n now G m e after E

      -- by the weight there is a slot left
      room : 8192 ≤ least_of f * length slots → n < length slots
      room =
          let (v, l) = both (valid_principal_in f E.one.row) (leb (now + principal_weight_in f E.one.row) 8192) E.one.reads.is_fine in
          few f (principals_least f G.rows G.run.all_fine) (principal_least f E.one.row v) (leb→le (now + principal_weight_in f E.one.row) 8192 l) G.run.weighed G.counted
        where
          few : (f : Form) {a b : ℕ} → least_of f * length G.rows ≤ a → least_of f ≤ b → now + b ≤ 8192 → now ≡ 0 + a → n ≡ length G.rows → 8192 ≤ least_of f * length slots → n < length slots
          few current p q r s c h = omega arith
          few former p q r s c h = omega arith

      pub principal_entering : length t ≤ 65536 → 8192 ≤ least_of f * length slots → Entering t at i m n slots
      principal_entering small l =
          entering (λ (k : Principal). k.name) (principal_in f) (valid_principal_in f) (principal_weight_in f) any_text off_principal (λ q h. tt) (principal_clear f) (principal_on f)
          (principal_named f) (principal_two f) (row_in f) (text_in f) (name_in f) t at 0 slots i n now G m e after E small (room l)

      module _ (has : Bool) (is : has ≡ has_password E.one.row) where
        pub misplaced : in_place n (part t (i + 2) m) has ≡ false → NoPrincipals
        misplaced p =
            spoilt (principal_in f) (valid_principal_in f) (principal_weight_in f) any_text off_principal (λ q h. tt) (principal_clear f) (principal_on f) t at 0 G.rows i now G.run on E.one.row e after E.one.reads E.one.weighed good_principals
            (λ ms g.
            let (two, x) = order_orderly (G.rows ++ E.one.row ∷ ms) (both (valid_order (G.rows ++ E.one.row ∷ ms)) (distinct (map (λ k. k.name) (G.rows ++ E.one.row ∷ ms))) g).0 in
            subst (λ (b : Bool). T b) (sym (placed has is) ∙ p) (orderly_at 0 G.rows ms E.one.row x))

        module _ (small : length t ≤ 65536) (slots' : List ℕ) where
          pub principal_again : ((rows : List Row) → Rows rows (part t at i) n slots → Entered rows (part t (i + 2) m) (i - at) n slots slots' false) → NoPrincipals
          principal_again h =
              again (λ (k : Principal). k.name) (principal_in f) (valid_principal_in f) (principal_weight_in f) any_text off_principal (λ q h. tt) (principal_clear f) (principal_on f)
              (principal_named f) (principal_two f) (row_in f) (text_in f) (name_in f) t at 0 slots i n now G m e after E on good_principals
              (λ l g. (both (valid_order l) (distinct (map (λ k. k.name) l)) g).1) slots'
              (h _ (going_rows (λ (k : Principal). k.name) (principal_in f) (valid_principal_in f) (principal_weight_in f) any_text off_principal (λ q h. tt) (principal_clear f) (principal_on f) (principal_named f) (principal_two f) (row_in f) (text_in f) (name_in f) t at 0 slots i n now G small))

          pub principal_next : 8192 ≤ least_of f * length slots → in_place n (part t (i + 2) m) has ≡ true → ((rows : List Row) → Rows rows (part t at i) n slots → Entered rows (part t (i + 2) m) (i - at) n slots slots' true) → Ranking f t at slots' e (n + 1) after
          unfolding go_on
          principal_next l p h = record {
            going = go_on (λ (k : Principal). k.name) (principal_in f) (valid_principal_in f) (principal_weight_in f) any_text off_principal (λ q h. tt) (principal_clear f) (principal_on f)
                (principal_named f) (principal_two f) (row_in f) (text_in f) (name_in f) t at 0 slots i n now G m e after E on (room l) slots'
                (h _ (going_rows (λ (k : Principal). k.name) (principal_in f) (valid_principal_in f) (principal_weight_in f) any_text off_principal (λ q h. tt) (principal_clear f) (principal_on f) (principal_named f) (principal_two f) (row_in f) (text_in f) (name_in f) t at 0 slots i n now G small));
            in_order = orderly_last 0 G.rows E.one.row K.in_order (subst (λ (b : Bool). T b) (sym (sym (placed has is) ∙ p)) tt);
          }

-- The text of now of a state whose former text was checked: what it weighs, and that it fits.
-- Assumes nothing.
use mathlib.Core.Path.{◌≡◌, refl, sym, ap, ◌∙◌}
use mathlib.Core.Bool.{Bool, true, false, ◌&&◌, not}
use mathlib.Core.Option.{Option, none, some}
use mathlib.Core.List.{List, [], ◌∷◌, ◌++◌, map}
use Prim.Native.Nat.{ℕ, ◌+◌, ◌*◌, ◌-◌, ◌≤◌}
use native.Mathlib.Omega.{arith}
use lib.Dec.{T, eqb, leb, eqb→eq, le→leb}
use lib.ListN.{length, take, drop, length-append, length-drop}
use lib.Seq.{take-append_seam}
use Rattle.language.specs.Text.{Text, all, joined, sum, when◌then◌else◌}
use Rattle.language.specs.State.{Principal, Store}
use Rattle.language.specs.Weight.{limit, principal_weight, store_weight}
use Rattle.language.specs.Identifiers.{is_name}
use Rattle.language.specs.Encode.{tab, newline, head_text, principal_line, principal_text, principals_text, delegator_text, variables_text, assertions_text, state_text}
use Rattle.language.specs.Valid.{valid_password, valid_principal, well_formed, valid_store}
use Rattle.language.specs.Former.{former_line, former_principal, former_principal_weight, former_weight, uncounted, valid_uncounted, former}
use Rattle.language.proofs.Logic.Tests.{both, and, three}
use Rattle.language.proofs.Logic.Lists.{five_joined}
use Rattle.language.proofs.StateText.Lines.{is_clean}
use Rattle.language.proofs.StateText.Clean.{name_clean, string_clean}
use Rattle.language.proofs.StateText.Shape.{formed}
use Rattle.language.proofs.StateText.Bound.{state_bound}
use Rattle.language.proofs.StateText.Formers.{FormerShape, former_shape, all_uncounted, decode_former_lem}
use Rattle.text.specs.Parts.{part}
use Rattle.store.specs.Rows.{row_in}
use Rattle.store.proofs.Records.{joined_append, slots_long}
use Rattle.store.proofs.Holders.{rows_in}
use Rattle.validate.specs.Checked.{FormerUnderstood, rest_text}
use Rattle.validate.specs.declared.Parts.{Parts}
use Rattle.bring.specs.Counts.{with_count, counted, brought_text, Bringing}

-- ---- the lines

-- a name or a password has no newline, and stays as it is
clean_stays : (t : Text) → T (is_clean t) → counted t ≡ t
clean_stays [] h = refl
clean_stays (b ∷ t) h =
    let (x, y) = both (not (eqb b tab) && not (eqb b newline)) (is_clean t) h in
    let (u, v) = both (not (eqb b tab)) (not (eqb b newline)) x in
    ap (λ (l : Text). l ++ counted t) (one (eqb b newline) v) ∙ ap (λ (l : Text). b ∷ l) (clean_stays t y)
  where
    one : (c : Bool) → T (not c) → (when c then tab ∷ 48 ∷ newline ∷ [] else b ∷ []) ≡ b ∷ []
    one true h = absurd h
    one false h = refl

-- a clean field, and what follows it
clean_first : (t rest : Text) → T (is_clean t) → counted (t ++ rest) ≡ t ++ counted rest
clean_first t rest h = joined_append with_count t rest ∙ ap (λ (l : Text). l ++ counted rest) (clean_stays t h)

line_counted : (p : Text) (o : Option Text) → T (is_name p) → T (valid_password o) → counted (former_line p o) ≡ principal_line p o 0
line_counted p none n v = ap (λ (l : Text). 78 ∷ 9 ∷ l) (clean_first p (newline ∷ []) (name_clean p n))
line_counted p (some t) n v =
    ap (λ (l : Text). 80 ∷ 9 ∷ l)
    (clean_first p (tab ∷ (t ++ newline ∷ [])) (name_clean p n) ∙ ap (λ (l : Text). p ++ tab ∷ l) (clean_first t (newline ∷ []) (string_clean t v)))

principal_counted : (k : Principal) → T (valid_uncounted k) → counted (former_principal k) ≡ principal_text k
principal_counted k h =
    let (v, u) = both (valid_principal k) (uncounted k) h in
    let (n, w, c) = three (is_name k.name) (valid_password k.password) _ v in
    line_counted k.name k.password n w ∙ ap (λ (m : ℕ). principal_line k.name k.password m) (sym (eqb→eq k.count 0 u))

principals_counted : (ks : List Principal) → T (all valid_uncounted ks) → counted (joined former_principal ks) ≡ principals_text ks
principals_counted [] h = refl
principals_counted (k ∷ ks) h =
    let (a, b) = both (valid_uncounted k) (all valid_uncounted ks) h in
    joined_append with_count (former_principal k) (joined former_principal ks) ∙ (λ i. principal_counted k a i ++ principals_counted ks b i)

-- ---- the weight

heavier : (ks : List Principal) → sum principal_weight ks ≡ sum former_principal_weight ks + 10 * length ks
heavier [] = refl
heavier (k ∷ ks) = let h = heavier ks in omega arith

store_heavier : (s : Store) → store_weight s ≡ former_weight s + 10 * length s.principals
store_heavier s = let h = heavier s.principals in omega arith

-- ---- a text that was checked

module _ (t : Text) (slots-p slots_v assertions : List ℕ) (p : Parts) (U : FormerUnderstood t slots-p slots_v assertions p) where
  abbrev s : Store
  s = U.state

  shaped : (n : ℕ) × FormerShape n U.state
  shaped =
      let (n, H) = (decode_former_lem t s).0 U.decoded in
      (n, former_shape n s H.is_valid)

  pub weighs : store_weight U.state ≡ p.weight + 10 * p.principals
  weighs = omega (arith, store_heavier s, U.represents.weighed, U.represents.principals.counted)

  -- the sum that is compared does not wrap
  pub few : length slots-p ≡ 4096 → p.principals ≤ 4096
  few e =
      let a : Text = part t p.principals_from p.principals_to in
      omega (arith, slots_long (map (row_in former) s.principals) a p.principals slots-p (rows_in former s.principals a p.principals slots-p U.represents.principals))

  pub light_before : p.weight ≤ 8192
  light_before = let (n, g) = shaped in omega (arith, g.light, U.represents.weighed)

  rest_is : part t p.principals_to p.used ≡ rest_text s
  rest_is =
      let a : ℕ = p.principals_to in
      let e : length t - a ≡ length (rest_text s) + (length t - p.used) =
      sym (length-drop a t) ∙ ap length U.rest ∙ length-append (rest_text s) (drop p.used t) ∙ ap (λ (k : ℕ). length (rest_text s) + k) (length-drop p.used t) in
      let n : p.used - a ≡ length (rest_text s) = omega (arith, U.rest_order, U.represents.used_within) in
      (λ i. take (n i) (U.rest i)) ∙ take-append_seam (rest_text s) (drop p.used t)

  pub brought : brought_text t p ≡ state_text U.state
  brought =
      let (n, g) = shaped in
      let valid : T (all valid_uncounted s.principals) = all_uncounted s.principals g.shaped.principals_valid g.uncounted_all in
      let lines : counted (part t p.principals_from p.principals_to) ≡ principals_text s.principals = ap counted U.represents.principals.is_text_lem ∙ principals_counted s.principals valid in
      (λ i. head_text (U.represents.is_open i) ++ (lines i ++ rest_is i))
      ∙ sym (five_joined (head_text s.is_open) (principals_text s.principals) (delegator_text s.delegator) (variables_text s.variables) (assertions_text s.assertions))

  module _ (light : p.weight + 10 * p.principals ≤ 8192) where
    still_valid : T (valid_store U.state)
    still_valid =
        let (n, g) = shaped in
        let l : store_weight s ≤ 8192 = omega (arith, weighs) in
        and (well_formed s) (leb (store_weight s) limit) (formed s g.shaped) (le→leb (store_weight s) 8192 l)

    pub bringing : (room : ℕ) → room ≡ 65536 → Bringing t p room
    bringing room e = record {
      order = U.represents.principals_order;
      rest_order = U.rest_order;
      within = U.represents.used_within;
      size = e;
      fits = omega (arith, ap length brought, state_bound s still_valid);
    }

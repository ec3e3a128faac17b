-- Laws of one principal's line, in the lines of now or in the former ones.
-- Assumes nothing.
use mathlib.Core.Path.{◌≡◌, refl, sym, ap, subst, ◌∙◌}
use Prim.Native.Nat.{ℕ, ◌+◌, ◌-◌, ◌≤◌, ◌<◌}
use native.Mathlib.Omega.{arith}
use mathlib.Core.Bool.{Bool, true, false, ◌&&◌}
use mathlib.Core.Option.{Option, none, some}
use mathlib.Core.List.{[], ◌∷◌, ◌++◌, append_assoc}
use lib.Dec.{T, eqb, leb, leb→le, le→leb, eqb→eq}
use lib.ListN.{length, get_or, drop}
use borrow.Author.Tests.{eq-eqb, ne_eqb}
use Rattle.language.specs.Text.{Text, when◌then◌else◌, ◌≟◌, decimal, all, present}
use Rattle.language.specs.Bytes.{string_byte, word_byte}
use Rattle.language.specs.State.{Principal, last_count, admin, anyone}
use Rattle.language.specs.Weight.{name_weight, password_weight}
use Rattle.language.specs.Identifiers.{is_name, is_string}
use Rattle.language.specs.Valid.{valid_password, has_password}
use Rattle.language.specs.Decode.{number}
use Rattle.language.specs.Former.{Form, current, former, principal_in, principal_weight_in, valid_principal_in}
use Rattle.language.proofs.Logic.Tests.{both, and, three, and_three}
use Rattle.language.proofs.StateText.Clean.{decimal_number}
use Rattle.language.proofs.StateText.Digits.{decimal_digits}
use Rattle.text.specs.Parts.{part}
use Rattle.lines.specs.Cuts.{Field, Digits, is_digit}
use Rattle.lines.proofs.Cuts.{unique, only, name_only}
use Rattle.record_fields.specs.Sections.{Reads, Fails, light_one, One, Entitled, any_text}
use Rattle.record_fields.proofs.Opening.{twice, tail_of, byte_here, next_here, part_length}
use Rattle.record_fields.proofs.Sorts.{inner_fails, inner_reads, any_weaker}
use Rattle.principal_lines.specs.Principals.{stop_of, tail_text, fine_count, Secret, secret_text, fine_secret, secret_weight, base_of, in_place}

-- ---- what a principal's line holds

-- a valid principal, part by part
pub valid_in : (f : Form) (x : Text) (o : Option Text) (n : ℕ) → T (valid_principal_in f (record { name = x; password = o; count = n })) → T (is_name x) × T (valid_password o) × T (fine_count f n)
valid_in current x o n h = three (is_name x) (valid_password o) (leb n last_count) h
valid_in former x o n h =
    let (v, u) = both (is_name x && valid_password o && leb n last_count) (eqb n 0) h in
    let (a, b, c) = three (is_name x) (valid_password o) (leb n last_count) v in
    (a, b, u)

in_valid : (f : Form) (x : Text) (o : Option Text) (n : ℕ) → T (is_name x) → T (valid_password o) → T (fine_count f n) → T (valid_principal_in f (record { name = x; password = o; count = n }))
in_valid current x o n a b c = and_three (is_name x) (valid_password o) (leb n last_count) a b c
in_valid former x o n a b c =
    let z : n ≡ 0 = eqb→eq n 0 c in
    and (is_name x && valid_password o && leb n last_count) (eqb n 0) (and_three (is_name x) (valid_password o) (leb n last_count) a b (le→leb n 4294967295 (omega arith))) c

pub weight_in_lem : (f : Form) (x : Text) (o : Option Text) (n : ℕ) → principal_weight_in f (record { name = x; password = o; count = n }) ≡ base_of f + name_weight x + password_weight o
weight_in_lem current x o n = refl
weight_in_lem former x o n = refl

keyed_text : (f : Form) (x : Text) (s : Secret) (q : Text) → principal_in f (record { name = x; password = some s.password; count = s.count }) ++ q ≡ 80 ∷ 9 ∷ (x ++ 9 ∷ (secret_text f s ++ q))
keyed_text current x s q = ap (λ (l : Text). 80 ∷ 9 ∷ l) (append_assoc x (9 ∷ secret_text current s) q)
keyed_text former x s q = ap (λ (l : Text). 80 ∷ 9 ∷ l) (append_assoc x (9 ∷ secret_text former s) q)

plain_text : (f : Form) (x : Text) (n : ℕ) (q : Text) → principal_in f (record { name = x; password = none; count = n }) ++ q ≡ 78 ∷ 9 ∷ (x ++ stop_of f ∷ (tail_text f n ++ q))
plain_text current x n q = ap (λ (l : Text). 78 ∷ 9 ∷ l) (append_assoc x (9 ∷ tail_text current n) q)
plain_text former x n q = ap (λ (l : Text). 78 ∷ 9 ∷ l) (append_assoc x (10 ∷ []) q)

-- ---- the count

module _ (t : Text) (at : ℕ) where
  tail_text_lem : (n : ℕ) (q : Text) → tail_text current n ++ q ≡ decimal n ++ 10 ∷ q
  tail_text_lem n q = append_assoc (decimal n) (10 ∷ []) q

  pub tail_read : (n e : ℕ) → Digits t at n e → Reads (tail_text current) (fine_count current) any_text t at n (e + 1)
  tail_read n e D = record {
    low = omega (arith, D.low);
    high = omega (arith, D.high);
    is_fine = le→leb n 4294967295 D.bound;
    here = D.here ∙ sym (tail_text_lem n (drop (e + 1) t));
    only = λ m q f c d.
        let bound : m ≤ 4294967295 = leb→le m 4294967295 f in
        let (same, left) = unique is_digit 10 refl (decimal m) (decimal n) q (drop (e + 1) t) (decimal_digits m bound) (decimal_digits n D.bound) (sym (tail_text_lem m q) ∙ sym d ∙ D.here) in
        (sym (decimal_number m bound) ∙ ap (number 0) same ∙ decimal_number n D.bound, left);
  }

-- ---- the password

stop_string : (f : Form) → string_byte (stop_of f) ≡ false
stop_string current = refl
stop_string former = refl

pub stop_word : (f : Form) → word_byte (stop_of f) ≡ false
stop_word current = refl
stop_word former = refl

secret_only : (f : Form) (t : Text) (at m : ℕ) → Field (all string_byte) (stop_of f) t at m → (u q : Text) → T (is_string u) → drop at t ≡ u ++ stop_of f ∷ q → (part t at m ≡ u) × (drop (m + 1) t ≡ q)
secret_only f t at m F = only string_byte is_string (λ x h. h) (stop_of f) (stop_string f) t at m F

module _ (f : Form) (t : Text) (at w : ℕ) where
  abbrev NoSecret : Type 0
  NoSecret = Fails (secret_text f) (light_one (fine_secret f) secret_weight w) any_text t at

  secret_text_lem : (s : Secret) (q : Text) → secret_text f s ++ q ≡ s.password ++ stop_of f ∷ (tail_text f s.count ++ q)
  secret_text_lem s q = append_assoc s.password (stop_of f ∷ tail_text f s.count) q

  -- what a secret that stands here is
  secret_is : (s : Secret) → T (light_one (fine_secret f) secret_weight w s) → T (is_string s.password) × T (fine_count f s.count) × (w + length s.password ≤ 8192)
  secret_is s g =
      let (v, l) = both (fine_secret f s) (leb (w + length s.password) 8192) g in
      let (a, b) = both (is_string s.password) (fine_count f s.count) v in
      (a, b, leb→le (w + length s.password) 8192 l)

  module _ (m : ℕ) (F : Field (all string_byte) (stop_of f) t at m) where
    size : length (part t at m) ≡ m - at
    size = part_length t at m F.low (omega (arith, F.high))

    pub secret_heavy : 8192 < w + (m - at) → NoSecret
    secret_heavy h s q g c d =
        let (a, b, l) = secret_is s g in
        let (same, left) = secret_only f t at m F s.password _ a (d ∙ secret_text_lem s q) in
        omega (arith, size, ap length same)

    abbrev with_count_lem : ℕ → Secret
    with_count_lem n = record { password = part t at m; count = n }

    cases_secret : (s : Secret) (q : Text) → T (light_one (fine_secret f) secret_weight w s) → T (any_text q) → drop at t ≡ secret_text f s ++ q
        → (n : ℕ) × (s ≡ with_count_lem n) × T (fine_count f n) × (drop (m + 1) t ≡ tail_text f n ++ q)
    cases_secret s q g c d =
        let (a, b, l) = secret_is s g in
        let (same, left) = secret_only f t at m F s.password _ a (d ∙ secret_text_lem s q) in
        (s.count, ap (λ (u : Text). record { password = u; count = s.count }) (sym same), b, left)

    pub secret_tailless : Fails (tail_text f) (fine_count f) any_text t (m + 1) → NoSecret
    secret_tailless = inner_fails (secret_text f) (light_one (fine_secret f) secret_weight w) any_text (tail_text f) (fine_count f) any_text (any_weaker any_text) with_count_lem t at (m + 1) cases_secret

    pub secret_good : (n e after : ℕ) → Reads (tail_text f) (fine_count f) any_text t (m + 1) n e → after ≡ w + (m - at) → after ≤ 8192 → One (secret_text f) (fine_secret f) secret_weight any_text t at w e after
    secret_good n e after r s h =
        let z : w + length (part t at m) ≤ 8192 = omega (arith, size) in
        let k : drop at t ≡ secret_text f (with_count_lem n) ++ drop e t = F.here ∙ ap (λ (x : Text). part t at m ++ stop_of f ∷ x) r.here ∙ sym (secret_text_lem (with_count_lem n) (drop e t)) in
        record {
          row = with_count_lem n;
          reads = inner_reads (secret_text f) (light_one (fine_secret f) secret_weight w) any_text (tail_text f) (fine_count f) any_text (any_weaker any_text) with_count_lem t at (m + 1) cases_secret n e (omega (arith, F.low)) r
              (and (fine_secret f (with_count_lem n)) (leb (w + length (part t at m)) 8192) (and (is_string (part t at m)) (fine_count f n) F.is_fine r.is_fine) (le→leb (w + length (part t at m)) 8192 z)) k;
          weighed = omega (arith, size);
        }

-- ---- the line

pub base_small : (f : Form) → base_of f ≤ 11
base_small current = omega arith
base_small former = omega arith

-- the first letter, and the tab behind it
abbrev letter_for : Option Text → ℕ
letter_for none = 78
letter_for (some u) = 80

module _ (f : Form) (t : Text) (at w : ℕ) where
  abbrev NoPrincipal : Type 0
  NoPrincipal = Fails (principal_in f) (light_one (valid_principal_in f) (principal_weight_in f) w) any_text t at

  -- what a principal that stands here says of the first two bytes
  first_two : (x : Text) (o : Option Text) (n : ℕ) (q : Text) → drop at t ≡ principal_in f (record { name = x; password = o; count = n }) ++ q → (get_or t at 0 ≡ letter_for o) × (get_or t (at + 1) 0 ≡ 9)
  first_two x none n q d = (byte_here t at _ (d ∙ plain_text f x n q), next_here t at _ (d ∙ plain_text f x n q))
  first_two x (some u) n q d =
      let e = d ∙ keyed_text f x (record { password = u; count = n }) q in
      (byte_here t at _ e, next_here t at _ e)

  pub principal_tab : (get_or t (at + 1) 0 ≡ 9 → ⊥) → NoPrincipal
  principal_tab h k q g c d = h (first_two k.name k.password k.count q d).1

  pub principal_letter : (get_or t at 0 ≡ 80 → ⊥) → (get_or t at 0 ≡ 78 → ⊥) → NoPrincipal
  principal_letter p n k q g c d = go k.password (first_two k.name k.password k.count q d).0
    where
      go : (o : Option Text) → get_or t at 0 ≡ letter_for o → ⊥
      go none e = n e
      go (some u) e = p e

  -- the letter tells whether there is a password
  pub letter_password : (k : Principal) (q : Text) → drop at t ≡ principal_in f k ++ q → eqb (get_or t at 0) 80 ≡ has_password k
  letter_password k q d = go k.password (first_two k.name k.password k.count q d).0
    where
      go : (o : Option Text) → get_or t at 0 ≡ letter_for o → eqb (get_or t at 0) 80 ≡ present o
      go none e = ne_eqb (get_or t at 0) 80 (λ z. absurd (omega arith))
      go (some u) e = eq-eqb (get_or t at 0) 80 e

  -- a principal that stands here, part by part
  light_is : (x : Text) (o : Option Text) (n : ℕ) → T (light_one (valid_principal_in f) (principal_weight_in f) w (record { name = x; password = o; count = n }))
      → T (is_name x) × T (valid_password o) × T (fine_count f n) × (w + (base_of f + name_weight x + password_weight o) ≤ 8192)
  light_is x o n g =
      let k : Principal = record { name = x; password = o; count = n } in
      let (v, l) = both (valid_principal_in f k) (leb (w + principal_weight_in f k) 8192) g in
      let (a, b, c) = valid_in f x o n v in
      (a, b, c, subst (λ (m : ℕ). w + m ≤ 8192) (weight_in_lem f x o n) (leb→le (w + principal_weight_in f k) 8192 l))

  is_light : (x : Text) (o : Option Text) (n : ℕ) → T (is_name x) → T (valid_password o) → T (fine_count f n) → w + (base_of f + name_weight x + password_weight o) ≤ 8192
      → T (light_one (valid_principal_in f) (principal_weight_in f) w (record { name = x; password = o; count = n }))
  is_light x o n a b c l =
      let k : Principal = record { name = x; password = o; count = n } in
      and (valid_principal_in f k) (leb (w + principal_weight_in f k) 8192) (in_valid f x o n a b c)
      (le→leb (w + principal_weight_in f k) 8192 (subst (λ (m : ℕ). w + m ≤ 8192) (sym (weight_in_lem f x o n)) l))

  module _ (is-tab : get_or t (at + 1) 0 ≡ 9) where
    module _ (is-p : get_or t at 0 ≡ 80) where
      -- a principal that stands here has a password
      abbrev Keyed : Principal → Text → Type 0
      Keyed k q = (s : Secret) × (k ≡ record { name = k.name; password = some s.password; count = s.count }) × T (is_name k.name) × T (fine_secret f s) × (w + (base_of f + name_weight k.name + length s.password) ≤ 8192)
          × (drop (at + 2) t ≡ k.name ++ 9 ∷ (secret_text f s ++ q))

      has_key : (k : Principal) (q : Text) → T (light_one (valid_principal_in f) (principal_weight_in f) w k) → drop at t ≡ principal_in f k ++ q → Keyed k q
      has_key k q g d = go k.password g d
        where
          go : (o : Option Text) → let l : Principal = record { name = k.name; password = o; count = k.count } in T (light_one (valid_principal_in f) (principal_weight_in f) w l) → drop at t ≡ principal_in f l ++ q → Keyed l q
          go none g d = absurd (let e = byte_here t at _ (d ∙ plain_text f k.name k.count q) in omega arith)
          go (some u) g d =
              let (a, b, c, l) = light_is k.name (some u) k.count g in
              let s : Secret = record { password = u; count = k.count } in
              (s, refl, a, and (is_string u) (fine_count f k.count) b c, l, tail_of 9 9 _ _ (tail_of 80 80 _ _ (sym (twice t at 80 9 (omega arith) (omega arith) is-p is-tab) ∙ d ∙ keyed_text f k.name s q)))

      pub keyed_unnamed : ((x r : Text) → T (is_name x) → drop (at + 2) t ≡ x ++ 9 ∷ r → ⊥) → NoPrincipal
      keyed_unnamed never k q g c d = let (s, is, n, i, l, e) = has_key k q g d in never k.name (secret_text f s ++ q) n e

      module _ (m : ℕ) (n : Field is_name 9 t (at + 2) m) where
        title : Text
        title = part t (at + 2) m

        with_key : Secret → Principal
        with_key s = record { name = title; password = some s.password; count = s.count }

        before : ℕ
        before = w + base_of f + name_weight title

        cases : (k : Principal) (q : Text) → T (light_one (valid_principal_in f) (principal_weight_in f) w k) → T (any_text q) → drop at t ≡ principal_in f k ++ q
            → (s : Secret) × (k ≡ with_key s) × T (light_one (fine_secret f) secret_weight before s) × (drop (m + 1) t ≡ secret_text f s ++ q)
        unfolding title with_key before
        cases k q g c d =
            let (s, is, nm, i, l, e) = has_key k q g d in
            let (same, left) = name_only 9 refl t (at + 2) m n k.name (secret_text f s ++ q) nm e in
            let z : before + length s.password ≤ 8192 = omega (arith, ap name_weight same) in (
              s,
              is ∙ ap (λ (x : Text). record { name = x; password = some s.password; count = s.count }) (sym same),
              and (fine_secret f s) (leb (before + length s.password) 8192) i (le→leb (before + length s.password) 8192 z),
              left,
            )

        pub keyed_secretless : Fails (secret_text f) (light_one (fine_secret f) secret_weight (w + base_of f + name_weight (part t (at + 2) m))) any_text t (m + 1) → NoPrincipal
        unfolding before title
        keyed_secretless =
            inner_fails (principal_in f) (light_one (valid_principal_in f) (principal_weight_in f) w) any_text (secret_text f) (light_one (fine_secret f) secret_weight before) any_text (any_weaker any_text) with_key t at (m + 1) cases

        pub keyed_good : (e after : ℕ) → One (secret_text f) (fine_secret f) secret_weight any_text t (m + 1) (w + base_of f + name_weight (part t (at + 2) m)) e after
            → Entitled (λ (k : Principal). k.name) (principal_in f) (valid_principal_in f) (principal_weight_in f) any_text t at w m e after
        unfolding title with_key before
        keyed_good e after o =
            let s : Secret = o.row in
            let r = o.reads in
            let (v, l) = both (fine_secret f s) (leb (before + length s.password) 8192) r.is_fine in
            let (i, c) = both (is_string s.password) (fine_count f s.count) v in
            let k : before + length s.password ≤ 8192 = leb→le (before + length s.password) 8192 l in
            let z : w + (base_of f + name_weight title + length s.password) ≤ 8192 = omega arith in
            let h : drop at t ≡ principal_in f (with_key s) ++ drop e t =
            twice t at 80 9 (omega arith) (omega arith) is-p is-tab
            ∙ ap (λ (x : Text). 80 ∷ 9 ∷ x) (n.here ∙ ap (λ (x : Text). title ++ 9 ∷ x) r.here)
            ∙ sym (keyed_text f title s (drop e t)) in
            record {
              one = record {
                row = with_key s;
                reads =
                    inner_reads (principal_in f) (light_one (valid_principal_in f) (principal_weight_in f) w) any_text (secret_text f) (light_one (fine_secret f) secret_weight before) any_text (any_weaker any_text) with_key t at (m + 1) cases s e (omega (arith, n.low)) r
                    (is_light title (some s.password) s.count n.is_fine i c z) h;
                weighed = omega (arith, o.weighed, weight_in_lem f title (some s.password) s.count);
              };
              mid_low = n.low;
              mid_high = omega (arith, n.high);
              name_holds = refl;
            }

    module _ (is-n : get_or t at 0 ≡ 78) where
      -- a principal that stands here has no password
      abbrev Plain : Principal → Text → Type 0
      Plain k q = (k ≡ record { name = k.name; password = none; count = k.count }) × T (is_name k.name) × T (fine_count f k.count) × (w + (base_of f + name_weight k.name + 0) ≤ 8192)
          × (drop (at + 2) t ≡ k.name ++ stop_of f ∷ (tail_text f k.count ++ q))

      has_none : (k : Principal) (q : Text) → T (light_one (valid_principal_in f) (principal_weight_in f) w k) → drop at t ≡ principal_in f k ++ q → Plain k q
      has_none k q g d = go k.password g d
        where
          go : (o : Option Text) → let l : Principal = record { name = k.name; password = o; count = k.count } in T (light_one (valid_principal_in f) (principal_weight_in f) w l) → drop at t ≡ principal_in f l ++ q → Plain l q
          go (some u) g d = absurd (let e = byte_here t at _ (d ∙ keyed_text f k.name (record { password = u; count = k.count }) q) in omega arith)
          go none g d =
              let (a, b, c, l) = light_is k.name none k.count g in
              (refl, a, c, l, tail_of 9 9 _ _ (tail_of 78 78 _ _ (sym (twice t at 78 9 (omega arith) (omega arith) is-n is-tab) ∙ d ∙ plain_text f k.name k.count q)))

      pub plain_unnamed : ((x r : Text) → T (is_name x) → drop (at + 2) t ≡ x ++ stop_of f ∷ r → ⊥) → NoPrincipal
      plain_unnamed never k q g c d = let (s, n, u, l, e) = has_none k q g d in never k.name _ n e

      module _ (m : ℕ) (n : Field is_name (stop_of f) t (at + 2) m) where
        pub plain_heavy : 8192 < w + base_of f + name_weight (part t (at + 2) m) → NoPrincipal
        plain_heavy h k q g c d =
            let (s, nm, u, l, e) = has_none k q g d in
            let (same, left) = name_only (stop_of f) (stop_word f) t (at + 2) m n k.name _ nm e in
            omega (arith, ap name_weight same)

        abbrev with_none : ℕ → Principal
        with_none k = record { name = part t (at + 2) m; password = none; count = k }

        cases_plain : (k : Principal) (q : Text) → T (light_one (valid_principal_in f) (principal_weight_in f) w k) → T (any_text q) → drop at t ≡ principal_in f k ++ q
            → (u : ℕ) × (k ≡ with_none u) × T (fine_count f u) × (drop (m + 1) t ≡ tail_text f u ++ q)
        cases_plain k q g c d =
            let (s, nm, u, l, e) = has_none k q g d in
            let (same, left) = name_only (stop_of f) (stop_word f) t (at + 2) m n k.name _ nm e in
            (k.count, s ∙ ap (λ (x : Text). record { name = x; password = none; count = k.count }) (sym same), u, left)

        pub plain_tailless : Fails (tail_text f) (fine_count f) any_text t (m + 1) → NoPrincipal
        plain_tailless = inner_fails (principal_in f) (light_one (valid_principal_in f) (principal_weight_in f) w) any_text (tail_text f) (fine_count f) any_text (any_weaker any_text) with_none t at (m + 1) cases_plain

        pub plain_good : (u e after : ℕ) → Reads (tail_text f) (fine_count f) any_text t (m + 1) u e → after ≡ w + base_of f + name_weight (part t (at + 2) m) → after ≤ 8192
            → Entitled (λ (k : Principal). k.name) (principal_in f) (valid_principal_in f) (principal_weight_in f) any_text t at w m e after
        plain_good u e after r is h =
            let x : Text = part t (at + 2) m in
            let z : w + (base_of f + name_weight x + 0) ≤ 8192 = omega arith in
            let k : drop at t ≡ principal_in f (with_none u) ++ drop e t =
            twice t at 78 9 (omega arith) (omega arith) is-n is-tab ∙ ap (λ (y : Text). 78 ∷ 9 ∷ y) (n.here ∙ ap (λ (y : Text). x ++ stop_of f ∷ y) r.here) ∙ sym (plain_text f x u (drop e t)) in
            record {
              one = record {
                row = with_none u;
                reads =
                    inner_reads (principal_in f) (light_one (valid_principal_in f) (principal_weight_in f) w) any_text (tail_text f) (fine_count f) any_text (any_weaker any_text) with_none t at (m + 1) cases_plain u e (omega (arith, n.low)) r
                    (is_light x none u n.is_fine tt r.is_fine z) k;
                weighed = omega (arith, weight_in_lem f x none u);
              };
              mid_low = n.low;
              mid_high = omega (arith, n.high);
              name_holds = refl;
            }

-- ---- places

and_no : (b : Bool) → false ≡ (b && false)
and_no true = refl
and_no false = refl

module _ (n : ℕ) (x : Text) (has : Bool) where
  first_place : n ≡ 0 → in_place n x has ≡ ((x ≟ admin) && has)
  first_place e = ap (λ (b : Bool). when b then (x ≟ admin) && has else when eqb n 1 then x ≟ anyone else has) (eq-eqb n 0 e)

  later : (n ≡ 0 → ⊥) → in_place n x has ≡ (when eqb n 1 then x ≟ anyone else has)
  later z = ap (λ (b : Bool). when b then (x ≟ admin) && has else when eqb n 1 then x ≟ anyone else has) (ne_eqb n 0 z)

  pub place_other : (n ≡ 0 → ⊥) → (n ≡ 1 → ⊥) → has ≡ in_place n x has
  place_other z o = sym (later z ∙ ap (λ (b : Bool). when b then x ≟ anyone else has) (ne_eqb n 1 o))

-- Laws of one assertion's line.
-- Assumes nothing.
use mathlib.Core.Path.{◌≡◌, refl, sym, ap, ◌∙◌}
use Prim.Native.Nat.{ℕ, ◌+◌, ◌-◌, ◌≤◌, ◌<◌}
use native.Mathlib.Omega.{arith}
use mathlib.Core.Bool.{Bool, true, false, ◌||◌}
use mathlib.Core.List.{List, [], ◌∷◌, ◌++◌, append_assoc}
use lib.Dec.{T, eqb, leb, leb→le, le→leb}
use lib.ListN.{length, get_or, drop, take}
use lib.Seq.{drop-drop, take-suc}
use native.Mathlib.Numerals.{add-one}
use borrow.Author.Tests.{eqb-true}
use Rattle.language.specs.Text.{Text, when◌then◌else◌, all, any, member}
use Rattle.language.specs.Syntax.{Name, Right, read, write, append, delegate}
use Rattle.language.specs.State.{Assertion}
use Rattle.language.specs.Weight.{name_weight, assertion_weight}
use Rattle.language.specs.Bytes.{word_byte}
use Rattle.language.specs.Encode.{assertion_text}
use Rattle.store.specs.Rows.{position}
use Rattle.language.proofs.Logic.Tests.{both, and, three, and_three}
use Rattle.text.specs.Parts.{part}
use Rattle.lines.proofs.Cuts.{only, wider}
use Rattle.assertion.specs.Packed.{pack}
use Rattle.named_rights.specs.Numbers.{code}
use Rattle.record_fields.specs.Sections.{Fails, light_one, any_text}
use Rattle.record_fields.proofs.Opening.{twice, tail_of, byte_here, next_here, part_length}
use Rattle.references.specs.Known.{Member}
use Rattle.assertion_lines.specs.Assertions.{known_names, byte_of, code_of, Granting}
use Rattle.language.proofs.Logic.Lists.{any_last}

-- ---- letters

pub code_of_lem : (r : Right) → code_of (byte_of r) ≡ code r
code_of_lem read = refl
code_of_lem write = refl
code_of_lem append = refl
code_of_lem delegate = refl

-- the right of a letter that stands for one
pub right_of : (b : ℕ) → (code_of b ≡ 4 → ⊥) → (r : Right) × (byte_of r ≡ b) × (code r ≡ code_of b)
right_of b n = go (eqb b 114) (eqb b 119) (eqb b 97) (eqb b 100) refl refl refl refl n
  where
    go : (c d e f : Bool) → eqb b 114 ≡ c → eqb b 119 ≡ d → eqb b 97 ≡ e → eqb b 100 ≡ f
        → (◌≡◌ {A = ℕ} (when c then 0 else when d then 1 else when e then 2 else when f then 3 else 4) 4 → ⊥)
        → (r : Right) × (byte_of r ≡ b) × (code r ≡ (when c then 0 else when d then 1 else when e then 2 else when f then 3 else 4))
    go true d e f p q r s n = (read, sym (eqb-true b 114 p), refl)
    go false true e f p q r s n = (write, sym (eqb-true b 119 q), refl)
    go false false true f p q r s n = (append, sym (eqb-true b 97 r), refl)
    go false false false true p q r s n = (delegate, sym (eqb-true b 100 s), refl)
    go false false false false p q r s n = absurd (n refl)

-- ---- the line

nested : (x q p r : Text) (b : ℕ) → (x ++ 9 ∷ (q ++ 9 ∷ (b ∷ 9 ∷ (p ++ 10 ∷ [])))) ++ r ≡ x ++ 9 ∷ (q ++ 9 ∷ (b ∷ 9 ∷ (p ++ 10 ∷ r)))
nested x q p r b = simp append_assoc

assertion_text_lem : (a : Assertion) (r : Text) → assertion_text a ++ r ≡ 65 ∷ 9 ∷ (a.variable ++ 9 ∷ (a.from ++ 9 ∷ (byte_of a.right ∷ 9 ∷ (a.to ++ 10 ∷ r))))
assertion_text_lem a r = go a.right
  where
    go : (k : Right) → assertion_text (record { variable = a.variable; from = a.from; right = k; to = a.to }) ++ r ≡ 65 ∷ 9 ∷ (a.variable ++ 9 ∷ (a.from ++ 9 ∷ (byte_of k ∷ 9 ∷ (a.to ++ 10 ∷ r))))
    go read = ap (λ (l : Text). 65 ∷ 9 ∷ l) (nested a.variable a.from a.to r 114)
    go write = ap (λ (l : Text). 65 ∷ 9 ∷ l) (nested a.variable a.from a.to r 119)
    go append = ap (λ (l : Text). 65 ∷ 9 ∷ l) (nested a.variable a.from a.to r 97)
    go delegate = ap (λ (l : Text). 65 ∷ 9 ∷ l) (nested a.variable a.from a.to r 100)

module _ (ps xs : List Name) (pw : (x : Text) → T (member x ps) → T (all word_byte x)) (xw : (x : Text) → T (member x xs) → T (all word_byte x)) (t : Text) (at w : ℕ) where
  abbrev fine : Assertion → Bool
  fine = light_one (known_names ps xs) assertion_weight w

  abbrev NoAssertion : Type 0
  NoAssertion = Fails assertion_text (light_one (known_names ps xs) assertion_weight w) any_text t at

  names_known : (a : Assertion) → T (light_one (known_names ps xs) assertion_weight w a) → T (member a.variable xs) × T (member a.from ps) × T (member a.to ps) × (w + assertion_weight a ≤ 8192)
  names_known a f =
      let (k, l) = both (known_names ps xs a) (leb (w + assertion_weight a) 8192) f in
      let (x, q, p) = three (member a.variable xs) (member a.from ps) (member a.to ps) k in
      (x, q, p, leb→le (w + assertion_weight a) 8192 l)

  module _ (is-a : get_or t at 0 ≡ 65) (is-tab : get_or t (at + 1) 0 ≡ 9) where
    first : (a : Assertion) (r : Text) → drop at t ≡ assertion_text a ++ r → drop (at + 2) t ≡ a.variable ++ 9 ∷ (a.from ++ 9 ∷ (byte_of a.right ∷ 9 ∷ (a.to ++ 10 ∷ r)))
    first a r d = tail_of 9 9 _ _ (tail_of 65 65 _ _ (sym (twice t at 65 9 (omega arith) (omega arith) is-a is-tab) ∙ d ∙ assertion_text_lem a r))

    pub no_variable : ((x r : Text) → T (member x xs) → drop (at + 2) t ≡ x ++ 9 ∷ r → ⊥) → NoAssertion
    no_variable never a r f c d = never a.variable _ (names_known a f).0 (first a r d)

    module _ (kx m : ℕ) (X : Member xs 9 t (at + 2) kx m) where
      second : (a : Assertion) (r : Text) → T (fine a) → drop at t ≡ assertion_text a ++ r → (part t (at + 2) m ≡ a.variable) × (drop (m + 1) t ≡ a.from ++ 9 ∷ (byte_of a.right ∷ 9 ∷ (a.to ++ 10 ∷ r)))
      second a r f d = only word_byte (λ x. member x xs) xw 9 refl t (at + 2) m (wider word_byte (λ x. member x xs) xw 9 refl t (at + 2) m X.field) a.variable _ (names_known a f).0 (first a r d)

      pub no_giver : ((x r : Text) → T (member x ps) → drop (m + 1) t ≡ x ++ 9 ∷ r → ⊥) → NoAssertion
      no_giver never a r f c d = never a.from _ (names_known a f).1 (second a r f d).1

      module _ (kq n : ℕ) (Q : Member ps 9 t (m + 1) kq n) where
        third : (a : Assertion) (r : Text) → T (fine a) → drop at t ≡ assertion_text a ++ r → (part t (m + 1) n ≡ a.from) × (drop (n + 1) t ≡ byte_of a.right ∷ 9 ∷ (a.to ++ 10 ∷ r))
        third a r f d = only word_byte (λ x. member x ps) pw 9 refl t (m + 1) n (wider word_byte (λ x. member x ps) pw 9 refl t (m + 1) n Q.field) a.from _ (names_known a f).1 (second a r f d).1

        pub no_right : code_of (get_or t (n + 1) 0) ≡ 4 → NoAssertion
        no_right h a r f c d =
            let b : get_or t (n + 1) 0 ≡ byte_of a.right = byte_here t (n + 1) _ (third a r f d).1 in
            go a.right (sym (code_of_lem a.right) ∙ ap code_of (sym b) ∙ h)
          where
            go : (k : Right) → code k ≡ 4 → ⊥
            go read e = omega arith
            go write e = omega arith
            go append e = omega arith
            go delegate e = omega arith

        pub no_second_tab : (get_or t (n + 2) 0 ≡ 9 → ⊥) → NoAssertion
        no_second_tab h a r f c d =
            let e : n + 1 + 1 ≡ n + 2 = omega arith in
            h (ap (λ (k : ℕ). get_or t k 0) (sym e) ∙ next_here t (n + 1) _ (third a r f d).1)

        fourth : (a : Assertion) (r : Text) → T (fine a) → drop at t ≡ assertion_text a ++ r → drop (n + 3) t ≡ a.to ++ 10 ∷ r
        fourth a r f d =
            let e : n + 1 + 2 ≡ n + 3 = omega arith in
            ap (λ (k : ℕ). drop k t) (sym e) ∙ sym (drop-drop 2 (n + 1) t) ∙ ap (drop 2) (third a r f d).1

        pub no_taker : ((x r : Text) → T (member x ps) → drop (n + 3) t ≡ x ++ 10 ∷ r → ⊥) → NoAssertion
        no_taker never a r f c d = never a.to _ (names_known a f).2 (fourth a r f d)

        module _ (is_right : code_of (get_or t (n + 1) 0) ≡ 4 → ⊥) (is-tab' : get_or t (n + 2) 0 ≡ 9) (kp e : ℕ) (P : Member ps 10 t (n + 3) kp e) where
          fifth : (a : Assertion) (r : Text) → T (fine a) → drop at t ≡ assertion_text a ++ r → (part t (n + 3) e ≡ a.to) × (drop (e + 1) t ≡ r)
          fifth a r f d = only word_byte (λ x. member x ps) pw 10 refl t (n + 3) e (wider word_byte (λ x. member x ps) pw 10 refl t (n + 3) e P.field) a.to r (names_known a f).2 (fourth a r f d)

          x_size : length (part t (at + 2) m) ≡ m - (at + 2)
          x_size = part_length t (at + 2) m X.field.low (omega (arith, X.field.high))

          pub assertion_heavy : 8192 < w + (m - (at + 2)) + 1 + name_weight (part t (m + 1) n) + name_weight (part t (n + 3) e) → NoAssertion
          assertion_heavy h a r f c d =
              let (kx', kq', kp', l) = names_known a f in
              omega (arith, x_size, ap length (second a r f d).0, ap name_weight (third a r f d).0, ap name_weight (fifth a r f d).0)

          same_right : (q r : Right) → byte_of q ≡ byte_of r → q ≡ r
          same_right read read z = refl
          same_right read write z = absurd (omega arith)
          same_right read append z = absurd (omega arith)
          same_right read delegate z = absurd (omega arith)
          same_right write read z = absurd (omega arith)
          same_right write write z = refl
          same_right write append z = absurd (omega arith)
          same_right write delegate z = absurd (omega arith)
          same_right append read z = absurd (omega arith)
          same_right append write z = absurd (omega arith)
          same_right append append z = refl
          same_right append delegate z = absurd (omega arith)
          same_right delegate read z = absurd (omega arith)
          same_right delegate write z = absurd (omega arith)
          same_right delegate append z = absurd (omega arith)
          same_right delegate delegate z = refl

          pub assertion_good : (k after : ℕ) → k ≡ pack kx kq (code_of (get_or t (n + 1) 0)) kp → after ≡ w + (m - (at + 2)) + 1 + name_weight (part t (m + 1) n) + name_weight (part t (n + 3) e) → after ≤ 8192
              → Granting ps xs t at w k (e + 1) after
          assertion_good k after packed weighs h =
              let (y, yb, yc) = right_of (get_or t (n + 1) 0) is_right in
              let a : Assertion = record { variable = part t (at + 2) m; from = part t (m + 1) n; right = y; to = part t (n + 3) e } in
              let z : w + assertion_weight a ≤ 8192 = omega (arith, x_size) in
              let g : T (fine a) =
              and (known_names ps xs a) (leb (w + assertion_weight a) 8192)
              (and_three (member a.variable xs) (member a.from ps) (member a.to ps) X.field.is_fine Q.field.is_fine P.field.is_fine) (le→leb (w + assertion_weight a) 8192 z) in
              let o : n + 1 + 1 ≡ n + 2 = omega arith in
              let two : n + 1 + 2 ≡ n + 3 = omega arith in
              let low : 0 < byte_of y = letter_low y in
              let mid : drop (n + 1) t ≡ byte_of y ∷ 9 ∷ drop (n + 3) t =
              twice t (n + 1) (byte_of y) 9 low (omega arith) (sym yb) (ap (λ (i : ℕ). get_or t i 0) o ∙ is-tab') ∙ ap (λ (i : ℕ). byte_of y ∷ 9 ∷ drop i t) two in
              let whole : drop at t ≡ assertion_text a ++ drop (e + 1) t =
              twice t at 65 9 (omega arith) (omega arith) is-a is-tab
              ∙ ap (λ (l : Text). 65 ∷ 9 ∷ l) (X.field.here ∙ ap (λ (l : Text). a.variable ++ 9 ∷ l) (Q.field.here ∙ ap (λ (l : Text). a.from ++ 9 ∷ l) (mid ∙ ap (λ (l : Text). byte_of y ∷ 9 ∷ l) P.field.here)))
              ∙ sym (assertion_text_lem a (drop (e + 1) t)) in
              record {
                row = a;
                reads = record {
                  low = omega (arith, X.field.low, Q.field.low, P.field.low);
                  high = omega (arith, P.field.high);
                  is_fine = g;
                  here = whole;
                  only = λ b r f c d.
                      let rb : byte_of b.right ≡ byte_of y = sym (byte_here t (n + 1) _ (third b r f d).1) ∙ sym yb in (
                        ap (λ (v : Name). record { variable = v; from = b.from; right = b.right; to = b.to }) (sym (second b r f d).0)
                            ∙ ap (λ (v : Name). record { variable = a.variable; from = v; right = b.right; to = b.to }) (sym (third b r f d).0)
                            ∙ ap (λ (v : Right). record { variable = a.variable; from = a.from; right = v; to = b.to }) (same_right b.right y rb)
                            ∙ ap (λ (v : Name). record { variable = a.variable; from = a.from; right = y; to = v }) (sym (fifth b r f d).0),
                        sym (fifth b r f d).1,
                      );
                };
                weighed = omega (arith, x_size);
                number =
                    packed
                    ∙ ap (λ (i : ℕ). pack i kq (code_of (get_or t (n + 1) 0)) kp) X.number
                    ∙ ap (λ (i : ℕ). pack (position xs a.variable) i (code_of (get_or t (n + 1) 0)) kp) Q.number
                    ∙ ap (λ (i : ℕ). pack (position xs a.variable) (position ps a.from) i kp) (sym yc)
                    ∙ ap (λ (i : ℕ). pack (position xs a.variable) (position ps a.from) (code y) i) P.number;
              }
            where
              letter_low : (r : Right) → 0 < byte_of r
              letter_low read = omega arith
              letter_low write = omega arith
              letter_low append = omega arith
              letter_low delegate = omega arith

-- ---- numbers among numbers

module _ (f : ℕ → Bool) (l : List ℕ) (i : ℕ) (h : i < length l) where
  pub among_step : any f (take (i + 1) l) ≡ (any f (take i l) || f (get_or l i 0))
  among_step = ap (λ (n : ℕ). any f (take n l)) (add-one i) ∙ ap (any f) (take-suc l i 0 h) ∙ any_last f (take i l) (get_or l i 0)

pub or_yes : (a b : Bool) → b ≡ true → true ≡ (a || b)
or_yes true b e = refl
or_yes false b e = sym e

pub or_no : (a b : Bool) → b ≡ false → a ≡ (a || b)
or_no true b e = refl
or_no false b e = sym e

-- The first line and what stands behind it are a whole state text, in the lines of now or in the former ones.
-- Assumes nothing.
use mathlib.Core.Path.{◌≡◌, refl, sym, ap, subst, ◌∙◌}
use mathlib.Core.Bool.{Bool, ◌&&◌}
use mathlib.Core.Option.{Option, none, some}
use Rattle.std.specs.Prelude as Code
use Rattle.std.specs.Prelude.{Some, None}
use mathlib.Core.List.{List, ◌++◌, append_assoc}
use Prim.Native.Nat.{ℕ, ◌+◌, ◌-◌}
use native.Mathlib.Omega.{arith}
use lib.Dec.{T, eqb, leb, eqb→eq, le→leb}
use lib.ListN.{length, drop, replicate, length-append}
use Rattle.language.specs.Text.{Text, all, joined}
use Rattle.language.specs.State.{Principal, Store, last_count}
use Rattle.language.specs.Weight.{limit, store_weight}
use Rattle.language.specs.Encode.{head_text, delegator_text, variables_text, assertions_text, state_text, buffer_size, padded}
use Rattle.language.specs.Valid.{valid_principal, well_formed, valid_store}
use Rattle.language.specs.Decode.{Holds, decode}
use Rattle.language.specs.Former.{Form, current, former, former_head, former_text, former_weight, uncounted, valid_uncounted, valid_former, FormerHolds, decode_former, principal_in}
use Rattle.language.proofs.Logic.Tests.{both, and, and_three, four, all_map}
use Rattle.language.proofs.Logic.Lists.{five_joined}
use Rattle.language.proofs.StateText.Shape.{shape, formed}
use Rattle.language.proofs.StateText.RoundTrip.{decode_holds}
use Rattle.language.proofs.StateText.Formers.{former_shape, all_uncounted, decode_former_lem}
use Rattle.record_fields.specs.Sections.{Reads, Fails, any_text}
use Rattle.frame.specs.Edges.{fine_head, Top, top_text, fine_top, FormerTop, total, is_zero}
use Rattle.frame.proofs.Limits.{zero_bytes, bytes_zero}
use Rattle.validate.specs.Checked.{Understood, CheckedMeant, FormerUnderstood, FormerMeant}
use Rattle.validate.specs.Body.{body_text, same_flag, fine_body, Stands, BodyMeant}
use Rattle.validate.specs.declared.Parts.{Parts}
use Rattle.validate.proofs.Whole.{same_flag_lem, flag_same}

zeros_zero : (n : ℕ) → T (is_zero (replicate n 0))
zeros_zero n = subst (λ (k : ℕ). T (eqb k 0)) (sym (bytes_zero n)) tt

-- a text and zeros that fill the buffer
filled : (t u q : Text) → length t ≡ 65536 → T (is_zero q) → t ≡ u ++ q → t ≡ padded u
filled t u q size z e =
    let n : length t ≡ length u + length q = ap length e ∙ length-append u q in
    let m : length q ≡ 65536 - length u = omega arith in
    e ∙ ap (λ (x : Text). u ++ x) (zero_bytes q (eqb→eq (total q) 0 z) ∙ ap (λ (k : ℕ). replicate k 0) m)

-- the first line before the rest
abbrev five_text : Form → Text → Store → Text
five_text f head s = head ++ joined (principal_in f) s.principals ++ delegator_text s.delegator ++ variables_text s.variables ++ assertions_text s.assertions

headed : (f : Form) (head : Text) (s : Store) (q : Text) → five_text f head s ++ q ≡ head ++ (body_text f s ++ q)
headed f head s q =
    ap (λ (x : Text). x ++ q) (five_joined head (joined (principal_in f) s.principals) (delegator_text s.delegator) (variables_text s.variables) (assertions_text s.assertions))
    ∙ append_assoc head (body_text f s) q

-- ---- the lines of now

-- a buffer that holds no state
undecoded : (t : Text) → ((s : Store) → Holds t s → ⊥) → decode t ≡ none
undecoded t never = go (decode t) refl
  where
    go : (o : Option Store) → decode t ≡ o → decode t ≡ none
    go none e = e
    go (some s) e = absurd (never s ((decode_holds t s).0 e))

store_fine : (s : Store) → T (valid_store s) → T (fine_body current s.is_open s)
store_fine s v =
    let (w, l) = both (well_formed s) (leb (store_weight s) limit) v in
    and (same_flag s.is_open s.is_open && well_formed s && all valid_principal s.principals) (leb (store_weight s) limit)
    (and_three (same_flag s.is_open s.is_open) (well_formed s) (all valid_principal s.principals) (same_flag_lem s.is_open) w (shape s w).principals_valid) l

module _ (t : Text) where
  -- what is held stands behind the first line
  held : (s : Store) → Holds t s → drop 0 t ≡ head_text s.is_open ++ (body_text current s ++ replicate (buffer_size - length (state_text s)) 0)
  held s H = H.is_text_lem ∙ headed current (head_text s.is_open) s (replicate (buffer_size - length (state_text s)) 0)

  pub bad_head : Fails head_text fine_head any_text t 0 → decode t ≡ none
  bad_head never = undecoded t (λ s H. never s.is_open _ tt tt (held s H))

  module _ (o : Bool) (e : ℕ) (R : Reads head_text fine_head any_text t 0 o e) where
    bad_body : Fails (body_text current) (fine_body current o) is_zero t e → decode t ≡ none
    bad_body never = undecoded t (λ s H.
        let (same, left) = R.only s.is_open _ tt tt (held s H) in
        never s _ (subst (λ (b : Bool). T (fine_body current b s)) same (store_fine s H.is_valid)) (zeros_zero (buffer_size - length (state_text s))) (sym left))

    good_body : length t ≡ 65536 → (slots-p slots_v assertions : List ℕ) (p : Parts) → Stands current t e o slots-p slots_v assertions p → Understood t slots-p slots_v assertions p
    good_body size slots-p slots_v assertions p S =
        let s : Store = S.state in
        let (a, w, b, l) = four (same_flag o s.is_open) (well_formed s) (all valid_principal s.principals) (leb (store_weight s) limit) S.reads.is_fine in
        let z : T (is_zero (drop p.used t)) = subst (λ (x : Text). T (is_zero x)) (sym S.represents.rest_zero) (zeros_zero (length t - p.used)) in
        let h : t ≡ head_text s.is_open ++ (body_text current s ++ drop p.used t) = R.here ∙ ap (λ (b : Bool). head_text b ++ drop e t) (sym (flag_same o s.is_open a)) ∙ ap (λ (x : Text). head_text s.is_open ++ x) S.reads.here in
        record {
          state = s;
          decoded = (decode_holds t s).1 (record {
            is_valid = and (well_formed s) (leb (store_weight s) limit) w l;
            is_text_lem = filled t (state_text s) (drop p.used t) size z (h ∙ sym (headed current (head_text s.is_open) s (drop p.used t)));
          });
          represents = S.represents;
        }

    pub headed_body : length t ≡ 65536 → (slots-p slots_v assertions : List ℕ) (r : Code.Option Parts) → BodyMeant current t e o slots-p slots_v assertions r → CheckedMeant t slots-p slots_v assertions r
    headed_body size slots-p slots_v assertions None h = bad_body h
    headed_body size slots-p slots_v assertions (Some p) h = good_body size slots-p slots_v assertions p h

-- ---- the former lines

unbrought : (t : Text) → ((n : ℕ) (s : Store) → FormerHolds t n s → ⊥) → decode_former t ≡ none
unbrought t never = go (decode_former t) refl
  where
    go : (o : Option Store) → decode_former t ≡ o → decode_former t ≡ none
    go none e = e
    go (some s) e = absurd (let (n, H) = (decode_former_lem t s).0 e in never n s H)

former_fine : (n : ℕ) (s : Store) → T (valid_former n s) → T (fine_body former s.is_open s)
former_fine n s v =
    let g = former_shape n s v in
    and (same_flag s.is_open s.is_open && well_formed s && all valid_uncounted s.principals) (leb (former_weight s) limit)
    (and_three (same_flag s.is_open s.is_open) (well_formed s) (all valid_uncounted s.principals) (same_flag_lem s.is_open) (formed s g.shaped) (all_uncounted s.principals g.shaped.principals_valid g.uncounted_all))
    (le→leb (former_weight s) limit g.light)

-- a principal that has no count
no_count : (k : Principal) → T (valid_uncounted k) → T (uncounted k)
no_count k h = (both (valid_principal k) (uncounted k) h).1

module _ (t : Text) where
  former_held : (n : ℕ) (s : Store) → FormerHolds t n s → drop 0 t ≡ former_head s.is_open n ++ (body_text former s ++ replicate (buffer_size - length (former_text n s)) 0)
  former_held n s H = H.is_text_lem ∙ headed former (former_head s.is_open n) s (replicate (buffer_size - length (former_text n s)) 0)

  top_fine : (n : ℕ) (s : Store) → FormerHolds t n s → T (leb n last_count)
  top_fine n s H = le→leb n last_count (former_shape n s H.is_valid).small

  pub bad_former_head : Fails top_text fine_top any_text t 0 → decode_former t ≡ none
  bad_former_head never = unbrought t (λ n s H. never (record { is_open = s.is_open; count = n }) _ (top_fine n s H) tt (former_held n s H))

  module _ (o : Bool) (e : ℕ) (R : FormerTop t o e) where
    bad_former_body : Fails (body_text former) (fine_body former o) is_zero t e → decode_former t ≡ none
    bad_former_body never = unbrought t (λ n s H.
        let (same, left) = R.reads.only (record { is_open = s.is_open; count = n }) _ (top_fine n s H) tt (former_held n s H) in
        never s _ (subst (λ (b : Bool). T (fine_body former b s)) (ap (λ (h : Top). h.is_open) same) (former_fine n s H.is_valid)) (zeros_zero (buffer_size - length (former_text n s))) (sym left))

    good_former_body : length t ≡ 65536 → (slots-p slots_v assertions : List ℕ) (p : Parts) → Stands former t e o slots-p slots_v assertions p → FormerUnderstood t slots-p slots_v assertions p
    good_former_body size slots-p slots_v assertions p S =
        let s : Store = S.state in
        let n : ℕ = R.count in
        let (a, w, b, l) = four (same_flag o s.is_open) (well_formed s) (all valid_uncounted s.principals) (leb (former_weight s) limit) S.reads.is_fine in
        let u : T (all uncounted s.principals) = all_map valid_uncounted uncounted no_count s.principals b in
        let z : T (is_zero (drop p.used t)) = subst (λ (x : Text). T (is_zero x)) (sym S.represents.rest_zero) (zeros_zero (length t - p.used)) in
        let h : t ≡ former_head s.is_open n ++ (body_text former s ++ drop p.used t) =
        R.reads.here ∙ ap (λ (b : Bool). former_head b n ++ drop e t) (sym (flag_same o s.is_open a)) ∙ ap (λ (x : Text). former_head s.is_open n ++ x) S.reads.here in
        record {
          state = s;
          decoded = (decode_former_lem t s).1 (
            n,
            record {
              is_valid = and (leb n last_count && well_formed s && all uncounted s.principals) (leb (former_weight s) limit) (and_three (leb n last_count) (well_formed s) (all uncounted s.principals) R.reads.is_fine w u) l;
              is_text_lem = filled t (former_text n s) (drop p.used t) size z (h ∙ sym (headed former (former_head s.is_open n) s (drop p.used t)));
            },
          );
          represents = S.represents;
          rest_order = S.rest_order;
          rest = S.rest;
        }

    pub headed_former : length t ≡ 65536 → (slots-p slots_v assertions : List ℕ) (r : Code.Option Parts) → BodyMeant former t e o slots-p slots_v assertions r → FormerMeant t slots-p slots_v assertions r
    headed_former size slots-p slots_v assertions None h = bad_former_body h
    headed_former size slots-p slots_v assertions (Some p) h = good_former_body size slots-p slots_v assertions p h

-- What a call reports of a buffer: refused, not well formed, or the answer for its state.
-- Assumes nothing.
use mathlib.Core.Path.{◌≡◌, refl, sym, ap, subst, ◌∙◌}
use mathlib.Core.Logic.{⊎_elim}
use mathlib.Core.Option.{Option, none, some}
use mathlib.Core.List.{List, ◌∷◌, ◌++◌, map}
use Prim.Native.Nat.{ℕ, ◌-◌, ◌≤◌, ◌<◌}
use native.Mathlib.Omega.{arith}
use lib.Dec.{T, leb}
use lib.ListN.{length, take, drop, length-map, length-take, length-drop}
use lib.Seq.{length-take-le}
use Rattle.language.specs.Text.{Text, all}
use Rattle.language.specs.Syntax.{Name}
use Rattle.language.specs.State.{Store}
use Rattle.language.specs.Weight.{limit, store_weight}
use Rattle.language.specs.Valid.{valid_principal, well_formed}
use Rattle.language.specs.Decode.{decode}
use Rattle.language.proofs.Logic.Tests.{both}
use Rattle.language.proofs.StateText.Shape.{shape}
use Rattle.language.proofs.StateText.RoundTrip.{decode_holds}
use Rattle.text.specs.Parts.{part}
use Rattle.store.specs.Rows.{Rows, principal_row, variable_row}
use Rattle.store.proofs.Records.{slots_long}
use Rattle.store.proofs.Holders.{principals_rows, variables_rows}
use Rattle.named_rights.specs.Numbers.{principals_of, variables, numbered}
use Rattle.validate.specs.Checked.{Represents}
use Rattle.validate.specs.declared.Parts.{Parts}
use Rattle.validate_c.specs.Reported.{figures, Answers, Reported, count_in, CountTold, bad, refused}
use Rattle.state_figures.specs.Tallies.{flag, tally}
use Rattle.state_lookups.specs.Looks.{Look, Says, count_said}

module _ (room : ℕ) (look : Store → Look) (t : Text) (old : List ℕ) where
  pub no_size : (length t ≡ 65536 → ⊥) → Reported room look t old old refused
  no_size n = record { refuses = λ h. (refl, refl); answers = λ e. absurd (n e) }

  pub no_room : length old < room → Reported room look t old old refused
  no_room l = record { refuses = λ h. (refl, refl); answers = λ e h. absurd (omega arith) }

  module _ (size : length t ≡ 65536) (fits : room ≤ length old) where
    answered : {new : List ℕ} {r : ℕ} → Answers look (decode t) old new r → Reported room look t old new r
    answered a = record { refuses = λ h. absurd (⊎_elim (λ x. x size) (λ x. omega arith) h); answers = λ e h. a }

    pub not_formed : decode t ≡ none → Reported room look t old old bad
    not_formed e = answered (subst (λ (o : Option Store). Answers look o old old bad) (sym e) (refl, refl))

    pub formed : (s : Store) {new : List ℕ} {r : ℕ} → decode t ≡ some s → Says (look s) old new r → Reported room look t old new r
    formed s {new} {r} e h = answered (subst (λ (o : Option Store). Answers look o old new r) (sym e) h)

-- a principal's count
module _ (t : Text) (x : Name) where
  pub count_refused : (length t ≡ 65536 → ⊥) → CountTold t x refused
  count_refused n = record { refuses = λ h. refl; answers = λ e. absurd (n e) }

  module _ (size : length t ≡ 65536) where
    pub count_bad : decode t ≡ none → CountTold t x bad
    count_bad e = record { refuses = λ h. absurd (h size); answers = λ z. sym (ap (λ (o : Option Store). count_in o x) e) }

    pub count_good : (s : Store) (r : ℕ) → decode t ≡ some s → r ≡ count_said s.principals x → CountTold t x r
    count_good s r e h = record { refuses = λ k. absurd (k size); answers = λ z. h ∙ sym (ap (λ (o : Option Store). count_in o x) e) }

-- the principals of a state that was decoded are valid
pub decoded_valid : (t : Text) (s : Store) → decode t ≡ some s → T (all valid_principal s.principals)
decoded_valid t s e =
    let H = (decode_holds t s).0 e in
    (shape s (both (well_formed s) (leb (store_weight s) limit) H.is_valid).0).principals_valid

-- the figures of a state, by its parts
pub figures_are : (t : Text) (slots-p slots_v assertions : List ℕ) (p : Parts) (s : Store) → Represents t slots-p slots_v assertions p s
    → figures s ≡ tally p ++ take p.asserted assertions
figures_are t slots-p slots_v assertions p s R =
    let n : p.asserted ≡ length s.assertions =
    sym (length-take-le p.asserted assertions R.assertions.within) ∙ ap length R.assertions.are ∙ length-map s.assertions (numbered (principals_of s) (variables s)) in
    sym (λ i. flag (R.is_open i) ∷ R.weighed i ∷ R.principals.counted i ∷ R.delegator i ∷ R.variables.counted i ∷ n i ∷ R.assertions.are i)

-- the records are as few as their slots
module _ (t : Text) (slots-p slots_v assertions : List ℕ) (p : Parts) (s : Store) (R : Represents t slots-p slots_v assertions p s) where
  abbrev pub principal_rows : Rows (map principal_row s.principals) (part t p.principals_from p.principals_to) p.principals slots-p
  principal_rows = principals_rows s.principals (part t p.principals_from p.principals_to) p.principals slots-p R.principals

  abbrev pub variable_rows : Rows (map variable_row s.variables) (part t p.vars_from p.vars_to) p.vars slots_v
  variable_rows = variables_rows s.variables (part t p.vars_from p.vars_to) p.vars slots_v R.variables

  pub few_principals : length slots-p ≡ 1024 → p.principals ≤ 4096
  few_principals e = omega (arith, slots_long (map principal_row s.principals) (part t p.principals_from p.principals_to) p.principals slots-p principal_rows)

  pub few_variables : length slots_v ≡ 4096 → p.vars ≤ 4096
  few_variables e = omega (arith, slots_long (map variable_row s.variables) (part t p.vars_from p.vars_to) p.vars slots_v variable_rows)

  -- their texts are no longer than the buffer
  pub short_principals : length t ≡ 65536 → length (part t p.principals_from p.principals_to) ≤ 65536
  short_principals e =
      omega (arith, length-take (p.principals_to - p.principals_from) (drop p.principals_from t), length-drop p.principals_from t)

  pub short_variables : length t ≡ 65536 → length (part t p.vars_from p.vars_to) ≤ 65536
  short_variables e = omega (arith, length-take (p.vars_to - p.vars_from) (drop p.vars_from t), length-drop p.vars_from t)

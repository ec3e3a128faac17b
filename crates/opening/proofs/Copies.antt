-- The session that begins on copies of a state's texts.
-- Assumes nothing.
use mathlib.Core.Path.{◌≡◌, refl, sym, ap, subst, ◌∙◌}
use Prim.Native.Nat.{ℕ, ◌≤◌}
use native.Mathlib.Omega.{arith}
use mathlib.Core.List.{List}
use lib.Dec.{T, leb, leb→le}
use lib.ListN.{length}
use Rattle.language.specs.Text.{Text}
use Rattle.language.specs.Syntax.{Program}
use Rattle.language.specs.State.{Store}
use Rattle.language.specs.Weight.{limit, store_weight}
use Rattle.language.specs.Valid.{well_formed, valid_store}
use Rattle.language.specs.Run.{login, right, begin}
use Rattle.language.proofs.Logic.Tests.{both}
use Rattle.language.proofs.StateText.Bound.{variables_bound}
use Rattle.language.proofs.Meaning.ValidRuns.{begin_ready}
use Rattle.store.specs.Held.{Principals, Variables}
use Rattle.text.specs.Parts.{part}
use Rattle.store.specs.Rows.{position}
use Rattle.value_text.specs.Writing.{Written}
use Rattle.value_text.proofs.Pieces.{written_take, written_length}
use Rattle.named_rights.specs.Numbers.{principals_of}
use Rattle.named_rights.proofs.Few.{store_shape}
use Rattle.validate.specs.Checked.{Represents}
use Rattle.validate.specs.declared.Parts.{Parts}
use Rattle.session.specs.declared.Layout.{Layout}
use Rattle.session.specs.Sessions.{slices, Sized, Running}
use Rattle.session.proofs.PrincipalsText.{principals_text_lem}

-- where the parts of the session stand, when m bytes of principals and n of variables were copied
abbrev pub first_layout : Parts → ℕ → ℕ → ℕ → Layout
first_layout q sender m n = record {
  principals_len = m;
  principals = q.principals;
  vars_len = n;
  vars = q.vars;
  locals_len = 0;
  locals = 0;
  asserted = q.asserted;
  delegator = q.delegator;
  sender = sender;
  weight = q.weight;
  is_open = q.«open»;
}

module _ (t : Text) (slots-p slots_v assertions : List ℕ) (q : Parts) (s : Store) (R : Represents t slots-p slots_v assertions q s) (v : T (valid_store s)) where
  light : q.weight ≤ 8192
  light =
      let h : store_weight s ≤ 8192 = leb→le (store_weight s) limit (both (well_formed s) (leb (store_weight s) limit) v).1 in
      omega (arith, R.weighed)

  -- the principals' text fits its buffer
  pub principals_fit : length (part t q.principals_from q.principals_to) ≤ 11008
  principals_fit =
      let G = store_shape s v in
      omega (arith, light, R.weighed, ap length R.principals.is_text_lem, principals_text_lem s.principals G.order G.principals_valid G.principals_distinct)

  -- and so does the variables'
  pub variables_fit : length (part t q.vars_from q.vars_to) ≤ 32768
  variables_fit = omega (arith, light, R.weighed, ap length R.variables.is_text_lem, variables_bound s.variables (store_shape s v).variables_valid)

  module _ (principals-before principals-after vars-before vars-after locals : Text) (local_slots : List ℕ) (m n : ℕ)
      (sizes : Sized (slices principals-before slots-p vars-before slots_v locals local_slots assertions))
      (w : Written principals-before 0 (part t q.principals_from q.principals_to) m principals-after)
      (x : Written vars-before 0 (part t q.vars_from q.vars_to) n vars-after) where
    sized_after : Sized (slices principals-after slots-p vars-after slots_v locals local_slots assertions)
    sized_after = record {
      principals_size = written_length w ∙ sizes.principals_size;
      principal_slots_size = sizes.principal_slots_size;
      vars_size = written_length x ∙ sizes.vars_size;
      variable_slots_size = sizes.variable_slots_size;
      locals_size = sizes.locals_size;
      local_slots_size = sizes.local_slots_size;
      assertions_size = sizes.assertions_size;
    }

    pub begun : (p : Program) (sender : ℕ) → login s p ≡ right → sender ≡ position (principals_of s) p.sender
        → Running (begin s p) (first_layout q sender m n) (slices principals-after slots-p vars-after slots_v locals local_slots assertions)
    begun p sender e k = record {
      sized = sized_after;
      ready = begin_ready s p v e;
      principals = subst (λ (l : Text). Principals s.principals l q.principals slots-p) (sym (written_take w)) R.principals;
      principals_within = omega (arith, w.fits, written_length w);
      variables = subst (λ (l : Text). Variables s.variables l q.vars slots_v) (sym (written_take x)) R.variables;
      vars_within = omega (arith, x.fits, written_length x);
      local_variables = record { is_text_lem = refl; counted = refl; indexed = refl; named = tt; small = omega arith };
      locals_within = omega arith;
      assertions = R.assertions;
      delegator = R.delegator;
      sender = k;
      is_open = R.is_open;
      weighed = omega (arith, R.weighed);
      light = light;
    }

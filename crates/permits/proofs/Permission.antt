-- What a look-up among the shared variables says of the sender's rights.
-- Assumes nothing.
use mathlib.Core.Path.{◌≡◌, sym, ap, subst, ◌∙◌}
use Prim.Native.Nat.{ℕ, ◌≤◌, ◌<◌}
use native.Mathlib.Omega.{arith}
use mathlib.Core.Bool.{Bool, true}
use mathlib.Core.Option.{Option}
use mathlib.Core.List.{List, map}
use lib.Dec.{T}
use lib.ListN.{length, length-map}
use lib.Seq.{length-take-le}
use Rattle.std.specs.Prelude.{None}
use Rattle.language.specs.Text.{Text, when◌then◌else◌, present}
use Rattle.language.specs.Syntax.{Name, Right}
use Rattle.language.specs.State.{Value, Variable}
use Rattle.language.specs.Values.{Session}
use Rattle.language.specs.Chains.{has}
use Rattle.language.proofs.StateText.Names.{valued_is}
use Rattle.store.specs.Rows.{variable_row, found_at, place}
use Rattle.store.proofs.Answers.{FoundVariable, variable_found, variable_missing}
use Rattle.named_rights.specs.Numbers.{code, principals_of, variables, numbered, Asks}
use Rattle.named_rights.proofs.Few.{few_names, few_variables, few_assertions}
use Rattle.permits.specs.Permits.{Sends, allowed_on}

module _ {s : Session} {shared : Text} {slots : List ℕ} {count : ℕ} {assertions : List ℕ} {n m sender : ℕ} (W : Sends s shared slots count assertions n m sender) where
  -- the numbers fit
  pub few_asserted : n ≤ 2048
  few_asserted =
      let e : n ≡ length s.store.assertions =
      sym (length-take-le n assertions W.assertions_held.within) ∙ ap length W.assertions_held.are ∙ length-map s.store.assertions (numbered (principals_of s.store) (variables s.store)) in
      omega (arith, few_assertions s.store W.is_valid)

  pub few_principals : m ≤ 1024
  few_principals = omega (arith, W.everyone, few_names s.store W.is_valid)

  module _ (x : Name) (k b e : ℕ) (q : found_at k b e ≡ place (map variable_row s.store.variables) x) where
    F : FoundVariable s.store.variables shared x k b e
    F = variable_found s.store.variables shared count slots W.shared_held x k b e q

    pub number_fits : k < 65536
    number_fits = omega (arith, F.below, few_variables s.store W.is_valid, length-map s.store.variables (λ (v : Variable). v.name))

    pub asks : (r : Right) (w : ℕ) → w ≡ code r → Asks s.store r x s.sender m k w sender
    asks r w h = record {
      everyone = W.everyone;
      variable_known = valued_is x s.store.variables (subst (λ (o : Option Value). T (present o)) (sym F.is_value) tt);
      variable_is = F.number;
      right_is = h;
      principal_known = W.sender_known;
      principal_is = W.sender_is;
    }

    pub shared_allowed : (r : Right) (c : Bool) → c ≡ has s.store r x s.sender → c ≡ allowed_on s r x
    shared_allowed r c h = h ∙ sym (ap (λ (o : Option Value). when◌then◌else◌ {A = Bool} (present o) (has s.store r x s.sender) true) F.is_value)

  pub other_allowed : (x : Name) (r : Right) → None ≡ place (map variable_row s.store.variables) x → true ≡ allowed_on s r x
  other_allowed x r q = sym (ap (λ (o : Option Value). when◌then◌else◌ {A = Bool} (present o) (has s.store r x s.sender) true) (variable_missing s.store.variables x q))

-- The locals with one more name, last; and the first of them only.
use Prim.Native.Nat.{ℕ}
use mathlib.Core.Bool.{true, ◌&&◌}
use mathlib.Core.List.{List, [], ◌∷◌, ◌++◌}
use lib.Dec.{T}
use lib.ListN.{length, take}
use Rattle.language.specs.Text.{Text, all}
use Rattle.language.specs.Syntax.{Name}
use Rattle.language.specs.Identifiers.{is_name}
use Rattle.language.specs.State.{Value, Variable}
use Rattle.language.specs.Encode.{variables_text}
use Rattle.language.specs.Valid.{valid_value, valid_variable}
use Rattle.language.specs.Values.{Session, with_name}
use Rattle.language.proofs.Logic.Tests.{and, both, all_append}
use Rattle.store.specs.Held.{Variables}
use Rattle.edits.proofs.Adding.{variables_front}
use Rattle.scopes.specs.Scopes.{Scope}

module _ {s : Session} {shared : Text} {slots : List ℕ} {count : ℕ} {locals : Text} {lslots : List ℕ} {lcount : ℕ} (S : Scope s shared slots count locals lslots lcount) where
  -- x stands for v
  pub with_name_lem : (x : Name) (v : Value) (after : Text) (aslots : List ℕ) (n : ℕ) → Variables (s.locals ++ (record { name = x; value = v } ∷ [])) after n aslots
      → T (is_name x) → T (valid_value v) → Scope (with_name s x v) shared slots count after aslots n
  with_name_lem x v after aslots n W i h = record {
    shared_held = S.shared_held;
    locals_held = W;
    shared_valid = S.shared_valid;
    locals_valid =
        all_append valid_variable s.locals (record { name = x; value = v } ∷ []) S.locals_valid
        (and (is_name x && valid_value v) true (and (is_name x) (valid_value v) i h) tt);
  }

all_first : (vs ws : List Variable) → T (all valid_variable (vs ++ ws)) → T (all valid_variable vs)
all_first [] ws h = tt
all_first (v ∷ vs) ws h =
    let (h₁, h₂) = both (valid_variable v) (all valid_variable (vs ++ ws)) h in
    and (valid_variable v) (all valid_variable vs) h₁ (all_first vs ws h₂)

abbrev pub with_the : Session → List Variable → Session
with_the s ls = record { store = s.store; sender = s.sender; locals = ls }

-- the first of the locals are in the first bytes, and have the first slots
pub first_names : (s : Session) {shared : Text} {slots : List ℕ} {count : ℕ} {locals : Text} {lslots : List ℕ} {lcount : ℕ} (ls more : List Variable)
    → Scope (with_the s (ls ++ more)) shared slots count locals lslots lcount
    → Scope (with_the s ls) shared slots count (take (length (variables_text ls)) locals) lslots (length ls)
first_names s {shared} {slots} {count} {locals} {lslots} {lcount} ls more S = record {
  shared_held = S.shared_held;
  locals_held = variables_front ls more locals lcount lslots S.locals_held;
  shared_valid = S.shared_valid;
  locals_valid = all_first ls more S.locals_valid;
}

-- Zeros after a text: what a fill leaves, and when that is a state's buffer.
-- Assumes nothing.
use mathlib.Core.Path.{◌≡◌, sym, ap, ◌∙◌}
use Prim.Native.Nat.{ℕ, ◌-◌}
use native.Mathlib.Omega.{arith}
use mathlib.Core.List.{◌++◌}
use lib.ListN.{length, take, replicate}
use Rattle.language.specs.Text.{Text}
use Rattle.language.specs.State.{Store}
use Rattle.language.specs.Encode.{head_text, principals_text, delegator_text, variables_text, assertions_text, state_text, buffer_size, padded}
use Rattle.value_text.specs.Writing.{Written}
use Rattle.value_text.proofs.Pieces.{rewritten, written_take, written_length}
use Rattle.language.proofs.Logic.Lists.{five_joined}

-- a buffer whose first r bytes are the text t, and then zeros
pub padded_is : (t a : Text) (r : ℕ) → length a ≡ buffer_size → r ≡ length t → take r a ≡ t → take r a ++ replicate (length a - r) 0 ≡ padded t
padded_is t a r h e q = ap (λ l. l ++ replicate (length a - r) 0) q ∙ ap (λ n. t ++ replicate (n - r) 0) h ∙ ap (λ n. t ++ replicate (buffer_size - n) 0) e

-- the parts of a state text written one after the other from the start of a buffer, and zeros after them, are the state's buffer
pub state_padded : (s : Store) (before after : Text) (r : ℕ) → length before ≡ buffer_size
    → Written before 0
    (head_text s.is_open
    ++ (principals_text s.principals ++ (delegator_text s.delegator ++ (variables_text s.variables ++ assertions_text s.assertions)))) r after
    → take r after ++ replicate (length after - r) 0 ≡ padded (state_text s)
state_padded s before after r h w =
    let p : Text = head_text s.is_open in
    let e : p ++ (principals_text s.principals ++ (delegator_text s.delegator ++ (variables_text s.variables ++ assertions_text s.assertions))) ≡ state_text s =
    sym (five_joined p (principals_text s.principals) (delegator_text s.delegator) (variables_text s.variables) (assertions_text s.assertions)) in
    let x : Written before 0 (state_text s) r after = rewritten e w in
    padded_is (state_text s) after r (written_length x ∙ h) (x.ends ∙ omega arith) (written_take x)

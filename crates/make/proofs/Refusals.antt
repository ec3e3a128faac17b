-- Making a server is refused with the number of the first test that fails; where all are met, it is made.
-- Assumes nothing.
use mathlib.Core.Path.{◌≡◌, ◌∙◌}
use Prim.Native.Nat.{◌≤◌, ◌<◌}
use mathlib.Core.Bool.{true, false}
use borrow.Author.Tests.{eq-eqb, ne_eqb, le-leb, lt-leb}
use lib.ListN.{length}
use Rattle.language.specs.Text.{Text}
use Rattle.language.specs.Identifiers.{is_string}
use Rattle.language.specs.Calls.{ready, refuse, sized, made, make_call}
use Rattle.language.proofs.Histories.Checks.{passed, stopped}

module _ (buffer password : Text) where
  pub make_size : (length buffer ≡ 65536 → ⊥) → refuse buffer 2 ≡ make_call buffer password
  make_size h = stopped buffer (sized buffer) 2 _ (ne_eqb (length buffer) 65536 h)

  module _ (h : length buffer ≡ 65536) where
    pub make_bytes : is_string password ≡ false → refuse buffer 8 ≡ make_call buffer password
    make_bytes e = stopped buffer (is_string password) 8 _ e ∙ passed buffer (sized buffer) 2 _ (eq-eqb (length buffer) 65536 h)

    module _ (e : is_string password ≡ true) where
      pub make_long : 1024 < length password → refuse buffer 9 ≡ make_call buffer password
      make_long l =
          stopped buffer _ 9 _ (lt-leb (length password) 1024 l)
          ∙ passed buffer (is_string password) 8 _ e
          ∙ passed buffer (sized buffer) 2 _ (eq-eqb (length buffer) 65536 h)

      pub make_done : length password ≤ 1024 → record { answer = ready; lent = made password } ≡ make_call buffer password
      make_done l =
          passed buffer _ 9 _ (le-leb (length password) 1024 l)
          ∙ passed buffer (is_string password) 8 _ e
          ∙ passed buffer (sized buffer) 2 _ (eq-eqb (length buffer) 65536 h)

-- The same locals in another buffer, with their slots in front of others.
use mathlib.Core.Path.{◌≡◌, sym, ap, subst, ◌∙◌}
use Prim.Native.Nat.{ℕ, ◌+◌, ◌≤◌}
use native.Mathlib.Omega.{arith}
use mathlib.Core.List.{List, map}
use lib.ListN.{length, take, drop}
use lib.Seq.{length-take-le, take_at, take_all}
use Rattle.language.specs.Text.{Text}
use Rattle.language.specs.Syntax.{Expr}
use Rattle.language.specs.Values.{Session}
use Rattle.store.specs.Rows.{variable_row}
use Rattle.store.proofs.Records.{slots_long}
use Rattle.store.proofs.Holders.{variables_rows}
use Rattle.splice.specs.Splices.{over}
use Rattle.lets.specs.Reaching.{Texts, texts}
use Rattle.lets.specs.Giving.{Starts}

module _ {s : Session} {x : Expr} {t : Text} {b : Texts} {number at : ℕ} (S : Starts s x t b (length b.scope) number at) where
  -- there are as many slots as locals
  pub slots_enough : number ≤ length b.local_slots
  slots_enough =
      slots_long (map variable_row s.locals) (take (length b.scope) b.scope) number b.local_slots
      (variables_rows s.locals (take (length b.scope) b.scope) number b.local_slots S.held.locals_held)

  pub starts_aside : (scope : Text) (slots : List ℕ) → take (length b.scope) scope ≡ b.scope → length b.scope ≤ length scope
      → take number slots ≡ take number b.local_slots → Starts s x t (texts b.shared b.slots b.count scope slots) (length b.scope) number at
  starts_aside scope slots e l f = record {
    others = S.others;
    within = S.within;
    reads = S.reads;
    is_valid = S.is_valid;
    held = record {
      shared_held = S.held.shared_held;
      locals_held = record {
        is_text_lem = e ∙ sym whole ∙ S.held.locals_held.is_text_lem;
        counted = S.held.locals_held.counted;
        indexed = f ∙ S.held.locals_held.indexed;
        named = S.held.locals_held.named;
        small = subst (λ (u : Text). length u ≤ 131072) (whole ∙ sym e) S.held.locals_held.small;
      };
      shared_valid = S.held.shared_valid;
      locals_valid = S.held.locals_valid;
    };
    in_scope = l;
  }
    where
      whole : take (length b.scope) b.scope ≡ b.scope
      whole = take_all (length b.scope) b.scope (omega arith)

-- the slots copied in front
pub slots_front : (d l after : List ℕ) (n : ℕ) → n ≤ length l → after ≡ over d 0 (take n l) → take n after ≡ take n l
slots_front d l after n h q =
    let e : length (take n l) ≡ n = length-take-le n l h in
    ap (take n) q ∙ take_at (take n l) (drop (0 + length (take n l)) d) n e

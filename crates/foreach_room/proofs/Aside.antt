-- The same locals in another buffer, with their slots in front of others.
-- Assumes nothing.
use mathlib.Core.Path.{◌≡◌, refl, sym, ap, subst, ◌∙◌}
use Prim.Native.Nat.{ℕ, ◌+◌, ◌≤◌, ◌<◌}
use native.Mathlib.Omega.{arith}
use mathlib.Core.List.{List}
use lib.ListN.{length, take, drop}
use lib.Seq.{length-take-le, take_at}
use Rattle.language.specs.Text.{Text}
use Rattle.language.specs.Syntax as Syntax
use Rattle.language.specs.Values.{Session}
use Rattle.text.specs.declared.Span.{Span}
use Rattle.syntax.specs.declared.Expr.{Expr}
use Rattle.syntax.specs.declared.Expr.TheVariants as ExprOf
use Rattle.splice.specs.Splices.{over}
use Rattle.permits.specs.declared.Known.{Known}
use Rattle.lets.specs.Reaching.{Texts, texts, Stack, stack}
use Rattle.foreach_element.specs.Turning.{Turning, SomeTurning, Room, Besides}
use Rattle.foreach_room.specs.Terms.{WithoutLet}

-- a text, or slots, that were copied to the front of others
pub copied_front : (d t : List ℕ) (len : ℕ) → len ≤ length t → (after : List ℕ) → after ≡ over d 0 (take len t) → take len after ≡ take len t
copied_front d t len h after q =
    ap (take len) q ∙ take_at (take len t) (drop (0 + length (take len t)) d) len (length-take-le len t h)

module _ {s : Session} {x : Syntax.Expr} {t : Text} {shared : Text} {slots : List ℕ} {count : ℕ} {len number : ℕ} {y : Span} {e : Expr}
    {assertions : List ℕ} {n principals sender : ℕ} {known : Known} where
  pub elsewhere : {locals : Text} {lslots : List ℕ} → Turning s x t (texts shared slots count locals lslots) len number y e assertions n principals sender known
      → (scope : Text) (aslots : List ℕ) → take len scope ≡ take len locals → len ≤ length scope → take number aslots ≡ take number lslots
      → Turning s x t (texts shared slots count scope aslots) len number y e assertions n principals sender known
  elsewhere I scope aslots p l q =
      let A = I.asked in
      let H = A.held.locals_held in
      record {
        asked = record {
          meant = A.meant;
          within = A.within;
          is_valid = A.is_valid;
          held = record {
            shared_held = A.held.shared_held;
            locals_held = record {
              is_text_lem = p ∙ H.is_text_lem;
              counted = H.counted;
              indexed = q ∙ H.indexed;
              named = H.named;
              small = subst (λ (u : Text). length u ≤ 131072) (sym p) H.small;
            };
            shared_valid = A.held.shared_valid;
            locals_valid = A.held.locals_valid;
          };
          in_scope = l;
        };
        sends = I.sends;
        knows = I.knows;
      }

  -- and back in their own, with the slots that they have then
  pub brought_back : {locals : Text} {lslots : List ℕ} → Turning s x t (texts shared slots count locals lslots) len number y e assertions n principals sender known
      → (scope : Text) (aslots : List ℕ) → Turning s x t (texts shared slots count scope aslots) len number y e assertions n principals sender known
      → Turning s x t (texts shared slots count locals aslots) len number y e assertions n principals sender known
  brought_back {locals} {lslots} I scope aslots J =
      elsewhere J locals aslots (I.asked.held.locals_held.is_text_lem ∙ sym J.asked.held.locals_held.is_text_lem) I.asked.in_scope refl

-- what is asked of some session is asked of the copy
pub some_elsewhere : {t : Text} {shared : Text} {slots : List ℕ} {count : ℕ} {locals : Text} {lslots : List ℕ} {len number : ℕ} {y : Span} {e : Expr}
    {assertions : List ℕ} {n principals sender : ℕ} {known : Known} (P : SomeTurning t (texts shared slots count locals lslots) len number y e assertions n principals sender known)
    (scope : Text) (aslots : List ℕ) → Turning P.session P.expression t (texts shared slots count scope aslots) len number y e assertions n principals sender known → number < length aslots
    → SomeTurning t (texts shared slots count scope aslots) len number y e assertions n principals sender known
some_elsewhere P scope aslots I q = record {
  session = P.session;
  expression = P.expression;
  turning = I;
  text_short = P.text_short;
  y_within = P.y_within;
  y_named = P.y_named;
  locals_short = P.locals_short;
  few = P.few;
  slots_room = q;
}

-- ---- room

pub term_room : (e : Expr) → WithoutLet e → (b : Texts) (k : Stack) (number : ℕ) → length b.scope ≡ 57605 → Room e b k number
term_room (ExprOf.Term u) w b k number q = record { scope_size_lem = omega (arith, q); scope_small = omega (arith, q); besides = tt }
term_room (ExprOf.Let u) w b k number q = absurd w

pub let_room : (e : Expr) (shared : Text) (slots : List ℕ) (count : ℕ) (scope : Text) (aslots heads lens counts bounds : List ℕ) (number : ℕ) → length scope ≡ 90373 → length aslots ≡ 8192
    → length heads ≡ 4096 → length lens ≡ 4096 → length counts ≡ 4096 → length bounds ≡ 4096 → number < 4096
    → Room e (texts shared slots count scope aslots) (stack heads lens counts bounds) number
let_room e shared slots count scope aslots heads lens counts bounds number p q h l c b k = record {
  scope_size_lem = omega (arith, p);
  scope_small = omega (arith, p);
  besides = go e;
}
  where
    go : (e : Expr) → Besides e (texts shared slots count scope aslots) (stack heads lens counts bounds) number
    go (ExprOf.Term u) = tt
    go (ExprOf.Let u) = record {
      scope_size_lem = omega (arith, p);
      slots_size = omega (arith, q, k);
      slots_small = omega (arith, q);
      deep = record { heads_size = h; lens_size = l; counts_size = c; bounds_size = b };
    }

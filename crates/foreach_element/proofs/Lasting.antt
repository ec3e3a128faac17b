-- The locals with y last among them, and without it again.
-- Assumes nothing.
use mathlib.Core.Path.{◌≡◌, sym, ap, subst, ◌∙◌}
use Prim.Native.Nat.{ℕ, ◌+◌, ◌≤◌}
use native.Mathlib.Omega.{arith}
use mathlib.Core.Bool.{true, ◌&&◌}
use mathlib.Core.List.{List, [], ◌∷◌, ◌++◌}
use lib.Dec.{T}
use lib.ListN.{length, take}
use lib.Seq.{length-take-le, take-take}
use Rattle.language.specs.Text.{Text}
use Rattle.language.specs.Syntax as Syntax
use Rattle.language.specs.Syntax.{Name}
use Rattle.language.specs.Identifiers.{is_name}
use Rattle.language.specs.State.{Element, Variable, single}
use Rattle.language.specs.Encode.{variables_text}
use Rattle.language.specs.Outcomes.{Outcome}
use Rattle.language.specs.State.{Value}
use Rattle.language.specs.Valid.{valid_element, valid_variable}
use Rattle.language.specs.Values.{Session}
use Rattle.language.specs.Commands.{with_element}
use Rattle.language.proofs.Logic.Tests.{and, all_append}
use Rattle.text.specs.declared.Span.{Span}
use Rattle.text.specs.Meaning.{part}
use Rattle.syntax.specs.declared.Expr.{Expr}
use Rattle.syntax.specs.declared.Expr.TheVariants as ExprOf
use Rattle.store.specs.Held.{Variables}
use Rattle.edits.proofs.Adding.{variables_front}
use Rattle.scopes.specs.Scopes.{Scope}
use Rattle.permits.specs.Permits.{Sends}
use Rattle.permits.specs.declared.Known.{Known}
use Rattle.permits.specs.Knowledge.{terms, Knows}
use Rattle.permits.proofs.Knowing.{knows_same}
use Rattle.evaluated.specs.declared.Answered.{Answered}
use Rattle.evaluated.specs.declared.Answered.TheVariants as Is
use Rattle.term_answer.specs.Telling.{Tells}
use Rattle.lets.specs.Reaching.{texts, Stack}
use Rattle.lets.proofs.Passing.{unread_any, sends_any}
use Rattle.expression_answer.specs.Asking.{Asked, Fitted}
use Rattle.foreach_element.specs.Turning.{Turning, Room}

-- ---- an answer in the session with y is one in the session

pub told_outside : (s : Session) (ls : List Variable) (xs : List Name) (r : Answered) (o : Outcome Value) (out : Text)
    → Tells r (record { store = s.store; sender = s.sender; locals = ls }) xs o out → Tells r s xs o out
told_outside s ls xs Is.Denied o out t = sym (unread_any s ls xs) ∙ t
told_outside s ls xs Is.Missing o out t = (sym (unread_any s ls xs) ∙ t.0, t.1)
told_outside s ls xs Is.Heavy o out t = (sym (unread_any s ls xs) ∙ t.0, t.1)
told_outside s ls xs (Is.Value n w) o out t = (sym (unread_any s ls xs) ∙ t.0, t.1)

-- ---- with y, and without

module _ {s : Session} {x : Syntax.Expr} {t : Text} {shared : Text} {slots : List ℕ} {count : ℕ} {scope : Text} {lslots : List ℕ} {len number : ℕ} {y : Span} {e : Expr}
    {assertions : List ℕ} {n principals sender : ℕ} {known : Known}
    (I : Turning s x t (texts shared slots count scope lslots) len number y e assertions n principals sender known) (a : Element) where
  H : Scope s shared slots count (take len scope) lslots number
  H = I.asked.held

  pub sends_with : Sends (with_element s (part t y) a) shared slots count assertions n principals sender
  sends_with = sends_any (s.locals ++ (record { name = part t y; value = single a } ∷ [])) I.sends

  pub knows_with : Knows known (with_element s (part t y) a) (terms x)
  knows_with = knows_same s (with_element s (part t y) a) (unread_any s (s.locals ++ (record { name = part t y; value = single a } ∷ []))) known (terms x) I.knows

  module _ (after : Text) (end : ℕ) (aslots : List ℕ) where
    pub with_last : Variables (s.locals ++ (record { name = part t y; value = single a } ∷ [])) (take end after) (number + 1) aslots → end ≤ length after
        → T (is_name (part t y)) → T (valid_element a) → Asked (with_element s (part t y) a) x t (texts shared slots count after aslots) end (number + 1) e
    with_last W l k h = record {
      meant = I.asked.meant;
      within = I.asked.within;
      is_valid = I.asked.is_valid;
      held = record {
        shared_held = H.shared_held;
        locals_held = W;
        shared_valid = H.shared_valid;
        locals_valid =
            all_append valid_variable s.locals (record { name = part t y; value = single a } ∷ []) H.locals_valid
            (and (is_name (part t y) && valid_element a) true (and (is_name (part t y)) (valid_element a) k h) tt);
      };
      in_scope = l;
    }

    pub without_last : Asked (with_element s (part t y) a) x t (texts shared slots count after aslots) end (number + 1) e → length after ≡ length scope → len ≤ end
        → Turning s x t (texts shared slots count after aslots) len number y e assertions n principals sender known
    without_last A m k =
        let W = A.held.locals_held in
        let q : length (variables_text s.locals) ≡ len = sym (ap length H.locals_held.is_text_lem) ∙ length-take-le len scope I.asked.in_scope in
        let F = variables_front s.locals (record { name = part t y; value = single a } ∷ []) (take end after) (number + 1) aslots W in
        let G : Variables s.locals (take len (take end after)) (length s.locals) aslots = subst (λ (m : ℕ). Variables s.locals (take m (take end after)) (length s.locals) aslots) q F in
        let K : Variables s.locals (take len after) (length s.locals) aslots = subst (λ (u : Text). Variables s.locals u (length s.locals) aslots) (take-take len end after k) G in
        record {
          asked = record {
            meant = I.asked.meant;
            within = I.asked.within;
            is_valid = I.asked.is_valid;
            held = record {
              shared_held = H.shared_held;
              locals_held = subst (λ (m : ℕ). Variables s.locals (take len after) m aslots) (sym H.locals_held.counted) K;
              shared_valid = H.shared_valid;
              locals_valid = H.locals_valid;
            };
            in_scope = omega (arith, m, I.asked.in_scope);
          };
          sends = I.sends;
          knows = I.knows;
        }

-- ---- room for a `let` behind y

pub fits : (e : Expr) (shared : Text) (slots : List ℕ) (count : ℕ) (scope after : Text) (lslots aslots : List ℕ) (k : Stack) (number end : ℕ)
    → Room e (texts shared slots count scope lslots) k number → length after ≡ length scope → length aslots ≡ length lslots → end ≤ 57605
    → Fitted e (texts shared slots count after aslots) k end (number + 1)
fits (ExprOf.Term u) shared slots count scope after lslots aslots k number end R p q l = tt
fits (ExprOf.Let u) shared slots count scope after lslots aslots k number end R p q l = record {
  scope_size_lem = omega (arith, p, l, R.besides.scope_size_lem);
  scope_small = omega (arith, p, R.scope_small);
  slots_size = omega (arith, q, R.besides.slots_size);
  slots_small = omega (arith, q, R.besides.slots_small);
  deep = R.besides.deep;
}

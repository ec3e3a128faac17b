-- Elements tried one after the other.
-- Assumes nothing.
use mathlib.Core.Path.{◌≡◌, refl, sym, ap, subst, ◌∙◌}
use Prim.Native.Nat.{ℕ, ◌+◌, ◌≤◌}
use native.Mathlib.Omega.{arith}
use mathlib.Core.Bool.{true, false}
use mathlib.Core.List.{List, [], ◌∷◌, ◌++◌, append_assoc, append-nil}
use lib.ListN.{length}
use Rattle.language.specs.Text.{Text}
use Rattle.language.specs.Outcomes.{Outcome, gives}
use Rattle.language.specs.State.{Element, list}
use Rattle.language.specs.Weight.{limit, element_weight, value_weight}
use Rattle.language.specs.Syntax as Syntax
use Rattle.language.specs.Syntax.{Name}
use Rattle.language.specs.Values.{Session}
use Rattle.language.specs.Expressions.{unbound, names}
use Rattle.language.specs.Commands.{with_element, names_for_each}
use Rattle.language.proofs.Logic.Lists.{sum_append}
use Rattle.text.specs.declared.Span.{Span}
use Rattle.syntax.specs.declared.Expr.{Expr}
use Rattle.syntax.specs.declared.Expr.TheVariants as ExprOf
use Rattle.permits.specs.Permits.{unread}
use Rattle.values.specs.Places.{Elements, SomeElements}
use Rattle.values.specs.Answers.{Nexts}
use Rattle.std.specs.Prelude.{None}
use Rattle.values.proofs.Listing.{Stepped, at_end}
use Rattle.lets.specs.Reaching.{texts, stack}
use Rattle.foreach_piece.specs.declared.Draft.{Draft}
use Rattle.foreach_piece.specs.declared.Made.{Made}
use Rattle.foreach_piece.specs.declared.Made.TheVariants as Is
use Rattle.foreach_piece.specs.declared.Way.{Way}
use Rattle.foreach_piece.specs.Ways.{made, together, throughout}
use Rattle.foreach_piece.specs.Drafts.{AsList, Drafted, MadeOf}
use Rattle.foreach_piece.proofs.Joining.{throughout_last, throughout_fails}
use Rattle.foreach_element.specs.Turning.{Turning, SomeTurning, Room}
use Rattle.foreach_list.specs.Lists.{SomeMade, decided}
use Rattle.permits.specs.declared.Known.{Known}
use Rattle.permits.specs.declared.Known.TheVariants as Rights
use Rattle.permits.specs.Knowledge.{terms, names_of, Knows}
use Rattle.expression_rights.proofs.Within.{within_all}
use Rattle.permits.proofs.Readers.{first_unread, none_unread}

-- ---- the names that elements evaluate

module _ (s : Session) (y : Name) (x : Syntax.Expr) where
  names_joined : (l m : List Element) → names_for_each s y x (l ++ m) ≡ names_for_each s y x l ++ names_for_each s y x m
  names_joined [] m = refl
  names_joined (a ∷ l) m =
      ap (λ (xs : List Name). names (with_element s y a) x ++ xs) (names_joined l m) ∙ sym (append_assoc (names (with_element s y a) x) (names_for_each s y x l) (names_for_each s y x m))

  names_last : (l : List Element) (a : Element) → names_for_each s y x (l ++ (a ∷ [])) ≡ names_for_each s y x l ++ names (with_element s y a) x
  names_last l a = names_joined l (a ∷ []) ∙ ap (λ (xs : List Name). names_for_each s y x l ++ xs) (append-nil (names (with_element s y a) x))

  all_read : unread s (names_of (terms x)) ≡ false → (l : List Element) → unread s (names_for_each s y x l) ≡ false
  all_read h [] = refl
  all_read h (a ∷ l) = none_unread s (names (with_element s y a) x) (names_for_each s y x l) (within_all s x h (unbound (with_element s y a))) (all_read h l)

-- ---- how far it has come

-- m is what became of the elements before place `at`, and the others stand from there on
pub record Reached (w : Way) (s : Session) (y : Name) (x : Syntax.Expr) (es : List Element) (t : Text) (at : ℕ) (out : Text) (m : Made) : Type 0 where
  pub gone : List Element
  pub rest : List Element
  pub are : es ≡ gone ++ rest
  pub here : Elements t at rest
  pub so_far : MadeOf AsList m s (names_for_each s y x gone) (throughout (made w s y x) gone) out

module _ (w : Way) (s : Session) (y : Name) (x : Syntax.Expr) (es : List Element) (t : Text) (at : ℕ) (out : Text) where
  pub reached_start : (d : Draft) → Elements t at es → Drafted AsList (gives []) out d → Reached w s y x es t at out (Is.Done d)
  reached_start d E D = record { gone = []; rest = es; are = refl; here = E; so_far = (refl, D) }

  module _ (m : Made) (R : Reached w s y x es t at out m) where
    pub some_rest : SomeElements t at
    some_rest = record { elements = R.rest; stand = R.here }

    pub some_so_far : SomeMade AsList out m
    some_so_far = record { session = s; names = names_for_each s y x R.gone; outcome = throughout (made w s y x) R.gone; made_of = R.so_far }

    pub reached_end : Nexts t at R.rest None → MadeOf AsList m s (names_for_each s y x es) (throughout (made w s y x) es) out
    reached_end n =
        let q : R.gone ≡ es = sym (R.are ∙ ap (λ (l : List Element). R.gone ++ l) (at_end t at R.rest n) ∙ append-nil R.gone) in
        subst (λ (l : List Element). MadeOf AsList m s (names_for_each s y x l) (throughout (made w s y x) l) out) q R.so_far

    -- what is over is so for all of them
    pub reached_over : (known : Known) → Knows known s (terms x) → decided m known ≡ true → MadeOf AsList m s (names_for_each s y x es) (throughout (made w s y x) es) out
    reached_over known K e = go m known R.so_far K e
      where
        go : (k : Made) (r : Known) → MadeOf AsList k s (names_for_each s y x R.gone) (throughout (made w s y x) R.gone) out → Knows r s (terms x) → decided k r ≡ true
            → MadeOf AsList k s (names_for_each s y x es) (throughout (made w s y x) es) out
        go Is.Denied r h K e =
            ap (λ (l : List Element). unread s (names_for_each s y x l)) R.are ∙ ap (unread s) (names_joined s y x R.gone R.rest)
            ∙ first_unread s (names_for_each s y x R.gone) (names_for_each s y x R.rest) h
        go Is.No Rights.All h K e = (all_read s y x K es, ap (throughout (made w s y x)) R.are ∙ throughout_fails (made w s y x) R.gone R.rest h.1)
        go Is.No (Rights.Until k) h K e = absurd (let z : ◌≡◌ {A = ℕ} 0 1 = cc in omega arith)
        go Is.No Rights.Nothing h K e = absurd (let z : ◌≡◌ {A = ℕ} 0 1 = cc in omega arith)
        go (Is.Done d) r h K e = absurd (let z : ◌≡◌ {A = ℕ} 0 1 = cc in omega arith)

    module _ (p : Span) (N : Stepped t at R.rest p) where
      next : es ≡ R.gone ++ (N.element ∷ N.more)
      next = R.are ∙ ap (λ (l : List Element). R.gone ++ l) N.elements_are

      pub light_element : value_weight (list es) ≤ limit → element_weight N.element ≤ limit
      light_element h =
          omega (arith, h, ap (λ (l : List Element). value_weight (list l)) next, sum_append (λ (e : Element). 1 + element_weight e) R.gone (N.element ∷ N.more))

      pub reached_on : (after : Text) (k : Made)
          → MadeOf AsList k s (names_for_each s y x R.gone ++ names (with_element s y N.element) x) (together (throughout (made w s y x) R.gone) (made w s y x N.element)) after
          → Reached w s y x es t p.end after k
      reached_on after k h = record {
        gone = R.gone ++ (N.element ∷ []);
        rest = N.more;
        are = next ∙ sym (append_assoc R.gone (N.element ∷ []) N.more);
        here = N.taken.others;
        so_far =
            subst (λ (xs : List Name). MadeOf AsList k s xs (throughout (made w s y x) (R.gone ++ (N.element ∷ []))) after) (sym (names_last s y x R.gone N.element))
            (subst (λ (o : Outcome (List Element)). MadeOf AsList k s (names_for_each s y x R.gone ++ names (with_element s y N.element) x) o after) (sym (throughout_last (made w s y x) R.gone N.element)) h);
      }

-- ---- what a turn leaves is ready for the next

module _ {shared : Text} {slots : List ℕ} {count : ℕ} {scope : Text} {lslots : List ℕ} where
  pub still : {t : Text} {len number : ℕ} {y : Span} {e : Expr} {assertions : List ℕ} {n principals sender : ℕ} {known : Known}
      (P : SomeTurning t (texts shared slots count scope lslots) len number y e assertions n principals sender known) (after : Text) (aslots : List ℕ)
      → Turning P.session P.expression t (texts shared slots count after aslots) len number y e assertions n principals sender known → length aslots ≡ length lslots
      → SomeTurning t (texts shared slots count after aslots) len number y e assertions n principals sender known
  still P after aslots I q = record {
    session = P.session;
    expression = P.expression;
    turning = I;
    text_short = P.text_short;
    y_within = P.y_within;
    y_named = P.y_named;
    locals_short = P.locals_short;
    few = P.few;
    slots_room = omega (arith, P.slots_room, q);
  }

  pub same_room : (e : Expr) {heads lens counts bounds : List ℕ} {number : ℕ} (after : Text) (aslots heads' lens' counts' bounds' : List ℕ)
      → Room e (texts shared slots count scope lslots) (stack heads lens counts bounds) number
      → length after ≡ length scope → length aslots ≡ length lslots → length heads' ≡ length heads → length lens' ≡ length lens → length counts' ≡ length counts → length bounds' ≡ length bounds
      → Room e (texts shared slots count after aslots) (stack heads' lens' counts' bounds') number
  same_room (ExprOf.Term u) after aslots heads' lens' counts' bounds' R p q h l c b = record { scope_size_lem = omega (arith, p, R.scope_size_lem); scope_small = omega (arith, p, R.scope_small); besides = tt }
  same_room (ExprOf.Let u) after aslots heads' lens' counts' bounds' R p q h l c b = record {
    scope_size_lem = omega (arith, p, R.scope_size_lem);
    scope_small = omega (arith, p, R.scope_small);
    besides = record {
      scope_size_lem = omega (arith, p, R.besides.scope_size_lem);
      slots_size = omega (arith, q, R.besides.slots_size);
      slots_small = omega (arith, q, R.besides.slots_small);
      deep = record {
        heads_size = h ∙ R.besides.deep.heads_size;
        lens_size = l ∙ R.besides.deep.lens_size;
        counts_size = c ∙ R.besides.deep.counts_size;
        bounds_size = b ∙ R.besides.deep.bounds_size;
      };
    };
  }

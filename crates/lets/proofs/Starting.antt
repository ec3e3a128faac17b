-- The evaluation at its start: no name of `let` lives, and there is no frame.
use mathlib.Core.Path.{◌≡◌, refl, sym, ap}
use Prim.Native.Nat.{ℕ, ◌≤◌, zero-le}
use native.Mathlib.Omega.{arith}
use mathlib.Core.List.{[], append-nil}
use lib.ListN.{length, drop, length-drop}
use Rattle.language.specs.Text.{Text}
use Rattle.language.specs.Syntax.{Expr}
use Rattle.language.specs.Programs.{longest}
use Rattle.language.specs.Encode.{variables_text}
use Rattle.language.specs.Values.{Session}
use Rattle.language.specs.Expressions.{names}
use Rattle.permits.specs.Permits.{unread}
use Rattle.permits.specs.declared.Known.{Known}
use Rattle.permits.specs.Knowledge.{terms, Knows}
use Rattle.lets.specs.Frames.{last}
use Rattle.lets.specs.Reaching.{Texts, Stack, Holding, Reached}
use Rattle.lets.specs.Giving.{Starts}
use Rattle.lets.specs.declared.place.Place.{Place}
use Rattle.lets.proofs.Nesting.{held_length, held_count}
use Rattle.lets.proofs.Counting.{lex_short}

abbrev pub first_place : ℕ → ℕ → ℕ → Known → Place
first_place at len number known = record { p = at; depth = 0; len = len; count = number; bound = 0; known = known }

module _ {s : Session} {x : Expr} {t : Text} {b : Texts} {len number at : ℕ} (S : Starts s x t b len number at) where
  pub start_held : Holding s s.locals b len number
  start_held = record { shared_held = S.held.shared_held; locals_held = S.held.locals_held; shared_valid = S.held.shared_valid; locals_valid = S.held.locals_valid }

  long : len ≡ length (variables_text s.locals)
  long = held_length s b s.locals len number start_held S.in_scope

  pub start_reached : (k : Stack) (known : Known) → Knows known s (terms x) → length t ≤ longest → Reached s x t b k len number (first_place at len number known)
  start_reached k known K h = record {
    locals = s.locals;
    frames = [];
    here = x;
    others = S.others;
    within = S.within;
    reads = S.reads;
    is_valid = S.is_valid;
    follows = last;
    framed = tt;
    deep = refl;
    few = omega (arith, lex_short (drop at t), length-drop at t, h);
    nested = tt;
    roomy = record { lets = []; are = sym (append-nil s.locals); light = zero-le; bytes = omega (arith, long); slots = omega (arith, held_count s b s.locals len number start_held S.in_scope) };
    all_roomy = tt;
    held = start_held;
    in_scope = S.in_scope;
    base_is = long;
    number_is = held_count s b s.locals len number start_held S.in_scope;
    comes_to_lem = refl;
    evaluates = sym (ap (unread s) (append-nil (names s x)));
    knows = K;
  }

  pub start_kept : (b' : Texts) → Holding s s.locals b' len number → len ≤ length b'.scope → Starts s x t b' len number at
  start_kept b' H l = record {
    others = S.others;
    within = S.within;
    reads = S.reads;
    is_valid = S.is_valid;
    held = record { shared_held = H.shared_held; locals_held = H.locals_held; shared_valid = H.shared_valid; locals_valid = H.locals_valid };
    in_scope = l;
  }

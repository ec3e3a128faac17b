-- The name of a `let` bound to a value, or not.
use mathlib.Core.Path.{◌≡◌, sym, ap, subst, ◌∙◌}
use Prim.Native.Nat.{ℕ, ◌+◌, ◌*◌, ◌≤◌, ◌<◌}
use native.Mathlib.Omega.{arith}
use mathlib.Core.Bool.{Bool, true, false}
use mathlib.Core.List.{List, [], ◌∷◌, ◌++◌, append_assoc}
use lib.ListN.{length, take, get_or, length-append}
use borrow.Author.Tests.{lt-ltb, le-ltb}
use Rattle.language.specs.Text.{Text, when◌then◌else◌}
use Rattle.language.specs.State.{Value, Variable}
use Rattle.language.specs.Encode.{variable_text, variables_text, value_text}
use Rattle.language.specs.Weight.{limit}
use Rattle.language.specs.Outcomes.{Outcome, gives, fails, fills}
use Rattle.language.specs.Values.{Session}
use Rattle.language.specs.Expressions.{Environment, bound_with}
use Rattle.language.proofs.StateText.Clean.{name_length}
use Rattle.store.specs.Held.{Variables}
use Rattle.store.proofs.Holders.{variable_text_lem}
use Rattle.values.proofs.Texts.{joined_append}
use Rattle.scopes.proofs.Naming.{with_name_lem}
use Rattle.scopes.proofs.Bounds.{text_bound}
use Rattle.lets.specs.Frames.{Frame, environment, opening, Roomy}
use Rattle.lets.specs.Reaching.{Texts, texts, Holding, Opened, Unmoved}
use Rattle.lets.specs.Standing.{Pushed, taken}
use Rattle.lets.proofs.Unwinding.{opening_taken, opening_free}
use Rattle.lets.proofs.Nesting.{held_length, held_count}

module _ {s : Session} {k : Frame} {v : Value} {t : Text} {b : Texts} {heads lens counts bounds : List ℕ} {d : ℕ} {src : Text} {weight base number : ℕ}
    (P : Pushed s k v t b heads lens counts bounds d src weight base number) where
  -- the locals with the new name
  abbrev pub more : List Variable
  more = k.locals ++ (record { name = k.name; value = v } ∷ [])

  pub unmoved : Unmoved s k b
  unmoved =
      subst (λ (m : ℕ). Holding s k.locals b m (length k.locals)) (held_length s b k.locals (get_or lens d 0) (get_or counts d 0) P.standing.held P.standing.in_scope)
      (subst (λ (m : ℕ). Holding s k.locals b (get_or lens d 0) m) (held_count s b k.locals (get_or lens d 0) (get_or counts d 0) P.standing.held P.standing.in_scope) P.standing.held)

  pub binds_taken : taken s k ≡ true → opening s k (gives v) ≡ fails
  binds_taken e = opening_taken s k (gives v) e

  abbrev pub total : ℕ
  total = bound_with (environment s k.locals k.bound) k.name v

  abbrev open_one : Outcome Environment
  open_one = gives (environment s more total)

  pub binds_heavy : taken s k ≡ false → limit < total → opening s k (gives v) ≡ fills
  binds_heavy e h = opening_free s k (gives v) e ∙ ap (λ (c : Bool). when c then fills else open_one) (lt-ltb limit total h)

  pub binds_fits : taken s k ≡ false → total ≤ limit → opening s k (gives v) ≡ gives (environment s more total)
  binds_fits e h = opening_free s k (gives v) e ∙ ap (λ (c : Bool). when c then fills else open_one) (le-ltb limit total h)

  -- the text of the new variable takes four bytes at most for each of its weight
  text_takes : length (variables_text more) ≡ length (variables_text k.locals) + (3 + length k.name + length src)
  text_takes =
      ap length (joined_append (λ w. variable_text w.name w.value) k.locals (record { name = k.name; value = v } ∷ []))
      ∙ length-append (variables_text k.locals) (variables_text (record { name = k.name; value = v } ∷ []))
      ∙ ap (λ (n : ℕ). length (variables_text k.locals) + n) one
    where
      one : length (variables_text (record { name = k.name; value = v } ∷ [])) ≡ 3 + length k.name + length src
      one =
          length-append (variable_text k.name v) []
          ∙ omega (arith, ap length (variable_text_lem k.name v), length-append k.name (9 ∷ value_text v), ap length P.is_value.is_text_lem)

  src_short : length src ≤ 3 * weight + 3
  src_short = subst (λ (w : ℕ). length src ≤ 3 * w + 3) (sym P.value_weighs) (text_bound v src P.is_value)

  named : 1 ≤ length k.name
  named = (name_length k.name P.name_holds).0

  pub roomy_more : total ≤ limit → Roomy s more total base number
  roomy_more h = record {
    lets = P.roomy.lets ++ (record { name = k.name; value = v } ∷ []);
    are = ap (λ (l : List Variable). l ++ (record { name = k.name; value = v } ∷ [])) P.roomy.are ∙ append_assoc s.locals P.roomy.lets (record { name = k.name; value = v } ∷ []);
    light = h;
    bytes = omega (arith, text_takes, src_short, named, P.roomy.bytes, P.value_weighs);
    slots = omega (arith, length-append k.locals (record { name = k.name; value = v } ∷ []), named, P.roomy.slots);
  }

  -- there is room for it
  pub room_there : total ≤ limit → (length (variables_text k.locals) + 3 + length k.name + length src ≤ length b.scope) × (length k.locals < length b.local_slots)
  room_there h = (omega (arith, src_short, named, P.roomy.bytes, P.value_weighs, P.scope_size_lem, h), omega (arith, named, P.roomy.slots, P.slots_size, h))

  module _ (after : Text) (aslots : List ℕ) (end n : ℕ) where
    pub binds_done : taken s k ≡ false → total ≤ limit → Variables more (take end after) n aslots → end ≤ length after
        → Opened s k v (texts b.shared b.slots b.count after aslots) base number end n total
    binds_done e h W l = record {
      enters = binds_fits e h;
      holds = with_name_lem P.standing.held k.name v (take end after) aslots n W P.name_holds P.is_value.is_valid;
      in_scope = l;
      roomy = roomy_more h;
    }

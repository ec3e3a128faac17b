-- What a heavy list does to a command: the session that has the new list weighs no less than that.
-- Assumes nothing.
use mathlib.Core.Path.{◌≡◌, refl, ap, ◌∙◌}
use Prim.Native.Nat.{◌≤◌}
use native.Mathlib.Omega.{arith}
use mathlib.Core.Bool.{Bool, true, false}
use mathlib.Core.List.{List, [], ◌∷◌}
use Rattle.language.specs.Text.{Text, when◌then◌else◌, ◌≟◌, sum}
use Rattle.language.specs.Syntax.{Name, Command}
use Rattle.language.specs.State.{Element, Value, list, Variable, put}
use Rattle.language.specs.Weight.{value_weight, variable_weight}
use Rattle.language.specs.Outcomes.{Outcome, gives, fails, fills}
use Rattle.language.specs.Values.{Session, is_shared, is_local}
use Rattle.language.specs.Commands.{Effect, effect, denied, step, refused, FULL, assign, granted, enter_all, with_store, with_locals, with_variables, session_weight}
use Rattle.session.proofs.Steps.{is_filled}
use Rattle.session.proofs.Weighed.{ends_full}
use Rattle.foreach_piece.specs.Drafts.{Heavy}
use Rattle.foreach_command.specs.Each.{putting}

put_weighs : (x : Name) (v : Value) (vs : List Variable) → value_weight v ≤ sum variable_weight (put x v vs)
put_weighs x v [] = omega arith
put_weighs x v (w ∷ vs) = go (w.name ≟ x) (put_weighs x v vs)
  where
    go : (b : Bool) → value_weight v ≤ sum variable_weight (put x v vs)
        → value_weight v ≤ sum variable_weight (when b then record { name = w.name; value = v } ∷ vs else w ∷ put x v vs)
    go true h = omega arith
    go false h = omega (arith, h)

assign_weighs : (s : Session) (x : Name) (v : Value) → value_weight v ≤ session_weight (assign s x v)
assign_weighs s x v = go (is_local s x) (is_shared s x)
  where
    go : (b c : Bool)
        → value_weight v
        ≤ session_weight
        (when b then with_locals s (put x v s.locals) else when c then with_store s (with_variables s.store (put x v s.store.variables))
        else with_store s (enter_all (with_variables s.store (put x v s.store.variables)) (granted s x)))
    go true c = omega (arith, put_weighs x v s.locals)
    go false true = omega (arith, put_weighs x v s.store.variables)
    go false false = omega (arith, put_weighs x v s.store.variables)

-- the session after, and the line printed
abbrev pub put_in : Session → Name → Text → List Element → Effect
put_in s x line fs = record { after = assign s x (list fs); line = line }

module _ (s : Session) (c : Command) (x : Name) (line : Text) (o : Outcome (List Element)) (n : denied s c ≡ false) (e : effect s c ≡ putting s x line o) where
  pub list_put : (fs : List Element) → o ≡ gives fs → effect s c ≡ gives (put_in s x line fs)
  list_put fs k = e ∙ ap (putting s x line) k

  -- an element is too heavy, or the new list is
  pub ends_heavy : Heavy o → step s c ≡ refused FULL
  ends_heavy w = go o refl w
    where
      go : (p : Outcome (List Element)) → o ≡ p → Heavy p → step s c ≡ refused FULL
      go (gives fs) k w = ends_full s c (put_in s x line fs) n (list_put fs k) (omega (arith, w, assign_weighs s x (list fs)))
      go fails k w = absurd w
      go fills k w = is_filled s c n (e ∙ ap (putting s x line) k)

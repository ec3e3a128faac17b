-- Commands done and programs completed leave a valid state; a fresh desk has one.
use mathlib.Core.Path.{◌≡◌, refl, sym, subst}
use Prim.Native.Nat.{◌≤◌}
use native.Mathlib.Omega.{arith}
use mathlib.Core.Bool.{Bool, true, false, ◌&&◌, not}
use mathlib.Core.Option.{Option, none, some}
use mathlib.Core.List.{List, [], ◌∷◌}
use lib.ListN.{length}
use lib.Dec.{T, T_not, not_T, leb, leb→le, le→leb, ltb, nltb→le}
use Rattle.language.specs.Text.{Text, when◌then◌else◌, all, present}
use Rattle.language.specs.Syntax.{Name, Command, Program}
use Rattle.language.specs.State.{Principal, Store, named, fresh}
use Rattle.language.specs.Weight.{limit, store_weight}
use Rattle.language.specs.Identifiers.{is_identifier, is_string}
use Rattle.language.specs.Valid.{well_formed, valid_store}
use Rattle.language.specs.Outcomes.{Outcome, gives, fails, fills}
use Rattle.language.specs.Values.{Session}
use Rattle.language.specs.Commands.{Effect, effect, denied, heavy, session_weight, Step, refused, went, FULL, verdict, step}
use Rattle.language.specs.Run.{End, refusal, completed, after, next, perform, Login, mistaken, right, login, begin, tallied, run_as, run}
use Rattle.language.proofs.Parsing.ValidPrograms.{valid_command, ends_once, valid_program}
use Rattle.language.proofs.Logic.Tests.{both, and}
use Rattle.language.proofs.Logic.Outcomes.{Where}
use Rattle.language.proofs.Logic.Giving.{Giving}
use Rattle.language.proofs.StateText.Shape.{shape, formed}
use Rattle.language.proofs.Meaning.ValidValues.{Good}
use Rattle.language.proofs.Meaning.Counting.{counts_store}
use Rattle.language.proofs.Meaning.Logins.{right_kept}
use Rattle.language.proofs.Meaning.ValidCommands.{Keeps, effect_good}

-- a session between two commands
pub record Ready (s : Session) : Type 0 where
  pub is_good : Good s
  pub is_light : store_weight s.store ≤ limit

pub ready_valid : (s : Session) → Ready s → T (valid_store s.store)
ready_valid s r = and (well_formed s.store) (leb (store_weight s.store) limit) (formed s.store r.is_good.store_shape) (le→leb (store_weight s.store) limit r.is_light)

abbrev pub Done : Step → Type 0
Done (refused r) = Unit {0}
Done (went f) = Ready f.after

light : (f : Effect) → T (not (heavy f)) → store_weight f.after.store ≤ limit
light f h =
    let k : session_weight f.after ≤ limit = nltb→le limit (session_weight f.after) (not_T (ltb limit (session_weight f.after)) (λ t.
    T_not (heavy f) h t)) in
    omega (arith, k)

-- what holds of an effect holds of a command done, and then it is not too heavy
abbrev pub Went : (Effect → Type 0) → Step → Type 0
Went P (refused r) = Unit {0}
Went P (went f) = P f × T (not (heavy f))

pub verdict_went : (P : Effect → Type 0) (b : Bool) (o : Outcome Effect) → Giving P o → Went P (verdict b o)
verdict_went P true o h = tt
verdict_went P false fails h = tt
verdict_went P false fills h = tt
verdict_went P false (gives f) h = go (heavy f) refl
  where
    go : (b : Bool) → heavy f ≡ b → Went P (when b then refused FULL else went f)
    go true e = tt
    go false e = (h, subst (λ c. T (not c)) (sym e) tt)

went_done : (k : Step) → Went Keeps k → Done k
went_done (refused r) h = tt
went_done (went f) h = record { is_good = h.0; is_light = light f h.1 }

pub step_done : (s : Session) (c : Command) → Ready s → T (valid_command c) → Done (step s c)
step_done s c r h = went_done (step s c) (verdict_went Keeps (denied s c) (effect s c) (effect_good s r.is_good c h))

abbrev pub EndsValid : End → Type 0
EndsValid (refusal r) = Unit {0}
EndsValid (completed lines t) = T (valid_store t)

pub perform_valid : (cs : List Command) (s : Session) → Ready s → T (all valid_command cs) → EndsValid (perform s cs)
perform_valid [] s r h = ready_valid s r
perform_valid (c ∷ cs) s r h =
    let (h₁, h₂) = both (valid_command c) (all valid_command cs) h in
    go (step s c) (step_done s c r h₁) (λ t k. perform_valid cs t k h₂)
  where
    later : (line : Text) (e : End) → EndsValid e → EndsValid (after line e)
    later line (refusal r) k = tt
    later line (completed lines t) k = k

    go : (e : Step) → Done e → ((t : Session) → Ready t → EndsValid (perform t cs)) → EndsValid (next e (λ t. perform t cs))
    go (refused r) d f = tt
    go (went e) d f = later e.line (perform e.after cs) (f e.after d)

-- a login that is right begins a session
pub begin_ready : (s : Store) (p : Program) → T (valid_store s) → login s p ≡ right → Ready (begin s p)
begin_ready s p h e =
    let (w, l) = both (well_formed s) (leb (store_weight s) limit) h in
    record {
      is_good = record { store_shape = shape s w; locals_valid = tt; sender_known = known };
      is_light = leb→le (store_weight s) limit l;
    }
  where
    known : T (present (named s.principals p.sender))
    known = subst (λ (o : Option Principal). T (present o)) (sym (right_kept p.password (named s.principals p.sender) e).1) tt

module _ (p : Program) (h : T (valid_program p)) where
  body_valid : T (all valid_command p.commands) × T (ends_once p.commands)
  body_valid =
      both (all valid_command p.commands) (ends_once p.commands)
      (both (is_identifier p.sender && is_string p.password) (all valid_command p.commands && ends_once p.commands) h).1

  pub commands_valid : T (all valid_command p.commands)
  commands_valid = body_valid.0

  pub ends_valid : T (ends_once p.commands)
  ends_valid = body_valid.1

tallied_valid : (p : Name) (e : End) → EndsValid e → EndsValid (tallied p e)
tallied_valid p (refusal r) k = tt
tallied_valid p (completed lines t) k = counts_store p t k

pub run_valid : (s : Store) → T (valid_store s) → (o : Option Program) → Where (λ p. T (valid_program p)) o → EndsValid (run s o)
run_valid s h none k = tt
run_valid s h (some p) k = go (login s p) refl
  where
    go : (l : Login) → login s p ≡ l → EndsValid (run_as l (begin s p) p.commands)
    go mistaken e = tt
    go right e = tallied_valid p.sender (perform (begin s p) p.commands) (perform_valid p.commands (begin s p) (begin_ready s p h e) (commands_valid p k))

pub fresh_valid : (password : Text) → T (is_string password) → length password ≤ 1024 → T (valid_store (fresh password))
fresh_valid password h l =
    and (well_formed (fresh password)) (leb (store_weight (fresh password)) limit)
    (formed (fresh password) (record {
      order = tt;
      principals_valid = and (is_string password && true) true (and (is_string password) true h tt) tt;
      principals_distinct = tt;
      delegator_known = tt;
      variables_valid = tt;
      variables_distinct = tt;
      assertions_valid = tt;
      assertions_unrepeated = tt;
    }))
    (le→leb (store_weight (fresh password)) limit (omega arith))

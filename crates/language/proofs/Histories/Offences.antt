-- A program ends in DENIED exactly where the record of the calls says so.
use mathlib.Core.Path.{◌≡◌, refl, sym, subst}
use mathlib.Core.Logic.{◌↔◌, ◌⊎◌, inl, inr}
use Prim.Native.Nat.{ℕ}
use mathlib.Core.Option.{Option, none, some}
use mathlib.Core.List.{List, [], ◌∷◌, ◌++◌}
use lib.Dec.{T}
use Rattle.language.specs.Text.{Text, all, present}
use Rattle.language.specs.Syntax.{Name, Right, Command, Program}
use Rattle.language.specs.State.{Store, Assertion, admin, named, value_in, same_assertion, stands}
use Rattle.language.specs.Chains.{Chain, has}
use Rattle.language.specs.Valid.{well_formed, valid_store, valid_assertion}
use Rattle.language.specs.Values.{Session}
use Rattle.language.specs.Commands.{Step, refused, went, DENIED, FAILED, FULL, step}
use Rattle.language.specs.Run.{End, refusal, completed, after, next, perform, Login, mistaken, right, login, begin, tallied, run_as, run}
use Rattle.language.specs.Events.{Event, events}
use Rattle.language.specs.History.{Reaches, here, onward, Overstepping, Offends}
use Rattle.language.specs.Programs.{parse}
use Rattle.language.proofs.Parsing.ValidPrograms.{valid_command}
use Rattle.language.proofs.Logic.Tests.{both, three, one_of_lem}
use Rattle.language.proofs.StateText.Names.{named_is}
use Rattle.language.proofs.StateText.Shape.{Shape, shape}
use Rattle.language.proofs.Meaning.Standing.{same_assertion_lem}
use Rattle.language.proofs.Meaning.ValidCommands.{admin_known}
use Rattle.language.proofs.Parsing.Parsing.{parse_valid}
use Rattle.language.proofs.Rights.Denial.{Sound, has_is_chain, step_denied}
use Rattle.language.proofs.Meaning.ValidRuns.{Ready, Done, step_done, begin_ready, commands_valid}

-- what the chains need of a store
pub sound : (s : Store) → Shape s → Sound s
sound s g = record {
  has_admin = named_is admin s.principals (admin_known s.principals g.order);
  has_target = λ r x q p t. named_is p s.principals (target s.assertions g.assertions_valid (record { variable = x; from = q; right = r; to = p }) t);
}
  where
    target : (l : List Assertion) → T (all (valid_assertion s) l) → (a : Assertion) → T (stands l a) → T (present (named s.principals a.to))
    target [] h a t = absurd t
    target (b ∷ l) h a t =
        let (h₁, h₂) = both (valid_assertion s b) (all (valid_assertion s) l) h in
        elim (one_of_lem (same_assertion a b) (stands l a) t) [
          | inl u ↦ subst (λ c. T (present (named s.principals c.to))) (sym (same_assertion_lem a b u))
              (three (present (value_in s.variables b.variable)) (present (named s.principals b.from)) (present (named s.principals b.to)) h₁).2
          | inr u ↦ target l h₂ a u
        ]

-- in a well-formed store a right is had where there is a chain
pub right_is_chain : (s : Store) → T (well_formed s) → (r : Right) (x p : Name) → T (has s r x p) ↔ ((n : ℕ) × Chain s r x n p)
right_is_chain s h r x p = has_is_chain s (sound s (shape s h)) r x p

abbrev EndsDenied : End → Type 0
EndsDenied (refusal DENIED) = Unit {0}
EndsDenied (refusal FAILED) = ⊥
EndsDenied (refusal FULL) = ⊥
EndsDenied (completed lines s) = ⊥

ends_denied : (e : End) → EndsDenied e → e ≡ refusal DENIED
ends_denied (refusal DENIED) h = refl
ends_denied (refusal FAILED) h = absurd h
ends_denied (refusal FULL) h = absurd h
ends_denied (completed lines s) h = absurd h

denied_ends : {e : End} → e ≡ refusal DENIED → EndsDenied e
denied_ends h = subst EndsDenied (sym h) tt

after_denied : (line : Text) (e : End) → EndsDenied (after line e) → EndsDenied e
after_denied line (refusal r) h = h
after_denied line (completed lines s) h = h

denied_after : (line : Text) (e : End) → EndsDenied e → EndsDenied (after line e)
denied_after line (refusal r) h = h
denied_after line (completed lines s) h = h

-- a count changes no end
denied_tallied : (p : Name) (e : End) → EndsDenied e → EndsDenied (tallied p e)
denied_tallied p (refusal r) h = h
denied_tallied p (completed lines s) h = h

tallied_denied : (p : Name) (e : End) → EndsDenied (tallied p e) → EndsDenied e
tallied_denied p (refusal r) h = h
tallied_denied p (completed lines s) h = h

-- ---- commands

-- what the commands reach is a valid session, with valid commands left
pub reaches_ready : {s t : Session} {cs rest : List Command} {es : List Event} → Reaches s cs es t rest → Ready s → T (all valid_command cs)
    → Ready t × T (all valid_command rest)
reaches_ready here r h = (r, h)
reaches_ready (onward {s = s} {c = c} {cs = cs} e k) r h =
    let (h₁, h₂) = both (valid_command c) (all valid_command cs) h in
    reaches_ready k (subst Done e (step_done s c r h₁)) h₂

overstepping : (cs : List Command) (s : Session) → Ready s → T (all valid_command cs) → EndsDenied (perform s cs) → Overstepping s cs
overstepping [] s r h d = absurd d
overstepping (c ∷ cs) s r h d =
    let (h₁, h₂) = both (valid_command c) (all valid_command cs) h in
    go (step s c) refl (step_done s c r h₁) (λ t k. overstepping cs t k h₂) d
  where
    go : (e : Step) → step s c ≡ e → Done e → ((t : Session) → Ready t → EndsDenied (perform t cs) → Overstepping t cs)
        → EndsDenied (next e (λ t. perform t cs)) → Overstepping s (c ∷ cs)
    go (refused DENIED) e k f d = record {
      entries = [];
      before = s;
      command = c;
      rest = cs;
      reached = here;
      refusal = DENIED;
      undone = e;
      is_denied = (step_denied s c (sound s.store r.is_good.store_shape)).0 e;
    }
    go (refused FAILED) e k f d = absurd d
    go (refused FULL) e k f d = absurd d
    go (went t) e k f d =
        let o = f t.after k (after_denied t.line (perform t.after cs) d) in
        record {
          entries = events s c ++ o.entries;
          before = o.before;
          command = o.command;
          rest = o.rest;
          reached = onward e o.reached;
          refusal = o.refusal;
          undone = o.undone;
          is_denied = o.is_denied;
        }

-- what the reached session ends in, the whole does
reached_denied : {s t : Session} {cs rest : List Command} {es : List Event} → Reaches s cs es t rest → EndsDenied (perform t rest) → EndsDenied (perform s cs)
reached_denied here d = d
reached_denied (onward {c = c} {cs = cs} {f = f} e k) d =
    subst (λ k. EndsDenied (next k (λ t. perform t cs))) (sym e) (denied_after f.line (perform f.after cs) (reached_denied k d))

stops : (s : Session) (cs : List Command) → Ready s → T (all valid_command cs) → Overstepping s cs → EndsDenied (perform s cs)
stops s cs r h o =
    let ready : Ready o.before = (reaches_ready o.reached r h).0 in
    reached_denied o.reached
    (subst (λ k. EndsDenied (next k (λ t. perform t o.rest)))
    (sym ((step_denied o.before o.command (sound o.before.store ready.is_good.store_shape)).1 o.is_denied)) tt)

-- ---- programs

module _ (b : Store) (b-valid : T (valid_store b)) where
  offends : (text : Text) → EndsDenied (run b (parse text)) → Offends b text
  offends text d = go (parse text) refl d
    where
      known : (p : Program) → parse text ≡ some p → (l : Login) → login b p ≡ l → EndsDenied (run_as l (begin b p) p.commands) → Offends b text
      known p e mistaken k d = record { program = p; parses = e; either = inl k }
      known p e right k d = record {
        program = p;
        parses = e;
        either = inr (k, overstepping p.commands (begin b p) (begin_ready b p b-valid k) (commands_valid p (parse_valid text p e)) (tallied_denied p.sender (perform (begin b p) p.commands) d));
      }

      go : (o : Option Program) → parse text ≡ o → EndsDenied (run b o) → Offends b text
      go none e d = absurd d
      go (some p) e d = known p e (login b p) refl d

  offended : (text : Text) → Offends b text → EndsDenied (run b (parse text))
  offended text o = subst (λ q. EndsDenied (run b q)) (sym o.parses) (go o.either)
    where
      p : Program
      p = o.program

      go : (login b p ≡ mistaken) ⊎ ((login b p ≡ right) × Overstepping (begin b p) p.commands) → EndsDenied (run b (some p))
      go (inl e) = subst (λ l. EndsDenied (run_as l (begin b p) p.commands)) (sym e) tt
      go (inr (e, k)) =
          subst (λ l. EndsDenied (run_as l (begin b p) p.commands)) (sym e)
          (denied_tallied p.sender (perform (begin b p) p.commands) (stops (begin b p) p.commands (begin_ready b p b-valid e) (commands_valid p (parse_valid text p o.parses)) k))

  pub run_denied : (text : Text) → (run b (parse text) ≡ refusal DENIED) ↔ Offends b text
  run_denied text = (λ e. offends text (denied_ends e), λ o. ends_denied (run b (parse text)) (offended text o))

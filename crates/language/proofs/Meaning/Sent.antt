-- A command keeps who sent its program, and every principal's count; so does a whole program, before it counts for its sender.
use mathlib.Core.Path.{◌≡◌, refl, subst, ◌∙◌}
use mathlib.Core.Bool.{Bool, true, false, not, ◌&&◌}
use mathlib.Core.Option.{none, some}
use mathlib.Core.List.{List, [], ◌∷◌, ◌++◌, map}
use lib.Dec.{T}
use Rattle.language.specs.Text.{Text, when◌then◌else◌, ◌≟◌, all, present}
use Rattle.language.specs.Syntax.{Name, Command, create_principal, change_password, set, append_to, local, foreach, filtereach, set_delegation, delete_delegation, default_delegator, exit, return}
use Rattle.language.specs.State.{Value, list, Principal, named, put}
use Rattle.language.specs.Outcomes.{each_of}
use Rattle.language.specs.Values.{Session, is_principal, is_shared, is_local, is_defined, list_of}
use Rattle.language.specs.Expressions.{value}
use Rattle.language.specs.Commands.{with_store, with_locals, with_variables, enter_all, targets, changed, granted, assign, extend, elements, replaced, filtered, flat, Effect, effect, denied, Step, refused, went, step}
use Rattle.language.specs.Run.{End, refusal, completed, after, next, perform}
use Rattle.language.specs.History.{count_in, count_of}
use Rattle.language.proofs.Parsing.ValidPrograms.{valid_command}
use Rattle.language.proofs.Logic.Tests.{both}
use Rattle.language.proofs.Logic.Outcomes.{anything}
use Rattle.language.proofs.Logic.Giving.{Giving, giving_any, bind_giving, bind_from, provided_giving}
use Rattle.language.proofs.Meaning.ValidRuns.{Ready, Done, Went, verdict_went, step_done}

-- a new principal's count is 0, which is what a missing one has
added_count : (ks : List Principal) (k : Principal) (p : Name) → k.count ≡ 0 → count_in (named (ks ++ (k ∷ [])) p) ≡ count_in (named ks p)
added_count [] k p z = go (k.name ≟ p)
  where
    go : (b : Bool) → count_in (when b then some k else none) ≡ 0
    go true = z
    go false = refl
added_count (l ∷ ks) k p z = go (l.name ≟ p) (added_count ks k p z)
  where
    go : (b : Bool) → count_in (named (ks ++ (k ∷ [])) p) ≡ count_in (named ks p)
        → count_in (when b then some l else named (ks ++ (k ∷ [])) p) ≡ count_in (when b then some l else named ks p)
    go true e = refl
    go false e = e

changed_count : (q : Name) (t : Text) (ks : List Principal) (p : Name) → count_in (named (map (changed q t) ks) p) ≡ count_in (named ks p)
changed_count q t [] p = refl
changed_count q t (k ∷ ks) p = go (k.name ≟ p) (changed_count q t ks p)
  where
    go : (b : Bool) → count_in (named (map (changed q t) ks) p) ≡ count_in (named ks p)
        → count_in (when b then some (changed q t k) else named (map (changed q t) ks) p) ≡ count_in (when b then some k else named ks p)
    go true e = refl
    go false e = e

module _ (s : Session) where
  -- a session after a command
  pub record Same (t : Session) : Type 0 where
    pub sender : t.sender ≡ s.sender
    pub counts : (p : Name) → count_of t.store p ≡ count_of s.store p

  abbrev Kept : Effect → Type 0
  Kept f = Same f.after

  same : Same s
  same = record { sender = refl; counts = λ p. refl }

  assign_same : (x : Name) (v : Value) → Same (assign s x v)
  assign_same x v = go (is_local s x) (is_shared s x)
    where
      go : (b c : Bool) → Same (when b then with_locals s (put x v s.locals)
          else when c then with_store s (with_variables s.store (put x v s.store.variables))
          else with_store s (enter_all (with_variables s.store (put x v s.store.variables)) (granted s x)))
      go true c = record { sender = refl; counts = λ p. refl }
      go false true = record { sender = refl; counts = λ p. refl }
      go false false = record { sender = refl; counts = λ p. refl }

  effect_same : (c : Command) → Giving Kept (effect s c)
  effect_same (create_principal q t) =
      provided_giving Kept (not (is_principal s q)) _ (λ n.
      record { sender = refl; counts = λ p. added_count s.store.principals (record { name = q; password = some t; count = 0 }) p refl })
  effect_same (change_password q t) =
      provided_giving Kept (is_principal s q) _ (λ n. record { sender = refl; counts = λ p. changed_count q t s.store.principals p })
  effect_same (set x e) = bind_giving _ Kept (value s e) _ (giving_any (value s e)) (λ v u. assign_same x v)
  effect_same (append_to x e) =
      bind_from _ Kept (list_of s x) _ (anything (list_of s x)) (λ es u.
      bind_giving _ Kept (value s e) _ (giving_any (value s e)) (λ v w. assign_same x (list (extend es v))))
  effect_same (local x e) =
      provided_giving Kept (not (is_defined s x)) _ (λ n.
      bind_giving _ Kept (value s e) _ (giving_any (value s e)) (λ v u. record { sender = refl; counts = λ p. refl }))
  effect_same (foreach y x e) =
      bind_from _ Kept (elements s y x) _ (anything (elements s y x)) (λ es u.
      bind_giving _ Kept (each_of (replaced s y e) es) _ (giving_any (each_of (replaced s y e) es)) (λ fs w. assign_same x (list fs)))
  effect_same (filtereach y x e) =
      bind_from _ Kept (elements s y x) _ (anything (elements s y x)) (λ es u.
      bind_giving _ Kept (each_of (filtered s y e) es) _ (giving_any (each_of (filtered s y e) es)) (λ l w. assign_same x (list (flat l))))
  effect_same (set_delegation t q r p) =
      provided_giving Kept (is_principal s p && is_principal s q && all (is_shared s) (targets s.store t q)) _ (λ n. record { sender = refl; counts = λ p. refl })
  effect_same (delete_delegation t q r p) =
      provided_giving Kept (is_principal s p && is_principal s q && all (is_shared s) (targets s.store t q)) _ (λ n. record { sender = refl; counts = λ p. refl })
  effect_same (default_delegator p) = provided_giving Kept (is_principal s p) _ (λ n. record { sender = refl; counts = λ p. refl })
  effect_same exit = record { sender = refl; counts = λ p. refl }
  effect_same (return e) = bind_giving _ Kept (value s e) _ (giving_any (value s e)) (λ v u. same)

  step_same : (c : Command) → Went Kept (step s c)
  step_same c = verdict_went Kept (denied s c) (effect s c) (effect_same c)

  -- whoever sent the program has sent it to its end
  pub step_sender : (c : Command) (f : Effect) → step s c ≡ went f → f.after.sender ≡ s.sender
  step_sender c f e = (subst (Went Kept) e (step_same c)).0.sender

-- ---- whole programs

-- a completed program has left every count, and its sender is a principal still
abbrev pub EndsSame : Session → End → Type 0
EndsSame s (refusal r) = Unit {0}
EndsSame s (completed lines t) = ((p : Name) → count_of t p ≡ count_of s.store p) × T (present (named t.principals s.sender))

pub perform_same : (cs : List Command) (s : Session) → Ready s → T (all valid_command cs) → EndsSame s (perform s cs)
perform_same [] s r h = (λ p. refl, r.is_good.sender_known)
perform_same (c ∷ cs) s r h =
    let (h₁, h₂) = both (valid_command c) (all valid_command cs) h in
    go (step s c) (step_same s c) (step_done s c r h₁) (λ t k. perform_same cs t k h₂)
  where
    later : (t : Session) → Same s t → (line : Text) (e : End) → EndsSame t e → EndsSame s (after line e)
    later t k line (refusal r) i = tt
    later t k line (completed lines u) i = (λ p. i.0 p ∙ k.counts p, subst (λ n. T (present (named u.principals n))) k.sender i.1)

    go : (e : Step) → Went (Kept s) e → Done e → ((t : Session) → Ready t → EndsSame t (perform t cs)) → EndsSame s (next e (λ t. perform t cs))
    go (refused r) w d f = tt
    go (went e) w d f = later e.after w.0 e.line (perform e.after cs) (f e.after d)

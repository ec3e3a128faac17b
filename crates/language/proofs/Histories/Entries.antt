-- The standing assertions are the fold of the events: of a command, of commands done in turn, of every list of calls.
use mathlib.Core.Path.{◌≡◌, refl, sym, ap, subst, ◌∙◌}
use mathlib.Core.Bool.{Bool, true, false, ◌&&◌, ◌||◌, not}
use mathlib.Core.Option.{Option, none, some}
use mathlib.Core.List.{List, [], ◌∷◌, ◌++◌, map}
use lib.Dec.{T}
use Rattle.language.specs.Text.{Text, when◌then◌else◌, ◌or_else◌, all, present}
use Rattle.language.specs.Syntax.{Name, rights, Command, create_principal, change_password, set, append_to, local, foreach, filtereach, set_delegation, delete_delegation, default_delegator, exit, return, Program}
use Rattle.language.specs.State.{Value, list, Assertion, value_in, put}
use Rattle.language.specs.Outcomes.{each_of}
use Rattle.language.specs.Values.{Session, is_shared, is_local, is_defined, is_principal, lookup, as_list, list_of}
use Rattle.language.specs.Expressions.{value}
use Rattle.language.specs.Commands.{with_store, with_locals, with_variables, enter_all, with_principal, entering, withdrawing, assertions_on, targets, delegations, granted, assign, elements, replaced, filtered, flat, extend, Effect, effect, denied, Step, refused, went, step}
use Rattle.language.specs.Run.{End, refusal, completed, after, next, perform, Login, mistaken, right, login, begin, tallied, run_as, run, left}
use Rattle.language.specs.Programs.{parse}
use Rattle.language.specs.Events.{Event, enters, withdraws, events, events_then, events_of, after_event, after_events}
use Rattle.language.specs.History.{Call, send, ask, sheet, Book, is_wrong, entered, book_of, completed_events, program_events, call_events, history_of, Reaches, here, onward}
use Rattle.language.proofs.Logic.Tests.{true_of}
use Rattle.language.proofs.Logic.Outcomes.{Where, bind_where, if_where}
use Rattle.language.proofs.Logic.Giving.{Giving, giving_any, bind_giving, bind_from, provided_giving}
use Rattle.language.proofs.Meaning.ValidRuns.{Went, verdict_went}

-- ---- lists of events

pub after_append : (l : List Assertion) (es fs : List Event) → after_events l (es ++ fs) ≡ after_events (after_events l es) fs
after_append l [] fs = refl
after_append l (e ∷ es) fs = after_append (after_event l e) es fs

after_entering : (l m : List Assertion) → entering l m ≡ after_events l (map enters m)
after_entering l [] = refl
after_entering l (a ∷ m) = after_entering (after_event l (enters a)) m

after_withdrawing : (l m : List Assertion) → withdrawing l m ≡ after_events l (map withdraws m)
after_withdrawing l [] = refl
after_withdrawing l (a ∷ m) = after_withdrawing (after_event l (withdraws a)) m

-- ---- a command

abbrev Enters : Session → List Event → Effect → Type 0
Enters s es f = f.after.store.assertions ≡ after_events s.store.assertions es

-- what is looked up is defined
lookup_defined : (s : Session) (x : Name) → Where (λ v. T (is_defined s x)) (lookup s x)
lookup_defined s x = go (value_in s.locals x) (value_in s.store.variables x)
  where
    go : (o p : Option Value) → Where (λ v. T (present o || present p)) (o or_else p)
    go none none = tt
    go none (some v) = tt
    go (some u) p = tt

-- what a set enters
assign_enters : (s : Session) (x : Name) (v : Value)
    → (assign s x v).store.assertions ≡ after_events s.store.assertions (when is_defined s x then [] else map enters (granted s x))
assign_enters s x v = go (is_local s x) (is_shared s x)
  where
    go : (b c : Bool) → (when b then with_locals s (put x v s.locals)
        else when c then with_store s (with_variables s.store (put x v s.store.variables))
        else with_store s (enter_all (with_variables s.store (put x v s.store.variables)) (granted s x))).store.assertions
        ≡ after_events s.store.assertions (when b || c then [] else map enters (granted s x))
    go true c = refl
    go false true = refl
    go false false = after_entering s.store.assertions (granted s x)

-- a defined variable's new value enters nothing
assign_defined : (s : Session) (x : Name) (v : Value) → T (is_defined s x) → (assign s x v).store.assertions ≡ s.store.assertions
assign_defined s x v d =
    assign_enters s x v ∙ ap (λ b. after_events s.store.assertions (when b then [] else map enters (granted s x))) (true_of (is_defined s x) d)

listed : (s : Session) (x : Name) → Where (λ es. T (is_defined s x)) (list_of s x)
listed s x = bind_where (λ v. T (is_defined s x)) (λ es. T (is_defined s x)) (lookup s x) as_list (lookup_defined s x) as_list_lem
  where
    as_list_lem : (v : Value) → T (is_defined s x) → Where (λ es. T (is_defined s x)) (as_list v)
    as_list_lem (Value.single e) d = tt
    as_list_lem (list es) d = d

pub effect_enters : (s : Session) (c : Command) → Giving (Enters s (events s c)) (effect s c)
effect_enters s (create_principal p t) =
    provided_giving (Enters s (events s (create_principal p t))) (not (is_principal s p)) _
    (λ h. after_entering s.store.assertions (delegations rights (with_principal s.store p t) s.store.delegator p))
effect_enters s (change_password p t) = provided_giving (Enters s []) (is_principal s p) _ (λ h. refl)
effect_enters s (set x e) =
    bind_giving (λ v. Unit {0}) (Enters s (events s (set x e))) (value s e) _ (giving_any (value s e)) (λ v h. assign_enters s x v)
effect_enters s (append_to x e) =
    bind_from (λ es. T (is_defined s x)) (Enters s []) (list_of s x) _ (listed s x) (λ es d.
    bind_giving (λ v. Unit {0}) (Enters s []) (value s e) _ (giving_any (value s e)) (λ v h. assign_defined s x (list (extend es v)) d))
effect_enters s (local x e) =
    provided_giving (Enters s []) (not (is_defined s x)) _ (λ n. bind_giving (λ v. Unit {0}) (Enters s []) (value s e) _ (giving_any (value s e)) (λ v h. refl))
effect_enters s (foreach y x e) =
    bind_from (λ es. T (is_defined s x)) (Enters s []) (elements s y x) _
    (if_where (λ es. T (is_defined s x)) (is_defined s y) none (list_of s x) (λ n. tt) (λ n. listed s x)) (λ es d.
    bind_giving (λ fs. Unit {0}) (Enters s []) (each_of (replaced s y e) es) _ (giving_any (each_of (replaced s y e) es)) (λ fs h. assign_defined s x (list fs) d))
effect_enters s (filtereach y x e) =
    bind_from (λ es. T (is_defined s x)) (Enters s []) (elements s y x) _
    (if_where (λ es. T (is_defined s x)) (is_defined s y) none (list_of s x) (λ n. tt) (λ n. listed s x)) (λ es d.
    bind_giving (λ l. Unit {0}) (Enters s []) (each_of (filtered s y e) es) _ (giving_any (each_of (filtered s y e) es)) (λ l h. assign_defined s x (list (flat l)) d))
effect_enters s (set_delegation t q r p) =
    provided_giving (Enters s (events s (set_delegation t q r p))) (is_principal s p && is_principal s q && all (is_shared s) (targets s.store t q)) _
    (λ h. after_entering s.store.assertions (assertions_on (targets s.store t q) q r p))
effect_enters s (delete_delegation t q r p) =
    provided_giving (Enters s (events s (delete_delegation t q r p))) (is_principal s p && is_principal s q && all (is_shared s) (targets s.store t q)) _
    (λ h. after_withdrawing s.store.assertions (assertions_on (targets s.store t q) q r p))
effect_enters s (default_delegator p) = provided_giving (Enters s []) (is_principal s p) _ (λ h. refl)
effect_enters s exit = refl
effect_enters s (return e) = bind_giving (λ v. Unit {0}) (Enters s []) (value s e) _ (giving_any (value s e)) (λ v h. refl)

step_enters : (s : Session) (c : Command) → Went (Enters s (events s c)) (step s c)
step_enters s c = verdict_went (Enters s (events s c)) (denied s c) (effect s c) (effect_enters s c)

-- ---- commands done in turn

pub reaches_enters : {s t : Session} {cs rest : List Command} {es : List Event} → Reaches s cs es t rest
    → t.store.assertions ≡ after_events s.store.assertions es
reaches_enters here = refl
reaches_enters (onward {s = s} {c = c} {es = es} {f = f} e r) =
    reaches_enters r
    ∙ ap (λ l. after_events l es) (subst (Went (Enters s (events s c))) e (step_enters s c)).0
    ∙ sym (after_append s.store.assertions (events s c) es)

-- what a completed program leaves
abbrev Leaves : List Assertion → List Event → End → Type 0
Leaves l es (refusal r) = Unit {0}
Leaves l es (completed lines t) = t.assertions ≡ after_events l es

perform_enters : (cs : List Command) (s : Session) → Leaves s.store.assertions (events_of s cs) (perform s cs)
perform_enters [] s = refl
perform_enters (c ∷ cs) s = go (step s c) (step_enters s c) (λ t. perform_enters cs t)
  where
    later : (line : Text) (e : End) (f : Effect) → Enters s (events s c) f → Leaves f.after.store.assertions (events_of f.after cs) e
        → Leaves s.store.assertions (events s c ++ events_of f.after cs) (after line e)
    later line (refusal r) f k h = tt
    later line (completed lines t) f k h =
        h ∙ ap (λ l. after_events l (events_of f.after cs)) k ∙ sym (after_append s.store.assertions (events s c) (events_of f.after cs))

    go : (k : Step) → Went (Enters s (events s c)) k → ((t : Session) → Leaves t.store.assertions (events_of t cs) (perform t cs))
        → Leaves s.store.assertions (events_then k (events s c) (λ t. events_of t cs)) (next k (λ t. perform t cs))
    go (refused r) h i = tt
    go (went f) h i = later f.line (perform f.after cs) f h.0 (i f.after)

-- ---- calls

run_enters : (b : Book) (o : Option Program) → (left b (run b o)).assertions ≡ after_events b.assertions (program_events b o)
run_enters b none = refl
run_enters b (some p) = go (login b p)
  where
    ending : (e : End) (es : List Event) → Leaves b.assertions es e → (left b e).assertions ≡ after_events b.assertions (completed_events e es)
    ending (refusal r) es h = refl
    ending (completed lines t) es h = h

    tallied_leaves : (es : List Event) (q : Name) (e : End) → Leaves b.assertions es e → Leaves b.assertions es (tallied q e)
    tallied_leaves es q (refusal r) h = tt
    tallied_leaves es q (completed lines t) h = h

    go : (l : Login) → (left b (run_as l (begin b p) p.commands)).assertions
        ≡ after_events b.assertions (completed_events (run_as l (begin b p) p.commands) (events_of (begin b p) p.commands))
    go mistaken = refl
    go right = ending (tallied p.sender (perform (begin b p) p.commands)) (events_of (begin b p) p.commands) (tallied_leaves (events_of (begin b p) p.commands) p.sender (perform (begin b p) p.commands) (perform_enters p.commands (begin b p)))

call_enters : (b : Book) (c : Call) → (entered b c).assertions ≡ after_events b.assertions (call_events b c)
call_enters b (send o w t) = go (is_wrong b (send o w t))
  where
    go : (k : Bool) → (when k then b else left b (run b (parse t))).assertions ≡ after_events b.assertions (when k then [] else program_events b (parse t))
    go true = refl
    go false = run_enters b (parse t)
call_enters b (ask p x r) = refl
call_enters b (sheet o x) = refl

pub book_enters : (calls : List Call) (b : Book) → (book_of b calls).assertions ≡ after_events b.assertions (history_of b calls)
book_enters [] b = refl
book_enters (c ∷ calls) b =
    book_enters calls (entered b c)
    ∙ ap (λ l. after_events l (history_of (entered b c) calls)) (call_enters b c)
    ∙ sym (after_append b.assertions (call_events b c) (history_of (entered b c) calls))

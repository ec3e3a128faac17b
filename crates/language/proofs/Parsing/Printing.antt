-- The lines of a program that parses fit the output.
use mathlib.Core.Path.{◌≡◌, refl, ap, subst, ◌∙◌}
use Prim.Native.Nat.{ℕ, ◌+◌, ◌*◌, ◌≤◌}
use native.Mathlib.Nat.{le_refl}
use native.Mathlib.Omega.{arith}
use mathlib.Core.Bool.{Bool, true, ◌&&◌, not}
use mathlib.Core.Option.{Option, none, some}
use mathlib.Core.List.{List, [], ◌∷◌, ◌++◌, map}
use lib.ListN.{length, length-append}
use lib.Dec.{T, ltb, lit≤}
use Rattle.language.specs.Text.{Text, bytes, all, sum, distinct}
use Rattle.language.specs.Syntax.{Command, create_principal, change_password, set, append_to, local, foreach, filtereach, set_delegation, delete_delegation, default_delegator, exit, return, Program}
use Rattle.language.specs.State.{Field, Element, string, fields, Value, single, list, Store}
use Rattle.language.specs.Weight.{element_weight, value_weight}
use Rattle.language.specs.Output.{quote, commas, field_json, element_json, value_json, returning}
use Rattle.language.specs.Encode.{buffer_size}
use Rattle.language.specs.Identifiers.{is_name, is_string}
use Rattle.language.specs.Valid.{valid_field, valid_element, valid_store}
use Rattle.language.specs.Commands.{Refusal, elements, replaced, filtered, targets, Effect, effect, denied, Step, refused, went, FULL, DENIED, FAILED, step}
use Rattle.language.specs.Outcomes.{each_of}
use Rattle.language.specs.Values.{Session, is_principal, is_defined, is_shared, list_of}
use Rattle.language.specs.Expressions.{value}
use Rattle.language.specs.Run.{End, refusal, completed, after, next, perform, Login, mistaken, right, login, begin, tallied, run_as, run, refusal_line, output}
use Rattle.language.specs.Programs.{parse}
use Rattle.language.proofs.Parsing.ValidPrograms.{valid_command, is_ending, ends_once}
use Rattle.language.proofs.Logic.Tests.{both, three}
use Rattle.language.proofs.Logic.Outcomes.{Where, anything}
use Rattle.language.proofs.Logic.Giving.{Giving, giving_any, bind_giving, bind_from, provided_giving}
use Rattle.language.proofs.StateText.Clean.{name_length}
use Rattle.language.proofs.Meaning.ValidValues.{Good, IsValid, Fits, value_fits}
use Rattle.language.proofs.Meaning.ValidRuns.{Ready, Done, Went, verdict_went, step_done, begin_ready, commands_valid, ends_valid}
use Rattle.language.proofs.Parsing.Parsing.{command_room, Parsed, parsed}

-- ---- values: 2 bytes of JSON for 7 of weight, and 4 more

commas_length : {A : Type 0} (f : A → Text) (l : List A) → length (commas f l) ≤ sum (λ a. length (f a) + 1) l
commas_length f [] = le_refl 0
commas_length f (a ∷ []) = omega arith
commas_length f (a ∷ b ∷ l) =
    let h : length (commas f (b ∷ l)) ≤ sum (λ a. length (f a) + 1) (b ∷ l) = commas_length f (b ∷ l) in
    omega (arith, h, length-append (f a ++ bytes ",") (commas f (b ∷ l)), length-append (f a) (bytes ","))

pub quote_length : (t : Text) → length (quote t) ≡ length t + 2
quote_length t = length-append (bytes "\"" ++ t) (bytes "\"") ∙ omega arith

json_sum : {A : Type 0} (f : A → Text) (weight : A → ℕ) (fine : A → Bool) → ((a : A) → T (fine a) → 2 * (length (f a) + 1) ≤ 7 * weight a)
    → (l : List A) → T (all fine l) → 2 * sum (λ a. length (f a) + 1) l ≤ 7 * sum weight l
json_sum f weight fine one [] h = le_refl 0
json_sum f weight fine one (a ∷ l) h =
    let (h₁, h₂) = both (fine a) (all fine l) h in
    let k : 2 * (length (f a) + 1) ≤ 7 * weight a = one a h₁ in
    let m : 2 * sum (λ a. length (f a) + 1) l ≤ 7 * sum weight l = json_sum f weight fine one l h₂ in
    omega arith

field_json_lem : (f : Field) → T (valid_field f) → 2 * (length (field_json f) + 1) ≤ 7 * (1 + length f.label + length f.text)
field_json_lem f h =
    let l : 1 ≤ length f.label = (name_length f.label (both (is_name f.label) (is_string f.text) h).0).0 in
    omega (arith, l, length-append (quote f.label ++ bytes ":") (quote f.text), length-append (quote f.label) (bytes ":"), quote_length f.label, quote_length f.text)

element_json_lem : (e : Element) → T (valid_element e) → 2 * length (element_json e) ≤ 7 * element_weight e + 4
element_json_lem (string t) h = omega (arith, quote_length t)
element_json_lem (fields fs) h =
    let v = (three (ltb 0 (length fs)) (all valid_field fs) (distinct (map (λ f. f.label) fs)) h).1 in
    omega (arith, length-append (bytes "{" ++ commas field_json fs) (bytes "}"), commas_length field_json fs, json_sum field_json (λ f. 1 + length f.label + length f.text) valid_field field_json_lem fs v)

pub value_json_lem : (v : Value) → IsValid v → 2 * length (value_json v) ≤ 7 * value_weight v + 4
value_json_lem (single e) h = element_json_lem e h
value_json_lem (list es) h =
    omega (arith, length-append (bytes "[" ++ commas element_json es) (bytes "]"), commas_length element_json es, json_sum element_json (λ e. 1 + element_weight e) valid_element one es h)
  where
    one : (e : Element) → T (valid_element e) → 2 * (length (element_json e) + 1) ≤ 7 * (1 + element_weight e)
    one e h = omega (arith, element_json_lem e h)

-- ---- commands

-- 17 bytes of status for 8 bytes of a command's line, as `set x=y` has it
abbrev pub Short : Command → Effect → Type 0
Short c f = 8 * length f.line ≤ 17 * command_room c

-- what the last line has at most
abbrev pub last_line : ℕ
last_line = 28707

inner_line : (s : Session) (c : Command) → T (not (is_ending c)) → Giving (Short c) (effect s c)
inner_line s (create_principal p t) h = provided_giving (Short (create_principal p t)) (not (is_principal s p)) _ (λ k. lit≤ tt)
inner_line s (change_password p t) h = provided_giving (Short (change_password p t)) (is_principal s p) _ (λ k. lit≤ tt)
inner_line s (set x e) h = bind_giving (λ v. Unit {0}) (Short (set x e)) (value s e) _ (giving_any (value s e)) (λ v k. lit≤ tt)
inner_line s (append_to x e) h =
    bind_from (λ es. Unit {0}) (Short (append_to x e)) (list_of s x) _ (anything (list_of s x)) (λ es k.
    bind_giving (λ v. Unit {0}) (Short (append_to x e)) (value s e) _ (giving_any (value s e)) (λ v k. lit≤ tt))
inner_line s (local x e) h =
    provided_giving (Short (local x e)) (not (is_defined s x)) _ (λ k. bind_giving (λ v. Unit {0}) (Short (local x e)) (value s e) _ (giving_any (value s e)) (λ v k. lit≤ tt))
inner_line s (foreach y x e) h =
    bind_from (λ es. Unit {0}) (Short (foreach y x e)) (elements s y x) _ (anything (elements s y x)) (λ es k.
    bind_giving (λ fs. Unit {0}) (Short (foreach y x e)) (each_of (replaced s y e) es) _ (giving_any (each_of (replaced s y e) es)) (λ fs k. lit≤ tt))
inner_line s (filtereach y x e) h =
    bind_from (λ es. Unit {0}) (Short (filtereach y x e)) (elements s y x) _ (anything (elements s y x)) (λ es k.
    bind_giving (λ l. Unit {0}) (Short (filtereach y x e)) (each_of (filtered s y e) es) _ (giving_any (each_of (filtered s y e) es)) (λ l k. lit≤ tt))
inner_line s (set_delegation t q r p) h =
    provided_giving (Short (set_delegation t q r p)) (is_principal s p && is_principal s q && all (is_shared s) (targets s.store t q)) _ (λ k. lit≤ tt)
inner_line s (delete_delegation t q r p) h =
    provided_giving (Short (delete_delegation t q r p)) (is_principal s p && is_principal s q && all (is_shared s) (targets s.store t q)) _ (λ k. lit≤ tt)
inner_line s (default_delegator p) h = provided_giving (Short (default_delegator p)) (is_principal s p) _ (λ k. lit≤ tt)
inner_line s exit h = absurd h
inner_line s (return e) h = absurd h

returning_length : (v : Value) → length (returning v) ≡ 33 + length (value_json v)
returning_length v =
    length-append (bytes "{\"status\":\"RETURNING\",\"output\":" ++ value_json v) (bytes "}\n")
    ∙ ap (λ n. n + 2) (length-append (bytes "{\"status\":\"RETURNING\",\"output\":") (value_json v)) ∙ omega arith

ending_line_lem : (s : Session) → Good s → (c : Command) → T (valid_command c) → T (is_ending c) → Giving (λ f. length f.line ≤ last_line) (effect s c)
ending_line_lem s g (create_principal p t) h k = absurd k
ending_line_lem s g (change_password p t) h k = absurd k
ending_line_lem s g (set x e) h k = absurd k
ending_line_lem s g (append_to x e) h k = absurd k
ending_line_lem s g (local x e) h k = absurd k
ending_line_lem s g (foreach y x e) h k = absurd k
ending_line_lem s g (filtereach y x e) h k = absurd k
ending_line_lem s g (set_delegation t q r p) h k = absurd k
ending_line_lem s g (delete_delegation t q r p) h k = absurd k
ending_line_lem s g (default_delegator p) h k = absurd k
ending_line_lem s g exit h k = lit≤ tt
ending_line_lem s g (return e) h k =
    bind_giving Fits (λ f. length f.line ≤ last_line) (value s e) _ (value_fits s g e h) (λ v i. omega (arith, i.1, returning_length v, value_json_lem v i.0))

pub inner_short : (s : Session) (c : Command) (f : Effect) → T (not (is_ending c)) → step s c ≡ went f → 8 * length f.line ≤ 17 * command_room c
inner_short s c f h e = (subst (Went (Short c)) e (verdict_went (Short c) (denied s c) (effect s c) (inner_line s c h))).0

-- ---- programs

abbrev EndsShort : ℕ → End → Type 0
EndsShort n (refusal r) = Unit {0}
EndsShort n (completed lines t) = 8 * length lines ≤ n

longer : (line : Text) (m n : ℕ) (e : End) → 8 * length line ≤ m → EndsShort n e → EndsShort (m + n) (after line e)
longer line m n (refusal r) h k = tt
longer line m n (completed lines t) h k = omega (arith, length-append line lines)

abbrev pub allowed : List Command → ℕ
allowed cs = 17 * sum command_room cs + 8 * last_line

widen : (m n : ℕ) → m ≤ n → (e : End) → EndsShort m e → EndsShort n e
widen m n h (refusal r) k = tt
widen m n h (completed lines t) k = omega arith

perform_short : (cs : List Command) (s : Session) → Ready s → T (all valid_command cs) → T (ends_once cs) → EndsShort (allowed cs) (perform s cs)
perform_short [] s r h e = absurd e
perform_short (c ∷ []) s r h e =
    go (step s c) (verdict_went (λ f. length f.line ≤ last_line) (denied s c) (effect s c) (ending_line_lem s r.is_good c (both (valid_command c) true h).0 e))
  where
    go : (k : Step) → Went (λ f. length f.line ≤ last_line) k → EndsShort (allowed (c ∷ [])) (next k (λ t. perform t []))
    go (refused r) w = tt
    go (went f) (w, l) = omega (arith, w, length-append f.line [])
perform_short (c ∷ d ∷ cs) s r h e =
    let (h₁, h₂) = both (valid_command c) (all valid_command (d ∷ cs)) h in
    let (e₁, e₂) = both (not (is_ending c)) (ends_once (d ∷ cs)) e in
    go (step s c) (verdict_went (Short c) (denied s c) (effect s c) (inner_line s c e₁)) (step_done s c r h₁) (λ t k. perform_short (d ∷ cs) t k h₂ e₂)
  where
    go : (k : Step) → Went (Short c) k → Done k → ((t : Session) → Ready t → EndsShort (allowed (d ∷ cs)) (perform t (d ∷ cs)))
        → EndsShort (allowed (c ∷ d ∷ cs)) (next k (λ t. perform t (d ∷ cs)))
    go (refused r) w k i = tt
    go (went f) (w, l) k i =
        widen (17 * command_room c + allowed (d ∷ cs)) (allowed (c ∷ d ∷ cs)) (omega arith) (after f.line (perform f.after (d ∷ cs)))
        (longer f.line (17 * command_room c) (allowed (d ∷ cs)) (perform f.after (d ∷ cs)) w (i f.after k))

pub commands_fit : (p : Program) → Parsed p → allowed p.commands ≤ 8 * buffer_size
commands_fit p h = omega (arith, h.has_room)

program_short : (s : Store) → T (valid_store s) → (p : Program) → Parsed p → EndsShort (8 * buffer_size) (run s (some p))
program_short s v p h = go (login s p) refl
  where
    tally : (n : ℕ) (e : End) → EndsShort n e → EndsShort n (tallied p.sender e)
    tally n (refusal r) k = tt
    tally n (completed lines t) k = k

    go : (l : Login) → login s p ≡ l → EndsShort (8 * buffer_size) (run_as l (begin s p) p.commands)
    go mistaken e = tt
    go right e =
        tally (8 * buffer_size) (perform (begin s p) p.commands)
        (widen (allowed p.commands) (8 * buffer_size) (commands_fit p h) (perform (begin s p) p.commands)
        (perform_short p.commands (begin s p) (begin_ready s p v e) (commands_valid p h.is_valid) (ends_valid p h.is_valid)))

-- every output fits
pub output_fits : (s : Store) → T (valid_store s) → (text : Text) → length (output (run s (parse text))) ≤ buffer_size
output_fits s v text = go (parse text) (parsed text)
  where
    refusal_fits : (r : Refusal) → length (refusal_line r) ≤ buffer_size
    refusal_fits DENIED = lit≤ tt
    refusal_fits FAILED = lit≤ tt
    refusal_fits FULL = lit≤ tt

    lines_fit : (e : End) → EndsShort (8 * buffer_size) e → length (output e) ≤ buffer_size
    lines_fit (refusal r) h = refusal_fits r
    lines_fit (completed lines t) h = omega arith

    go : (o : Option Program) → Where Parsed o → length (output (run s o)) ≤ buffer_size
    go none h = lit≤ tt
    go (some p) h = lines_fit (run s (some p)) (program_short s v p h)

-- A command that is done prints one line: its status, or the value that it returns.
use mathlib.Core.Path.{◌≡◌, refl, subst}
use Prim.Native.Nat.{suc, ◌+◌, ◌≤◌}
use native.Mathlib.Nat.{le_refl}
use Prim.Native.String.{String}
use native.Mathlib.Omega.{arith}
use mathlib.Core.Bool.{Bool, true, false, ◌&&◌, not}
use mathlib.Core.List.{List, [], ◌∷◌, ◌++◌, map}
use lib.ListN.{length}
use lib.Dec.{T, ltb, eqb}
use Rattle.language.specs.Text.{Text, bytes, when◌then◌else◌, all, distinct}
use Rattle.language.specs.Syntax.{Command, create_principal, change_password, set, append_to, local, foreach, filtereach, set_delegation, delete_delegation, default_delegator, exit, return}
use Rattle.language.specs.Identifiers.{is_name, is_string}
use Rattle.language.specs.State.{Field, Element, string, fields, Value, single, list}
use Rattle.language.specs.Output.{quote, commas, field_json, element_json, value_json, status, returning}
use Rattle.language.specs.Valid.{valid_field, valid_element, valid_value}
use Rattle.language.specs.Outcomes.{each_of}
use Rattle.language.specs.Values.{Session, is_principal, is_defined, is_shared, list_of}
use Rattle.language.specs.Expressions.{value}
use Rattle.language.specs.Commands.{elements, replaced, filtered, targets, Effect, effect, denied, went, step}
use Rattle.language.specs.Run.{line_count}
use Rattle.language.proofs.Logic.Tests.{both, three}
use Rattle.language.proofs.Logic.Outcomes.{anything}
use Rattle.language.proofs.Logic.Giving.{Giving, giving_any, bind_giving, bind_from, provided_giving}
use Rattle.language.proofs.StateText.Lines.{is_clean}
use Rattle.language.proofs.StateText.Clean.{string_clean, name_clean}
use Rattle.language.proofs.Logic.Lists.{sum_append}
use Rattle.language.proofs.Meaning.ValidRuns.{Went, verdict_went}

-- ---- how many lines

pub count_append : (t u : Text) → line_count (t ++ u) ≡ line_count t + line_count u
count_append = sum_append (λ b. when eqb b 10 then 1 else 0)

pub few_lines : (t : Text) → line_count t ≤ length t
few_lines [] = le_refl 0
few_lines (b ∷ t) = go (eqb b 10) (few_lines t)
  where
    go : (c : Bool) → line_count t ≤ length t → (when c then 1 else 0) + line_count t ≤ suc (length t)
    go true h = omega arith
    go false h = omega arith

clean_quiet : (t : Text) → T (is_clean t) → line_count t ≡ 0
clean_quiet [] h = refl
clean_quiet (b ∷ t) h =
    let (h₁, h₂) = both (not (eqb b 9) && not (eqb b 10)) (is_clean t) h in
    go (eqb b 10) (both (not (eqb b 9)) (not (eqb b 10)) h₁).1 (clean_quiet t h₂)
  where
    go : (c : Bool) → T (not c) → line_count t ≡ 0 → (when c then 1 else 0) + line_count t ≡ 0
    go true h e = absurd h
    go false h e = omega (arith, e)

three_quiet : (t u w : Text) → line_count t ≡ 0 → line_count u ≡ 0 → line_count w ≡ 0 → line_count (t ++ u ++ w) ≡ 0
three_quiet t u w d e f = omega (arith, count_append (t ++ u) w, count_append t u)

quote_quiet : (t : Text) → T (is_clean t) → line_count (quote t) ≡ 0
quote_quiet t h = three_quiet (bytes "\"") t (bytes "\"") refl (clean_quiet t h) refl

commas_quiet : {A : Type 0} (f : A → Text) (fine : A → Bool) → ((a : A) → T (fine a) → line_count (f a) ≡ 0)
    → (l : List A) → T (all fine l) → line_count (commas f l) ≡ 0
commas_quiet f fine one [] h = refl
commas_quiet f fine one (a ∷ []) h = one a (both (fine a) true h).0
commas_quiet f fine one (a ∷ b ∷ l) h =
    let (h₁, h₂) = both (fine a) (all fine (b ∷ l)) h in
    three_quiet (f a) (bytes ",") (commas f (b ∷ l)) (one a h₁) refl (commas_quiet f fine one (b ∷ l) h₂)

field_quiet : (f : Field) → T (valid_field f) → line_count (field_json f) ≡ 0
field_quiet f h =
    let (h₁, h₂) = both (is_name f.label) (is_string f.text) h in
    three_quiet (quote f.label) (bytes ":") (quote f.text) (quote_quiet f.label (name_clean f.label h₁)) refl
    (quote_quiet f.text (string_clean f.text h₂))

element_quiet : (e : Element) → T (valid_element e) → line_count (element_json e) ≡ 0
element_quiet (string t) h = quote_quiet t (string_clean t h)
element_quiet (fields fs) h =
    three_quiet (bytes "{") (commas field_json fs) (bytes "}") refl
    (commas_quiet field_json valid_field field_quiet fs (three (ltb 0 (length fs)) (all valid_field fs) (distinct (map (λ f. f.label) fs)) h).1) refl

value_quiet : (v : Value) → T (valid_value v) → line_count (value_json v) ≡ 0
value_quiet (single e) h = element_quiet e h
value_quiet (list es) h = three_quiet (bytes "[") (commas element_json es) (bytes "]") refl (commas_quiet element_json valid_element element_quiet es h) refl

pub returning_one : (v : Value) → T (valid_value v) → line_count (returning v) ≡ 1
returning_one v h =
    let front : Text = bytes "{\"status\":\"RETURNING\",\"output\":" in
    let f : line_count front ≡ 0 = refl in
    let g : line_count (bytes "}\n") ≡ 1 = refl in
    omega (arith, f, g, value_quiet v h, count_append (front ++ value_json v) (bytes "}\n"), count_append front (value_json v))

-- ---- the status

abbrev pub is_return : Command → Bool
is_return (create_principal p t) = false
is_return (change_password p t) = false
is_return (set x e) = false
is_return (append_to x e) = false
is_return (local x e) = false
is_return (foreach y x e) = false
is_return (filtereach y x e) = false
is_return (set_delegation t q r p) = false
is_return (delete_delegation t q r p) = false
is_return (default_delegator p) = false
is_return exit = false
is_return (return e) = true

abbrev pub word : Command → String
word (create_principal p t) = "CREATE_PRINCIPAL"
word (change_password p t) = "CHANGE_PASSWORD"
word (set x e) = "SET"
word (append_to x e) = "APPEND"
word (local x e) = "LOCAL"
word (foreach y x e) = "FOREACH"
word (filtereach y x e) = "FILTEREACH"
word (set_delegation t q r p) = "SET_DELEGATION"
word (delete_delegation t q r p) = "DELETE_DELEGATION"
word (default_delegator p) = "DEFAULT_DELEGATOR"
word exit = "EXITING"
word (return e) = "RETURNING"

abbrev pub Says : Command → Effect → Type 0
Says c f = f.line ≡ status (word c)

pub says : (s : Session) (c : Command) → T (not (is_return c)) → Giving (Says c) (effect s c)
says s (create_principal p t) h = provided_giving (Says (create_principal p t)) (not (is_principal s p)) _ (λ k. refl)
says s (change_password p t) h = provided_giving (Says (change_password p t)) (is_principal s p) _ (λ k. refl)
says s (set x e) h = bind_giving (λ v. Unit {0}) (Says (set x e)) (value s e) _ (giving_any (value s e)) (λ v k. refl)
says s (append_to x e) h =
    bind_from (λ es. Unit {0}) (Says (append_to x e)) (list_of s x) _ (anything (list_of s x)) (λ es k.
    bind_giving (λ v. Unit {0}) (Says (append_to x e)) (value s e) _ (giving_any (value s e)) (λ v k. refl))
says s (local x e) h =
    provided_giving (Says (local x e)) (not (is_defined s x)) _ (λ k. bind_giving (λ v. Unit {0}) (Says (local x e)) (value s e) _ (giving_any (value s e)) (λ v k. refl))
says s (foreach y x e) h =
    bind_from (λ es. Unit {0}) (Says (foreach y x e)) (elements s y x) _ (anything (elements s y x)) (λ es k.
    bind_giving (λ fs. Unit {0}) (Says (foreach y x e)) (each_of (replaced s y e) es) _ (giving_any (each_of (replaced s y e) es)) (λ fs k. refl))
says s (filtereach y x e) h =
    bind_from (λ es. Unit {0}) (Says (filtereach y x e)) (elements s y x) _ (anything (elements s y x)) (λ es k.
    bind_giving (λ l. Unit {0}) (Says (filtereach y x e)) (each_of (filtered s y e) es) _ (giving_any (each_of (filtered s y e) es)) (λ l k. refl))
says s (set_delegation t q r p) h =
    provided_giving (Says (set_delegation t q r p)) (is_principal s p && is_principal s q && all (is_shared s) (targets s.store t q)) _ (λ k. refl)
says s (delete_delegation t q r p) h =
    provided_giving (Says (delete_delegation t q r p)) (is_principal s p && is_principal s q && all (is_shared s) (targets s.store t q)) _ (λ k. refl)
says s (default_delegator p) h = provided_giving (Says (default_delegator p)) (is_principal s p) _ (λ k. refl)
says s exit h = refl
says s (return e) h = absurd h

-- what is printed by a command that is done and returns nothing
pub line_is : (s : Session) (c : Command) (f : Effect) → T (not (is_return c)) → step s c ≡ went f → f.line ≡ status (word c)
line_is s c f h e = (subst (Went (Says c)) e (verdict_went (Says c) (denied s c) (effect s c) (says s c h))).0

pub status_one : (c : Command) → line_count (status (word c)) ≡ 1
status_one (create_principal p t) = refl
status_one (change_password p t) = refl
status_one (set x e) = refl
status_one (append_to x e) = refl
status_one (local x e) = refl
status_one (foreach y x e) = refl
status_one (filtereach y x e) = refl
status_one (set_delegation t q r p) = refl
status_one (delete_delegation t q r p) = refl
status_one (default_delegator p) = refl
status_one exit = refl
status_one (return e) = refl

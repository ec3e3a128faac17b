-- A completed program prints as many lines as it has commands.
use mathlib.Core.Path.{◌≡◌, refl, ap, subst, ◌∙◌}
use Prim.Native.Nat.{ℕ, suc}
use native.Mathlib.Omega.{arith}
use mathlib.Core.Bool.{not}
use mathlib.Core.Option.{some}
use mathlib.Core.List.{List, [], ◌∷◌}
use lib.ListN.{length}
use lib.Dec.{T}
use Rattle.language.specs.Text.{Text, all}
use Rattle.language.specs.Syntax.{Command, create_principal, change_password, set, append_to, local, foreach, filtereach, set_delegation, delete_delegation, default_delegator, exit, return, Program}
use Rattle.language.specs.State.{Store}
use Rattle.language.specs.Output.{returning}
use Rattle.language.specs.Valid.{valid_store}
use Rattle.language.specs.Outcomes.{gives}
use Rattle.language.specs.Values.{Session}
use Rattle.language.specs.Expressions.{value}
use Rattle.language.specs.Commands.{Effect, effect, denied, Step, refused, went, step}
use Rattle.language.specs.Run.{End, refusal, completed, after, next, perform, Login, mistaken, right, login, begin, tallied, run_as, run, line_count}
use Rattle.language.proofs.Logic.Tests.{both}
use Rattle.language.proofs.Logic.Giving.{Giving, giving_map, bind_giving}
use Rattle.language.proofs.Parsing.ValidPrograms.{valid_command, valid_program}
use Rattle.language.proofs.Meaning.ValidValues.{Good, IsValid, value_valid}
use Rattle.language.proofs.Meaning.ValidRuns.{Ready, Done, Went, verdict_went, step_done, begin_ready, commands_valid}
use Rattle.language.proofs.Meaning.Printed.{count_append, returning_one, is_return, says, Says, status_one}

-- one line is printed
abbrev One : Effect → Type 0
One f = line_count f.line ≡ 1

said : (s : Session) (c : Command) → T (not (is_return c)) → Giving One (effect s c)
said s c h = giving_map (Says c) One (effect s c) (λ f e. ap line_count e ∙ status_one c) (says s c h)

one_line : (s : Session) → Good s → (c : Command) → T (valid_command c) → Giving One (effect s c)
one_line s g (create_principal p t) h = said s (create_principal p t) tt
one_line s g (change_password p t) h = said s (change_password p t) tt
one_line s g (set x e) h = said s (set x e) tt
one_line s g (append_to x e) h = said s (append_to x e) tt
one_line s g (local x e) h = said s (local x e) tt
one_line s g (foreach y x e) h = said s (foreach y x e) tt
one_line s g (filtereach y x e) h = said s (filtereach y x e) tt
one_line s g (set_delegation t q r p) h = said s (set_delegation t q r p) tt
one_line s g (delete_delegation t q r p) h = said s (delete_delegation t q r p) tt
one_line s g (default_delegator p) h = said s (default_delegator p) tt
one_line s g exit h = said s exit tt
one_line s g (return e) h =
    bind_giving IsValid One (value s e) (λ v. gives (record { after = s; line = returning v })) (value_valid s g e h) (λ v i. returning_one v i)

-- a command that is done prints one line
pub line_one : (s : Session) → Ready s → (c : Command) → T (valid_command c) → (f : Effect) → step s c ≡ went f → line_count f.line ≡ 1
line_one s r c h f e = (subst (Went One) e (verdict_went One (denied s c) (effect s c) (one_line s r.is_good c h))).0

abbrev EndsCounted : ℕ → End → Type 0
EndsCounted n (refusal r) = Unit {0}
EndsCounted n (completed lines t) = line_count lines ≡ n

perform_counted : (cs : List Command) (s : Session) → Ready s → T (all valid_command cs) → EndsCounted (length cs) (perform s cs)
perform_counted [] s r h = refl
perform_counted (c ∷ cs) s r h =
    let (h₁, h₂) = both (valid_command c) (all valid_command cs) h in
    go (step s c) (verdict_went One (denied s c) (effect s c) (one_line s r.is_good c h₁)) (step_done s c r h₁) (λ t k. perform_counted cs t k h₂)
  where
    later : (line : Text) → line_count line ≡ 1 → (e : End) → EndsCounted (length cs) e → EndsCounted (suc (length cs)) (after line e)
    later line o (refusal r) k = tt
    later line o (completed lines t) k = omega (arith, o, k, count_append line lines)

    go : (e : Step) → Went One e → Done e → ((t : Session) → Ready t → EndsCounted (length cs) (perform t cs))
        → EndsCounted (suc (length cs)) (next e (λ t. perform t cs))
    go (refused r) w d f = tt
    go (went e) w d f = later e.line w.0 (perform e.after cs) (f e.after d)

pub line_each : (s : Store) → T (valid_store s) → (p : Program) → T (valid_program p) → (lines : Text) (t : Store) → run s (some p) ≡ completed lines t
    → line_count lines ≡ length p.commands
line_each s v p h lines t e = subst (EndsCounted (length p.commands)) e (go (login s p) refl)
  where
    tallied_counted : (e : End) → EndsCounted (length p.commands) e → EndsCounted (length p.commands) (tallied p.sender e)
    tallied_counted (refusal r) k = tt
    tallied_counted (completed lines t) k = k

    go : (l : Login) → login s p ≡ l → EndsCounted (length p.commands) (run_as l (begin s p) p.commands)
    go mistaken e = tt
    go right e = tallied_counted (perform (begin s p) p.commands) (perform_counted p.commands (begin s p) (begin_ready s p v e) (commands_valid p h))

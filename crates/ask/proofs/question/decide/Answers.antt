-- `ask::question::decide` meets its contract. What each look-up answers says which case of the question it is.
-- Assumes nothing.
use mathlib.Core.Path.{◌≡◌, sym, ap, ◌∙◌}
use mathlib.Core.List.{map}
use Rattle.language.specs.Calls as C
use Rattle.language.specs.Calls.{right_byte, length_answer}
use Rattle.store.specs.Rows.{principal_row, variable_row, found_at, place}
use Rattle.std.specs.Prelude.{Option}
use Prim.Native.Nat.{ℕ}
use Rattle.named_rights.specs.Numbers.{code, length_of}
use Rattle.validate.specs.Checked.{Understood}
use Rattle.answers.specs.Answers.{right_code}
use Rattle.validate.proofs.States.{store, store_valid, few_everyone, few_asserted, rows_of_principals, vars_rows, are_principals, are_vars, number_fits}
use Rattle.ask.proofs.Settling.{Names, names_one, unknown_name, unknown_right, unknown_variable, asks, answered}
use Rattle.ask.proofs.question.decide.Goals as goal

pub find-principal-requires : goal.find-principal-requires
find-principal-requires c = rows_of_principals c.requires

pub returns-in_default : goal.returns-in_default
returns-in_default c u =
    unknown_name u c.args.name.now c.args.variable.now (right_byte c.args.right)
    (c.in_default.ensures (map principal_row (store u).principals) (are_principals u))

pub returns-then-code-eq4 : goal.returns-then-code-eq4
returns-then-code-eq4 c u =
    let Known : Type 0 = Understood c.args.state.now c.args.principals.now c.args.vars.now c.args.assertions.now c.args.parts in
    let principal_at_lem : (u : Known) → found_at c.in-Some.asker.number c.in-Some.asker.start c.in-Some.asker.end ≡ place (map principal_row (store u).principals) c.args.name.now = λ u. c.in-Some.ensures (map principal_row (store u).principals) (are_principals u) in
    unknown_right u c.args.name.now c.args.variable.now c.in-Some.asker.number c.in-Some.asker.start c.in-Some.asker.end (principal_at_lem u) (right_byte c.args.right)
    (sym c.right_code-code.ensures ∙ c.if-code-eq4.true)

pub find-place-requires : goal.find-place-requires
find-place-requires c = vars_rows c.requires

pub returns-in_default-place : goal.returns-in_default-place
returns-in_default-place c u =
    let Known : Type 0 = Understood c.args.state.now c.args.principals.now c.args.vars.now c.args.assertions.now c.args.parts in
    let principal_at_lem : (u : Known) → found_at c.in-Some.asker.number c.in-Some.asker.start c.in-Some.asker.end ≡ place (map principal_row (store u).principals) c.args.name.now = λ u. c.in-Some.ensures (map principal_row (store u).principals) (are_principals u) in
    unknown_variable u c.args.name.now c.args.variable.now c.in-Some.asker.number c.in-Some.asker.start c.in-Some.asker.end (principal_at_lem u) (right_byte c.args.right)
    (c.in_default-place.ensures (map variable_row (store u).variables) (are_vars u))

pub chain-chain-requires : goal.chain-chain-requires
chain-chain-requires c =
    let Known : Type 0 = Understood c.args.state.now c.args.principals.now c.args.vars.now c.args.assertions.now c.args.parts in
    let place_at : (u : Known) → found_at c.in-Some-place.shared.number c.in-Some-place.shared.start c.in-Some-place.shared.end ≡ place (map variable_row (store u).variables) c.args.variable.now = λ u. c.in-Some-place.ensures (map variable_row (store u).variables) (are_vars u) in
    let u = c.requires in
    (u.represents.assertions.within, few_asserted u, few_everyone u, number_fits u c.args.variable.now c.in-Some-place.shared.number c.in-Some-place.shared.start c.in-Some-place.shared.end (place_at u))

pub returns-in-Some-chain : goal.returns-in-Some-chain
returns-in-Some-chain c u =
    let Known : Type 0 = Understood c.args.state.now c.args.principals.now c.args.vars.now c.args.assertions.now c.args.parts in
    let principal_at_lem : (u : Known) → found_at c.in-Some.asker.number c.in-Some.asker.start c.in-Some.asker.end ≡ place (map principal_row (store u).principals) c.args.name.now = λ u. c.in-Some.ensures (map principal_row (store u).principals) (are_principals u) in
    let place_at : (u : Known) → found_at c.in-Some-place.shared.number c.in-Some-place.shared.start c.in-Some-place.shared.end ≡ place (map variable_row (store u).variables) c.args.variable.now = λ u. c.in-Some-place.ensures (map variable_row (store u).variables) (are_vars u) in
    let named-right : Names (right_byte c.args.right) = names_one (right_byte c.args.right) (λ e. c.if-code-eq4.false (c.right_code-code.ensures ∙ e)) in
    let by_chain : (u : Known) → length_answer (length_of c.chain-chain.result) ≡ C.question (store u) c.args.name.now c.args.variable.now (right_byte c.args.right) = λ u. let p = c.args.name.now in
    let x = c.args.variable.now in
    let R = named-right in
    let q = principal_at_lem u in
    let w = place_at u in
    let is_code : c.right_code-code.result ≡ code R.right = c.right_code-code.ensures ∙ ap right_code R.is_right in
    ap length_answer (c.chain-chain.ensures (store u) R.right x p (store_valid u) u.represents.assertions (asks u p x c.in-Some.asker.number c.in-Some.asker.start c.in-Some.asker.end q c.in-Some-place.shared.number c.in-Some-place.shared.start c.in-Some-place.shared.end w R.right _ is_code))
    ∙ answered u p x c.in-Some.asker.number c.in-Some.asker.start c.in-Some.asker.end q c.in-Some-place.shared.number c.in-Some-place.shared.start c.in-Some-place.shared.end w (right_byte c.args.right) R.right R.is_right in
    ap (λ (o : Option ℕ). length_answer (length_of o)) (sym c.in-Some-chain.is) ∙ by_chain u

pub returns-in-None : goal.returns-in-None
returns-in-None c u =
    let Known : Type 0 = Understood c.args.state.now c.args.principals.now c.args.vars.now c.args.assertions.now c.args.parts in
    let principal_at_lem : (u : Known) → found_at c.in-Some.asker.number c.in-Some.asker.start c.in-Some.asker.end ≡ place (map principal_row (store u).principals) c.args.name.now = λ u. c.in-Some.ensures (map principal_row (store u).principals) (are_principals u) in
    let place_at : (u : Known) → found_at c.in-Some-place.shared.number c.in-Some-place.shared.start c.in-Some-place.shared.end ≡ place (map variable_row (store u).variables) c.args.variable.now = λ u. c.in-Some-place.ensures (map variable_row (store u).variables) (are_vars u) in
    let named-right : Names (right_byte c.args.right) = names_one (right_byte c.args.right) (λ e. c.if-code-eq4.false (c.right_code-code.ensures ∙ e)) in
    let by_chain : (u : Known) → length_answer (length_of c.chain-chain.result) ≡ C.question (store u) c.args.name.now c.args.variable.now (right_byte c.args.right) = λ u. let p = c.args.name.now in
    let x = c.args.variable.now in
    let R = named-right in
    let q = principal_at_lem u in
    let w = place_at u in
    let is_code : c.right_code-code.result ≡ code R.right = c.right_code-code.ensures ∙ ap right_code R.is_right in
    ap length_answer (c.chain-chain.ensures (store u) R.right x p (store_valid u) u.represents.assertions (asks u p x c.in-Some.asker.number c.in-Some.asker.start c.in-Some.asker.end q c.in-Some-place.shared.number c.in-Some-place.shared.start c.in-Some-place.shared.end w R.right _ is_code))
    ∙ answered u p x c.in-Some.asker.number c.in-Some.asker.start c.in-Some.asker.end q c.in-Some-place.shared.number c.in-Some-place.shared.start c.in-Some-place.shared.end w (right_byte c.args.right) R.right R.is_right in
    ap (λ (o : Option ℕ). length_answer (length_of o)) (sym c.in-None.is) ∙ by_chain u

-- `permits::allowed` meets its contract. The number of a shared variable is asked for; any other name asks for nothing.
-- Assumes nothing.
use mathlib.Core.Path.{◌≡◌}
use mathlib.Core.List.{map}
use Rattle.language.specs.Values.{Session}
use Rattle.store.specs.Rows.{variable_row, found_at, place}
use Rattle.store.proofs.Holders.{variables_rows, some_variables}
use Rattle.permits.specs.Permits.{Sends}
use Rattle.permits.proofs.Permission.{few_asserted, few_principals, number_fits, asks, shared_allowed, other_allowed}
use Rattle.permits.proofs.allowed.Goals as goal

pub find-requires : goal.find-requires
find-requires c = let P = c.requires in some_variables _ _ _ _ P.sends.shared_held

pub may-requires : goal.may-requires
may-requires c =
    let at_place : (s : Session) → let a = c.args in Sends s a.shared.now a.slots.now a.count a.assertions.now a.n a.principals a.sender → found_at c.in-Some.found.number c.in-Some.found.start c.in-Some.found.end ≡ place (map variable_row s.store.variables) a.name.now = λ s W. let a = c.args in
    c.in-Some.ensures (map variable_row s.store.variables) (variables_rows s.store.variables a.shared.now a.count a.slots.now W.shared_held) in
    let P = c.requires in
    (P.sends.assertions_held.within, few_asserted P.sends, few_principals P.sends, number_fits P.sends c.args.name.now c.in-Some.found.number c.in-Some.found.start c.in-Some.found.end (at_place P.session P.sends))

pub returns-in-Some : goal.returns-in-Some
returns-in-Some c s r W e =
    let at_place : (s : Session) → let a = c.args in Sends s a.shared.now a.slots.now a.count a.assertions.now a.n a.principals a.sender → found_at c.in-Some.found.number c.in-Some.found.start c.in-Some.found.end ≡ place (map variable_row s.store.variables) a.name.now = λ s W. let a = c.args in
    c.in-Some.ensures (map variable_row s.store.variables) (variables_rows s.store.variables a.shared.now a.count a.slots.now W.shared_held) in
    let x = c.args.name.now in
    let q = at_place s W in
    shared_allowed W x c.in-Some.found.number c.in-Some.found.start c.in-Some.found.end q r c.may.result
    (c.may.ensures s.store r x s.sender W.is_valid W.assertions_held (asks W x c.in-Some.found.number c.in-Some.found.start c.in-Some.found.end q r c.args.right e))

pub returns-in-None : goal.returns-in-None
returns-in-None c s r W e =
    let a = c.args in
    other_allowed W a.name.now r
    (c.in-None.ensures (map variable_row s.store.variables) (variables_rows s.store.variables a.shared.now a.count a.slots.now W.shared_held))

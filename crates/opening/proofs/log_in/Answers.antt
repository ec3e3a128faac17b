-- `opening::log_in` meets its contract. The record of the name was found or not; the password that is kept there decides.
-- Assumes nothing.
use mathlib.Core.Path.{◌≡◌, sym, ◌∙◌}
use mathlib.Core.List.{List, map}
use native.Mathlib.Omega.{arith}
use Rattle.language.specs.State.{Principal}
use Rattle.store.specs.Held.{Principals}
use Rattle.text.specs.Parts.{part}
use Rattle.store.specs.Rows.{found_at, place, principal_row}
use Rattle.store.proofs.Holders.{principals_rows, some_principals}
use Rattle.store.proofs.Answers.{principal_found}
use Rattle.opening.proofs.Senders.{not_there, let_in_lem, turned_away}
use Rattle.opening.proofs.log_in.Goals as goal

pub find-requires : goal.find-requires
find-requires c =
    let a = c.args in
    let P = c.requires in
    some_principals P.state.principals (part a.state.now a.parts.principals_from a.parts.principals_to) a.parts.principals a.principal_slots.now P.represents.principals

pub opens-requires : goal.opens-requires
opens-requires c =
    let found : (ks : List Principal) → let a = c.args in Principals ks (part a.state.now a.parts.principals_from a.parts.principals_to) a.parts.principals a.principal_slots.now → found_at c.in-Some.found.number c.in-Some.found.start c.in-Some.found.end ≡ place (map principal_row ks) a.name.now = λ ks K. let a = c.args in
    c.in-Some.ensures (map principal_row ks) (principals_rows ks (part a.state.now a.parts.principals_from a.parts.principals_to) a.parts.principals a.principal_slots.now K) in
    let P = c.requires in
    let F = principal_found P.state.principals c.args.name.now _ _ _ (found P.state.principals P.represents.principals) in
    (record { principals = P.state.principals; held = P.represents.principals }, omega (arith, F.below, P.represents.principals.counted))

pub returns-then-opens : goal.returns-then-opens
returns-then-opens c vm st s R =
    let found : (ks : List Principal) → let a = c.args in Principals ks (part a.state.now a.parts.principals_from a.parts.principals_to) a.parts.principals a.principal_slots.now → found_at c.in-Some.found.number c.in-Some.found.start c.in-Some.found.end ≡ place (map principal_row ks) a.name.now = λ ks K. let a = c.args in
    c.in-Some.ensures (map principal_row ks) (principals_rows ks (part a.state.now a.parts.principals_from a.parts.principals_to) a.parts.principals a.principal_slots.now K) in
    let a = c.args in
    let_in_lem s a.name.now a.password.now _ _ _ (found s.principals R.principals)
    (sym c.if-opens.true ∙ c.opens.ensures s.principals R.principals)

pub returns-else-opens : goal.returns-else-opens
returns-else-opens c vm st s R =
    let found : (ks : List Principal) → let a = c.args in Principals ks (part a.state.now a.parts.principals_from a.parts.principals_to) a.parts.principals a.principal_slots.now → found_at c.in-Some.found.number c.in-Some.found.start c.in-Some.found.end ≡ place (map principal_row ks) a.name.now = λ ks K. let a = c.args in
    c.in-Some.ensures (map principal_row ks) (principals_rows ks (part a.state.now a.parts.principals_from a.parts.principals_to) a.parts.principals a.principal_slots.now K) in
    let a = c.args in
    turned_away s a.name.now a.password.now _ _ _ (found s.principals R.principals)
    (sym c.if-opens.false ∙ c.opens.ensures s.principals R.principals)

pub returns-in_default : goal.returns-in_default
returns-in_default c vm st s R =
    let a = c.args in
    not_there s a.name.now a.password.now
    (c.in_default.ensures (map principal_row s.principals) (principals_rows s.principals (part a.state.now a.parts.principals_from a.parts.principals_to) a.parts.principals a.principal_slots.now R.principals))

-- `saving::put_records` meets its contract. Four pieces in a row; the delegator's name is found by its number.
-- Assumes nothing.
use mathlib.Core.Path.{◌≡◌, ap}
use native.Mathlib.Omega.{arith}
use lib.ListN.{length}
use Rattle.language.specs.Syntax.{Name}
use Rattle.language.specs.State.{Store}
use Rattle.store.proofs.Holders.{some_principals}
use Rattle.value_text.proofs.Pieces.{◌▸◌, rewritten, written_length}
use Rattle.saving.specs.Stores.{Recorded}
use Rattle.saving.proofs.Meant.{principal_below, principal_name}
use Rattle.saving.proofs.Rooms.{head_size, delegator_size, records_text_lem, records_size}
use borrow.Author.Rules.{rules}
use Rattle.saving.proofs.put_records.Goals as goal

pub put_header-a-requires : goal.put_header-a-requires
put_header-a-requires c =
    let a = c.args in
    let P = c.requires in
    omega (arith, P.room, records_size P.store P.name a.l a.principals.now a.principal_slots.now a.vars.now P.recorded)

pub put_principals-b-requires : goal.put_principals-b-requires
put_principals-b-requires c =
    let a = c.args in
    let P = c.requires in
    record {
      store = P.store;
      name = P.name;
      sent = P.recorded.sent;
      room = omega (arith, P.room, records_size P.store P.name a.l a.principals.now a.principal_slots.now a.vars.now P.recorded, head_size a.l.is_open, c.put_header-a.ensures.ends, written_length c.put_header-a.ensures);
    }

pub name_of-name-requires : goal.name_of-name-requires
name_of-name-requires c =
    let a = c.args in
    let P = c.requires in
    let R = P.recorded in (
      some_principals P.store.principals a.principals.now a.l.principals a.principal_slots.now R.sent.principals,
      principal_below P.store.principals a.principals.now a.l.principals a.principal_slots.now R.sent.principals P.store.delegator R.delegator_known a.l.delegator R.delegator,
    )

pub put_delegator-c-requires : goal.put_delegator-c-requires
put_delegator-c-requires c =
    let found : (s : Store) (p : Name) → let a = c.args in Recorded s p a.l a.principals.now a.principal_slots.now a.vars.now → c.name_of-name.result.now ≡ s.delegator = λ s p R. let a = c.args in
    principal_name s.principals a.principals.now a.l.principals a.principal_slots.now R.sent.principals s.delegator R.delegator_known a.l.delegator R.delegator _ c.name_of-name.ensures in
    let a = c.args in
    let P = c.requires in
    let x = c.put_principals-b.ensures P.store P.name P.recorded.sent in
    omega (
      arith,
      P.room,
      records_size P.store P.name a.l a.principals.now a.principal_slots.now a.vars.now P.recorded,
      ap length (found P.store P.name P.recorded),
      head_size a.l.is_open,
      c.put_header-a.ensures.ends,
      written_length c.put_header-a.ensures,
      x.ends,
      written_length x,
    )

pub copy_in-requires : goal.copy_in-requires
copy_in-requires c =
    let found : (s : Store) (p : Name) → let a = c.args in Recorded s p a.l a.principals.now a.principal_slots.now a.vars.now → c.name_of-name.result.now ≡ s.delegator = λ s p R. let a = c.args in
    principal_name s.principals a.principals.now a.l.principals a.principal_slots.now R.sent.principals s.delegator R.delegator_known a.l.delegator R.delegator _ c.name_of-name.ensures in
    let a = c.args in
    let P = c.requires in
    let x = c.put_principals-b.ensures P.store P.name P.recorded.sent in
    omega (
      arith,
      P.room,
      records_size P.store P.name a.l a.principals.now a.principal_slots.now a.vars.now P.recorded,
      ap length (found P.store P.name P.recorded),
      head_size a.l.is_open,
      c.put_header-a.ensures.ends,
      written_length c.put_header-a.ensures,
      x.ends,
      written_length x,
      c.put_delegator-c.ensures.ends,
      written_length c.put_delegator-c.ensures,
      delegator_size c.name_of-name.result.now,
    )

pub returns : goal.returns
returns c s p R =
    let found : (s : Store) (p : Name) → let a = c.args in Recorded s p a.l a.principals.now a.principal_slots.now a.vars.now → c.name_of-name.result.now ≡ s.delegator = λ s p R. let a = c.args in
    principal_name s.principals a.principals.now a.l.principals a.principal_slots.now R.sent.principals s.delegator R.delegator_known a.l.delegator R.delegator _ c.name_of-name.ensures in
    let a = c.args in
    rewritten (records_text_lem s p a.l a.principals.now a.principal_slots.now a.vars.now R _ (found s p R))
    (c.put_header-a.ensures ▸ c.put_principals-b.ensures s p R.sent ▸ c.put_delegator-c.ensures ▸ c.copy_in.ensures)

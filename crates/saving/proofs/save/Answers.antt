-- `saving::save` meets its contract. The records, the assertions, and zeros: the whole text has room in the buffer.
-- Assumes nothing.
use mathlib.Core.Path.{◌≡◌, sym, ap, ◌∙◌}
use Prim.Native.Nat.{ℕ, ◌-◌, ◌≤◌}
use native.Mathlib.Omega.{arith}
use mathlib.Core.List.{◌++◌}
use lib.ListN.{length, take, drop, replicate}
use lib.Seq.{length-take-le}
use Rattle.language.specs.Text.{Text}
use Rattle.language.specs.Encode.{assertions_text, state_text, padded}
use Rattle.language.specs.Values.{Session}
use Rattle.language.specs.Run.{tally}
use Rattle.value_text.specs.Writing.{Written}
use Rattle.value_text.proofs.Pieces.{◌▸◌, written_drop, written_length}
use Rattle.session.specs.Sessions.{Slices, slices, Running}
use Rattle.saving.specs.Stores.{records_text}
use Rattle.saving.proofs.Behind.{longer, shorter}
use Rattle.saving.proofs.Rooms.{session_named, session_recorded, session_room, saved}
use borrow.Author.Rules.{rules}
use Rattle.saving.proofs.save.Goals as goal

pub slice_bounds-roster-end : goal.slice_bounds-roster-end
slice_bounds-roster-end c = sym (length-take-le _ _ c.requires.some_running.running.principals_within)

pub slice_bounds-shared-end : goal.slice_bounds-shared-end
slice_bounds-shared-end c = sym (length-take-le _ _ c.requires.some_running.running.vars_within)

pub put_records-a-requires : goal.put_records-a-requires
put_records-a-requires c =
    let P = c.requires.some_running in
    let a = c.args in
    let lent : Slices = slices a.principals.now a.principal_slots.now a.vars.now a.variable_slots.now a.locals.now a.local_slots.now a.assertions.now in
    record {
      store = P.session.store;
      name = P.session.sender;
      recorded = session_recorded P.session a.l lent P.running;
      room = omega (arith, c.requires.state_len.0, session_room P.session a.l lent P.running);
    }

pub put_all_packed-b-requires : goal.put_all_packed-b-requires
put_all_packed-b-requires c =
    let P = c.requires.some_running in
    let a = c.args in
    let lent : Slices = slices a.principals.now a.principal_slots.now a.vars.now a.variable_slots.now a.locals.now a.local_slots.now a.assertions.now in
    let w = c.put_records-a.ensures P.session.store P.session.sender (session_recorded P.session a.l lent P.running) in
    record {
      store = P.session.store;
      names = session_named P.session a.l lent P.running;
      assertions = P.running.assertions;
      room = omega (arith, c.requires.state_len.0, w.ends, written_length w, session_room P.session a.l lent P.running);
    }

pub returns-then-used-b : goal.returns-then-used-b
returns-then-used-b c s R =
    let a = c.args in
    let lent : Slices = slices a.principals.now a.principal_slots.now a.vars.now a.variable_slots.now a.locals.now a.local_slots.now a.assertions.now in
    let end : ℕ = c.put_all_packed-b.result in
    let text : Text = c.put_all_packed-b.new.out in
    let records_there : (s : Session) → Running s a.l lent → Written a.state.now 0 (records_text (tally s.sender s.store)) c.put_records-a.result c.put_records-a.new.out =
    λ s R. c.put_records-a.ensures s.store s.sender (session_recorded s a.l lent R) in
    let assertions_there : (s : Session) → Running s a.l lent → Written c.put_records-a.new.out c.put_records-a.result (assertions_text s.store.assertions) end text =
    λ s R. c.put_all_packed-b.ensures s.store (session_named s a.l lent R) R.assertions in
    let whole : (s : Session) (R : Running s a.l lent) → Written a.state.now 0 (records_text (tally s.sender s.store) ++ assertions_text s.store.assertions) end text =
    λ s R. records_there s R ▸ assertions_there s R in
    let saved_text : (s : Session) (R : Running s a.l lent) → take end text ++ replicate (length text - end) 0 ≡ padded (state_text (tally s.sender s.store)) =
    λ s R. saved (tally s.sender s.store) a.state.now _ _ _ _ c.requires.state_len.0 (records_there s R) (assertions_there s R) in
    let R₀ = c.requires.some_running in
    let within : a.used ≤ length text = omega (arith, written_length (whole R₀.session R₀.running), c.requires.state_len.0, c.requires.state_len.1) in
    let w = whole s R in
    let p = c.requires.state_len in
    longer a.state.now text end a.used (written_length w) w.fits (written_drop w) (omega (arith, p.0, p.1)) (p.2 ∙ ap (λ (n : ℕ). replicate (n - a.used) 0) (sym p.0)) c.if-used-b.true
    ∙ saved_text s R

pub slice_bounds-zero_rest-end : goal.slice_bounds-zero_rest-end
slice_bounds-zero_rest-end c =
    let a = c.args in
    let lent : Slices = slices a.principals.now a.principal_slots.now a.vars.now a.variable_slots.now a.locals.now a.local_slots.now a.assertions.now in
    let end : ℕ = c.put_all_packed-b.result in
    let text : Text = c.put_all_packed-b.new.out in
    let records_there : (s : Session) → Running s a.l lent → Written a.state.now 0 (records_text (tally s.sender s.store)) c.put_records-a.result c.put_records-a.new.out =
    λ s R. c.put_records-a.ensures s.store s.sender (session_recorded s a.l lent R) in
    let assertions_there : (s : Session) → Running s a.l lent → Written c.put_records-a.new.out c.put_records-a.result (assertions_text s.store.assertions) end text =
    λ s R. c.put_all_packed-b.ensures s.store (session_named s a.l lent R) R.assertions in
    let whole : (s : Session) (R : Running s a.l lent) → Written a.state.now 0 (records_text (tally s.sender s.store) ++ assertions_text s.store.assertions) end text =
    λ s R. records_there s R ▸ assertions_there s R in
    let saved_text : (s : Session) (R : Running s a.l lent) → take end text ++ replicate (length text - end) 0 ≡ padded (state_text (tally s.sender s.store)) =
    λ s R. saved (tally s.sender s.store) a.state.now _ _ _ _ c.requires.state_len.0 (records_there s R) (assertions_there s R) in
    let R₀ = c.requires.some_running in
    let within : a.used ≤ length text = omega (arith, written_length (whole R₀.session R₀.running), c.requires.state_len.0, c.requires.state_len.1) in
    within

pub slice_bounds-zero_rest-end-2 : goal.slice_bounds-zero_rest-end-2
slice_bounds-zero_rest-end-2 c =
    let a = c.args in
    let lent : Slices = slices a.principals.now a.principal_slots.now a.vars.now a.variable_slots.now a.locals.now a.local_slots.now a.assertions.now in
    let end : ℕ = c.put_all_packed-b.result in
    let text : Text = c.put_all_packed-b.new.out in
    let records_there : (s : Session) → Running s a.l lent → Written a.state.now 0 (records_text (tally s.sender s.store)) c.put_records-a.result c.put_records-a.new.out =
    λ s R. c.put_records-a.ensures s.store s.sender (session_recorded s a.l lent R) in
    let assertions_there : (s : Session) → Running s a.l lent → Written c.put_records-a.new.out c.put_records-a.result (assertions_text s.store.assertions) end text =
    λ s R. c.put_all_packed-b.ensures s.store (session_named s a.l lent R) R.assertions in
    let whole : (s : Session) (R : Running s a.l lent) → Written a.state.now 0 (records_text (tally s.sender s.store) ++ assertions_text s.store.assertions) end text =
    λ s R. records_there s R ▸ assertions_there s R in
    let saved_text : (s : Session) (R : Running s a.l lent) → take end text ++ replicate (length text - end) 0 ≡ padded (state_text (tally s.sender s.store)) =
    λ s R. saved (tally s.sender s.store) a.state.now _ _ _ _ c.requires.state_len.0 (records_there s R) (assertions_there s R) in
    let R₀ = c.requires.some_running in
    let within : a.used ≤ length text = omega (arith, written_length (whole R₀.session R₀.running), c.requires.state_len.0, c.requires.state_len.1) in
    sym (length-take-le a.used text within)

pub zero_rest-requires : goal.zero_rest-requires
zero_rest-requires c =
    let a = c.args in
    let lent : Slices = slices a.principals.now a.principal_slots.now a.vars.now a.variable_slots.now a.locals.now a.local_slots.now a.assertions.now in
    let end : ℕ = c.put_all_packed-b.result in
    let text : Text = c.put_all_packed-b.new.out in
    let records_there : (s : Session) → Running s a.l lent → Written a.state.now 0 (records_text (tally s.sender s.store)) c.put_records-a.result c.put_records-a.new.out =
    λ s R. c.put_records-a.ensures s.store s.sender (session_recorded s a.l lent R) in
    let assertions_there : (s : Session) → Running s a.l lent → Written c.put_records-a.new.out c.put_records-a.result (assertions_text s.store.assertions) end text =
    λ s R. c.put_all_packed-b.ensures s.store (session_named s a.l lent R) R.assertions in
    let whole : (s : Session) (R : Running s a.l lent) → Written a.state.now 0 (records_text (tally s.sender s.store) ++ assertions_text s.store.assertions) end text =
    λ s R. records_there s R ▸ assertions_there s R in
    let saved_text : (s : Session) (R : Running s a.l lent) → take end text ++ replicate (length text - end) 0 ≡ padded (state_text (tally s.sender s.store)) =
    λ s R. saved (tally s.sender s.store) a.state.now _ _ _ _ c.requires.state_len.0 (records_there s R) (assertions_there s R) in
    let R₀ = c.requires.some_running in
    let within : a.used ≤ length text = omega (arith, written_length (whole R₀.session R₀.running), c.requires.state_len.0, c.requires.state_len.1) in
    omega (arith, length-take-le a.used text within, c.if-used-b.false)

pub returns : goal.returns
returns c s R =
    let a = c.args in
    let lent : Slices = slices a.principals.now a.principal_slots.now a.vars.now a.variable_slots.now a.locals.now a.local_slots.now a.assertions.now in
    let end : ℕ = c.put_all_packed-b.result in
    let text : Text = c.put_all_packed-b.new.out in
    let records_there : (s : Session) → Running s a.l lent → Written a.state.now 0 (records_text (tally s.sender s.store)) c.put_records-a.result c.put_records-a.new.out =
    λ s R. c.put_records-a.ensures s.store s.sender (session_recorded s a.l lent R) in
    let assertions_there : (s : Session) → Running s a.l lent → Written c.put_records-a.new.out c.put_records-a.result (assertions_text s.store.assertions) end text =
    λ s R. c.put_all_packed-b.ensures s.store (session_named s a.l lent R) R.assertions in
    let whole : (s : Session) (R : Running s a.l lent) → Written a.state.now 0 (records_text (tally s.sender s.store) ++ assertions_text s.store.assertions) end text =
    λ s R. records_there s R ▸ assertions_there s R in
    let saved_text : (s : Session) (R : Running s a.l lent) → take end text ++ replicate (length text - end) 0 ≡ padded (state_text (tally s.sender s.store)) =
    λ s R. saved (tally s.sender s.store) a.state.now _ _ _ _ c.requires.state_len.0 (records_there s R) (assertions_there s R) in
    let R₀ = c.requires.some_running in
    let within : a.used ≤ length text = omega (arith, written_length (whole R₀.session R₀.running), c.requires.state_len.0, c.requires.state_len.1) in
    let w = whole s R in
    let p = c.requires.state_len in
    ap (λ (t : Text). t ++ drop a.used text) c.zero_rest.ensures
    ∙ shorter a.state.now text end a.used (written_length w) w.fits (written_drop w) (omega (arith, p.0, p.1)) (p.2 ∙ ap (λ (n : ℕ). replicate (n - a.used) 0) (sym p.0)) c.if-used-b.false
    ∙ saved_text s R

-- `render::output::element_json` meets its contract. A string by its line; a record by its fields, which are not none.
-- Assumes nothing.
use native.Mathlib.Omega.{arith}
use Rattle.value_text.proofs.Pieces.{written_length}
use Rattle.render.proofs.Elements.{StringAt, string_at, string_room, string_renders, RecordAt, record_at_lem, record_room, record_renders}
use Rattle.render.proofs.output.element_json.Goals as goal

pub put_quoted-wrote-requires : goal.put_quoted-wrote-requires
put_quoted-wrote-requires c =
    let string : StringAt c.args.text.now c.args.at c.requires.element c.requires.rest = string_at c.args.text.now c.args.at c.requires.element c.requires.rest c.requires.stands c.if-text-at-eq83.true in
    string_room c.args.text.now c.args.at c.requires.element c.requires.rest string c.until-end.result c.until-end.ensures.ends c.args.o _ c.requires.room

pub returns-then-text-at-eq83 : goal.returns-then-text-at-eq83
returns-then-text-at-eq83 c e rest E = string_renders c.args.text.now c.args.at e rest (string_at c.args.text.now c.args.at e rest E c.if-text-at-eq83.true) c.until-end.result c.until-end.ensures.ends _ _ _ _ c.put_quoted-wrote.ensures

pub fields_json-m-requires : goal.fields_json-m-requires
fields_json-m-requires c =
    let lines : RecordAt c.args.text.now c.args.at c.requires.element c.requires.rest = record_at_lem c.args.text.now c.args.at c.requires.element c.requires.rest c.requires.stands c.if-text-at-eq83.false in
    let R = lines in
    record {
      fields = _;
      rest = c.requires.rest;
      stand = R.stand;
      room = omega (arith, record_room c.args.text.now c.args.at c.requires.element c.requires.rest R c.args.o _ c.requires.room);
    }

pub put_byte-wrote-requires : goal.put_byte-wrote-requires
put_byte-wrote-requires c =
    let lines : RecordAt c.args.text.now c.args.at c.requires.element c.requires.rest = record_at_lem c.args.text.now c.args.at c.requires.element c.requires.rest c.requires.stands c.if-text-at-eq83.false in
    let R = lines in
    let M = c.fields_json-m.ensures _ c.requires.rest R.stand in
    omega (arith, M.written.ends, written_length M.written, record_room c.args.text.now c.args.at c.requires.element c.requires.rest R c.args.o _ c.requires.room)

pub returns : goal.returns
returns c e rest E =
    let R = record_at_lem c.args.text.now c.args.at e rest E c.if-text-at-eq83.false in
    record_renders c.args.text.now c.args.at e rest R _ _ _ _ _ c.fields_json-m.result (c.fields_json-m.ensures _ rest R.stand) c.put_byte-wrote.ensures

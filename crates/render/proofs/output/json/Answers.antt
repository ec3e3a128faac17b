-- `render::output::json` meets its contract. By the first byte; a list of two bytes has no element.
-- Assumes nothing.
use mathlib.Core.Path.{ap, sym}
use native.Mathlib.Omega.{arith}
use mathlib.Core.List.{[]}
use Rattle.language.specs.Output.{value_json}
use Rattle.value_text.proofs.Pieces.{◌▸◌, rewritten, written_length}
use Rattle.render.proofs.Elements.{single_at, ListAt, list_at, list_none, list_some, list_room}
use Rattle.render.proofs.output.json.Goals as goal

pub returns-then-value-ne76 : goal.returns-then-value-ne76
returns-then-value-ne76 c v h =
    let S = single_at v c.args.value.now h c.if-value-ne76.true in
    rewritten (ap value_json (sym S.is_value)) (c.element_json.ensures S.element [] S.stands).written

pub returns-then-value-eq2 : goal.returns-then-value-eq2
returns-then-value-eq2 c v h = rewritten (list_none v c.args.value.now (list_at v c.args.value.now h c.if-value-ne76.false) c.if-value-eq2.true) c.copy_in.ensures

pub elements_json-p-requires : goal.elements_json-p-requires
elements_json-p-requires c =
    let several : ListAt c.requires.value c.args.value.now = list_at c.requires.value c.args.value.now c.requires.held c.if-value-ne76.false in
    let L = several in
    record { elements = L.elements; stand = L.stand; room = omega (arith, c.requires.room, list_room c.requires.value c.args.value.now L c.if-value-eq2.false) }

pub put_byte-requires : goal.put_byte-requires
put_byte-requires c =
    let several : ListAt c.requires.value c.args.value.now = list_at c.requires.value c.args.value.now c.requires.held c.if-value-ne76.false in
    let L = several in
    let W = c.elements_json-p.ensures L.elements L.stand in
    omega (arith, c.requires.room, list_room c.requires.value c.args.value.now L c.if-value-eq2.false, W.ends, written_length W)

pub returns : goal.returns
returns c v h =
    let L = list_at v c.args.value.now h c.if-value-ne76.false in
    rewritten (list_some v c.args.value.now L c.if-value-eq2.false) (c.elements_json-p.ensures L.elements L.stand ▸ c.put_byte.ensures)

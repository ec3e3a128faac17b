-- `render::output::field_json` meets its contract. What is quoted are the field's label and its text, where the two scans stop.
-- Assumes nothing.
use Rattle.value_text.proofs.Pieces.{◌▸◌}
use Rattle.render.proofs.Rendering.{field_renders}
use Rattle.render.proofs.output.field_json.Goals as goal

pub returns : goal.returns
returns c f rest F =
    field_renders c.args.text.now c.args.at f rest c.field_ends-ends.result (c.field_ends-ends.ensures.ends f rest F) _ _ c.args.o c.put_quoted-c.result
    (c.put_quoted-a.ensures ▸ c.put_byte-b.ensures ▸ c.put_quoted-c.ensures)

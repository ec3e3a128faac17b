use mathlib.Core.Path.{◌∙◌}
use native.Mathlib.Omega.{arith}
use Rattle.value_text.proofs.Pieces.{◌▸◌, written_length}
use Rattle.bring.proofs.Copying.{brought_length, brought_padded}
use Rattle.bring.proofs.rewrite.put_state.Goals as goal

pub put_counted-b-requires : goal.put_counted-b-requires
put_counted-b-requires c = omega (arith, c.put_header-a.ensures.ends, written_length c.put_header-a.ensures, brought_length c.args.former.now c.args.parts, c.requires.fits, c.requires.size)

pub copy_in-c-requires : goal.copy_in-c-requires
copy_in-c-requires c = omega (arith, c.put_header-a.ensures.ends, written_length c.put_header-a.ensures, c.put_counted-b.ensures.ends, written_length c.put_counted-b.ensures, brought_length c.args.former.now c.args.parts, c.requires.fits, c.requires.size)

pub returns : goal.returns
returns c =
    c.zero_rest.ensures
    ∙ brought_padded c.args.former.now c.args.parts c.args.state.now c.copy_in-c.new.out c.copy_in-c.result c.requires.size
    (c.put_header-a.ensures ▸ c.put_counted-b.ensures ▸ c.copy_in-c.ensures)

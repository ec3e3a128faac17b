-- `render::output::elements_json` meets its contract. The loop's invariant: for all elements that stand in the text, what is written and what is left are linked to the whole.
-- Assumes nothing.
use native.Mathlib.Omega.{arith}
use Rattle.value_text.proofs.Pieces.{written_length}
use Rattle.render.proofs.Elements.{elements_finish, next_one, one_at, one_room, one_within, one_going}
use Rattle.render.proofs.output.elements_json.Goals as goal

pub put_byte-a-requires : goal.put_byte-a-requires
put_byte-a-requires c =
    let l = c.loop-moved in
    let N = next_one c.args.text.now c.requires.elements c.args.out.now c.args.o l.moved.read l.moved.wrote l.before l.out (l.invariant.2 c.requires.elements c.requires.stand) c.loop-moved-test.true in
    omega (arith, one_room _ _ _ _ _ _ _ _ N c.requires.room)

pub element_json-moved-requires : goal.element_json-moved-requires
element_json-moved-requires c =
    let l = c.loop-moved in
    let N = next_one c.args.text.now c.requires.elements c.args.out.now c.args.o l.moved.read l.moved.wrote l.before l.out (l.invariant.2 c.requires.elements c.requires.stand) c.loop-moved-test.true in
    record {
      element = N.element;
      rest = _;
      stands = one_at _ _ _ _ _ _ _ _ N;
      room = omega (arith, one_room _ _ _ _ _ _ _ _ N c.requires.room, c.put_byte-a.ensures.ends, written_length c.put_byte-a.ensures);
    }

pub loop-moved-smaller : goal.loop-moved-smaller
loop-moved-smaller c =
    let l = c.loop-moved in
    let N = next_one c.args.text.now c.requires.elements c.args.out.now c.args.o l.moved.read l.moved.wrote l.before l.out (l.invariant.2 c.requires.elements c.requires.stand) c.loop-moved-test.true in
    let R = c.element_json-moved.ensures N.element _ (one_at _ _ _ _ _ _ _ _ N) in
    let within = one_within _ _ _ _ _ _ _ _ N c.element_json-moved.result.read R.read_to in
    omega (arith, within)

pub loop-moved-preserved : goal.loop-moved-preserved
loop-moved-preserved c =
    let l = c.loop-moved in
    let N = next_one c.args.text.now c.requires.elements c.args.out.now c.args.o l.moved.read l.moved.wrote l.before l.out (l.invariant.2 c.requires.elements c.requires.stand) c.loop-moved-test.true in
    let R = c.element_json-moved.ensures N.element _ (one_at _ _ _ _ _ _ _ _ N) in (
      (one_within _ _ _ _ _ _ _ _ N c.element_json-moved.result.read R.read_to).1,
      omega arith,
      λ es E.
          let M = next_one c.args.text.now es c.args.out.now c.args.o l.moved.read l.moved.wrote l.before l.out (l.invariant.2 es E) c.loop-moved-test.true in
          one_going _ _ _ _ _ _ _ _ M _ _ _ c.element_json-moved.result c.put_byte-a.ensures (c.element_json-moved.ensures M.element _ (one_at _ _ _ _ _ _ _ _ M)),
    )

pub returns : goal.returns
returns c es E =
    let l = c.loop-moved in
    elements_finish c.args.text.now es c.args.out.now c.args.o l.moved.read l.moved.wrote l.before l.out (l.invariant.2 es E) c.loop-moved-test.false

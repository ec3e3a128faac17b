-- `render::output::fields_json` meets its contract. The loop's invariant: for all fields that stand in the text, what is written and what is left are linked to the whole.
-- Assumes nothing.
use native.Mathlib.Omega.{arith}
use Rattle.value_text.proofs.Pieces.{written_length}
use Rattle.render.proofs.Rendering.{fields_finish, next_field, next_at, next_room, next_within, next_going}
use Rattle.render.proofs.output.fields_json.Goals as goal

pub put_byte-a-requires : goal.put_byte-a-requires
put_byte-a-requires c =
    let l = c.loop-moved in
    let N = next_field c.args.text.now c.args.at c.requires.fields c.requires.rest c.args.out.now c.args.o l.moved.read l.moved.wrote l.sep l.out (l.invariant.2 c.requires.fields c.requires.rest c.requires.stand) c.loop-moved-test.true c.if-text-moved-eq70.true in
    omega (arith, next_room _ _ _ _ _ _ _ _ _ _ N c.requires.room)

pub field_json-moved-requires : goal.field_json-moved-requires
field_json-moved-requires c =
    let l = c.loop-moved in
    let N = next_field c.args.text.now c.args.at c.requires.fields c.requires.rest c.args.out.now c.args.o l.moved.read l.moved.wrote l.sep l.out (l.invariant.2 c.requires.fields c.requires.rest c.requires.stand) c.loop-moved-test.true c.if-text-moved-eq70.true in
    record {
      field = N.field;
      rest = _;
      stands = next_at _ _ _ _ _ _ _ _ _ _ N;
      room = omega (arith, next_room _ _ _ _ _ _ _ _ _ _ N c.requires.room, c.put_byte-a.ensures.ends, written_length c.put_byte-a.ensures);
    }

pub loop-moved-smaller : goal.loop-moved-smaller
loop-moved-smaller c =
    let l = c.loop-moved in
    let N = next_field c.args.text.now c.args.at c.requires.fields c.requires.rest c.args.out.now c.args.o l.moved.read l.moved.wrote l.sep l.out (l.invariant.2 c.requires.fields c.requires.rest c.requires.stand) c.loop-moved-test.true c.if-text-moved-eq70.true in
    let R = c.field_json-moved.ensures N.field _ (next_at _ _ _ _ _ _ _ _ _ _ N) in
    let within = next_within _ _ _ _ _ _ _ _ _ _ N c.field_json-moved.result.read R.read_to in
    omega (arith, within)

pub loop-moved-preserved : goal.loop-moved-preserved
loop-moved-preserved c =
    let l = c.loop-moved in
    let N = next_field c.args.text.now c.args.at c.requires.fields c.requires.rest c.args.out.now c.args.o l.moved.read l.moved.wrote l.sep l.out (l.invariant.2 c.requires.fields c.requires.rest c.requires.stand) c.loop-moved-test.true c.if-text-moved-eq70.true in
    let R = c.field_json-moved.ensures N.field _ (next_at _ _ _ _ _ _ _ _ _ _ N) in (
      (next_within _ _ _ _ _ _ _ _ _ _ N c.field_json-moved.result.read R.read_to).1,
      omega arith,
      λ fs rest F.
          let M = next_field c.args.text.now c.args.at fs rest c.args.out.now c.args.o l.moved.read l.moved.wrote l.sep l.out (l.invariant.2 fs rest F) c.loop-moved-test.true c.if-text-moved-eq70.true in
          next_going _ _ _ _ _ _ _ _ _ _ M _ _ _ c.field_json-moved.result c.put_byte-a.ensures (c.field_json-moved.ensures M.field _ (next_at _ _ _ _ _ _ _ _ _ _ M)),
    )

pub returns-else-text-moved-eq70 : goal.returns-else-text-moved-eq70
returns-else-text-moved-eq70 c fs rest F =
    let l = c.loop-moved in
    fields_finish c.args.text.now c.args.at fs rest c.args.out.now c.args.o l.moved.read l.moved.wrote l.sep l.out (l.invariant.2 fs rest F) (λ n e. c.if-text-moved-eq70.false e)

pub returns-after-loop-moved : goal.returns-after-loop-moved
returns-after-loop-moved c fs rest F =
    let l = c.loop-moved in
    fields_finish c.args.text.now c.args.at fs rest c.args.out.now c.args.o l.moved.read l.moved.wrote l.sep l.out (l.invariant.2 fs rest F) (λ n e. omega arith)

use Rattle.std.proofs.Common.{arith}
use Rattle.lets.proofs.Starting.{start_reached, start_kept}
use Rattle.lets.proofs.answer.Goals as goal

pub loop-further-init : goal.loop-further-init
loop-further-init c = record {
  sized = c.requires.sized;
  lent = c.requires.text_len_bound.1;
  reached = λ s x S W q. start_reached S _ _ q c.requires.text_len_bound.0;
}

pub step-next-requires : goal.step-next-requires
step-next-requires c =
    let i = c.loop-further.invariant in
    let P = c.requires.some_start in record {
      some_left = record {
        session = P.session;
        expression = P.expression;
        base = c.args.len;
        number = c.args.number;
        reached = i.reached P.session P.expression P.starts P.sends P.knows;
        sized = i.sized;
        sends = P.sends;
      };
      text_len_bound = (c.requires.text_len_bound.0, i.lent);
    }

pub loop-further-smaller : goal.loop-further-smaller
loop-further-smaller c =
    let i = c.loop-further.invariant in
    let P = c.requires.some_start in
    let S = c.in-Continue.ensures P.session P.expression c.args.len c.args.number (i.reached P.session P.expression P.starts P.sends P.knows) i.sized P.sends in
    omega (arith, S.1, S.0.within)

pub loop-further-preserved : goal.loop-further-preserved
loop-further-preserved c =
    let i = c.loop-further.invariant in
    let Z = i.sized in
    let k = c.step-next.auto in record {
      sized = record {
        scope_size_lem = omega (arith, Z.scope_size_lem, k.scope);
        scope_small = omega (arith, Z.scope_small, k.scope);
        slots_size = omega (arith, Z.slots_size, k.local_slots);
        slots_small = omega (arith, Z.slots_small, k.local_slots);
        deep = record {
          heads_size = omega (arith, Z.deep.heads_size, k.heads);
          lens_size = omega (arith, Z.deep.lens_size, k.lens);
          counts_size = omega (arith, Z.deep.counts_size, k.counts);
          bounds_size = omega (arith, Z.deep.bounds_size, k.bounds);
        };
      };
      lent = record { out_size = omega (arith, i.lent.out_size, k.out); slots_size = omega (arith, i.lent.slots_size, k.labels) };
      reached = λ s x S W q. (c.in-Continue.ensures s x c.args.len c.args.number (i.reached s x S W q) Z W).0;
    }

pub returns-in-Break : goal.returns-in-Break
returns-in-Break c s x S W q =
    let i = c.loop-further.invariant in
    let T = c.in-Break.ensures s x c.args.len c.args.number (i.reached s x S W q) i.sized W in
    (T.0, start_kept S _ T.1 (omega (arith, i.sized.scope_size_lem, c.step-next.auto.scope)))

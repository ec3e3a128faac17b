-- `sheet::listing::mark` meets its contract. The marks that are lent are as many as the principals, and stand in front of the others.
-- Assumes nothing.
use mathlib.Core.Path.{sym, ap, ◌∙◌}
use mathlib.Core.List.{map}
use lib.Seq.{length-take-le}
use native.Mathlib.Omega.{arith}
use Rattle.named_rights.specs.Numbers.{length_marked}
use Prim.Native.Nat.{◌≤◌}
use lib.ListN.{length}
use Rattle.sheet.proofs.Printing.{marks_back, asks_lent}
use Rattle.sheet.proofs.listing.mark.Goals as goal

pub slice_bounds-lengths-end-2 : goal.slice_bounds-lengths-end-2
slice_bounds-lengths-end-2 c =
    let room : c.args.count ≤ length c.args.marks.now = omega (arith, c.requires.0.few, c.requires.1) in
    sym (length-take-le _ _ room)

pub lengths-requires : goal.lengths-requires
lengths-requires c =
    let room : c.args.count ≤ length c.args.marks.now = omega (arith, c.requires.0.few, c.requires.1) in
    let P = c.requires.0 in
    let e = length-take-le c.args.count c.args.marks.now room in
    (P.within, P.few_asserted, omega (arith, e, P.two), omega (arith, e, P.few), P.number_fits)

pub returns : goal.returns
returns c s r x v h a =
    let room : c.args.count ≤ length c.args.marks.now = omega (arith, c.requires.0.few, c.requires.1) in
    let old = c.args.marks.now in
    ap (map length_marked) (marks_back c.lengths.new.marks old c.args.count room c.lengths.auto.marks)
    ∙ c.lengths.ensures s r x v h (asks_lent old room a)

use mathlib.Core.Path.{◌≡◌, sym, ap, ◌∙◌}
use mathlib.Core.Bool.{true}
use Prim.Native.Nat.{ℕ, suc, ◌+◌, ◌<◌}
use native.Mathlib.Omega.{arith}
use borrow.Author.Count.{below_more}
use Rattle.language.specs.Text.{◌≟◌}
use Rattle.language.specs.Syntax.{Name}
use Rattle.text.specs.Parts.{part}
use Rattle.store.specs.Rows.{row_at, found_at}
use Rattle.store.proofs.Records.{slots_long, start_before, start_in, name_part}
use Rattle.store.proofs.Lookups.{Passed, passed_on, placed_at, placed_none}
use Rattle.store.proofs.index.find.Goals as goal

pub scan-requires : goal.scan-requires
scan-requires c = (omega arith, slots_long c.requires.rows c.args.text.now c.args.count c.args.slots.now c.requires.held)

pub is_named-requires : goal.is_named-requires
is_named-requires c =
    let a = c.args in
    let p = c.requires in
    let h : c.in-Some.k < a.count = c.in-Some.ensures.0 in
    let P = c.nth-at.ensures p.rows p.held in
    (omega (arith, P.starts, P.name_ends), omega (arith, P.name_ends, start_before p.rows a.text.now a.count a.slots.now p.held c.in-Some.k h, start_in p.rows a.text.now a.count a.slots.now p.held (suc c.in-Some.k)))

pub returns-then-is_named : goal.returns-then-is_named
returns-then-is_named c rows H =
    let a = c.args in
    let k = c.in-Some.k in
    let passed : Passed rows a.name.now k = passed_on rows a.text.now a.count a.slots.now H a.name.now c.loop-k.i c.hash-p.result k c.hash-p.ensures c.in-Some.ensures.1 (c.loop-k.invariant.1 rows H) in
    let P = c.nth-at.ensures rows H in
    let name_is : part a.text.now (c.nth-at.result.start + 2) c.nth-at.result.mid ≡ (row_at rows k).name =
    ap (λ (s : ℕ). part a.text.now (s + 2) c.nth-at.result.mid) P.starts
    ∙ name_part rows a.text.now a.count a.slots.now H k c.in-Some.ensures.0 c.nth-at.result.mid P.name_ends in
    let e : ((row_at rows k).name ≟ a.name.now) ≡ true =
    ap (λ (y : Name). y ≟ a.name.now) (sym name_is) ∙ sym c.is_named.ensures ∙ c.if-is_named.true in
    (λ i. found_at k (P.starts i) (P.ends i)) ∙ placed_at rows a.name.now k (omega (arith, c.in-Some.ensures.0, H.counted)) passed e

pub loop-k-preserved : goal.loop-k-preserved
loop-k-preserved c = (
  omega (arith, c.in-Some.ensures.0),
  λ rows H.
      let a = c.args in
      let k = c.in-Some.k in
      let passed : Passed rows a.name.now k = passed_on rows a.text.now a.count a.slots.now H a.name.now c.loop-k.i c.hash-p.result k c.hash-p.ensures c.in-Some.ensures.1 (c.loop-k.invariant.1 rows H) in
      let P = c.nth-at.ensures rows H in
      let name_is : part a.text.now (c.nth-at.result.start + 2) c.nth-at.result.mid ≡ (row_at rows k).name =
      ap (λ (s : ℕ). part a.text.now (s + 2) c.nth-at.result.mid) P.starts
      ∙ name_part rows a.text.now a.count a.slots.now H k c.in-Some.ensures.0 c.nth-at.result.mid P.name_ends in
      below_more _ _ passed (ap (λ (y : Name). y ≟ a.name.now) (sym name_is) ∙ sym c.is_named.ensures ∙ c.if-is_named.false),
)

pub returns : goal.returns
returns c rows H =
    let a = c.args in
    placed_none rows a.name.now a.count H.counted
    (passed_on rows a.text.now a.count a.slots.now H a.name.now c.loop-k.i c.hash-p.result a.count c.hash-p.ensures c.in_default.ensures (c.loop-k.invariant.1 rows H))

-- `assignment::grants::grant_weight` meets its contract. Four assertions of one weight, or none for admin.
-- Assumes nothing.
use mathlib.Core.Path.{ap, ◌∙◌}
use mathlib.Core.List.{map}
use Prim.Native.Nat.{◌≤◌}
use native.Mathlib.Omega.{arith}
use Rattle.language.specs.Weight.{name_weight}
use Rattle.store.specs.Rows.{principal_row}
use Rattle.store.proofs.Holders.{principals_rows}
use Rattle.store.proofs.NameWeights.{row_light}
use Rattle.assignment.proofs.Granting.{name_at, no_grants, some_grants}
use Rattle.assignment.proofs.grants.grant_weight.Goals as goal

pub returns-then-sender-eq0 : goal.returns-then-sender-eq0
returns-then-sender-eq0 c =
    record {
      small = omega arith;
      weighs = λ ks p W o n. no_grants ks p o c.args.len c.args.sender n c.if-sender-eq0.true;
    }

pub overflow_add-result-2 : goal.overflow_add-result-2
overflow_add-result-2 c =
    let light : c.principal_weight.result ≤ 255 = let a = c.args in
    let S = c.requires.0 in
    omega (arith, c.principal_weight.ensures S.rows S.held, row_light S.rows a.principals.now a.count a.slots.now S.held a.sender c.requires.1) in
    omega (arith, light)

pub overflow_mul-result : goal.overflow_mul-result
overflow_mul-result c =
    let light : c.principal_weight.result ≤ 255 = let a = c.args in
    let S = c.requires.0 in
    omega (arith, c.principal_weight.ensures S.rows S.held, row_light S.rows a.principals.now a.count a.slots.now S.held a.sender c.requires.1) in
    omega (arith, light)

pub returns : goal.returns
returns c =
    let light : c.principal_weight.result ≤ 255 = let a = c.args in
    let S = c.requires.0 in
    omega (arith, c.principal_weight.ensures S.rows S.held, row_light S.rows a.principals.now a.count a.slots.now S.held a.sender c.requires.1) in
    let a = c.args in record {
      small = omega (arith, light);
      weighs = λ ks p W o n.
          some_grants ks p o a.len a.sender c.principal_weight.result n c.if-sender-eq0.false
          (c.principal_weight.ensures (map principal_row ks) (principals_rows ks a.principals.now a.count a.slots.now W)
          ∙ ap name_weight (name_at ks a.principals.now a.count a.slots.now W p a.sender c.requires.1 n));
    }

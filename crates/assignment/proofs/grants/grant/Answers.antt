-- `assignment::grants::grant` meets its contract. Four numbers stored one after the other, or none for admin.
-- Assumes nothing.
use Prim.Native.Nat.{◌+◌, ◌≤◌, ◌<◌}
use native.Mathlib.Omega.{arith}
use lib.ListN.{length, length-set}
use Rattle.assignment.proofs.Granting.{no_numbers, some_numbers}
use Rattle.assignment.proofs.grants.grant.Goals as goal

pub returns-then-sender-eq0 : goal.returns-then-sender-eq0
returns-then-sender-eq0 c = (c.requires.0, no_numbers c.args.assertions.now c.args.n c.args.variable c.args.sender c.if-sender-eq0.true)

pub bounds-assertions-n : goal.bounds-assertions-n
bounds-assertions-n c =
    let room : c.args.n + 4 ≤ length c.args.assertions.now = let q : 0 < c.args.sender = omega (arith, c.if-sender-eq0.false) in c.requires.1 q in
    omega (arith, room)

pub bounds-assertions-second : goal.bounds-assertions-second
bounds-assertions-second c =
    let room : c.args.n + 4 ≤ length c.args.assertions.now = let q : 0 < c.args.sender = omega (arith, c.if-sender-eq0.false) in c.requires.1 q in
    simp length-set (omega (arith, room))

pub bounds-assertions-third : goal.bounds-assertions-third
bounds-assertions-third c =
    let room : c.args.n + 4 ≤ length c.args.assertions.now = let q : 0 < c.args.sender = omega (arith, c.if-sender-eq0.false) in c.requires.1 q in
    simp length-set (omega (arith, room))

pub bounds-assertions-fourth : goal.bounds-assertions-fourth
bounds-assertions-fourth c =
    let room : c.args.n + 4 ≤ length c.args.assertions.now = let q : 0 < c.args.sender = omega (arith, c.if-sender-eq0.false) in c.requires.1 q in
    simp length-set (omega (arith, room))

pub returns : goal.returns
returns c =
    let room : c.args.n + 4 ≤ length c.args.assertions.now = let q : 0 < c.args.sender = omega (arith, c.if-sender-eq0.false) in c.requires.1 q in (
      omega (arith, room),
      some_numbers c.args.assertions.now c.args.n c.args.variable c.args.sender _ _ _ _ c.if-sender-eq0.false room c.granted.ensures
          c.granted-2.ensures c.granted-3.ensures c.granted-4.ensures,
    )

use mathlib.Core.Path.{sym, subst}
use Prim.Native.Nat.{ℕ, ◌+◌}
use lib.ListN.{set as put}
use Rattle.parser.specs.Bodies.{First}
use Rattle.parser_c.specs.Kinds.{Listed}
use Rattle.parser_c.proofs.Walking.{Going, begins, goes_on, ends}
use Rattle.parser_c.proofs.list.Goals as goal

pub loop-read-init : goal.loop-read-init
loop-read-init c = begins _ _ _ c.requires.0

pub returns-in_default-rest : goal.returns-in_default-rest
returns-in_default-rest c cs e =
    let l = c.loop-read in
    let k = c.in-Some.read.command in
    let first = subst (First c.args.text.now l.p k) c.in_default-rest.is c.in-Some.ensures in
    subst (λ (b : ℕ). Listed cs c.args.kinds.now (put l.kinds l.n b) (l.n + 1)) (sym c.kind.ensures)
    (ends c.args.text.now c.args.at c.args.kinds.now l.kinds l.p l.n c.requires.1 c.requires.2 l.invariant k first cs e)

pub loop-read-preserved : goal.loop-read-preserved
loop-read-preserved c =
    let l = c.loop-read in
    let k = c.in-Some.read.command in
    let next = c.in-Some-rest.next in
    let first = subst (First c.args.text.now l.p k) c.in-Some-rest.is c.in-Some.ensures in
    subst (λ (b : ℕ). Going c.args.text.now c.args.at c.args.kinds.now (put l.kinds l.n b) next (l.n + 1)) (sym c.kind.ensures)
    (goes_on c.args.text.now c.args.at c.args.kinds.now l.kinds l.p l.n c.requires.1 c.requires.2 l.invariant k next first)

-- `wire::wire` meets its contract. Each arm has the code of its case.
-- Assumes nothing.
use native.Mathlib.Omega.{arith}
use mathlib.Core.Path.{◌≡◌, sym, ap, subst, ◌∙◌}
use Prim.Native.Nat.{ℕ}
use Rattle.answers.specs.Answers.{answer_meant}
use Rattle.answers.specs.declared.Answer.{Answer}
use Rattle.wire.specs.Wire.{coded, Fits}
use Rattle.wire.specs.Wire as Wire
use borrow.Author.Rules.{rules}
use Rattle.wire.proofs.wire.Reads as reads
use Rattle.wire.proofs.wire.Lts as lts
use Rattle.wire.proofs.coded.Reads as coded-reads
use Rattle.wire.proofs.end_code.Reads as end-code-reads
use Rattle.wire.proofs.wire.Goals as goal

-- the number of an answer that the match has told
told : {a b : Answer} → a ≡ b → Wire.wire (answer_meant b) ≡ Wire.wire (answer_meant a)
told e = ap (λ (o : Answer). Wire.wire (answer_meant o)) (sym e)

has_room : {a b : Answer} → a ≡ b → Fits (answer_meant a) → Fits (answer_meant b)
has_room e f = subst (λ (o : Answer). Fits (answer_meant o)) e f

pub coded-requires-in-Ended : goal.coded-requires-in-Ended
coded-requires-in-Ended c =
    let f = has_room c.in-Ended.is c.requires in
    (c.end_code-code.ensures.1, f.0, f.1)

pub coded-requires-in-Yes : goal.coded-requires-in-Yes
coded-requires-in-Yes c =
    let f = has_room c.in-Yes.is c.requires in
    (omega arith, omega arith, f)

pub coded-requires-in-Listed : goal.coded-requires-in-Listed
coded-requires-in-Listed c =
    let f = has_room c.in-Listed.is c.requires in
    (omega arith, f.0, f.1)

pub returns-in-Wrong : goal.returns-in-Wrong
returns-in-Wrong c = c.coded.ensures ∙ told c.in-Wrong.is

pub returns-in-Ended : goal.returns-in-Ended
returns-in-Ended c =
    c.coded-in-Ended.ensures
    ∙ ap (λ (n : ℕ). coded n c.in-Ended.f.lines c.in-Ended.f.bytes) c.end_code-code.ensures.0
    ∙ told c.in-Ended.is

pub returns-in-Yes : goal.returns-in-Yes
returns-in-Yes c = c.coded-in-Yes.ensures ∙ told c.in-Yes.is

pub returns-in-Listed : goal.returns-in-Listed
returns-in-Listed c = c.coded-in-Listed.ensures ∙ told c.in-Listed.is

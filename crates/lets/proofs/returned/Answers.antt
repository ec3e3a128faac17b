use Rattle.std.proofs.Common.{sym}
use Rattle.lets.specs.Reaching.{Texts, texts}
use Rattle.lets.proofs.Returning.{given_pushed, given_base, given_standing, given_fails, given_sinks, given_next, in_there}
use Rattle.lets.proofs.returned.Goals as goal

pub bind-b-requires : goal.bind-b-requires
bind-b-requires c =
    let P = c.requires in
    record { session = P.session; frame = P.given.top; value = P.given.value; base = P.base; number = P.number; pushed = given_pushed P.given }

pub sink-requires : goal.sink-requires
sink-requires c =
    let after : Texts = let a = c.args in texts a.shared.now a.slots.now a.count c.bind-b.new.scope c.bind-b.new.local_slots in
    let P = c.requires in
    let B = c.in-Heavy.ensures P.session P.given.top P.given.value P.base P.number (given_pushed P.given) in
    record { session = P.session; frames = P.given.rest; standing = given_standing P.given after c.bind-b.auto.scope B.1 }

pub returns-in_default : goal.returns-in_default
returns-in_default c s x base number G out = absurd (in_there G (sym c.in_default.ensures.meant))

pub returns-in-Defined : goal.returns-in-Defined
returns-in-Defined c s x base number G out =
    let after : Texts = let a = c.args in texts a.shared.now a.slots.now a.count c.bind-b.new.scope c.bind-b.new.local_slots in
    let B = c.in-Defined.ensures s G.top G.value base number (given_pushed G) in
    (given_fails G out B.0, given_base G after c.bind-b.auto.scope B.1)

pub returns-in-Heavy : goal.returns-in-Heavy
returns-in-Heavy c s x base number G out =
    let after : Texts = let a = c.args in texts a.shared.now a.slots.now a.count c.bind-b.new.scope c.bind-b.new.local_slots in
    let B = c.in-Heavy.ensures s G.top G.value base number (given_pushed G) in
    (given_sinks G c.sink.result out B.0 (c.sink.ensures s G.rest (given_standing G after c.bind-b.auto.scope B.1)), given_base G after c.bind-b.auto.scope B.1)

pub returns-in-Some : goal.returns-in-Some
returns-in-Some c s x base number G out =
    let after : Texts = let a = c.args in texts a.shared.now a.slots.now a.count c.bind-b.new.scope c.bind-b.new.local_slots in
    let O = c.in-Done.ensures s G.top G.value base number (given_pushed G) in
    let p = c.in-Some.ensures.placed in
    (given_next G after c.in-Done.len c.in-Done.n c.in-Done.bound c.expect.new.self.at O (sym c.in-Some.ensures.meant) p.2, p.1)

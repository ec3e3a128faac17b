-- `foreach_room::make_aside` meets its contract. By whether there is a let.
-- Assumes nothing.
use mathlib.Core.Path.{subst, sym}
use Rattle.foreach_room.specs.Terms.{WithoutLet}
use borrow.Author.Rules.{rules}
use Rattle.foreach_room.proofs.make_aside.Goals as goal

pub for_term-requires : goal.for_term-requires
for_term-requires c =
    record {
      some_turning = c.requires.some_turning;
      some_list = c.requires.some_list;
      without_let = subst WithoutLet (sym c.in-Term.is) tt;
    }

pub for_let-requires : goal.for_let-requires
for_let-requires c = record { some_turning = c.requires.some_turning; some_list = c.requires.some_list }

pub returns-in-Let : goal.returns-in-Let
returns-in-Let c s x es I h = (c.for_let.ensures s x es I h, I)

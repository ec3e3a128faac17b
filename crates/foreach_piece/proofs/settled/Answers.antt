-- `foreach_piece::settled` meets its contract. Each answer says what becomes of the element.
-- Assumes nothing.
use mathlib.Core.Path.{◌≡◌, sym, subst}
use mathlib.Core.List.{List}
use Rattle.language.specs.Syntax.{Name}
use Rattle.language.specs.State.{Value}
use Rattle.language.specs.Outcomes.{Outcome}
use Rattle.language.specs.Values.{Session}
use Rattle.evaluated.specs.declared.Answered.{Answered}
use Rattle.term_answer.specs.Telling.{Tells}
use Rattle.foreach_piece.specs.declared.Way.{Way}
use Rattle.foreach_piece.specs.Ways.{comes_to}
use Rattle.foreach_piece.specs.Drafts.{Pieces, MadeOf}
use Rattle.foreach_piece.proofs.Settling.{fails_as, heavy_given}
use borrow.Author.Rules.{rules}
use Rattle.foreach_piece.proofs.settled.Goals as goal

pub replacing-requires : goal.replacing-requires
replacing-requires c =
    let told : (s : Session) (xs : List Name) (o : Outcome Value) (r : Answered) → c.args.r ≡ r → Tells c.args.r s xs o c.args.out.now → Tells r s xs o c.args.out.now = λ s xs o r e t. subst (λ (q : Answered). Tells q s xs o c.args.out.now) e t in
    let P = c.requires.0 in
    record { outcome = P.outcome; written = (told P.session P.names P.outcome _ c.in-Value.is P.tells).1 }

pub keeping-requires : goal.keeping-requires
keeping-requires c =
    let told : (s : Session) (xs : List Name) (o : Outcome Value) (r : Answered) → c.args.r ≡ r → Tells c.args.r s xs o c.args.out.now → Tells r s xs o c.args.out.now = λ s xs o r e t. subst (λ (q : Answered). Tells q s xs o c.args.out.now) e t in
    let P = c.requires.0 in
    (record { outcome = P.outcome; written = (told P.session P.names P.outcome _ c.in-Value.is P.tells).1 }, c.requires.1, c.requires.2)

pub returns-in-Denied : goal.returns-in-Denied
returns-in-Denied c s xs o a t h =
    let told : (s : Session) (xs : List Name) (o : Outcome Value) (r : Answered) → c.args.r ≡ r → Tells c.args.r s xs o c.args.out.now → Tells r s xs o c.args.out.now = λ s xs o r e t. subst (λ (q : Answered). Tells q s xs o c.args.out.now) e t in
    told s xs o _ c.in-Denied.is t

pub returns-in-Missing : goal.returns-in-Missing
returns-in-Missing c s xs o a t h =
    let told : (s : Session) (xs : List Name) (o : Outcome Value) (r : Answered) → c.args.r ≡ r → Tells c.args.r s xs o c.args.out.now → Tells r s xs o c.args.out.now = λ s xs o r e t. subst (λ (q : Answered). Tells q s xs o c.args.out.now) e t in
    let k = told s xs o _ c.in-Missing.is t in (k.0, fails_as o c.args.out.now a c.args.way k.1)

pub returns-in-Heavy : goal.returns-in-Heavy
returns-in-Heavy c s xs o a t h =
    let told : (s : Session) (xs : List Name) (o : Outcome Value) (r : Answered) → c.args.r ≡ r → Tells c.args.r s xs o c.args.out.now → Tells r s xs o c.args.out.now = λ s xs o r e t. subst (λ (q : Answered). Tells q s xs o c.args.out.now) e t in
    let k = told s xs o _ c.in-Heavy.is t in (k.0, heavy_given o c.args.out.now a c.args.way k.1)

pub returns-in-Replace : goal.returns-in-Replace
returns-in-Replace c s xs o a t h =
    let told : (s : Session) (xs : List Name) (o : Outcome Value) (r : Answered) → c.args.r ≡ r → Tells c.args.r s xs o c.args.out.now → Tells r s xs o c.args.out.now = λ s xs o r e t. subst (λ (q : Answered). Tells q s xs o c.args.out.now) e t in
    subst (λ (w : Way). MadeOf Pieces c.replacing.result s xs (comes_to w a o) c.args.out.now) (sym c.in-Replace.is)
    (c.replacing.ensures s xs o a (told s xs o _ c.in-Value.is t))

pub returns-in-Filter : goal.returns-in-Filter
returns-in-Filter c s xs o a t h =
    let told : (s : Session) (xs : List Name) (o : Outcome Value) (r : Answered) → c.args.r ≡ r → Tells c.args.r s xs o c.args.out.now → Tells r s xs o c.args.out.now = λ s xs o r e t. subst (λ (q : Answered). Tells q s xs o c.args.out.now) e t in
    subst (λ (w : Way). MadeOf Pieces c.keeping.result s xs (comes_to w a o) c.keeping.new.out) (sym c.in-Filter.is)
    (c.keeping.ensures s xs o a (told s xs o _ c.in-Value.is t) h)

-- `foreach_list::join` meets its contract. What is denied anywhere is denied, else what failed anywhere failed, else the list grows.
-- Assumes nothing.
use mathlib.Core.Path.{◌≡◌, ap, subst, ◌∙◌}
use mathlib.Core.List.{List}
use Rattle.language.specs.Syntax.{Name}
use Rattle.language.specs.State.{Element}
use Rattle.language.specs.Outcomes.{Outcome}
use Rattle.language.specs.Values.{Session}
use Rattle.foreach_piece.specs.declared.Made.{Made}
use Rattle.foreach_piece.specs.Ways.{together}
use Rattle.foreach_piece.specs.Drafts.{Pieces, AsList, MadeOf}
use Rattle.foreach_piece.proofs.Joining.{together_fails}
use Rattle.permits.proofs.Readers.{first_unread, second_unread, none_unread}
use borrow.Author.Rules.{rules}
use Rattle.foreach_list.proofs.join.Goals as goal

pub put-requires : goal.put-requires
put-requires c =
    let so_far : (s : Session) (xs : List Name) (o : Outcome (List Element)) (m : Made) → c.args.so_far ≡ m → MadeOf AsList c.args.so_far s xs o c.args.out.now → MadeOf AsList m s xs o c.args.out.now = λ s xs o m e h. subst (λ (k : Made). MadeOf AsList k s xs o c.args.out.now) e h in
    let this : (s : Session) (ys : List Name) (p : Outcome (List Element)) (m : Made) → c.args.one ≡ m → MadeOf Pieces c.args.one s ys p c.args.value.now → MadeOf Pieces m s ys p c.args.value.now = λ s ys p m e h. subst (λ (k : Made). MadeOf Pieces k s ys p c.args.value.now) e h in
    let P = c.requires in (
      record { outcome = P.0.outcome; drafted = (so_far P.0.session P.0.names P.0.outcome _ c.in-Done.is P.0.made_of).1 },
      record { outcome = P.1.outcome; drafted = (this P.1.session P.1.names P.1.outcome _ c.in-Done-one-2.is P.1.made_of).1 },
      P.2,
    )

pub returns-in-Denied : goal.returns-in-Denied
returns-in-Denied c s xs ys o p h k =
    let so_far : (s : Session) (xs : List Name) (o : Outcome (List Element)) (m : Made) → c.args.so_far ≡ m → MadeOf AsList c.args.so_far s xs o c.args.out.now → MadeOf AsList m s xs o c.args.out.now = λ s xs o m e h. subst (λ (k : Made). MadeOf AsList k s xs o c.args.out.now) e h in
    first_unread s xs ys (so_far s xs o _ c.in-Denied.is h)

pub returns-in-Denied-one : goal.returns-in-Denied-one
returns-in-Denied-one c s xs ys o p h k =
    let this : (s : Session) (ys : List Name) (p : Outcome (List Element)) (m : Made) → c.args.one ≡ m → MadeOf Pieces c.args.one s ys p c.args.value.now → MadeOf Pieces m s ys p c.args.value.now = λ s ys p m e h. subst (λ (k : Made). MadeOf Pieces k s ys p c.args.value.now) e h in
    second_unread s xs ys (this s ys p _ c.in-Denied-one.is k)

pub returns-in-No-one : goal.returns-in-No-one
returns-in-No-one c s xs ys o p h k =
    let so_far : (s : Session) (xs : List Name) (o : Outcome (List Element)) (m : Made) → c.args.so_far ≡ m → MadeOf AsList c.args.so_far s xs o c.args.out.now → MadeOf AsList m s xs o c.args.out.now = λ s xs o m e h. subst (λ (k : Made). MadeOf AsList k s xs o c.args.out.now) e h in
    let this : (s : Session) (ys : List Name) (p : Outcome (List Element)) (m : Made) → c.args.one ≡ m → MadeOf Pieces c.args.one s ys p c.args.value.now → MadeOf Pieces m s ys p c.args.value.now = λ s ys p m e h. subst (λ (k : Made). MadeOf Pieces k s ys p c.args.value.now) e h in
    let f = so_far s xs o _ c.in-No.is h in
    let g = this s ys p _ c.in-No-one.is k in
    (none_unread s xs ys f.0 g.0, ap (λ (q : Outcome (List Element)). together q p) f.1)

pub returns-in-Done-one : goal.returns-in-Done-one
returns-in-Done-one c s xs ys o p h k =
    let so_far : (s : Session) (xs : List Name) (o : Outcome (List Element)) (m : Made) → c.args.so_far ≡ m → MadeOf AsList c.args.so_far s xs o c.args.out.now → MadeOf AsList m s xs o c.args.out.now = λ s xs o m e h. subst (λ (k : Made). MadeOf AsList k s xs o c.args.out.now) e h in
    let this : (s : Session) (ys : List Name) (p : Outcome (List Element)) (m : Made) → c.args.one ≡ m → MadeOf Pieces c.args.one s ys p c.args.value.now → MadeOf Pieces m s ys p c.args.value.now = λ s ys p m e h. subst (λ (k : Made). MadeOf Pieces k s ys p c.args.value.now) e h in
    let f = so_far s xs o _ c.in-No.is h in
    let g = this s ys p _ c.in-Done-one.is k in
    (none_unread s xs ys f.0 g.0, ap (λ (q : Outcome (List Element)). together q p) f.1)

pub returns-in-Denied-one-2 : goal.returns-in-Denied-one-2
returns-in-Denied-one-2 c s xs ys o p h k =
    let this : (s : Session) (ys : List Name) (p : Outcome (List Element)) (m : Made) → c.args.one ≡ m → MadeOf Pieces c.args.one s ys p c.args.value.now → MadeOf Pieces m s ys p c.args.value.now = λ s ys p m e h. subst (λ (k : Made). MadeOf Pieces k s ys p c.args.value.now) e h in
    second_unread s xs ys (this s ys p _ c.in-Denied-one-2.is k)

pub returns-in-No-one-2 : goal.returns-in-No-one-2
returns-in-No-one-2 c s xs ys o p h k =
    let so_far : (s : Session) (xs : List Name) (o : Outcome (List Element)) (m : Made) → c.args.so_far ≡ m → MadeOf AsList c.args.so_far s xs o c.args.out.now → MadeOf AsList m s xs o c.args.out.now = λ s xs o m e h. subst (λ (k : Made). MadeOf AsList k s xs o c.args.out.now) e h in
    let this : (s : Session) (ys : List Name) (p : Outcome (List Element)) (m : Made) → c.args.one ≡ m → MadeOf Pieces c.args.one s ys p c.args.value.now → MadeOf Pieces m s ys p c.args.value.now = λ s ys p m e h. subst (λ (k : Made). MadeOf Pieces k s ys p c.args.value.now) e h in
    let f = so_far s xs o _ c.in-Done.is h in
    let g = this s ys p _ c.in-No-one-2.is k in
    (none_unread s xs ys f.0 g.0, ap (together o) g.1 ∙ together_fails o)

pub returns-in-Done-one-2 : goal.returns-in-Done-one-2
returns-in-Done-one-2 c s xs ys o p h k =
    let so_far : (s : Session) (xs : List Name) (o : Outcome (List Element)) (m : Made) → c.args.so_far ≡ m → MadeOf AsList c.args.so_far s xs o c.args.out.now → MadeOf AsList m s xs o c.args.out.now = λ s xs o m e h. subst (λ (k : Made). MadeOf AsList k s xs o c.args.out.now) e h in
    let this : (s : Session) (ys : List Name) (p : Outcome (List Element)) (m : Made) → c.args.one ≡ m → MadeOf Pieces c.args.one s ys p c.args.value.now → MadeOf Pieces m s ys p c.args.value.now = λ s ys p m e h. subst (λ (k : Made). MadeOf Pieces k s ys p c.args.value.now) e h in
    let f = so_far s xs o _ c.in-Done.is h in
    let g = this s ys p _ c.in-Done-one-2.is k in
    (none_unread s xs ys f.0 g.0, c.put.ensures o p f.1 g.1)

-- `foreach_command::make_list` meets its contract. The elements are tried over the session as it is; then the new list is put in its place.
-- Assumes nothing.
use mathlib.Core.Path.{◌≡◌, sym, subst, ◌∙◌}
use Prim.Native.Nat.{ℕ}
use mathlib.Core.Option.{some}
use native.Mathlib.Omega.{arith}
use lib.ListN.{length-replicate}
use lib.Seq.{length-take-le}
use Rattle.language.specs.Text.{Text}
use Rattle.language.specs.Syntax.{Expr}
use Rattle.language.specs.Values.{Session}
use Rattle.language.specs.Commands.{names_for_each}
use Rattle.text.specs.Meaning.{part}
use Rattle.syntax.specs.Values.{expr_meant}
use Rattle.session.specs.Sessions.{Slices, slices, Running}
use Rattle.foreach_piece.specs.declared.Made.{Made}
use Rattle.foreach_piece.specs.Ways.{made, throughout}
use Rattle.foreach_piece.specs.Drafts.{AsList, MadeOf}
use Rattle.foreach_source.specs.declared.Prepared.TheVariants as Source
use Rattle.foreach_source.specs.Sources.{Prepares}
use Rattle.foreach_source.proofs.Sourcing.{source_light}
use Rattle.foreach_command.specs.Each.{command}
use Rattle.foreach_command.proofs.Sessions.{named, turning, some_turning, running_again}
use Rattle.foreach_command.proofs.Effects.{denied_by, printed, effect_is, ends_denied, ends_failed}
use borrow.Author.Rules.{rules}
use Rattle.foreach_command.proofs.make_list.Goals as goal

pub slice_bounds-make_aside-end-2 : goal.slice_bounds-make_aside-end-2
slice_bounds-make_aside-end-2 c = sym (length-take-le _ _ c.requires.some_source.running.vars_within)

pub slice_bounds-make_aside-end-3 : goal.slice_bounds-make_aside-end-3
slice_bounds-make_aside-end-3 c = sym (length-take-le _ _ c.requires.some_source.prepares.1.within)

pub make_aside-made-requires : goal.make_aside-made-requires
make_aside-made-requires c =
    let a = c.args in
    let lent : Slices = slices a.principals.now a.principal_slots.now a.vars.now a.variable_slots.now a.locals.now a.local_slots.now a.assertions.now in
    let y = part a.text.now a.y in
    let x = part a.text.now a.x in
    let S = c.requires.some_source in
    let F = c.requires.some_each.0 in
    let W = c.requires.some_each.1 in
    let C = S.prepares.1 in record {
      some_turning = some_turning S.session a.l lent S.running a.text.now a.y a.e F.says a.known S.expression S.meant S.prepares.2 F.short F.y_within (named a.way y x F.says.expression F.is_valid).0;
      some_list = (
        record {
          elements = C.elements;
          held = C.held;
          light = source_light S.session y x a.elements.now a.n C (omega (arith, S.running.weighed, S.running.light));
        },
        record { out_size = omega (arith, W.value_size); slots_size = W.labels_size },
        omega (arith, length-replicate {A = ℕ} 32768 0),
      );
    }

pub put_list-requires : goal.put_list-requires
put_list-requires c =
    let a = c.args in
    let lent : Slices = slices a.principals.now a.principal_slots.now a.vars.now a.variable_slots.now a.locals.now a.local_slots.now a.assertions.now in
    let y = part a.text.now a.y in
    let x = part a.text.now a.x in
    let becomes : (s : Session) (u : Expr) (R : Running s a.l lent) (m : expr_meant a.text.now a.e ≡ some u) (p : Prepares (Source.List a.n a.known) s y x u a.elements.now) (r : Made)
    → c.make_aside-made.result ≡ r → MadeOf AsList r s (names_for_each s y u p.1.elements) (throughout (made a.way s y u) p.1.elements) c.make_aside-made.new.out =
    λ s u R m p r e. subst (λ (z : Made). MadeOf AsList z s (names_for_each s y u p.1.elements) (throughout (made a.way s y u) p.1.elements) c.make_aside-made.new.out) e
    (c.make_aside-made.ensures s u p.1.elements (turning s a.l lent R a.text.now a.y a.e c.requires.some_each.0.says a.known u m p.2) p.1.held).0 in
    let changed : Slices = slices a.principals.now a.principal_slots.now a.vars.now a.variable_slots.now a.locals.now c.make_aside-made.new.local_slots a.assertions.now in
    let again : (s : Session) (u : Expr) (R : Running s a.l lent) (m : expr_meant a.text.now a.e ≡ some u) (p : Prepares (Source.List a.n a.known) s y x u a.elements.now) → Running s a.l changed =
    λ s u R m p. running_again s u a.l lent R c.make_aside-made.new.local_slots a.text.now a.y a.e a.known c.make_aside-made.auto.local_slots
    (c.make_aside-made.ensures s u p.1.elements (turning s a.l lent R a.text.now a.y a.e c.requires.some_each.0.says a.known u m p.2) p.1.held).1 in
    let P = c.requires.some_source in
    let F = c.requires.some_each.0 in record {
      some_running = record { session = P.session; running = again P.session P.expression P.running P.meant P.prepares };
      within = (
        F.x_within,
        (named a.way y x F.says.expression F.is_valid).1,
        record { outcome = _; drafted = (becomes P.session P.expression P.running P.meant P.prepares _ c.in-Done.is).1 },
      );
    }

pub returns-in-Denied : goal.returns-in-Denied
returns-in-Denied c s u R m p =
    let a = c.args in
    let lent : Slices = slices a.principals.now a.principal_slots.now a.vars.now a.variable_slots.now a.locals.now a.local_slots.now a.assertions.now in
    let y = part a.text.now a.y in
    let x = part a.text.now a.x in
    let becomes : (s : Session) (u : Expr) (R : Running s a.l lent) (m : expr_meant a.text.now a.e ≡ some u) (p : Prepares (Source.List a.n a.known) s y x u a.elements.now) (r : Made)
    → c.make_aside-made.result ≡ r → MadeOf AsList r s (names_for_each s y u p.1.elements) (throughout (made a.way s y u) p.1.elements) c.make_aside-made.new.out =
    λ s u R m p r e. subst (λ (z : Made). MadeOf AsList z s (names_for_each s y u p.1.elements) (throughout (made a.way s y u) p.1.elements) c.make_aside-made.new.out) e
    (c.make_aside-made.ensures s u p.1.elements (turning s a.l lent R a.text.now a.y a.e c.requires.some_each.0.says a.known u m p.2) p.1.held).0 in
    let changed : Slices = slices a.principals.now a.principal_slots.now a.vars.now a.variable_slots.now a.locals.now c.make_aside-made.new.local_slots a.assertions.now in
    let again : (s : Session) (u : Expr) (R : Running s a.l lent) (m : expr_meant a.text.now a.e ≡ some u) (p : Prepares (Source.List a.n a.known) s y x u a.elements.now) → Running s a.l changed =
    λ s u R m p. running_again s u a.l lent R c.make_aside-made.new.local_slots a.text.now a.y a.e a.known c.make_aside-made.auto.local_slots
    (c.make_aside-made.ensures s u p.1.elements (turning s a.l lent R a.text.now a.y a.e c.requires.some_each.0.says a.known u m p.2) p.1.held).1 in
    ends_denied s y x u a.way p.0 p.1.elements p.1.is_source (becomes s u R m p _ c.in-Denied.is)

pub returns-in-No : goal.returns-in-No
returns-in-No c s u R m p =
    let a = c.args in
    let lent : Slices = slices a.principals.now a.principal_slots.now a.vars.now a.variable_slots.now a.locals.now a.local_slots.now a.assertions.now in
    let y = part a.text.now a.y in
    let x = part a.text.now a.x in
    let becomes : (s : Session) (u : Expr) (R : Running s a.l lent) (m : expr_meant a.text.now a.e ≡ some u) (p : Prepares (Source.List a.n a.known) s y x u a.elements.now) (r : Made)
    → c.make_aside-made.result ≡ r → MadeOf AsList r s (names_for_each s y u p.1.elements) (throughout (made a.way s y u) p.1.elements) c.make_aside-made.new.out =
    λ s u R m p r e. subst (λ (z : Made). MadeOf AsList z s (names_for_each s y u p.1.elements) (throughout (made a.way s y u) p.1.elements) c.make_aside-made.new.out) e
    (c.make_aside-made.ensures s u p.1.elements (turning s a.l lent R a.text.now a.y a.e c.requires.some_each.0.says a.known u m p.2) p.1.held).0 in
    let changed : Slices = slices a.principals.now a.principal_slots.now a.vars.now a.variable_slots.now a.locals.now c.make_aside-made.new.local_slots a.assertions.now in
    let again : (s : Session) (u : Expr) (R : Running s a.l lent) (m : expr_meant a.text.now a.e ≡ some u) (p : Prepares (Source.List a.n a.known) s y x u a.elements.now) → Running s a.l changed =
    λ s u R m p. running_again s u a.l lent R c.make_aside-made.new.local_slots a.text.now a.y a.e a.known c.make_aside-made.auto.local_slots
    (c.make_aside-made.ensures s u p.1.elements (turning s a.l lent R a.text.now a.y a.e c.requires.some_each.0.says a.known u m p.2) p.1.held).1 in
    let f = becomes s u R m p _ c.in-No.is in
    ends_failed s y x u a.way p.0 p.1.elements p.1.is_source f.0 f.1

pub returns-in-Done : goal.returns-in-Done
returns-in-Done c s u R m p =
    let a = c.args in
    let lent : Slices = slices a.principals.now a.principal_slots.now a.vars.now a.variable_slots.now a.locals.now a.local_slots.now a.assertions.now in
    let y = part a.text.now a.y in
    let x = part a.text.now a.x in
    let becomes : (s : Session) (u : Expr) (R : Running s a.l lent) (m : expr_meant a.text.now a.e ≡ some u) (p : Prepares (Source.List a.n a.known) s y x u a.elements.now) (r : Made)
    → c.make_aside-made.result ≡ r → MadeOf AsList r s (names_for_each s y u p.1.elements) (throughout (made a.way s y u) p.1.elements) c.make_aside-made.new.out =
    λ s u R m p r e. subst (λ (z : Made). MadeOf AsList z s (names_for_each s y u p.1.elements) (throughout (made a.way s y u) p.1.elements) c.make_aside-made.new.out) e
    (c.make_aside-made.ensures s u p.1.elements (turning s a.l lent R a.text.now a.y a.e c.requires.some_each.0.says a.known u m p.2) p.1.held).0 in
    let changed : Slices = slices a.principals.now a.principal_slots.now a.vars.now a.variable_slots.now a.locals.now c.make_aside-made.new.local_slots a.assertions.now in
    let again : (s : Session) (u : Expr) (R : Running s a.l lent) (m : expr_meant a.text.now a.e ≡ some u) (p : Prepares (Source.List a.n a.known) s y x u a.elements.now) → Running s a.l changed =
    λ s u R m p. running_again s u a.l lent R c.make_aside-made.new.local_slots a.text.now a.y a.e a.known c.make_aside-made.auto.local_slots
    (c.make_aside-made.ensures s u p.1.elements (turning s a.l lent R a.text.now a.y a.e c.requires.some_each.0.says a.known u m p.2) p.1.held).1 in
    let f = becomes s u R m p _ c.in-Done.is in
    c.put_list.ensures s (command a.way y x u) (printed a.way) (throughout (made a.way s y u) p.1.elements) (again s u R m p) f.1
    (denied_by s y x u a.way p.0 p.1.elements p.1.is_source ∙ f.0) (effect_is s y x u a.way p.1.elements p.1.is_source)

-- `foreach_command::run` meets its contract. What was prepared says how it ends, or what list there is to go through.
-- Assumes nothing.
use mathlib.Core.Path.{◌≡◌, subst}
use mathlib.Core.Option.{some}
use Prim.Native.Nat.{ℕ}
use native.Mathlib.Omega.{arith}
use lib.ListN.{length-replicate}
use Rattle.language.specs.Text.{Text}
use Rattle.language.specs.Syntax.{Expr}
use Rattle.language.specs.Values.{Session}
use Rattle.text.specs.Meaning.{part}
use Rattle.syntax.specs.Values.{expr_meant}
use Rattle.session.specs.Sessions.{Slices, slices, Running}
use Rattle.foreach_source.specs.declared.Prepared.{Prepared}
use Rattle.foreach_source.specs.Sources.{Prepares}
use Rattle.foreach_command.proofs.Effects.{list_denied, ends_without}
use borrow.Author.Rules.{rules}
use Rattle.foreach_command.proofs.run.Goals as goal

pub prepare-p-requires : goal.prepare-p-requires
prepare-p-requires c =
    record {
      some_running = c.requires.some_running;
      within = (c.requires.some_each.0.y_within, c.requires.some_each.0.x_within, c.requires.some_each.0.says, omega (arith, length-replicate {A = ℕ} 32768 0));
    }

pub make_list-requires : goal.make_list-requires
make_list-requires c =
    let lent : Slices = let a = c.args in slices a.principals.now a.principal_slots.now a.vars.now a.variable_slots.now a.locals.now a.local_slots.now a.assertions.now in
    let y_of : Text = part c.args.text.now c.args.y in
    let x-of : Text = part c.args.text.now c.args.x in
    let prepared : (s : Session) (u : Expr) → Running s c.args.l lent → expr_meant c.args.text.now c.args.e ≡ some u → (r : Prepared) → c.prepare-p.result ≡ r → Prepares r s y_of x-of u c.prepare-p.new.out = λ s u R m r e. subst (λ (p : Prepared). Prepares p s y_of x-of u c.prepare-p.new.out) e (c.prepare-p.ensures s u R m) in
    record {
      some_source = record { session = c.requires.some_running.session; expression = c.requires.some_each.0.says.expression; running = c.requires.some_running.running; meant = c.requires.some_each.0.says.meant; prepares = prepared c.requires.some_running.session c.requires.some_each.0.says.expression c.requires.some_running.running c.requires.some_each.0.says.meant _ c.in-List.is };
      some_each = c.requires.some_each;
    }

pub returns-in-Denied : goal.returns-in-Denied
returns-in-Denied c s u R m =
    let y_of : Text = part c.args.text.now c.args.y in
    let x-of : Text = part c.args.text.now c.args.x in
    let lent : Slices = let a = c.args in slices a.principals.now a.principal_slots.now a.vars.now a.variable_slots.now a.locals.now a.local_slots.now a.assertions.now in
    let prepared : (s : Session) (u : Expr) → Running s c.args.l lent → expr_meant c.args.text.now c.args.e ≡ some u → (r : Prepared) → c.prepare-p.result ≡ r → Prepares r s y_of x-of u c.prepare-p.new.out = λ s u R m r e. subst (λ (p : Prepared). Prepares p s y_of x-of u c.prepare-p.new.out) e (c.prepare-p.ensures s u R m) in
    list_denied s y_of x-of u c.args.way (prepared s u R m _ c.in-Denied.is)

pub returns-in-Failed : goal.returns-in-Failed
returns-in-Failed c s u R m =
    let y_of : Text = part c.args.text.now c.args.y in
    let x-of : Text = part c.args.text.now c.args.x in
    let lent : Slices = let a = c.args in slices a.principals.now a.principal_slots.now a.vars.now a.variable_slots.now a.locals.now a.local_slots.now a.assertions.now in
    let prepared : (s : Session) (u : Expr) → Running s c.args.l lent → expr_meant c.args.text.now c.args.e ≡ some u → (r : Prepared) → c.prepare-p.result ≡ r → Prepares r s y_of x-of u c.prepare-p.new.out = λ s u R m r e. subst (λ (p : Prepared). Prepares p s y_of x-of u c.prepare-p.new.out) e (c.prepare-p.ensures s u R m) in
    let p = prepared s u R m _ c.in-Failed.is in ends_without s y_of x-of u c.args.way p.0 p.1

pub returns-in-List : goal.returns-in-List
returns-in-List c s u R m =
    let lent : Slices = let a = c.args in slices a.principals.now a.principal_slots.now a.vars.now a.variable_slots.now a.locals.now a.local_slots.now a.assertions.now in
    let y_of : Text = part c.args.text.now c.args.y in
    let x-of : Text = part c.args.text.now c.args.x in
    let prepared : (s : Session) (u : Expr) → Running s c.args.l lent → expr_meant c.args.text.now c.args.e ≡ some u → (r : Prepared) → c.prepare-p.result ≡ r → Prepares r s y_of x-of u c.prepare-p.new.out = λ s u R m r e. subst (λ (p : Prepared). Prepares p s y_of x-of u c.prepare-p.new.out) e (c.prepare-p.ensures s u R m) in
    c.make_list.ensures s u R m (prepared s u R m _ c.in-List.is)

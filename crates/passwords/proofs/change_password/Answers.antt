-- `passwords::change_password` meets its contract. The weight is known before a byte moves.
-- Assumes nothing.
use mathlib.Core.Path.{◌≡◌, sym, ◌∙◌}
use mathlib.Core.Logic.{◌⊎◌, inl, inr}
use Prim.Native.Nat.{◌+◌, ◌-◌, ◌<◌}
use native.Mathlib.Omega.{arith}
use lib.ListN.{length}
use mathlib.Core.List.{map}
use Rattle.language.specs.Text.{Text}
use Rattle.language.specs.Values.{Session}
use Rattle.language.specs.Commands.{changed, with_store, with_principals, session_weight}
use Rattle.language.specs.Weight.{password_weight}
use Rattle.text.specs.Meaning.{part}
use Rattle.store.specs.Rows.{position}
use Rattle.store.specs.Contents.{principal_at}
use Rattle.named_rights.specs.Numbers.{principals_of}
use Rattle.session.specs.Sessions.{slices, Running}
use Rattle.store.proofs.Holders.{some_principals}
use Rattle.session.proofs.Finding.{row_number, number_below, part_length}
use Rattle.passwords.proofs.Passwords.{password_denied, password_failed, old_weighs, after_weighs, password_full, some_password, password_done}
use Rattle.passwords.proofs.change_password.Goals as goal
use Rattle.passwords.proofs.change_password.Goals.{then-sender-ne0+else-sender-n, else-sender-ne0}

pub number_of-n-requires : goal.number_of-n-requires
number_of-n-requires c = (c.requires.some_running.running.principals_within, some_principals c.requires.some_running.session.store.principals _ _ _ c.requires.some_running.running.principals)

pub returns-then-sender-n : goal.returns-then-sender-n
returns-then-sender-n c s R =
    let number_is : (s : Session) → let a = c.args in Running s a.l (slices a.principals.now a.principal_slots.now a.vars.now a.variable_slots.now a.locals.now a.local_slots.now a.assertions.now) → c.number_of-n.result ≡ position (principals_of s.store) (part a.text.now a.p) = λ s R. row_number s c.args.l _ R _ c.number_of-n.result c.number_of-n.ensures in
    password_denied s c.args.l _ R _ _ c.number_of-n.result (number_is s R) c.if-sender-ne0.true c.if-sender-n.true

pub returns-then-n-count : goal.returns-then-n-count
returns-then-n-count c s R =
    let number_is : (s : Session) → let a = c.args in Running s a.l (slices a.principals.now a.principal_slots.now a.vars.now a.variable_slots.now a.locals.now a.local_slots.now a.assertions.now) → c.number_of-n.result ≡ position (principals_of s.store) (part a.text.now a.p) = λ s R. row_number s c.args.l _ R _ c.number_of-n.result c.number_of-n.ensures in
    let may : (c.args.l.sender ≡ 0) ⊎ (c.args.l.sender ≡ c.number_of-n.result) = elim c.if-sender-ne0.branch [ then-sender-ne0+else-sender-n w ↦ inr w.if-sender-n.false | else-sender-ne0 w ↦ inl w.if-sender-ne0.false ] in
    password_failed s c.args.l _ R _ _ c.number_of-n.result (number_is s R) may c.if-n-count.true

pub password_weight-old-requires : goal.password_weight-old-requires
password_weight-old-requires c =
    let number_is : (s : Session) → let a = c.args in Running s a.l (slices a.principals.now a.principal_slots.now a.vars.now a.variable_slots.now a.locals.now a.local_slots.now a.assertions.now) → c.number_of-n.result ≡ position (principals_of s.store) (part a.text.now a.p) = λ s R. row_number s c.args.l _ R _ c.number_of-n.result c.number_of-n.ensures in
    let below : (s : Session) → let a = c.args in Running s a.l (slices a.principals.now a.principal_slots.now a.vars.now a.variable_slots.now a.locals.now a.local_slots.now a.assertions.now) → c.number_of-n.result < a.l.principals = λ s R. number_below s c.args.l _ R (part c.args.text.now c.args.p) c.number_of-n.result (number_is s R) c.if-n-count.false in
    (c.requires.some_running.running.principals_within, record { principals = c.requires.some_running.session.store.principals; held = c.requires.some_running.running.principals }, below c.requires.some_running.session c.requires.some_running.running)

pub overflow_sub-weight : goal.overflow_sub-weight
overflow_sub-weight c =
    let number_is : (s : Session) → let a = c.args in Running s a.l (slices a.principals.now a.principal_slots.now a.vars.now a.variable_slots.now a.locals.now a.local_slots.now a.assertions.now) → c.number_of-n.result ≡ position (principals_of s.store) (part a.text.now a.p) = λ s R. row_number s c.args.l _ R _ c.number_of-n.result c.number_of-n.ensures in
    let below : (s : Session) → let a = c.args in Running s a.l (slices a.principals.now a.principal_slots.now a.vars.now a.variable_slots.now a.locals.now a.local_slots.now a.assertions.now) → c.number_of-n.result < a.l.principals = λ s R. number_below s c.args.l _ R (part c.args.text.now c.args.p) c.number_of-n.result (number_is s R) c.if-n-count.false in
    let old-is : (s : Session) → let a = c.args in Running s a.l (slices a.principals.now a.principal_slots.now a.vars.now a.variable_slots.now a.locals.now a.local_slots.now a.assertions.now) → c.password_weight-old.result ≡ password_weight (principal_at s.store.principals c.number_of-n.result).password = λ s R. c.password_weight-old.ensures s.store.principals R.principals in
    let n = number_is c.requires.some_running.session c.requires.some_running.running in
    omega (
      arith,
      old-is c.requires.some_running.session c.requires.some_running.running,
      old_weighs c.requires.some_running.session c.args.l _ c.requires.some_running.running (part c.args.text.now c.args.p) (part c.args.text.now c.args.password) c.number_of-n.result n (below c.requires.some_running.session c.requires.some_running.running),
    )

pub overflow_sub-weight-2 : goal.overflow_sub-weight-2
overflow_sub-weight-2 c = c.requires.within.1.0

pub overflow_add-weight : goal.overflow_add-weight
overflow_add-weight c = omega (arith, c.requires.some_running.running.light, c.requires.within.1, c.requires.within.3)

pub returns-then-weight-gt8192 : goal.returns-then-weight-gt8192
returns-then-weight-gt8192 c s R =
    let number_is : (s : Session) → let a = c.args in Running s a.l (slices a.principals.now a.principal_slots.now a.vars.now a.variable_slots.now a.locals.now a.local_slots.now a.assertions.now) → c.number_of-n.result ≡ position (principals_of s.store) (part a.text.now a.p) = λ s R. row_number s c.args.l _ R _ c.number_of-n.result c.number_of-n.ensures in
    let may : (c.args.l.sender ≡ 0) ⊎ (c.args.l.sender ≡ c.number_of-n.result) = elim c.if-sender-ne0.branch [ then-sender-ne0+else-sender-n w ↦ inr w.if-sender-n.false | else-sender-ne0 w ↦ inl w.if-sender-ne0.false ] in
    let below : (s : Session) → let a = c.args in Running s a.l (slices a.principals.now a.principal_slots.now a.vars.now a.variable_slots.now a.locals.now a.local_slots.now a.assertions.now) → c.number_of-n.result < a.l.principals = λ s R. number_below s c.args.l _ R (part c.args.text.now c.args.p) c.number_of-n.result (number_is s R) c.if-n-count.false in
    let old-is : (s : Session) → let a = c.args in Running s a.l (slices a.principals.now a.principal_slots.now a.vars.now a.variable_slots.now a.locals.now a.local_slots.now a.assertions.now) → c.password_weight-old.result ≡ password_weight (principal_at s.store.principals c.number_of-n.result).password = λ s R. c.password_weight-old.ensures s.store.principals R.principals in
    let weight_is : (s : Session) → let a = c.args in let w = part a.text.now a.password in Running s a.l (slices a.principals.now a.principal_slots.now a.vars.now a.variable_slots.now a.locals.now a.local_slots.now a.assertions.now) → a.l.weight - c.password_weight-old.result + (a.password.end - a.password.start) ≡ session_weight (with_store s (with_principals s.store (map (changed (part a.text.now a.p) w) s.store.principals))) = λ s R. let a = c.args in
    let w : Text = part a.text.now a.password in
    let d : a.password.end - a.password.start ≡ length w = sym (part_length a.text.now a.password.start a.password.end c.requires.within.1.1) in
    (λ i. a.l.weight - old-is s R i + d i)
    ∙ after_weighs s a.l _ R (part a.text.now a.p) w c.number_of-n.result (number_is s R) (below s R) in
    let a = c.args in
    password_full s a.l _ R (part a.text.now a.p) (part a.text.now a.password) c.number_of-n.result (number_is s R) (below s R) may
    (omega (arith, weight_is s R, c.if-weight-gt8192.true))

pub slice_bounds-set_password-count : goal.slice_bounds-set_password-count
slice_bounds-set_password-count c = c.requires.within.1.0

pub slice_bounds-set_password-start : goal.slice_bounds-set_password-start
slice_bounds-set_password-start c = c.requires.within.1.0

pub slice_bounds-set_password-end : goal.slice_bounds-set_password-end
slice_bounds-set_password-end c = c.requires.within.1.1

pub set_password-new-requires : goal.set_password-new-requires
set_password-new-requires c =
    let number_is : (s : Session) → let a = c.args in Running s a.l (slices a.principals.now a.principal_slots.now a.vars.now a.variable_slots.now a.locals.now a.local_slots.now a.assertions.now) → c.number_of-n.result ≡ position (principals_of s.store) (part a.text.now a.p) = λ s R. row_number s c.args.l _ R _ c.number_of-n.result c.number_of-n.ensures in
    let below : (s : Session) → let a = c.args in Running s a.l (slices a.principals.now a.principal_slots.now a.vars.now a.variable_slots.now a.locals.now a.local_slots.now a.assertions.now) → c.number_of-n.result < a.l.principals = λ s R. number_below s c.args.l _ R (part c.args.text.now c.args.p) c.number_of-n.result (number_is s R) c.if-n-count.false in
    let old-is : (s : Session) → let a = c.args in Running s a.l (slices a.principals.now a.principal_slots.now a.vars.now a.variable_slots.now a.locals.now a.local_slots.now a.assertions.now) → c.password_weight-old.result ≡ password_weight (principal_at s.store.principals c.number_of-n.result).password = λ s R. c.password_weight-old.ensures s.store.principals R.principals in
    let weight_is : (s : Session) → let a = c.args in let w = part a.text.now a.password in Running s a.l (slices a.principals.now a.principal_slots.now a.vars.now a.variable_slots.now a.locals.now a.local_slots.now a.assertions.now) → a.l.weight - c.password_weight-old.result + (a.password.end - a.password.start) ≡ session_weight (with_store s (with_principals s.store (map (changed (part a.text.now a.p) w) s.store.principals))) = λ s R. let a = c.args in
    let w : Text = part a.text.now a.password in
    let d : a.password.end - a.password.start ≡ length w = sym (part_length a.text.now a.password.start a.password.end c.requires.within.1.1) in
    (λ i. a.l.weight - old-is s R i + d i)
    ∙ after_weighs s a.l _ R (part a.text.now a.p) w c.number_of-n.result (number_is s R) (below s R) in
    let a = c.args in (
      omega (arith, c.requires.some_running.running.sized.principals_size),
      c.requires.some_running.running.principals_within,
      some_password c.requires.some_running.session a.l _ c.requires.some_running.running (part a.text.now a.p) (part a.text.now a.password) c.number_of-n.result (number_is c.requires.some_running.session c.requires.some_running.running) (below c.requires.some_running.session c.requires.some_running.running)
          (omega (arith, weight_is c.requires.some_running.session c.requires.some_running.running, c.if-weight-gt8192.false)) c.requires.within.2,
    )

pub returns : goal.returns
returns c s R =
    let number_is : (s : Session) → let a = c.args in Running s a.l (slices a.principals.now a.principal_slots.now a.vars.now a.variable_slots.now a.locals.now a.local_slots.now a.assertions.now) → c.number_of-n.result ≡ position (principals_of s.store) (part a.text.now a.p) = λ s R. row_number s c.args.l _ R _ c.number_of-n.result c.number_of-n.ensures in
    let may : (c.args.l.sender ≡ 0) ⊎ (c.args.l.sender ≡ c.number_of-n.result) = elim c.if-sender-ne0.branch [ then-sender-ne0+else-sender-n w ↦ inr w.if-sender-n.false | else-sender-ne0 w ↦ inl w.if-sender-ne0.false ] in
    let below : (s : Session) → let a = c.args in Running s a.l (slices a.principals.now a.principal_slots.now a.vars.now a.variable_slots.now a.locals.now a.local_slots.now a.assertions.now) → c.number_of-n.result < a.l.principals = λ s R. number_below s c.args.l _ R (part c.args.text.now c.args.p) c.number_of-n.result (number_is s R) c.if-n-count.false in
    let old-is : (s : Session) → let a = c.args in Running s a.l (slices a.principals.now a.principal_slots.now a.vars.now a.variable_slots.now a.locals.now a.local_slots.now a.assertions.now) → c.password_weight-old.result ≡ password_weight (principal_at s.store.principals c.number_of-n.result).password = λ s R. c.password_weight-old.ensures s.store.principals R.principals in
    let weight_is : (s : Session) → let a = c.args in let w = part a.text.now a.password in Running s a.l (slices a.principals.now a.principal_slots.now a.vars.now a.variable_slots.now a.locals.now a.local_slots.now a.assertions.now) → a.l.weight - c.password_weight-old.result + (a.password.end - a.password.start) ≡ session_weight (with_store s (with_principals s.store (map (changed (part a.text.now a.p) w) s.store.principals))) = λ s R. let a = c.args in
    let w : Text = part a.text.now a.password in
    let d : a.password.end - a.password.start ≡ length w = sym (part_length a.text.now a.password.start a.password.end c.requires.within.1.1) in
    (λ i. a.l.weight - old-is s R i + d i)
    ∙ after_weighs s a.l _ R (part a.text.now a.p) w c.number_of-n.result (number_is s R) (below s R) in
    let a = c.args in
    let w : Text = part a.text.now a.password in
    let n = number_is s R in
    password_done s a.l _ R (part a.text.now a.p) w c.number_of-n.result n (below s R) may (record {
      held = c.set_password-new.ensures.held s.store.principals (part a.text.now a.p) R.principals R.ready.is_good.store_shape.principals_distinct n;
      within = c.set_password-new.ensures.outside.within;
      text_size = c.set_password-new.auto.buf;
      slots_size = c.set_password-new.auto.slots;
      weighed = weight_is s R;
      light = c.if-weight-gt8192.false;
    }) c.requires.within.2

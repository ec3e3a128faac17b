use mathlib.Core.Path.{◌≡◌, sym, ap, subst, ◌∙◌}
use Prim.Native.Nat.{ℕ, ◌+◌, ◌-◌, ◌≤◌}
use native.Mathlib.Omega.{arith}
use mathlib.Core.List.{[], ◌∷◌, ◌++◌}
use lib.Dec.{T}
use lib.ListN.{length, take, drop, get_or, length-drop}
use Rattle.language.specs.Syntax.{Name}
use Rattle.language.specs.Identifiers.{is_name}
use Rattle.store.specs.Held.{Variables}
use lib.Seq.{length-take-le}
use Rattle.language.specs.State.{Value}
use Rattle.language.specs.Weight.{limit}
use Rattle.language.specs.Values.{Session}
use Rattle.language.proofs.StateText.Clean.{name_length}
use Rattle.lets.specs.Frames.{Frame}
use Rattle.lets.specs.Reaching.{texts, Opened}
use Rattle.lets.specs.Standing.{Pushed}
use Rattle.lets.proofs.Nesting.{held_length, held_count}
use Rattle.lets.proofs.Bindings.{unmoved, binds_taken, binds_heavy, binds_done, total, more, room_there}
use Rattle.lets.proofs.binding.bind.Goals as goal

pub returns-then-is_taken : goal.returns-then-is_taken
returns-then-is_taken c s k v base number P = (binds_taken P (sym (c.is_taken.ensures s k P.standing) ∙ c.if-is_taken.true), unmoved P)

pub overflow_add-bound-2 : goal.overflow_add-bound-2
overflow_add-bound-2 c =
    let Pushes : Session → Frame → Value → ℕ → ℕ → Type 0 = λ s k v base number. let a = c.args in Pushed s k v a.text.now (texts a.shared.now a.slots.now a.count a.scope.now a.local_slots.now) a.heads.now a.lens.now a.counts.now a.bounds.now a.d a.value.now a.weight base number in
    let name-size : (s : Session) (k : Frame) (v : Value) (base number : ℕ) → (Pushes s k v base number) → c.name_of-x.result.end - c.name_of-x.result.start ≡ length k.name = λ s k v base number P. let t = c.args.text.now in
    let l : c.name_of-x.result.end - c.name_of-x.result.start ≤ length (drop c.name_of-x.result.start t) = omega (arith, length-drop c.name_of-x.result.start t, c.name_of-x.ensures.within.0, c.name_of-x.ensures.within.1) in
    sym (length-take-le (c.name_of-x.result.end - c.name_of-x.result.start) (drop c.name_of-x.result.start t) l) ∙ ap length (c.name_of-x.ensures.named k P.standing.framed) in
    let P = c.requires in
    let Q = P.pushed in
    let e = name-size P.session P.frame P.value P.base P.number Q in
    omega (arith, e, (name_length P.frame.name Q.name_holds).1, c.small.ensures.0, Q.weighs, Q.roomy.light)

pub overflow_add-bound-3 : goal.overflow_add-bound-3
overflow_add-bound-3 c =
    let Pushes : Session → Frame → Value → ℕ → ℕ → Type 0 = λ s k v base number. let a = c.args in Pushed s k v a.text.now (texts a.shared.now a.slots.now a.count a.scope.now a.local_slots.now) a.heads.now a.lens.now a.counts.now a.bounds.now a.d a.value.now a.weight base number in
    let name-size : (s : Session) (k : Frame) (v : Value) (base number : ℕ) → (Pushes s k v base number) → c.name_of-x.result.end - c.name_of-x.result.start ≡ length k.name = λ s k v base number P. let t = c.args.text.now in
    let l : c.name_of-x.result.end - c.name_of-x.result.start ≤ length (drop c.name_of-x.result.start t) = omega (arith, length-drop c.name_of-x.result.start t, c.name_of-x.ensures.within.0, c.name_of-x.ensures.within.1) in
    sym (length-take-le (c.name_of-x.result.end - c.name_of-x.result.start) (drop c.name_of-x.result.start t) l) ∙ ap length (c.name_of-x.ensures.named k P.standing.framed) in
    let P = c.requires in
    let Q = P.pushed in
    let e = name-size P.session P.frame P.value P.base P.number Q in
    omega (arith, e, (name_length P.frame.name Q.name_holds).1, c.small.ensures.0, Q.weighs, Q.roomy.light, Q.value_light)

pub returns-then-bound-gt8192 : goal.returns-then-bound-gt8192
returns-then-bound-gt8192 c s k v base number P =
    let Pushes : Session → Frame → Value → ℕ → ℕ → Type 0 = λ s k v base number. let a = c.args in Pushed s k v a.text.now (texts a.shared.now a.slots.now a.count a.scope.now a.local_slots.now) a.heads.now a.lens.now a.counts.now a.bounds.now a.d a.value.now a.weight base number in
    let name-size : (s : Session) (k : Frame) (v : Value) (base number : ℕ) → (Pushes s k v base number) → c.name_of-x.result.end - c.name_of-x.result.start ≡ length k.name = λ s k v base number P. let t = c.args.text.now in
    let l : c.name_of-x.result.end - c.name_of-x.result.start ≤ length (drop c.name_of-x.result.start t) = omega (arith, length-drop c.name_of-x.result.start t, c.name_of-x.ensures.within.0, c.name_of-x.ensures.within.1) in
    sym (length-take-le (c.name_of-x.result.end - c.name_of-x.result.start) (drop c.name_of-x.result.start t) l) ∙ ap length (c.name_of-x.ensures.named k P.standing.framed) in
    let sum_is : (s : Session) (k : Frame) (v : Value) (base number : ℕ) (P : Pushes s k v base number) → c.small.result + 1 + (c.name_of-x.result.end - c.name_of-x.result.start) + c.args.weight ≡ total P = λ s k v base number P. omega (arith, name-size s k v base number P, c.small.ensures.0, P.weighs, P.value_weighs) in
    let e = sum_is s k v base number P in
    (binds_heavy P (sym (c.is_taken.ensures s k P.standing) ∙ c.if-is_taken.false) (omega (arith, e, c.if-bound-gt8192.true)), unmoved P)

pub large-len-requires : goal.large-len-requires
large-len-requires c = c.requires.pushed.standing.len_below

pub add_variable-end-requires : goal.add_variable-end-requires
add_variable-end-requires c =
    let Pushes : Session → Frame → Value → ℕ → ℕ → Type 0 = λ s k v base number. let a = c.args in Pushed s k v a.text.now (texts a.shared.now a.slots.now a.count a.scope.now a.local_slots.now) a.heads.now a.lens.now a.counts.now a.bounds.now a.d a.value.now a.weight base number in
    let name-size : (s : Session) (k : Frame) (v : Value) (base number : ℕ) → (Pushes s k v base number) → c.name_of-x.result.end - c.name_of-x.result.start ≡ length k.name = λ s k v base number P. let t = c.args.text.now in
    let l : c.name_of-x.result.end - c.name_of-x.result.start ≤ length (drop c.name_of-x.result.start t) = omega (arith, length-drop c.name_of-x.result.start t, c.name_of-x.ensures.within.0, c.name_of-x.ensures.within.1) in
    sym (length-take-le (c.name_of-x.result.end - c.name_of-x.result.start) (drop c.name_of-x.result.start t) l) ∙ ap length (c.name_of-x.ensures.named k P.standing.framed) in
    let sum_is : (s : Session) (k : Frame) (v : Value) (base number : ℕ) (P : Pushes s k v base number) → c.small.result + 1 + (c.name_of-x.result.end - c.name_of-x.result.start) + c.args.weight ≡ total P = λ s k v base number P. omega (arith, name-size s k v base number P, c.small.ensures.0, P.weighs, P.value_weighs) in
    let fits : (s : Session) (k : Frame) (v : Value) (base number : ℕ) (P : Pushes s k v base number) → total P ≤ limit = λ s k v base number P. let e = sum_is s k v base number P in
    omega (arith, e, c.if-bound-gt8192.false) in
    let P = c.requires in
    let Q = P.pushed in
    let s = P.session in
    let k = P.frame in
    let h = fits s k P.value P.base P.number Q in
    let r = room_there Q h in
    let e = name-size s k P.value P.base P.number Q in
    let a = c.args in
    let b = texts a.shared.now a.slots.now a.count a.scope.now a.local_slots.now in
    let i = held_length s b k.locals _ _ Q.standing.held Q.standing.in_scope in
    let j = held_count s b k.locals _ _ Q.standing.held Q.standing.in_scope in
    (Q.scope_small, omega (arith, r.0, e, i, c.large-len.ensures), omega (arith, r.1, j, c.small-n.ensures.0))

pub overflow_add-result : goal.overflow_add-result
overflow_add-result c = omega (arith, c.small-n.ensures.1)

pub returns : goal.returns
returns c s k v base number P =
    let Pushes : Session → Frame → Value → ℕ → ℕ → Type 0 = λ s k v base number. let a = c.args in Pushed s k v a.text.now (texts a.shared.now a.slots.now a.count a.scope.now a.local_slots.now) a.heads.now a.lens.now a.counts.now a.bounds.now a.d a.value.now a.weight base number in
    let name-size : (s : Session) (k : Frame) (v : Value) (base number : ℕ) → (Pushes s k v base number) → c.name_of-x.result.end - c.name_of-x.result.start ≡ length k.name = λ s k v base number P. let t = c.args.text.now in
    let l : c.name_of-x.result.end - c.name_of-x.result.start ≤ length (drop c.name_of-x.result.start t) = omega (arith, length-drop c.name_of-x.result.start t, c.name_of-x.ensures.within.0, c.name_of-x.ensures.within.1) in
    sym (length-take-le (c.name_of-x.result.end - c.name_of-x.result.start) (drop c.name_of-x.result.start t) l) ∙ ap length (c.name_of-x.ensures.named k P.standing.framed) in
    let sum_is : (s : Session) (k : Frame) (v : Value) (base number : ℕ) (P : Pushes s k v base number) → c.small.result + 1 + (c.name_of-x.result.end - c.name_of-x.result.start) + c.args.weight ≡ total P = λ s k v base number P. omega (arith, name-size s k v base number P, c.small.ensures.0, P.weighs, P.value_weighs) in
    let fits : (s : Session) (k : Frame) (v : Value) (base number : ℕ) (P : Pushes s k v base number) → total P ≤ limit = λ s k v base number P. let e = sum_is s k v base number P in
    omega (arith, e, c.if-bound-gt8192.false) in
    let added : (s : Session) (k : Frame) (v : Value) (base number : ℕ) (P : Pushes s k v base number) → Variables (more P) (take c.add_variable-end.result c.add_variable-end.new.buf) (c.small-n.result + 1) c.add_variable-end.new.slots = λ s k v base number P. let a = c.args in
    let nm = c.name_of-x.ensures.named k P.standing.framed in
    let H : Variables k.locals (take c.large-len.result a.scope.now) c.small-n.result a.local_slots.now =
    subst (λ (m : ℕ). Variables k.locals (take m a.scope.now) c.small-n.result a.local_slots.now) (sym c.large-len.ensures)
    (subst (λ (m : ℕ). Variables k.locals (take (get_or a.lens.now a.d 0) a.scope.now) m a.local_slots.now) (sym c.small-n.ensures.0) P.standing.held.locals_held) in
    subst (λ (y : Name). Variables (k.locals ++ (record { name = y; value = v } ∷ [])) (take c.add_variable-end.result c.add_variable-end.new.buf) (c.small-n.result + 1) c.add_variable-end.new.slots) nm
    (c.add_variable-end.ensures.held k.locals v H (subst (λ (y : Name). T (is_name y)) (sym nm) P.name_holds) P.is_value.is_text_lem) in
    let a = c.args in
    subst (λ (w : ℕ). Opened s k v (texts a.shared.now a.slots.now a.count c.add_variable-end.new.buf c.add_variable-end.new.slots) base number c.add_variable-end.result (c.small-n.result + 1) w) (sym (sum_is s k v base number P))
    (binds_done P c.add_variable-end.new.buf c.add_variable-end.new.slots c.add_variable-end.result (c.small-n.result + 1) (sym (c.is_taken.ensures s k P.standing) ∙ c.if-is_taken.false) (fits s k v base number P)
    (added s k v base number P) (omega (arith, c.add_variable-end.ensures.outside.within, c.add_variable-end.auto.buf)))

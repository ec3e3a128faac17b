use mathlib.Core.Path.{◌≡◌, sym, ap, subst, ◌∙◌}
use mathlib.Core.List.{List, [], map}
use mathlib.Core.Option.{none, some}
use Prim.Native.Nat.{ℕ, ◌+◌, ◌≤◌}
use native.Mathlib.Omega.{arith}
use lib.Dec.{T}
use lib.ListN.{length, take}
use lib.Seq.{length-take-le}
use Rattle.language.specs.Text.{Text, distinct}
use Rattle.language.specs.Syntax.{Name}
use Rattle.language.specs.State.{Principal}
use Rattle.language.specs.Encode.{principals_text}
use Rattle.language.specs.Commands.{changed}
use Rattle.store.specs.Held.{Principals}
use Rattle.text.specs.Parts.{part}
use Rattle.store.specs.Rows.{position}
use Rattle.store.specs.Contents.{principal_at}
use Rattle.edits.specs.Changes.{principal_names, with_password}
use Rattle.store.proofs.Holders.{some_principals}
use Rattle.edits.proofs.PasswordChanges.{changed_at, with_twice, with_kept, bare_size, outside_on, held_size, below_principals}
use Rattle.edits.proofs.change.set_password.Goals as goal

pub slice_bounds-password_of-end-2 : goal.slice_bounds-password_of-end-2
slice_bounds-password_of-end-2 c = sym (length-take-le _ _ c.requires.1)

pub password_of-requires : goal.password_of-requires
password_of-requires c =
    let text : Text = take c.args.len c.args.buf.now in
    let a = c.args in
    let S = c.requires.2 in
    (some_principals S.principals text a.count a.slots.now S.held, S.below)

pub write_password-requires : goal.write_password-requires
write_password-requires c =
    let text : Text = take c.args.len c.args.buf.now in
    let by_number : (ks : List Principal) (p : Name) → Principals ks text c.args.count c.args.slots.now → T (distinct (principal_names ks)) → c.args.number ≡ position (principal_names ks) p → map (changed p c.args.password.now) ks ≡ with_password ks c.args.number c.args.password.now = λ ks p K d n. let a = c.args in
    let b = below_principals ks text a.count a.slots.now K a.number c.requires.2.below in
    changed_at ks p a.password.now d (omega (arith, n, b)) ∙ ap (λ (k : ℕ). with_password ks k a.password.now) (sym n) in
    let room : length (principals_text (with_password c.requires.2.principals c.args.number c.args.password.now)) ≤ length c.args.buf.now = let S = c.requires.2 in
    subst (λ (l : List Principal). length (principals_text l) ≤ length c.args.buf.now) (by_number S.principals S.name S.held S.apart S.number) S.fits in
    let kept : (ks : List Principal) → Principals ks text c.args.count c.args.slots.now → (principal_at ks c.args.number).password ≡ some (part text c.in-Some.field-0.start c.in-Some.field-0.end) = λ ks K. sym (c.in-Some.ensures ks K).meant in
    let S = c.requires.2 in (
      c.requires.0,
      c.requires.1,
      record { principals = S.principals; old = _; held = S.held; below = S.below; kept = kept S.principals S.held; fits = room },
    )

pub open_line-n-requires : goal.open_line-n-requires
open_line-n-requires c =
    let text : Text = take c.args.len c.args.buf.now in
    let bare : (ks : List Principal) → Principals ks text c.args.count c.args.slots.now → (principal_at ks c.args.number).password ≡ none = λ ks K. sym (c.in-None.ensures ks K).meant in
    let by_number : (ks : List Principal) (p : Name) → Principals ks text c.args.count c.args.slots.now → T (distinct (principal_names ks)) → c.args.number ≡ position (principal_names ks) p → map (changed p c.args.password.now) ks ≡ with_password ks c.args.number c.args.password.now = λ ks p K d n. let a = c.args in
    let b = below_principals ks text a.count a.slots.now K a.number c.requires.2.below in
    changed_at ks p a.password.now d (omega (arith, n, b)) ∙ ap (λ (k : ℕ). with_password ks k a.password.now) (sym n) in
    let room : length (principals_text (with_password c.requires.2.principals c.args.number c.args.password.now)) ≤ length c.args.buf.now = let S = c.requires.2 in
    subst (λ (l : List Principal). length (principals_text l) ≤ length c.args.buf.now) (by_number S.principals S.name S.held S.apart S.number) S.fits in
    let longer : c.args.len + 1 + length c.args.password.now ≤ length c.args.buf.now = let a = c.args in
    let S = c.requires.2 in
    omega (arith, room, bare_size S.principals text a.count a.slots.now S.held a.number S.below a.password.now (bare S.principals S.held), length-take-le a.len a.buf.now c.requires.1) in
    let S = c.requires.2 in (
      c.requires.0,
      omega (arith, longer),
      record { principals = S.principals; held = S.held; below = S.below; bare = bare S.principals S.held },
    )

pub write_password-requires-in-None : goal.write_password-requires-in-None
write_password-requires-in-None c =
    let text : Text = take c.args.len c.args.buf.now in
    let by_number : (ks : List Principal) (p : Name) → Principals ks text c.args.count c.args.slots.now → T (distinct (principal_names ks)) → c.args.number ≡ position (principal_names ks) p → map (changed p c.args.password.now) ks ≡ with_password ks c.args.number c.args.password.now = λ ks p K d n. let a = c.args in
    let b = below_principals ks text a.count a.slots.now K a.number c.requires.2.below in
    changed_at ks p a.password.now d (omega (arith, n, b)) ∙ ap (λ (k : ℕ). with_password ks k a.password.now) (sym n) in
    let room : length (principals_text (with_password c.requires.2.principals c.args.number c.args.password.now)) ≤ length c.args.buf.now = let S = c.requires.2 in
    subst (λ (l : List Principal). length (principals_text l) ≤ length c.args.buf.now) (by_number S.principals S.name S.held S.apart S.number) S.fits in
    let bare : (ks : List Principal) → Principals ks text c.args.count c.args.slots.now → (principal_at ks c.args.number).password ≡ none = λ ks K. sym (c.in-None.ensures ks K).meant in
    let longer : c.args.len + 1 + length c.args.password.now ≤ length c.args.buf.now = let a = c.args in
    let S = c.requires.2 in
    omega (arith, room, bare_size S.principals text a.count a.slots.now S.held a.number S.below a.password.now (bare S.principals S.held), length-take-le a.len a.buf.now c.requires.1) in
    let a = c.args in
    let S = c.requires.2 in
    let ks = S.principals in
    let w = a.password.now in
    let l = below_principals ks text a.count a.slots.now S.held a.number S.below in
    let z : length c.open_line-n.new.buf ≡ length a.buf.now = c.open_line-n.auto.buf in (
      omega (arith, z, c.requires.0),
      omega (arith, z, c.open_line-n.ensures.size, longer),
      record {
        principals = with_password ks a.number [];
        old = [];
        held = c.open_line-n.ensures.held ks S.held (bare ks S.held);
        below = S.below;
        kept = with_kept ks a.number [] l;
        fits = subst (λ (q : List Principal). length (principals_text q) ≤ length c.open_line-n.new.buf) (sym (with_twice ks a.number [] w l)) (omega (arith, room, z));
      },
    )

pub returns-in-Some : goal.returns-in-Some
returns-in-Some c =
    let text : Text = take c.args.len c.args.buf.now in
    let by_number : (ks : List Principal) (p : Name) → Principals ks text c.args.count c.args.slots.now → T (distinct (principal_names ks)) → c.args.number ≡ position (principal_names ks) p → map (changed p c.args.password.now) ks ≡ with_password ks c.args.number c.args.password.now = λ ks p K d n. let a = c.args in
    let b = below_principals ks text a.count a.slots.now K a.number c.requires.2.below in
    changed_at ks p a.password.now d (omega (arith, n, b)) ∙ ap (λ (k : ℕ). with_password ks k a.password.now) (sym n) in
    let kept : (ks : List Principal) → Principals ks text c.args.count c.args.slots.now → (principal_at ks c.args.number).password ≡ some (part text c.in-Some.field-0.start c.in-Some.field-0.end) = λ ks K. sym (c.in-Some.ensures ks K).meant in
    let a = c.args in record {
      outside = c.write_password.ensures.outside;
      held = λ ks p K d n.
          subst (λ (q : List Principal). Principals q (take c.write_password.result c.write_password.new.buf) a.count c.write_password.new.slots) (sym (by_number ks p K d n))
          (c.write_password.ensures.held ks _ K (kept ks K));
    }

pub returns-in-None : goal.returns-in-None
returns-in-None c =
    let text : Text = take c.args.len c.args.buf.now in
    let by_number : (ks : List Principal) (p : Name) → Principals ks text c.args.count c.args.slots.now → T (distinct (principal_names ks)) → c.args.number ≡ position (principal_names ks) p → map (changed p c.args.password.now) ks ≡ with_password ks c.args.number c.args.password.now = λ ks p K d n. let a = c.args in
    let b = below_principals ks text a.count a.slots.now K a.number c.requires.2.below in
    changed_at ks p a.password.now d (omega (arith, n, b)) ∙ ap (λ (k : ℕ). with_password ks k a.password.now) (sym n) in
    let bare : (ks : List Principal) → Principals ks text c.args.count c.args.slots.now → (principal_at ks c.args.number).password ≡ none = λ ks K. sym (c.in-None.ensures ks K).meant in
    let both-done : (ks : List Principal) → let a = c.args in Principals ks text a.count a.slots.now → Principals (with_password ks a.number a.password.now) (take c.write_password-in-None.result c.write_password-in-None.new.buf) a.count c.write_password-in-None.new.slots = λ ks K. let a = c.args in
    let l = below_principals ks text a.count a.slots.now K a.number c.requires.2.below in
    subst (λ (q : List Principal). Principals q (take c.write_password-in-None.result c.write_password-in-None.new.buf) a.count c.write_password-in-None.new.slots) (with_twice ks a.number [] a.password.now l)
    (c.write_password-in-None.ensures.held (with_password ks a.number []) [] (c.open_line-n.ensures.held ks K (bare ks K)) (with_kept ks a.number [] l)) in
    let grown : c.open_line-n.result ≤ c.write_password-in-None.result = let a = c.args in
    let S = c.requires.2 in
    let h : c.write_password-in-None.result ≤ length c.write_password-in-None.new.buf = omega (arith, c.write_password-in-None.ensures.outside.within, c.write_password-in-None.auto.buf) in
    omega (
      arith,
      c.open_line-n.ensures.size,
      held_size (with_password S.principals a.number a.password.now) c.write_password-in-None.new.buf c.write_password-in-None.result a.count c.write_password-in-None.new.slots h (both-done S.principals S.held),
      bare_size S.principals text a.count a.slots.now S.held a.number S.below a.password.now (bare S.principals S.held),
      length-take-le a.len a.buf.now c.requires.1,
    ) in
    let a = c.args in record {
      outside = outside_on a.buf.now c.open_line-n.new.buf c.write_password-in-None.new.buf c.open_line-n.result c.write_password-in-None.result a.slots.now c.open_line-n.new.slots c.write_password-in-None.new.slots a.count grown c.open_line-n.auto.buf c.open_line-n.ensures.outside c.write_password-in-None.ensures.outside;
      held = λ ks p K d n.
          subst (λ (q : List Principal). Principals q (take c.write_password-in-None.result c.write_password-in-None.new.buf) a.count c.write_password-in-None.new.slots) (sym (by_number ks p K d n)) (both-done ks K);
    }

use mathlib.Core.Path.{◌≡◌, refl, sym, subst}
use mathlib.Core.List.{List, map}
use Prim.Native.Nat.{◌<◌}
use native.Mathlib.Omega.{arith}
use Rattle.language.specs.State.{Principal}
use Rattle.store.specs.Held.{Principals}
use Rattle.store.specs.Rows.{found_at, place, principal_row}
use Rattle.contents.specs.Contents.{kept_at, PasswordAt}
use Rattle.store.proofs.Holders.{principals_rows, some_principals}
use Rattle.store.proofs.Answers.{principal_found}
use Rattle.splice.proofs.Splicing.{length_part}
use Rattle.state_lookups.specs.Looks.{Look, Says}
use Rattle.state_lookups.proofs.Lookups.{principal_gone, principal_kept, principal_bare}
use Rattle.state_lookups.proofs.principal.Goals as goal

pub find-requires : goal.find-requires
find-requires c =
    let a = c.args in
    let p = c.requires.0 in
    some_principals p.principals a.text.now a.count a.slots.now p.held

pub returns-in_default : goal.returns-in_default
returns-in_default c ks K =
    let a = c.args in
    subst (λ (l : Look). Says l a.out.now a.out.now 4294967298)
    (sym (principal_gone ks a.name.now (c.in_default.ensures (map principal_row ks) (principals_rows ks a.text.now a.count a.slots.now K))))
    (record { number_is = refl; written = refl })

pub password_of-password-requires : goal.password_of-password-requires
password_of-password-requires c =
    let here : (ks : List Principal) → let a = c.args in Principals ks a.text.now a.count a.slots.now → found_at c.in-Some.found.number c.in-Some.found.start c.in-Some.found.end ≡ place (map principal_row ks) a.name.now = λ ks K. let a = c.args in
    c.in-Some.ensures (map principal_row ks) (principals_rows ks a.text.now a.count a.slots.now K) in
    let below : c.in-Some.found.number < c.args.count = let p = c.requires.0 in
    let F = principal_found p.principals c.args.name.now c.in-Some.found.number c.in-Some.found.start c.in-Some.found.end (here p.principals p.held) in
    omega (arith, F.below, p.held.counted) in
    let a = c.args in
    let p = c.requires.0 in
    (some_principals p.principals a.text.now a.count a.slots.now p.held, below)

pub slice_bounds-write-count : goal.slice_bounds-write-count
slice_bounds-write-count c =
    let kept : (ks : List Principal) → let a = c.args in Principals ks a.text.now a.count a.slots.now → PasswordAt ks a.text.now c.in-Some.found.number (kept_at c.in-Some-password.kept.start c.in-Some-password.kept.end) = λ ks K. let a = c.args in
    c.in-Some-password.ensures ks K in
    (kept c.requires.0.principals c.requires.0.held).within.0

pub slice_bounds-write-start : goal.slice_bounds-write-start
slice_bounds-write-start c =
    let kept : (ks : List Principal) → let a = c.args in Principals ks a.text.now a.count a.slots.now → PasswordAt ks a.text.now c.in-Some.found.number (kept_at c.in-Some-password.kept.start c.in-Some-password.kept.end) = λ ks K. let a = c.args in
    c.in-Some-password.ensures ks K in
    let w = (kept c.requires.0.principals c.requires.0.held).within in omega (arith, w.0, w.1)

pub slice_bounds-write-end : goal.slice_bounds-write-end
slice_bounds-write-end c =
    let kept : (ks : List Principal) → let a = c.args in Principals ks a.text.now a.count a.slots.now → PasswordAt ks a.text.now c.in-Some.found.number (kept_at c.in-Some-password.kept.start c.in-Some-password.kept.end) = λ ks K. let a = c.args in
    c.in-Some-password.ensures ks K in
    let w = (kept c.requires.0.principals c.requires.0.held).within in omega (arith, w.0, w.1)

pub write-requires : goal.write-requires
write-requires c =
    let here : (ks : List Principal) → let a = c.args in Principals ks a.text.now a.count a.slots.now → found_at c.in-Some.found.number c.in-Some.found.start c.in-Some.found.end ≡ place (map principal_row ks) a.name.now = λ ks K. let a = c.args in
    c.in-Some.ensures (map principal_row ks) (principals_rows ks a.text.now a.count a.slots.now K) in
    let below : c.in-Some.found.number < c.args.count = let p = c.requires.0 in
    let F = principal_found p.principals c.args.name.now c.in-Some.found.number c.in-Some.found.start c.in-Some.found.end (here p.principals p.held) in
    omega (arith, F.below, p.held.counted) in
    let kept : (ks : List Principal) → let a = c.args in Principals ks a.text.now a.count a.slots.now → PasswordAt ks a.text.now c.in-Some.found.number (kept_at c.in-Some-password.kept.start c.in-Some-password.kept.end) = λ ks K. let a = c.args in
    c.in-Some-password.ensures ks K in
    let p = c.requires in
    let w = (kept p.0.principals p.0.held).within in
    let n = length_part c.args.text.now c.in-Some-password.kept.start c.in-Some-password.kept.end w.0 w.1 in
    (omega (arith, below, p.1), omega (arith, n, w.1, p.2), omega (arith, n, w.1, p.2, p.3))

pub unkept-requires : goal.unkept-requires
unkept-requires c =
    let here : (ks : List Principal) → let a = c.args in Principals ks a.text.now a.count a.slots.now → found_at c.in-Some.found.number c.in-Some.found.start c.in-Some.found.end ≡ place (map principal_row ks) a.name.now = λ ks K. let a = c.args in
    c.in-Some.ensures (map principal_row ks) (principals_rows ks a.text.now a.count a.slots.now K) in
    let below : c.in-Some.found.number < c.args.count = let p = c.requires.0 in
    let F = principal_found p.principals c.args.name.now c.in-Some.found.number c.in-Some.found.start c.in-Some.found.end (here p.principals p.held) in
    omega (arith, F.below, p.held.counted) in
    omega (arith, below, c.requires.1)

pub returns-in-Some-password : goal.returns-in-Some-password
returns-in-Some-password c ks K =
    let here : (ks : List Principal) → let a = c.args in Principals ks a.text.now a.count a.slots.now → found_at c.in-Some.found.number c.in-Some.found.start c.in-Some.found.end ≡ place (map principal_row ks) a.name.now = λ ks K. let a = c.args in
    c.in-Some.ensures (map principal_row ks) (principals_rows ks a.text.now a.count a.slots.now K) in
    let kept : (ks : List Principal) → let a = c.args in Principals ks a.text.now a.count a.slots.now → PasswordAt ks a.text.now c.in-Some.found.number (kept_at c.in-Some-password.kept.start c.in-Some-password.kept.end) = λ ks K. let a = c.args in
    c.in-Some-password.ensures ks K in
    let a = c.args in
    subst (λ (l : Look). Says l a.out.now c.write.new.out c.write.result)
    (sym (principal_kept ks a.name.now c.in-Some.found.number c.in-Some.found.start c.in-Some.found.end (here ks K) a.text.now c.in-Some-password.kept.start c.in-Some-password.kept.end (kept ks K)))
    c.write.ensures

pub returns-in-None : goal.returns-in-None
returns-in-None c ks K =
    let here : (ks : List Principal) → let a = c.args in Principals ks a.text.now a.count a.slots.now → found_at c.in-Some.found.number c.in-Some.found.start c.in-Some.found.end ≡ place (map principal_row ks) a.name.now = λ ks K. let a = c.args in
    c.in-Some.ensures (map principal_row ks) (principals_rows ks a.text.now a.count a.slots.now K) in
    let a = c.args in
    subst (λ (l : Look). Says l a.out.now a.out.now c.unkept.result)
    (sym (principal_bare ks a.name.now c.in-Some.found.number c.in-Some.found.start c.in-Some.found.end (here ks K) a.text.now
    (c.in-None.ensures ks K)))
    (record { number_is = c.unkept.ensures; written = refl })

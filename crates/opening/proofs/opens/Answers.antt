-- `opening::opens` meets its contract. By what is kept.
-- Assumes nothing.
use mathlib.Core.Path.{ap, ◌∙◌}
use mathlib.Core.List.{List}
use native.Mathlib.Omega.{arith}
use Rattle.std.specs.Prelude.{None}
use Rattle.language.specs.State.{Principal}
use Rattle.language.specs.Run as Run
use Rattle.store.specs.Held.{Principals}
use Rattle.contents.specs.Contents.{kept_at, PasswordIn, PasswordAt}
use Rattle.store.proofs.Holders.{some_principals}
use Rattle.opening.proofs.opens.Goals as goal

pub password_of-requires : goal.password_of-requires
password_of-requires c =
    let a = c.args in
    let P = c.requires in
    (some_principals P.0.principals a.principals.now a.count a.slots.now P.0.held, P.1)

pub slice_bounds-same_bytes-count : goal.slice_bounds-same_bytes-count
slice_bounds-same_bytes-count c =
    let there : (ks : List Principal) → let a = c.args in Principals ks a.principals.now a.count a.slots.now → PasswordAt ks a.principals.now a.number (kept_at c.in-Some.kept.start c.in-Some.kept.end) = λ ks K. let a = c.args in c.in-Some.ensures ks K in
    let within : PasswordIn c.args.principals.now (kept_at c.in-Some.kept.start c.in-Some.kept.end) = let P = c.requires.0 in (there P.principals P.held).within in
    let w = within in omega (arith, w.0, w.1)

pub slice_bounds-same_bytes-start : goal.slice_bounds-same_bytes-start
slice_bounds-same_bytes-start c =
    let there : (ks : List Principal) → let a = c.args in Principals ks a.principals.now a.count a.slots.now → PasswordAt ks a.principals.now a.number (kept_at c.in-Some.kept.start c.in-Some.kept.end) = λ ks K. let a = c.args in c.in-Some.ensures ks K in
    let within : PasswordIn c.args.principals.now (kept_at c.in-Some.kept.start c.in-Some.kept.end) = let P = c.requires.0 in (there P.principals P.held).within in
    let w = within in omega (arith, w.0, w.1)

pub slice_bounds-same_bytes-end : goal.slice_bounds-same_bytes-end
slice_bounds-same_bytes-end c =
    let there : (ks : List Principal) → let a = c.args in Principals ks a.principals.now a.count a.slots.now → PasswordAt ks a.principals.now a.number (kept_at c.in-Some.kept.start c.in-Some.kept.end) = λ ks K. let a = c.args in c.in-Some.ensures ks K in
    let within : PasswordIn c.args.principals.now (kept_at c.in-Some.kept.start c.in-Some.kept.end) = let P = c.requires.0 in (there P.principals P.held).within in
    let w = within in omega (arith, w.0, w.1)

pub returns-in-Some : goal.returns-in-Some
returns-in-Some c ks K =
    let there : (ks : List Principal) → let a = c.args in Principals ks a.principals.now a.count a.slots.now → PasswordAt ks a.principals.now a.number (kept_at c.in-Some.kept.start c.in-Some.kept.end) = λ ks K. let a = c.args in c.in-Some.ensures ks K in
    c.same_bytes.ensures ∙ ap (Run.opens c.args.password.now) (there ks K).meant

pub returns-in-None : goal.returns-in-None
returns-in-None c ks K =
    let a = c.args in
    let A : PasswordAt ks a.principals.now a.number None = c.in-None.ensures ks K in
    ap (Run.opens a.password.now) A.meant

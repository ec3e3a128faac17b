-- `passwords::password_weight` meets its contract: the password's place says its length.
-- Assumes nothing.
use lib.ListN.{take}
use lib.Seq.{length-take-le}
use mathlib.Core.Path.{sym, ap}
use Rattle.std.specs.Prelude.{None}
use Rattle.language.specs.Weight.{password_weight}
use Rattle.contents.specs.Contents.{kept_at, PasswordAt}
use Rattle.store.proofs.Holders.{some_principals}
use Rattle.passwords.proofs.Weighing.{kept_weight}
use Rattle.passwords.proofs.password_weight.Goals as goal

pub slice_bounds-password_of-end : goal.slice_bounds-password_of-end
slice_bounds-password_of-end c = sym (length-take-le _ _ c.requires.0)

pub password_of-requires : goal.password_of-requires
password_of-requires c = let P = c.requires in (some_principals P.1.principals _ _ _ P.1.held, P.2)

pub overflow_sub-result : goal.overflow_sub-result
overflow_sub-result c =
    let P = c.requires in
    (c.in-Some.ensures P.1.principals P.1.held).within.0

pub returns-in-Some : goal.returns-in-Some
returns-in-Some c ks K =
    let a = c.args in
    let A : PasswordAt ks (take a.len a.principals.now) a.number (kept_at c.in-Some.p.start c.in-Some.p.end) =
    c.in-Some.ensures ks K in
    kept_weight ks (take a.len a.principals.now) a.number c.in-Some.p.start c.in-Some.p.end A

pub returns-in-None : goal.returns-in-None
returns-in-None c ks K =
    let a = c.args in
    let A : PasswordAt ks (take a.len a.principals.now) a.number None =
    c.in-None.ensures ks K in
    ap password_weight A.meant

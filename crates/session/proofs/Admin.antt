-- Names by their numbers: who the sender is, and whether a principal or a variable exists. Admin has number 0, and a name that is missing
-- has the number after the last.
-- Assumes nothing.
use mathlib.Core.Path.{◌≡◌, refl, sym, ap, subst, ◌∙◌}
use Prim.Native.Nat.{ℕ, ◌<◌}
use native.Mathlib.Decide.{dec_le}
use native.Mathlib.Omega.{arith}
use mathlib.Core.Bool.{Bool, true, false, ◌&&◌}
use mathlib.Core.List.{List, [], ◌∷◌, map}
use borrow.Author.Tests.{eq-eqb, eqb-true, lt-ltb, le-ltb}
use lib.Dec.{T, eqb, ltb}
use lib.ListN.{length, get_or}
use Rattle.language.specs.Text.{◌≟◌, all, member, present}
use Rattle.language.specs.Syntax.{Name}
use Rattle.language.specs.State.{Principal, Variable, admin, anyone, named, value_in}
use Rattle.language.specs.Valid.{has_password, valid_order}
use Rattle.language.specs.Values.{Session, is_shared, is_principal}
use Rattle.language.proofs.Logic.Tests.{both, three, true_of, ==→≡, ==_refl}
use Rattle.store.specs.Rows.{position}
use Rattle.store.proofs.Answers.{position_name, value_at, value_none, principal_at_lem, principal_none}
use Rattle.named_rights.specs.Numbers.{principals_of, variables}
use Rattle.named_rights.proofs.Places.{position_lt}
use Rattle.session.specs.declared.Layout.{Layout}
use Rattle.session.specs.Sessions.{Slices, Running}
use Rattle.session.proofs.Scoping.{sender_known}

-- a name that is there, and any other: the same where their places are
pub same_number : (l : List Name) (x y : Name) → T (member x l) → (x ≟ y) ≡ eqb (position l x) (position l y)
same_number l x y m = go (x ≟ y) (eqb (position l x) (position l y)) (λ t. eq-eqb (position l x) (position l y) (ap (position l) (==→≡ x y t)))
    (λ e. subst (λ (z : Name). T (x ≟ z)) (apart (eqb-true (position l x) (position l y) e)) (==_refl x))
  where
    apart : position l x ≡ position l y → x ≡ y
    apart e =
        let h : position l x < length l = position_lt l x m in
        sym (position_name l x h) ∙ ap (λ (n : ℕ). get_or l n []) e ∙ position_name l y (omega (arith, h, e))

    go : (c d : Bool) → (T c → d ≡ true) → (d ≡ true → T c) → c ≡ d
    go true d f g = sym (f tt)
    go false true f g = absurd (g refl)
    go false false f g = refl

first_admin : (ks : List Principal) → T (valid_order ks) → position (map (λ k. k.name) ks) admin ≡ 0
first_admin [] o = absurd o
first_admin (k ∷ []) o = absurd o
first_admin (k ∷ m ∷ ks) o =
    let (h, r) = both ((k.name ≟ admin) && has_password k && (m.name ≟ anyone)) (all has_password ks) o in
    let e : (k.name ≟ admin) ≡ true = true_of (k.name ≟ admin) (three (k.name ≟ admin) (has_password k) (m.name ≟ anyone) h).0 in
    rw e

-- a name is there where its place is below the length
pub named_by_number : (ks : List Principal) (p : Name) → present (named ks p) ≡ ltb (position (map (λ k. k.name) ks) p) (length ks)
named_by_number ks p = elim (dec_le (length ks) (position (map (λ k. k.name) ks) p)) [
  | yes h ↦ ap present (principal_none ks p h) ∙ sym (le-ltb (position (map (λ k. k.name) ks) p) (length ks) h)
  | no h ↦
      let l : position (map (λ k. k.name) ks) p < length ks = omega arith in
      ap present (principal_at_lem ks p l) ∙ sym (lt-ltb (position (map (λ k. k.name) ks) p) (length ks) l)
]

pub valued_by_number : (vs : List Variable) (x : Name) → present (value_in vs x) ≡ ltb (position (map (λ v. v.name) vs) x) (length vs)
valued_by_number vs x = elim (dec_le (length vs) (position (map (λ v. v.name) vs) x)) [
  | yes h ↦ ap present (value_none vs x h) ∙ sym (le-ltb (position (map (λ v. v.name) vs) x) (length vs) h)
  | no h ↦
      let l : position (map (λ v. v.name) vs) x < length vs = omega arith in
      ap present (value_at vs x l) ∙ sym (lt-ltb (position (map (λ v. v.name) vs) x) (length vs) l)
]

module _ (s : Session) (l : Layout) (b : Slices) (R : Running s l b) where
  pub admin_first : position (principals_of s.store) admin ≡ 0
  admin_first = first_admin s.store.principals R.ready.is_good.store_shape.order

  -- the sender is q where the numbers are equal
  pub sender_is : (q : Name) → (s.sender ≟ q) ≡ eqb l.sender (position (principals_of s.store) q)
  sender_is q =
      same_number (principals_of s.store) s.sender q (sender_known s l b R)
      ∙ ap (λ (n : ℕ). eqb n (position (principals_of s.store) q)) (sym R.sender)

  pub sender_admin : (s.sender ≟ admin) ≡ eqb l.sender 0
  sender_admin = sender_is admin ∙ ap (eqb l.sender) admin_first

  pub principal_exists : (p : Name) → is_principal s p ≡ ltb (position (principals_of s.store) p) l.principals
  principal_exists p = named_by_number s.store.principals p ∙ ap (ltb (position (principals_of s.store) p)) (sym R.principals.counted)

  pub variable_exists : (x : Name) → is_shared s x ≡ ltb (position (variables s.store) x) l.vars
  variable_exists x = valued_by_number s.store.variables x ∙ ap (ltb (position (variables s.store) x)) (sym R.variables.counted)

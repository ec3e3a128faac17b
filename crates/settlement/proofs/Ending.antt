-- How the commands set, append and local end, by what their parts answer.
-- Assumes nothing.
use mathlib.Core.Path.{◌≡◌, refl, sym, ap, subst, ◌∙◌}
use mathlib.Core.Bool.{Bool, true, false, not, ◌||◌}
use mathlib.Core.Option.{Option, none, some}
use mathlib.Core.List.{List, []}
use Prim.Native.Nat.{ℕ}
use native.Mathlib.Omega.{arith}
use lib.ListN.{length, take}
use Rattle.language.specs.Text.{Text, present}
use Rattle.language.specs.Outcomes.{Outcome, gives, fails, fills, ◌>>=◌, ◌>>◌, from, provided}
use Rattle.language.specs.Syntax.{Name, Expr, Command, write, append, set, append_to, local}
use Rattle.language.specs.State.{Element, Value, single, list, put}
use Rattle.language.specs.Values.{Session, lookup, is_defined}
use Rattle.language.specs.Expressions.{value, names}
use Rattle.language.specs.Commands.{Effect, effect, denied, done, assign, extend, with_locals, step}
use Rattle.language.specs.Output.{status}
use Rattle.evaluate.specs.Drafts.{Lent}
use Rattle.evaluated.specs.Results.{Written}
use Rattle.permits.specs.Permits.{allowed_on, unread}
use Rattle.session.specs.declared.Verdict.{Verdict}
use Rattle.session.specs.declared.Verdict.TheVariants as Ends
use Rattle.session.specs.Sessions.{Slices}
use Rattle.session.specs.Endings.{Ended}
use Rattle.session.proofs.Steps.{is_denied, is_failed, is_filled}
use Rattle.session.proofs.Weighed.{ends_full, ends_done}
use Rattle.assignment.specs.declared.Assigned.{Assigned}
use Rattle.assignment.specs.declared.Assigned.TheVariants.{Full, Done}
use Rattle.assignment.specs.Assignments.{Assigns}
use Rattle.variable_text.specs.Puts.{Weighs}
use Rattle.lookup.specs.Looks.{elements_in}
use Rattle.lookup.specs.Told.{Answers}
use Rattle.evaluated.specs.declared.Answered.{Answered}
use Rattle.evaluated.specs.declared.Answered.TheVariants as Told
use Rattle.lookup.proofs.Looking.{denied_set, denied_append}
use Rattle.settlement.specs.Commands.{verdict_of, settlement}
use Rattle.settlement.specs.declared.Settled.{Settled}
use Rattle.settlement.specs.declared.Settled.TheVariants as Is

-- ---- room to evaluate in

pub lent : (t : Text) (slots : List ℕ) → length t ≡ 45056 → length slots ≡ 4096 → Lent t slots
lent t slots e f = record { out_size = omega (arith, e); slots_size = omega (arith, f) }

pub weighed : {o : Outcome Value} {out : Text} {n w : ℕ} → (H : Written o out n w) → Weighs H.value (take n out) w
weighed H = record { held = H.held; weighs = H.weighs; light = H.light }

-- ---- what the commands do

-- A command whose own rule denies it to nobody, or not to the sender: where it fits, it does f with the value of its expression.
pub record Does (s : Session) (c : Command) (y : Expr) (fits : Bool) (f : Value → Effect) : Type 0 where
  pub denied_by : denied s c ≡ unread s (names s y)
  pub effect_is : effect s c ≡ (provided fits >> (value s y >>= λ v. gives (f v)))

-- the sender has no right that the command's own rule asks for, or has one
own_denied : (d a u b : Bool) → d ≡ (not a || u) → b ≡ a → not b ≡ true → d ≡ true
own_denied d a u b e q h = e ∙ ap (λ (z : Bool). not z || u) (sym q) ∙ ap (λ (z : Bool). z || u) h

own_met : (d a u b : Bool) → d ≡ (not a || u) → b ≡ a → not b ≡ false → d ≡ u
own_met d a u b e q h = e ∙ ap (λ (z : Bool). not z || u) (sym q) ∙ ap (λ (z : Bool). z || u) h

-- the elements of x, and none where that is no list
abbrev pub elements_of : Option Value → List Element
elements_of none = []
elements_of (some (single a)) = []
elements_of (some (list es)) = es

pub listed : (o : Option Value) (b : Bool) → b ≡ present (elements_in o) → b ≡ true → o ≡ some (list (elements_of o))
listed none b e f = absurd (let z : ◌≡◌ {A = ℕ} 0 1 = cc in omega arith)
listed (some (single a)) b e f = absurd (let z : ◌≡◌ {A = ℕ} 0 1 = cc in omega arith)
listed (some (list es)) b e f = refl

-- what is not answered with yes does not hold
pub not_there : (d b : Bool) → b ≡ d → not b ≡ true → d ≡ false
not_there d true e f = absurd (let z : ◌≡◌ {A = ℕ} 0 1 = cc in omega arith)
not_there d false e f = sym e

module _ (s : Session) (x : Name) where
  abbrev pub set_effect : Value → Effect
  set_effect v = record { after = assign s x v; line = status "SET" }

  abbrev pub append_effect : Value → Effect
  append_effect v = record { after = assign s x (list (extend (elements_of (lookup s x)) v)); line = status "APPEND" }

  abbrev pub local_effect : Value → Effect
  local_effect v = record { after = with_locals s (put x v s.locals); line = status "LOCAL" }

  module _ (y : Expr) (b : Bool) where
    pub set_denied : b ≡ allowed_on s write x → not b ≡ true → denied s (set x y) ≡ true
    set_denied = own_denied (denied s (set x y)) (allowed_on s write x) (unread s (names s y)) b (denied_set s x y)

    pub set_does : b ≡ allowed_on s write x → not b ≡ false → Does s (set x y) y true set_effect
    set_does q h = record {
      denied_by = own_met (denied s (set x y)) (allowed_on s write x) (unread s (names s y)) b (denied_set s x y) q h;
      effect_is = refl;
    }

    pub append_denied : b ≡ (allowed_on s write x || allowed_on s append x) → not b ≡ true → denied s (append_to x y) ≡ true
    append_denied = own_denied (denied s (append_to x y)) (allowed_on s write x || allowed_on s append x) (unread s (names s y)) b (denied_append s x y)

    pub append_does : (fits : Bool) → fits ≡ present (elements_in (lookup s x)) → b ≡ (allowed_on s write x || allowed_on s append x) → not b ≡ false
        → Does s (append_to x y) y fits append_effect
    append_does fits p q h = record {
      denied_by = own_met (denied s (append_to x y)) (allowed_on s write x || allowed_on s append x) (unread s (names s y)) b (denied_append s x y) q h;
      effect_is = go (lookup s x) ∙ ap (λ (z : Bool). provided z >> (value s y >>= λ v. gives (append_effect v))) (sym p);
    }
      where
        go : (o : Option Value) → (from (elements_in o) >>= λ es. value s y >>= λ v. done "APPEND" (assign s x (list (extend es v))))
            ≡ (provided (present (elements_in o)) >> (value s y >>= λ v. done "APPEND" (assign s x (list (extend (elements_of o) v)))))
        go none = refl
        go (some (single a)) = refl
        go (some (list es)) = refl

    pub local_does : b ≡ is_defined s x → Does s (local x y) y (not b) local_effect
    local_does p = record {
      denied_by = refl;
      effect_is = ap (λ (z : Bool). provided (not z) >> (value s y >>= λ v. gives (local_effect v))) (sym p);
    }

-- ---- how they end

-- the command has a value to store: it fits, and out holds the value
pub record Stores (s : Session) (y : Expr) (fits : Bool) (out : Text) (n w : ℕ) : Type 0 where
  pub unread_none : unread s (names s y) ≡ false
  pub fitting : fits ≡ true
  pub written : Written (value s y) out n w

module _ (s : Session) (c : Command) (y : Expr) (fits : Bool) (f : Value → Effect) (D : Does s c y fits f) where
  comes_to_lem : (b : Bool) (o : Outcome Value) → fits ≡ b → value s y ≡ o → effect s c ≡ (provided b >> (o >>= λ v. gives (f v)))
  comes_to_lem b o p q = D.effect_is ∙ (λ i. provided (p i) >> (q i >>= λ v. gives (f v)))

  misfit : fits ≡ false → effect s c ≡ fails
  misfit p = comes_to_lem false (value s y) p refl

  valueless : (b : Bool) → fits ≡ b → value s y ≡ fails → effect s c ≡ fails
  valueless true p q = comes_to_lem true fails p q
  valueless false p q = misfit p

  abbrev Settles : Text → Settled → Type 0
  Settles out (Is.Over k) = (b : Slices) → Ended k (step s c) b
  Settles out (Is.Value n w) = Stores s y fits out n w

  settles : (out : Text) (v : Answered) (z : Bool) → fits ≡ z → Answers v s y out → Settles out (settlement v z)
  settles out Told.Denied z p h = λ b. is_denied s c (D.denied_by ∙ h)
  settles out Told.Missing z p h = λ b. is_failed s c (D.denied_by ∙ h.0) (valueless z p h.1)
  settles out Told.Heavy true p h = λ b. is_filled s c (D.denied_by ∙ h.0) (comes_to_lem true fills p h.1)
  settles out Told.Heavy false p h = λ b. is_failed s c (D.denied_by ∙ h.0) (misfit p)
  settles out (Told.Value n w) true p h = record { unread_none = h.0; fitting = p; written = h.1 }
  settles out (Told.Value n w) false p h = λ b. is_failed s c (D.denied_by ∙ h.0) (misfit p)

  module _ (out : Text) (v : Answered) (h : Answers v s y out) (r : Settled) (q : r ≡ settlement v fits) where
    -- the answer ends it, or leaves a value to store
    pub over : (k : Verdict) (b : Slices) → r ≡ Is.Over k → Ended k (step s c) b
    over k b e = subst (Settles out) (sym q ∙ e) (settles out v fits refl h) b

    pub stores : (n w : ℕ) → r ≡ Is.Value n w → Stores s y fits out n w
    stores n w e = subst (Settles out) (sym q ∙ e) (settles out v fits refl h)

  -- and storing it is done, or makes the session too heavy
  pub ends : {out : Text} {n w : ℕ} (S : Stores s y fits out n w) (a : Assigned) (z : Verdict) (b : Slices) → z ≡ verdict_of a
      → Assigns a (f S.written.value).after b → Ended z (step s c) b
  ends S a z b q k = subst (λ (z : Verdict). Ended z (step s c) b) (sym q) (go a k)
    where
      permitted : denied s c ≡ false
      permitted = D.denied_by ∙ S.unread_none

      given : effect s c ≡ gives (f S.written.value)
      given = comes_to_lem true (gives S.written.value) S.fitting S.written.is_value

      go : (a : Assigned) → Assigns a (f S.written.value).after b → Ended (verdict_of a) (step s c) b
      go Full k = ends_full s c (f S.written.value) permitted given k
      go (Done m) k = ends_done s c (f S.written.value) permitted given m b k

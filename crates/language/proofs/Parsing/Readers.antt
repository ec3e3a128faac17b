-- Readers: what one reads is valid and takes room, and so does what several read in turn.
use mathlib.Core.Path.{◌≡◌, refl, sym, subst}
use Prim.Native.Nat.{ℕ, ◌+◌, ◌≤◌}
use native.Mathlib.Nat.{le_refl}
use native.Mathlib.Omega.{arith}
use mathlib.Core.Bool.{Bool, true, false, ◌&&◌}
use mathlib.Core.Option.{Option, none, some}
use mathlib.Core.List.{List, [], ◌∷◌}
use lib.ListN.{length}
use lib.Dec.{T}
use Rattle.language.specs.Text.{Text, when◌then◌else◌, ◌≟◌, ◌or_else◌, all}
use Rattle.language.specs.Tokens.{Token, sign, ident, text, wrong}
use Rattle.language.specs.Syntax.{Name}
use Rattle.language.specs.Identifiers.{is_identifier, is_string}
use Rattle.language.specs.Grammar.{Reader, then_read, ◌>>=◌, ◌>>◌, give, ◌∣◌, the_sign, any_name, any_string}
use Rattle.language.proofs.Logic.Tests.{both, ==→≡}
use Rattle.language.proofs.Logic.Outcomes.{Where}
use Rattle.language.proofs.StateText.Clean.{identifier_name, name_length}
use Rattle.language.proofs.Parsing.Lexing.{valid_token, is_word_token, gap_size, room, room_after}

-- `Reads P least before after credit m`: m gives values with P, from valid tokens. A value takes `least` bytes, of which `credit` were taken before.
-- `before` and `after`: a word stands in front of the tokens, before and after.
pub record Reads {A : Type 0} (P : A → Type 0) (least : A → ℕ) (before after : Bool) (credit : ℕ) (m : Reader A) : Type 0 where
  pub reads : (ts : List Token) → T (all valid_token ts)
      → Where (λ r. P r.0 × T (all valid_token r.1) × (least r.0 + room after r.1 ≤ room before ts + credit)) (m ts)

module _ {A : Type 0} {P : A → Type 0} {least : A → ℕ} where
  pub give_reads : {b : Bool} {credit : ℕ} (a : A) → P a → least a ≤ credit → Reads P least b b credit (give a)
  give_reads a p h = record { reads = λ ts v. (p, v, omega arith) }

  pub choice_reads : {before after : Bool} {credit : ℕ} {m n : Reader A} → Reads P least before after credit m → Reads P least before after credit n
      → Reads P least before after credit (m ∣ n)
  choice_reads {before} {after} {credit} {m} {n} h k = record { reads = λ ts v. go ts (m ts) (h.reads ts v) (k.reads ts v) }
    where
      go : (ts : List Token) (o : Option (A × List Token))
          → Where (λ r. P r.0 × T (all valid_token r.1) × (least r.0 + room after r.1 ≤ room before ts + credit)) o
          → Where (λ r. P r.0 × T (all valid_token r.1) × (least r.0 + room after r.1 ≤ room before ts + credit)) (n ts)
          → Where (λ r. P r.0 × T (all valid_token r.1) × (least r.0 + room after r.1 ≤ room before ts + credit)) (o or_else n ts)
      go ts none h k = k
      go ts (some r) h k = h

pub bind_reads : {A B : Type 0} {P : A → Type 0} {Q : B → Type 0} {least : B → ℕ} {before mid after : Bool} {credit k : ℕ} {m : Reader A} {f : A → Reader B}
    → Reads P (λ a. k) before mid 0 m → ((a : A) → P a → Reads Q least mid after (credit + k) (f a)) → Reads Q least before after credit (m >>= f)
bind_reads {A} {B} {P} {Q} {least} {before} {mid} {after} {credit} {k} {m} {f} h g = record { reads = λ ts v. go ts (m ts) (h.reads ts v) }
  where
    weaken : (ts us : List Token) (o : Option (B × List Token)) → k + room mid us ≤ room before ts + 0
        → Where (λ r. Q r.0 × T (all valid_token r.1) × (least r.0 + room after r.1 ≤ room mid us + (credit + k))) o
        → Where (λ r. Q r.0 × T (all valid_token r.1) × (least r.0 + room after r.1 ≤ room before ts + credit)) o
    weaken ts us none l h = tt
    weaken ts us (some r) l (q, v, e) = (q, v, omega arith)

    go : (ts : List Token) (o : Option (A × List Token)) → Where (λ r. P r.0 × T (all valid_token r.1) × (k + room mid r.1 ≤ room before ts + 0)) o
        → Where (λ r. Q r.0 × T (all valid_token r.1) × (least r.0 + room after r.1 ≤ room before ts + credit)) (then_read o f)
    go ts none h = tt
    go ts (some r) (p, v, l) = weaken ts r.1 (f r.0 r.1) l ((g r.0 p).reads r.1 v)

-- ---- tokens

abbrev pub Any : {A : Type 0} → A → Type 0
Any a = Unit {0}

pub the_reads : (w : Text) (before after : Bool) → (T after → T (is_word_token (sign w))) → Reads Any (λ u. length w) before after 0 (the_sign w)
the_reads w before after h = record { reads = go }
  where
    Read : List Token → Unit {0} × List Token → Type 0
    Read ts r = Any r.0 × T (all valid_token r.1) × (length w + room after r.1 ≤ room before ts + 0)

    go : (ts : List Token) → T (all valid_token ts) → Where (Read ts) (the_sign w ts)
    go [] v = tt
    go (sign u ∷ ts) v = found (u ≟ w) (==→≡ u w)
      where
        last : u ≡ w → length w + room after ts ≤ room before (sign u ∷ ts) + 0
        last e = subst (λ y. length w + room after ts ≤ gap_size (before && is_word_token (sign y)) + (length y + room (is_word_token (sign y)) ts) + 0) (sym e)
            (omega (arith, shorter after (is_word_token (sign w)) h))
          where
            shorter : (a b : Bool) → (T a → T b) → room a ts ≤ room b ts
            shorter true true f = le_refl (room true ts)
            shorter true false f = absurd (f tt)
            shorter false b f = (room_after b ts).0

        found : (c : Bool) → (T c → u ≡ w) → Where (Read (sign u ∷ ts)) (when c then some (tt, ts) else none)
        found true e = (tt, v, last (e tt))
        found false e = tt
    go (ident u ∷ ts) v = tt
    go (text u ∷ ts) v = tt
    go (wrong ∷ ts) v = tt

pub name_reads : (before : Bool) → Reads (λ x. T (is_identifier x)) (λ x. gap_size before + 1) before false 0 any_name
name_reads before = record { reads = go }
  where
    Read : List Token → Name × List Token → Type 0
    Read ts r = T (is_identifier r.0) × T (all valid_token r.1) × (gap_size before + 1 + room false r.1 ≤ room before ts + 0)

    gap_true : (b : Bool) → gap_size (b && true) ≡ gap_size b
    gap_true true = refl
    gap_true false = refl

    go : (ts : List Token) → T (all valid_token ts) → Where (Read ts) (any_name ts)
    go [] v = tt
    go (sign u ∷ ts) v = tt
    go (ident u ∷ ts) v =
        let (i, k) = both (is_identifier u) (all valid_token ts) v in
        (i, k, omega (arith, gap_true before, (name_length u (identifier_name u i)).0, (room_after true ts).0))
    go (text u ∷ ts) v = tt
    go (wrong ∷ ts) v = tt

pub string_reads : Reads (λ t. T (is_string t)) (λ t. 2) false false 0 any_string
string_reads = record { reads = go }
  where
    Read : List Token → Text × List Token → Type 0
    Read ts r = T (is_string r.0) × T (all valid_token r.1) × (2 + room false r.1 ≤ room false ts + 0)

    go : (ts : List Token) → T (all valid_token ts) → Where (Read ts) (any_string ts)
    go [] v = tt
    go (sign u ∷ ts) v = tt
    go (ident u ∷ ts) v = tt
    go (text u ∷ ts) v =
        let (i, k) = both (is_string u) (all valid_token ts) v in
        (i, k, omega arith)
    go (wrong ∷ ts) v = tt

-- ---- one token, and what follows it

module _ {B : Type 0} {Q : B → Type 0} {least : B → ℕ} {credit : ℕ} where
  pub then_the : (w : Text) {n : Reader B} → Reads Q least false false (credit + length w) n → Reads Q least false false credit (the_sign w >> n)
  then_the w h = bind_reads (the_reads w false false (λ t. absurd t)) (λ u p. h)

  pub then_name : {f : Name → Reader B} → ((x : Name) → T (is_identifier x) → Reads Q least false false (credit + 1) (f x)) → Reads Q least false false credit (any_name >>= f)
  then_name h = bind_reads (name_reads false) h

  pub then_string : {f : Text → Reader B} → ((t : Text) → T (is_string t) → Reads Q least false false (credit + 2) (f t)) → Reads Q least false false credit (any_string >>= f)
  then_string h = bind_reads string_reads h

-- The fields of a record take room in the program's text: their labels, and three bytes more for each.
-- Assumes nothing.
use mathlib.Core.Path.{◌≡◌, subst}
use Prim.Native.Nat.{ℕ, zero, suc, ◌+◌, ◌≤◌}
use native.Mathlib.Omega.{arith}
use mathlib.Core.Bool.{true, false}
use mathlib.Core.Option.{Option, none, some}
use mathlib.Core.List.{List, [], ◌∷◌}
use lib.ListN.{length, drop, length-drop}
use lib.Dec.{T, lit≤}
use Rattle.language.specs.Text.{Text, bytes, all, sum}
use Rattle.language.specs.Tokens.{Token, sign, ident, text, wrong, lex}
use Rattle.language.specs.Syntax.{name, dot, quoted, Binding}
use Rattle.language.specs.Identifiers.{is_identifier}
use Rattle.language.specs.Grammar.{Reader, then_read, ◌>>=◌, any_name, any_operand, any_fields}
use Rattle.language.proofs.Logic.Tests.{both}
use Rattle.language.proofs.Logic.Outcomes.{Where}
use Rattle.language.proofs.Parsing.Lexing.{valid_token, room, room_after, tokens_valid, lex_room}
use Rattle.language.proofs.Parsing.Readers.{Reads, Any, give_reads, choice_reads, bind_reads, then_the, then_name, then_string}
use Rattle.syntax.specs.Values.{record_at}

-- the least room of some fields
abbrev pub room_of : List Binding → ℕ
room_of bs = sum (λ b. length b.label + 3) bs

-- the room that a reader takes by what it read
measured : {A B : Type 0} {P : A → Type 0} {Q : B → Type 0} {size : A → ℕ} {least : B → ℕ} {credit : ℕ} {m : Reader A} {f : A → Reader B}
    → Reads P size false false 0 m → ((a : A) → P a → Reads Q least false false (credit + size a) (f a)) → Reads Q least false false credit (m >>= f)
measured {A} {B} {P} {Q} {size} {least} {credit} {m} {f} h g = record { reads = λ ts v. go ts (m ts) (h.reads ts v) }
  where
    weaken : (ts us : List Token) (k : ℕ) (o : Option (B × List Token)) → k + room false us ≤ room false ts + 0
        → Where (λ r. Q r.0 × T (all valid_token r.1) × (least r.0 + room false r.1 ≤ room false us + (credit + k))) o
        → Where (λ r. Q r.0 × T (all valid_token r.1) × (least r.0 + room false r.1 ≤ room false ts + credit)) o
    weaken ts us k none l h = tt
    weaken ts us k (some r) l (q, v, e) = (q, v, omega arith)

    go : (ts : List Token) (o : Option (A × List Token)) → Where (λ r. P r.0 × T (all valid_token r.1) × (size r.0 + room false r.1 ≤ room false ts + 0)) o
        → Where (λ r. Q r.0 × T (all valid_token r.1) × (least r.0 + room false r.1 ≤ room false ts + credit)) (then_read o f)
    go ts none h = tt
    go ts (some r) (p, v, l) = weaken ts r.1 (size r.0) (f r.0 r.1) l ((g r.0 p).reads r.1 v)

name_room : Reads Any length false false 0 any_name
name_room = record { reads = go }
  where
    go : (ts : List Token) → T (all valid_token ts) → Where (λ r. Any r.0 × T (all valid_token r.1) × (length r.0 + room false r.1 ≤ room false ts + 0)) (any_name ts)
    go [] v = tt
    go (sign u ∷ ts) v = tt
    go (ident u ∷ ts) v = (tt, (both (is_identifier u) (all valid_token ts) v).1, omega (arith, (room_after true ts).0))
    go (text u ∷ ts) v = tt
    go (wrong ∷ ts) v = tt

operand_room : Reads Any (λ o. 1) false false 0 any_operand
operand_room = choice_reads
    (then_name (λ x i. choice_reads (then_the (bytes ".") (then_name (λ y j. give_reads (dot x y) tt (lit≤ tt)))) (give_reads (name x) tt (lit≤ tt))))
    (then_string (λ t i. give_reads (quoted t) tt (lit≤ tt)))

fields_room : (n : ℕ) → Reads Any room_of false false 0 (any_fields n)
fields_room zero = record { reads = λ ts v. tt }
fields_room (suc n) = go (fields_room n)
  where
    go : Reads Any room_of false false 0 (any_fields n) → Reads Any room_of false false 0 (any_fields (suc n))
    go ih =
        measured name_room (λ x i. then_the (bytes "=") (bind_reads operand_room (λ o j. choice_reads
        (then_the (bytes "}") (give_reads (record { label = x; operand = o } ∷ []) tt (omega arith)))
        (then_the (bytes ",") (measured ih (λ bs h. give_reads (record { label = x; operand = o } ∷ bs) tt (omega arith)))))))

pub record_room : (t : Text) (at : ℕ) (bs : List Binding) (us : List Token) → record_at t at ≡ some (bs, us) → room_of bs ≤ length t
record_room t at bs us e =
    let ts : List Token = lex (drop at t) in
    let h = subst (λ (o : Option (List Binding × List Token)). Where (λ r. Any r.0 × T (all valid_token r.1) × (room_of r.0 + room false r.1 ≤ room false ts + 0)) o) e
    ((fields_room (length ts)).reads ts (tokens_valid (drop at t) 0)) in
    omega (arith, h.2, lex_room (drop at t), length-drop at t)

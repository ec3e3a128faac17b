-- What is answered has room in one number: a chain is shorter than the principals are many, and a state has few of them; an
-- output has at most 65,536 bytes, and no more lines than bytes; a sheet has a line of 40 bytes for each principal.
-- Assumes nothing.
use mathlib.Core.Path.{◌≡◌, refl}
use Prim.Native.Nat.{ℕ}
use native.Mathlib.Omega.{arith}
use mathlib.Core.Bool.{Bool, true, false, not}
use mathlib.Core.Option.{Option, none, some}
use lib.Dec.{T, leb}
use lib.ListN.{length, length-map}
use Rattle.language.specs.Text.{Text, when◌then◌else◌, present}
use Rattle.language.specs.Syntax.{Name, Right}
use Rattle.language.specs.Identifiers.{is_string}
use Rattle.language.specs.State.{Principal, Store, named, value_in}
use Rattle.language.specs.Valid.{valid_store}
use Rattle.language.specs.Weight.{limit, store_weight}
use Rattle.language.specs.Decode.{decode}
use Rattle.language.specs.Former.{decode_former}
use Rattle.language.specs.Chains.{chain_length}
use Rattle.language.specs.Programs.{parse}
use Rattle.language.specs.Run.{run, output}
use Rattle.language.specs.Encode.{state_text, padded}
use Rattle.language.specs.Calls.{wrong, ready, checked, decoded, sized, made, longest_password, make_call, Buffers, end_reply, run_on, run_call, right_byte, length_answer, question, ask_on, ask_call, BringBuffers, bring_on, bring_call, SheetBuffers, sheet_reply, sheet_on, sheet_call}
use Rattle.language.proofs.StateText.RoundTrip.{decode_holds}
use Rattle.language.proofs.Parsing.Printing.{output_fits}
use Rattle.language.proofs.Rights.Search.{few_rounds}
use Rattle.language.proofs.Histories.Sheets.{sheet_length, sheet_fits}
use Rattle.named_rights.proofs.Few.{few_names}
use Rattle.wire.specs.Wire.{Fits}
use Rattle.language.proofs.Meaning.Printed.{few_lines}

pub make_fits : (buffer password : Text) → Fits (make_call buffer password).answer
make_fits buffer password = go (sized buffer) (is_string password) (leb (length password) longest_password)
  where
    go : (a b c : Bool) → Fits (checked buffer a 2 (checked buffer b 8 (checked buffer c 9 (record { answer = ready; lent = made password })))).answer
    go false b c = tt
    go true false c = tt
    go true true false = tt
    go true true true = tt

-- a buffer that is decoded holds a valid store
decoded_valid : (buffer : Text) (s : Store) → decode buffer ≡ some s → T (valid_store s)
decoded_valid buffer s e = ((decode_holds buffer s).0 e).is_valid

pub run_fits : (b : Buffers) (program : Text) → Fits (run_call b program).answer
run_fits b program = go (sized b.output) (sized b.state) (sized b.work) (decode b.state) refl
  where
    on : (s : Store) → T (valid_store s) → (c : Bool) → Fits (checked b c 5 (end_reply b (run s (parse program)))).answer
    on s v false = tt
    on s v true =
        let h = output_fits s v program in
        (omega (arith, h, few_lines (output (run s (parse program)))), omega (arith, h))

    go : (x y z : Bool) (o : Option Store) → decode b.state ≡ o → Fits (checked b x 1 (checked b y 2 (checked b z 3 (decoded b o 4 (run_on b program))))).answer
    go false y z o e = tt
    go true false z o e = tt
    go true true false o e = tt
    go true true true none e = tt
    go true true true (some s) e = on s (decoded_valid b.state s e) s.is_open

module _ (s : Store) (v : T (valid_store s)) (p x : Name) where
  chain_fits : (r : Right) (o : Option ℕ) → chain_length s r x p ≡ o → Fits (length_answer o)
  chain_fits r none e = tt
  chain_fits r (some n) e = omega (arith, few_rounds s r x p n e, few_names s v, length-map s.principals (λ (k : Principal). k.name))

  question_fits : (o : Option Right) → Fits (question s p x o)
  question_fits none = go (present (named s.principals p))
    where
      go : (b : Bool) → Fits (when b then wrong 7 else wrong 6)
      go true = tt
      go false = tt
  question_fits (some r) = go (present (named s.principals p)) (present (value_in s.variables x))
    where
      go : (a b : Bool) → Fits (when not a then wrong 6 else when not b then wrong 7 else length_answer (chain_length s r x p))
      go false b = tt
      go true false = tt
      go true true = chain_fits r (chain_length s r x p) refl

pub ask_fits : (buffer : Text) (p x : Name) (r : ℕ) → Fits (ask_call buffer p x r).answer
ask_fits buffer p x r = go (sized buffer) (decode buffer) refl
  where
    go : (b : Bool) (o : Option Store) → decode buffer ≡ o → Fits (checked buffer b 2 (decoded buffer o 4 (ask_on buffer p x r))).answer
    go false o e = tt
    go true none e = tt
    go true (some s) e =
        question_fits s (decoded_valid buffer s e) p x (right_byte r)

pub bring_fits : (b : BringBuffers) → Fits (bring_call b).answer
bring_fits b = go (sized b.former) (sized b.state) (decode_former b.former)
  where
    on : (s : Store) (c : Bool) → Fits (checked b c 11 (record { answer = ready; lent = record { former = b.former; state = padded (state_text s) } })).answer
    on s false = tt
    on s true = tt

    go : (x y : Bool) (o : Option Store) → Fits (checked b x 2 (checked b y 2 (decoded b o 10 (bring_on b)))).answer
    go false y o = tt
    go true false o = tt
    go true true none = tt
    go true true (some s) = on s (leb (store_weight s) limit)

pub sheet_fits_answer : (b : SheetBuffers) (x : Name) → Fits (sheet_call b x).answer
sheet_fits_answer b x = go (sized b.output) (sized b.state) (decode b.state) refl
  where
    on : (s : Store) → T (valid_store s) → (c : Bool) → Fits (checked b c 7 (sheet_reply b x s)).answer
    on s v false = tt
    on s v true =
        let h = sheet_fits s v in
        (omega (arith, h), omega (arith, h, sheet_length s x))

    go : (y z : Bool) (o : Option Store) → decode b.state ≡ o → Fits (checked b y 1 (checked b z 2 (decoded b o 4 (sheet_on b x)))).answer
    go false z o e = tt
    go true false o e = tt
    go true true none e = tt
    go true true (some s) e = on s (decoded_valid b.state s e) (present (value_in s.variables x))

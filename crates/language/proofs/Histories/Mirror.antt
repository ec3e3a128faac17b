-- After every call the buffer holds the record of the calls.
use mathlib.Core.Path.{◌≡◌, refl, sym, ap, subst, ◌∙◌}
use Prim.Native.Nat.{ℕ}
use native.Mathlib.Omega.{arith}
use mathlib.Core.Bool.{Bool, true, false, not}
use mathlib.Core.Option.{some}
use mathlib.Core.List.{List, [], ◌∷◌}
use lib.ListN.{length}
use lib.Dec.{T, eqb, eqb_refl}
use Rattle.language.specs.Text.{Text, when◌then◌else◌, present}
use Rattle.language.specs.Syntax.{Name}
use Rattle.language.specs.State.{Store, value_in}
use Rattle.language.specs.Valid.{valid_store}
use Rattle.language.specs.Encode.{state_text, buffer_size}
use Rattle.language.specs.Decode.{Holds, decode}
use Rattle.language.specs.Programs.{parse}
use Rattle.language.specs.Run.{End, refusal, completed, run, left}
use Rattle.language.specs.Calls.{Buffers, SheetBuffers, checked, sized, end_reply, run_on, run_call, ask_on, sheet_reply, sheet_on}
use Rattle.language.specs.History.{Call, send, ask, sheet, state_of, sheet_at, reply, leaves, Book, run_fault, sheet_fault, is_wrong, entered, book_of}
use Rattle.language.proofs.StateText.RoundTrip.{decode_holds}
use Rattle.language.proofs.StateText.Bound.{state_bound, padded_length}
use Rattle.language.proofs.Meaning.ValidRuns.{EndsValid, run_valid}
use Rattle.language.proofs.Histories.Checks.{met, decoded_held}
use Rattle.language.proofs.Parsing.Parsing.{valid_parsed}

pub holds_size : {buffer : Text} {s : Store} → Holds buffer s → length buffer ≡ buffer_size
holds_size {s = s} h = ap length h.is_text_lem ∙ padded_length (state_text s) (omega (arith, state_bound s h.is_valid))

pub holds_decodes : {buffer : Text} {s : Store} → Holds buffer s → decode buffer ≡ some s
holds_decodes {buffer} {s} h = (decode_holds buffer s).1 h

pub is_sized : {buffer : Text} {s : Store} → Holds buffer s → T (sized buffer)
is_sized h = subst (λ n. T (eqb n buffer_size)) (sym (holds_size h)) (eqb_refl buffer_size)

abbrev pub lent_for : Text → Text → Text → Buffers
lent_for buffer o w = record { state = buffer; work = w; output = o }

-- a run and a question, where the buffer holds a state: 2 and 4 do not arise
on_held : {buffer : Text} {s : Store} → Holds buffer s → (o w t : Text)
    → run_call (lent_for buffer o w) t ≡ checked (lent_for buffer o w) (sized o) 1 (checked (lent_for buffer o w) (sized w) 3 (run_on (lent_for buffer o w) t s))
on_held {buffer} {s} h o w t =
    let l : Buffers = lent_for buffer o w in
    ap (checked l (sized o) 1) (met l (sized buffer) _ _ (is_sized h) ∙ ap (checked l (sized w) 3) (decoded_held l (decode buffer) _ (run_on l t) s (holds_decodes h)))

pub reply_send : {buffer : Text} {s : Store} → Holds buffer s → (o w t : Text)
    → reply buffer (send o w t) ≡ state_of (checked (lent_for buffer o w) (sized o) 1 (checked (lent_for buffer o w) (sized w) 3 (run_on (lent_for buffer o w) t s)))
reply_send h o w t = ap state_of (on_held h o w t)

-- the whole reply to a run rightly sent, the output and the work buffer too
pub whole_reply : {buffer : Text} {s : Store} → Holds buffer s → (o w t : Text) → T (not (is_wrong s (send o w t)))
    → run_call (lent_for buffer o w) t ≡ end_reply (lent_for buffer o w) (run s (parse t))
whole_reply {buffer} {s} h o w t k = on_held h o w t ∙ go (sized o) (sized w) s.is_open k
  where
    l : Buffers
    l = lent_for buffer o w

    go : (p q r : Bool) → T (not (present (run_fault p q r)))
        → checked l p 1 (checked l q 3 (checked l r 5 (end_reply l (run s (parse t))))) ≡ end_reply l (run s (parse t))
    go false q r k = absurd k
    go true false r k = absurd k
    go true true false k = absurd k
    go true true true k = refl

pub reply_ask : {buffer : Text} {s : Store} → Holds buffer s → (p x : Name) (r : ℕ) → reply buffer (ask p x r) ≡ ask_on buffer p x r s
reply_ask {buffer} {s} h p x r =
    met buffer (sized buffer) _ _ (is_sized h) ∙ decoded_held buffer (decode buffer) _ (ask_on buffer p x r) s (holds_decodes h)

-- a sheet, where the buffer holds a state
abbrev pub lent_sheet : Text → Text → SheetBuffers
lent_sheet buffer o = record { state = buffer; output = o }

pub sheet_held : {buffer : Text} {s : Store} → Holds buffer s → (o x : Text)
    → sheet_at buffer o x ≡ checked (lent_sheet buffer o) (sized o) 1 (sheet_on (lent_sheet buffer o) x s)
sheet_held {buffer} {s} h o x =
    let l : SheetBuffers = lent_sheet buffer o in
    ap (checked l (sized o) 1) (met l (sized buffer) _ _ (is_sized h) ∙ decoded_held l (decode buffer) _ (sheet_on l x) s (holds_decodes h))

pub whole_sheet : {buffer : Text} {s : Store} → Holds buffer s → (o x : Text) → T (not (is_wrong s (sheet o x)))
    → sheet_at buffer o x ≡ sheet_reply (lent_sheet buffer o) x s
whole_sheet {buffer} {s} h o x k = sheet_held h o x ∙ go (sized o) (present (value_in s.variables x)) k
  where
    l : SheetBuffers
    l = lent_sheet buffer o

    go : (p q : Bool) → T (not (present (sheet_fault p q))) → checked l p 1 (checked l q 7 (sheet_reply l x s)) ≡ sheet_reply l x s
    go false q k = absurd k
    go true false k = absurd k
    go true true k = refl

-- the state's bytes stay, whatever is answered
pub sheet_keeps : {buffer : Text} {s : Store} → Holds buffer s → (o x : Text) → (reply buffer (sheet o x)).lent ≡ buffer
sheet_keeps {buffer} {s} h o x = ap (λ r. r.lent.state) (sheet_held h o x) ∙ go (sized o) (present (value_in s.variables x))
  where
    l : SheetBuffers
    l = lent_sheet buffer o

    go : (p q : Bool) → (checked l p 1 (checked l q 7 (sheet_reply l x s))).lent.state ≡ buffer
    go false q = refl
    go true false = refl
    go true true = refl

pub store_valid : {buffer : Text} {s : Store} → Holds buffer s → T (valid_store s)
store_valid h = h.is_valid

holds_next : (buffer : Text) (b : Book) → Holds buffer b → (c : Call) → Holds (reply buffer c).lent (entered b c)
holds_next buffer b m (send o w t) =
    subst (λ r. Holds r.lent (entered b (send o w t))) (sym (reply_send m o w t))
    (go (sized o) (sized w) b.is_open (run b (parse t)) (run_valid b (store_valid m) (parse t) (valid_parsed t)))
  where
    l : Buffers
    l = lent_for buffer o w

    go : (p q r : Bool) (e : End) → EndsValid e
        → Holds (state_of (checked l p 1 (checked l q 3 (checked l r 5 (end_reply l e))))).lent (when present (run_fault p q r) then b else left b e)
    go false q r e k = m
    go true false r e k = m
    go true true false e k = m
    go true true true (refusal r) k = m
    go true true true (completed lines t) k = record { is_valid = k; is_text_lem = refl }
holds_next buffer b m (ask p x r) = subst (λ r. Holds r.lent b) (sym (reply_ask m p x r)) m
holds_next buffer b m (sheet o x) = subst (λ t. Holds t b) (sym (sheet_keeps m o x)) m

pub holds_all_lem : (calls : List Call) (buffer : Text) (b : Book) → Holds buffer b → Holds (leaves buffer calls) (book_of b calls)
holds_all_lem [] buffer b m = m
holds_all_lem (c ∷ calls) buffer b m = holds_all_lem calls (reply buffer c).lent (entered b c) (holds_next buffer b m c)

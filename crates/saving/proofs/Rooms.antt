-- The parts of a session are those of its state's text, for which the buffer has room.
-- Assumes nothing.
use mathlib.Core.Path.{◌≡◌, refl, sym, ap, ◌∙◌}
use Prim.Native.Nat.{ℕ, ◌+◌, ◌-◌, ◌≤◌}
use native.Mathlib.Omega.{arith}
use mathlib.Core.Bool.{Bool, true, false}
use mathlib.Core.List.{List, [], ◌∷◌, ◌++◌, append_assoc}
use lib.ListN.{length, take, length-append, replicate}
use Rattle.language.specs.Text.{Text}
use Rattle.language.specs.Syntax.{Name}
use Rattle.language.specs.State.{Store}
use Rattle.language.specs.Encode.{newline, head_text, principals_text, delegator_text, variables_text, assertions_text, state_text, padded}
use Rattle.language.specs.Run.{tally}
use Rattle.language.specs.Values.{Session}
use Rattle.language.proofs.StateText.Names.{named_is}
use Rattle.language.proofs.StateText.Bound.{state_bound}
use Rattle.language.proofs.Meaning.Counting.{counts_store}
use Rattle.value_text.specs.Writing.{Written}
use Rattle.value_text.proofs.Pieces.{◌▸◌, rewritten}
use Rattle.state_lines.proofs.Zeros.{state_padded}
use Rattle.session.specs.declared.Layout.{Layout}
use Rattle.session.specs.Sessions.{Slices, Running}
use Rattle.session.proofs.Scoping.{store_valid}
use Rattle.saving.specs.Stores.{Named, records_text, Recorded}
use Rattle.language.proofs.Logic.Lists.{five_joined}

pub head_size : (b : Bool) → length (head_text b) ≡ 2
head_size true = refl
head_size false = refl

-- the parts in the order in which they are written
four_parts : (h p d v a : Text) → (h ++ (p ++ (d ++ v))) ++ a ≡ h ++ (p ++ (d ++ (v ++ a)))
four_parts h p d v a = simp append_assoc

pub parts_text : (s : Store) → records_text s ++ assertions_text s.assertions ≡ state_text s
parts_text s =
    let h : Text = head_text s.is_open in
    four_parts h (principals_text s.principals) (delegator_text s.delegator) (variables_text s.variables) (assertions_text s.assertions)
    ∙ sym (five_joined h (principals_text s.principals) (delegator_text s.delegator) (variables_text s.variables) (assertions_text s.assertions))

-- ---- the lines before the assertions

pub delegator_size : (x : Text) → length (delegator_text x) ≡ length x + 3
delegator_size x = omega (arith, length-append x (newline ∷ []))

module _ (s : Store) (p : Name) (l : Layout) (principals_text_lem : Text) (principal_slots : List ℕ) (vars-text : Text) (R : Recorded s p l principals_text_lem principal_slots vars-text) where
  pub records_text_lem : (name : Text) → name ≡ s.delegator → head_text l.is_open ++ (principals_text (tally p s).principals ++ (delegator_text name ++ vars-text)) ≡ records_text (tally p s)
  records_text_lem name e = λ i. head_text (R.is_open i) ++ (principals_text (tally p s).principals ++ (delegator_text (e i) ++ R.variables_text_lem i))

  pub records_size : length (records_text (tally p s)) ≡ 2 + length (principals_text (tally p s).principals) + (length s.delegator + 3) + length vars-text
  records_size =
      let h : Text = head_text l.is_open in
      let k : Text = principals_text (tally p s).principals in
      let d : Text = delegator_text s.delegator in
      omega (
        arith,
        ap length (records_text_lem s.delegator refl),
        length-append h (k ++ (d ++ vars-text)),
        length-append k (d ++ vars-text),
        length-append d vars-text,
        delegator_size s.delegator,
        head_size l.is_open,
      )

-- ---- a session

module _ (s : Session) (l : Layout) (b : Slices) (R : Running s l b) where
  pub session_named : Named s.store l (take l.principals_len b.principals) b.principal_slots (take l.vars_len b.vars) b.variable_slots
  session_named = record { is_valid = store_valid s l b R; principals = R.principals; shared = R.variables }

  pub session_recorded : Recorded s.store s.sender l (take l.principals_len b.principals) b.principal_slots (take l.vars_len b.vars)
  session_recorded = record {
    is_open = R.is_open;
    sent = record {
      is_valid = store_valid s l b R;
      principals = R.principals;
      sender_known = named_is s.sender s.store.principals R.ready.is_good.sender_known;
      sender = R.sender;
    };
    delegator_known = named_is s.store.delegator s.store.principals R.ready.is_good.store_shape.delegator_known;
    delegator = R.delegator;
    variables_text_lem = R.variables.is_text_lem;
  }

  -- the whole text has room
  pub session_room : length (records_text (tally s.sender s.store)) + length (assertions_text s.store.assertions) ≤ 65536
  session_room =
      let t : Store = tally s.sender s.store in
      omega (
        arith,
        state_bound t (counts_store s.sender s.store (store_valid s l b R)),
        ap length (parts_text t),
        length-append (records_text t) (assertions_text s.store.assertions),
      )

-- the records and the assertions, and zeros after them, are the state's buffer
pub saved : (s : Store) (before mid after : Text) (p r : ℕ) → length before ≡ 65536 → Written before 0 (records_text s) p mid
    → Written mid p (assertions_text s.assertions) r after → take r after ++ replicate (length after - r) 0 ≡ padded (state_text s)
saved s before mid after p r h w x =
    state_padded s before after r h
    (rewritten (four_parts (head_text s.is_open) (principals_text s.principals) (delegator_text s.delegator) (variables_text s.variables) (assertions_text s.assertions)) (w ▸ x))

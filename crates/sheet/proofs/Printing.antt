-- A sheet printed from marks, and what a state that was checked has for it.
-- Assumes nothing.
use mathlib.Core.Path.{◌≡◌, sym, subst, ◌∙◌}
use mathlib.Core.List.{List, ◌++◌, map}
use Prim.Native.Nat.{ℕ, ◌-◌, ◌≤◌}
use native.Mathlib.Omega.{arith}
use lib.ListN.{length, take, drop, replicate, length-map}
use lib.Seq.{length-take-le, take_at}
use Rattle.std.specs.Prelude.{None}
use Rattle.language.specs.Text.{Text}
use Rattle.language.specs.Syntax.{Name, Right}
use Rattle.language.specs.State.{Principal, Store}
use Rattle.language.specs.Encode.{buffer_size}
use Rattle.language.specs.Sheet.{sheet_text}
use Rattle.language.specs.Calls.{listed, refuse, SheetBuffers, sheet_on}
use Rattle.text.specs.Parts.{part}
use Rattle.store.specs.Rows.{variable_row, found_at, place}
use Rattle.store.proofs.Answers.{variable_missing}
use Rattle.value_text.specs.Writing.{Written}
use Rattle.value_text.proofs.Pieces.{written_length, written_take}
use Rattle.state_lines.proofs.Zeros.{padded_is}
use Rattle.named_rights.specs.Numbers.{code, AsksAll}
use Rattle.validate.specs.Checked.{Understood}
use Rattle.validate.specs.declared.Parts.{Parts}
use Rattle.validate.proofs.States.{store, store_valid, few_everyone, two_at_least, few_asserted, found, number_fits, variable_known}
use Rattle.sheet.specs.Listing.{SheetTables, SomeSheet, Printed}
use Rattle.sheet.proofs.Refusals.{unknown_variable, known_variable}

-- ---- marks

-- the marks that were lent stand in front again
pub marks_back : (new old : List ℕ) (n : ℕ) → n ≤ length old → length new ≡ length (take n old) → take n (new ++ drop n old) ≡ new
marks_back new old n h e = take_at new (drop n old) n (e ∙ length-take-le n old h)

pub asks_lent : {s : Store} {r : Right} {x : Name} {count number right : ℕ} (old : List ℕ) → count ≤ length old → AsksAll s r x count number right → AsksAll s r x (length (take count old)) number right
asks_lent {s} {r} {x} {count} {number} {right} old h a = subst (λ (k : ℕ). AsksAll s r x k number right) (sym (length-take-le count old h)) a

pub asks_all : {s : Store} {x : Name} {text : Text} {slots : List ℕ} {count n number : ℕ} {assertions : List ℕ} → SheetTables s x text slots count n number assertions
    → (r : Right) (m : ℕ) → m ≡ code r → AsksAll s r x count number m
asks_all {s} h r m e = record {
  everyone = h.principals.counted ∙ sym (length-map s.principals (λ (k : Principal). k.name));
  variable_known = h.variable_known;
  variable_is = h.variable_is;
  right_is = e;
}

-- ---- the page

pub printed : {sheet before after page : Text} {r : ℕ} → length before ≡ buffer_size → Written before 0 sheet r after → page ≡ take r after ++ replicate (length after - r) 0 → Printed sheet r page
printed {sheet} {before} {after} {page} {r} h w e =
    let n : r ≡ length sheet = w.ends ∙ omega arith in
    record { bytes = n; page = e ∙ padded_is sheet after r (written_length w ∙ h) n (written_take w) }

-- ---- on a state that was checked

module _ {t : Text} {slots-p slots_v assertions : List ℕ} {m : Parts} (u : Understood t slots-p slots_v assertions m) (x : Name) where
  pub not_listed : (b : SheetBuffers) → None ≡ place (map variable_row (store u).variables) x → refuse b 7 ≡ sheet_on b x (store u)
  not_listed b q = unknown_variable b x (store u) (variable_missing (store u).variables x q)

  module _ (l d e : ℕ) (w : found_at l d e ≡ place (map variable_row (store u).variables) x) where
    pub tables : SheetTables (store u) x (part t m.principals_from m.principals_to) slots-p m.principals m.asserted l assertions
    tables = record {
      is_valid = store_valid u;
      principals = u.represents.principals;
      standing = u.represents.assertions;
      variable_known = variable_known u x l d e w;
      variable_is = (found u x l d e w).number;
    }

    pub listable : (room : ℕ) → room ≡ 65536 → SomeSheet (part t m.principals_from m.principals_to) slots-p m.principals m.asserted l assertions room
    listable room h = record {
      state = store u;
      name = x;
      tables = tables;
      numbers = record {
        two = two_at_least u;
        few = few_everyone u;
        within = u.represents.assertions.within;
        few_asserted = few_asserted u;
        number_fits = number_fits u x l d e w;
      };
      size = h;
    }

    pub listed_is : (b : SheetBuffers) {r : ℕ} {page : Text} → Printed (sheet_text (store u) x) r page
        → record { answer = listed m.principals r; lent = record { state = b.state; output = page } } ≡ sheet_on b x (store u)
    listed_is b p =
        (λ i. record { answer = listed (u.represents.principals.counted i) (p.bytes i); lent = record { state = b.state; output = p.page i } })
        ∙ known_variable b x (store u) _ (found u x l d e w).is_value

-- A turn of the loop over a record's fields.
-- Assumes nothing.
use mathlib.Core.Path.{◌≡◌, refl, sym, ap, subst, ◌∙◌}
use Prim.Native.Nat.{ℕ, ◌+◌, ◌≤◌, ◌<◌}
use native.Mathlib.Omega.{arith}
use mathlib.Core.Bool.{Bool, true, false}
use mathlib.Core.Option.{Option, none, some}
use mathlib.Core.List.{List, [], ◌∷◌, ◌++◌}
use lib.Dec.{T, ltb}
use lib.ListN.{length, length-append}
use Rattle.language.specs.Text.{Text, all}
use Rattle.language.specs.Syntax.{Binding}
use Rattle.language.specs.State.{Field, fields, Value, single}
use Rattle.language.specs.Identifiers.{is_identifier}
use Rattle.language.specs.Values.{Session, operand_value}
use Rattle.language.proofs.Logic.Tests.{both}
use Rattle.language.proofs.StateText.Clean.{identifier_name}
use Rattle.language.proofs.Parsing.ValidPrograms.{valid_binding, valid_operand}
use Rattle.syntax.specs.Values.{record_at, with_field, SomeRecord}
use Rattle.evaluated.specs.Results.{string_in}
use Rattle.evaluate.specs.Drafts.{spelling, Drafted, SomeDraft, Extends}
use Rattle.evaluate.specs.declared.draft.Draft.{Draft}
use Rattle.std.specs.Prelude.{Some, None}
use Rattle.evaluate.proofs.Drafting.{sum_last}
use Rattle.evaluate.proofs.Spelling.{room_of, record_room}
use Rattle.evaluate.proofs.Fieldwise.{finish, Going, not_added, Further, was_added, all_read}
use Rattle.syntax.proofs.Said.{Next, next_field}

pub going_start : (s : Session) (t : Text) (at : ℕ) (out : Text) (slots : List ℕ) (d : Draft) → SomeRecord t at → length t ≤ 16384 → Drafted [] out slots d → Going s t at at out slots d
going_start s t at out slots d R l D = record {
  written = [];
  drafted = D;
  rest = R.bindings;
  others = R.others;
  here = R.here;
  total = refl;
  room = omega (arith, record_room t at R.bindings R.others R.here);
  are_valid = (both (ltb 0 (length R.bindings)) (all valid_binding R.bindings) R.is_valid).1;
}

-- all fields are written
pub record Whole (o : Option Value) (out : Text) (slots : List ℕ) (d : Draft) : Type 0 where
  pub written : List Field
  pub drafted : Drafted written out slots d
  pub some_field : 0 < length written
  pub is_value : o ≡ some (single (fields written))

-- the field b at p, and the place n past it
module _ (s : Session) (t : Text) (at p : ℕ) (out : Text) (slots : List ℕ) (d : Draft) (G : Going s t at p out slots d)
    (b : Binding) (more : Bool) (n : ℕ) (e : with_field t b more n ≡ record_at t p) where
  N : Next t b more n G.rest G.others
  N = next_field t b more n G.rest G.others (e ∙ G.here)

  head_valid : T (valid_binding b) × T (all valid_binding N.after)
  head_valid = both (valid_binding b) (all valid_binding N.after) (subst (λ (l : List Binding). T (all valid_binding l)) N.is_rest G.are_valid)

  pub operand_valid : T (valid_operand b.operand)
  operand_valid = (both (is_identifier b.label) (valid_operand b.operand) head_valid.0).1

  pub label_room : spelling G.written + length b.label + 3 ≤ 16384
  label_room = omega (arith, G.room, ap room_of N.is_rest)

  pub some_draft : SomeDraft out slots d b.label
  some_draft = record {
    fields_written = G.written;
    drafted = G.drafted;
    room = label_room;
    name_holds = identifier_name b.label (both (is_identifier b.label) (valid_operand b.operand) head_valid.0).0;
  }

  rest_is : finish s [] (record_at t at) ≡ finish s G.written (some (b ∷ N.after, G.others))
  rest_is = G.total ∙ ap (finish s G.written) G.here ∙ ap (λ (l : List Binding). finish s G.written (some (l, G.others))) N.is_rest

  module _ (out' : Text) (slots' : List ℕ) where
    pub ends : Extends G.written b.label (string_in (operand_value s b.operand)) None out' slots' → finish s [] (record_at t at) ≡ none
    ends x = rest_is ∙ not_added s G.written b N.after G.others out' slots' x

    module _ (d' : Draft) (x : Extends G.written b.label (string_in (operand_value s b.operand)) (Some d') out' slots') where
      F : Further s G.written b N.after G.others out' slots' d'
      F = was_added s G.written b N.after G.others out' slots' d' x

      now_written : List Field
      now_written = G.written ++ (record { label = b.label; text = F.text } ∷ [])

      spelling_is : spelling now_written ≡ spelling G.written + (length b.label + 3)
      unfolding now_written
      spelling_is = sum_last (λ (f : Field). length f.label + 3) G.written (record { label = b.label; text = F.text })

      pub goes_on : more ≡ true → Going s t at n out' slots' d'
      unfolding now_written
      goes_on m = record {
        written = now_written;
        drafted = F.drafted;
        rest = N.after;
        others = G.others;
        here = N.go_on m;
        total = rest_is ∙ F.goes_on ∙ ap (finish s now_written) (sym (N.go_on m));
        room = omega (arith, G.room, ap room_of N.is_rest, spelling_is);
        are_valid = head_valid.1;
      }

      pub is_whole : more ≡ false → Whole (finish s [] (record_at t at)) out' slots' d'
      unfolding now_written
      is_whole m = record {
        written = now_written;
        drafted = F.drafted;
        some_field = omega (arith, length-append G.written (record { label = b.label; text = F.text } ∷ []));
        is_value =
            rest_is ∙ F.goes_on ∙ ap (λ (l : List Binding). finish s now_written (some (l, G.others))) (N.is_last_lem m)
            ∙ all_read s now_written G.others F.drafted.are_distinct;
      }

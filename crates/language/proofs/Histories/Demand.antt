-- The proof of demand 3.
use mathlib.Core.Path.{◌≡◌, sym, ap, subst, ◌∙◌}
use mathlib.Core.Logic.{◌↔◌}
use mathlib.Core.Option.{some}
use mathlib.Core.List.{List, [], ◌++◌}
use lib.Dec.{T, leb}
use Rattle.language.specs.Text.{Text}
use Rattle.language.specs.Syntax.{Command, Program}
use Rattle.language.specs.State.{Store, stands, fresh}
use Rattle.language.specs.Weight.{limit, store_weight}
use Rattle.language.specs.Valid.{well_formed, valid_store}
use Rattle.language.specs.Decode.{Holds}
use Rattle.language.specs.Values.{Session}
use Rattle.language.specs.Run.{login, right, begin}
use Rattle.language.specs.Programs.{parse}
use Rattle.language.specs.Decode.{Holds}
use Rattle.language.specs.Calls.{make_call, bring_call}
use Rattle.language.specs.Events.{Event, after_events, Stands}
use Rattle.language.specs.History.{Call, leaves, Book, book_of, entries_of, history_of, Reaches, Governed, Answered, Demand3}
use Rattle.language.proofs.Logic.Tests.{both}
use Rattle.language.proofs.Meaning.ValidRuns.{Ready, ready_valid, begin_ready, commands_valid}
use Rattle.language.proofs.Parsing.Parsing.{parse_valid}
use Rattle.language.proofs.Histories.Entries.{after_append, reaches_enters, book_enters}
use Rattle.language.proofs.Histories.Fold.{stands_by_events}
use Rattle.language.proofs.Histories.Offences.{right_is_chain, reaches_ready}
use Rattle.language.proofs.Histories.Mirror.{store_valid, holds_all_lem}
use Rattle.language.proofs.Histories.Counts.{book_counts}
use Rattle.language.proofs.Histories.Starts.{made_holds, brought_holds, entries_are}
use Rattle.language.proofs.Histories.Answers.{next_number, next_denial, next_denied_line, next_kept, next_yes, next_no, next_sheet}

-- a valid store whose assertions are the fold of the events is governed by chains and events
govern : (s : Store) (es : List Event) → T (valid_store s) → s.assertions ≡ after_events [] es → Governed s es
govern s es v e = record {
  by_chains = right_is_chain s (both (well_formed s) (leb (store_weight s) limit) v).0;
  standing = e;
  entered_not_withdrawn = λ a. subst (λ l. T (stands l a) ↔ Stands es a) (sym e) (stands_by_events es a);
}

module _ (buffer : Text) (b : Book) (es : List Event) (m : Holds buffer b) (e : b.assertions ≡ after_events [] es) where
  within : (program : Text) (p : Program) → parse program ≡ some p → login b p ≡ right
      → {inner : List Event} {t : Session} {rest : List Command} → Reaches (begin b p) p.commands inner t rest → Governed t.store (es ++ inner)
  within program p k l {inner} {t} r =
      let ready : Ready t = (reaches_ready r (begin_ready b p (store_valid m) l) (commands_valid p (parse_valid program p k))).0 in
      govern t.store (es ++ inner) (ready_valid t ready) (reaches_enters r ∙ ap (λ l. after_events l inner) e ∙ sym (after_append [] es inner))

  answered : Answered b es buffer
  answered = record {
    text = m;
    number = next_number buffer b m;
    denial = next_denial buffer b m;
    denied_line = next_denied_line buffer b m;
    kept = next_kept buffer b m;
    yes_answer = next_yes buffer b m;
    no_answer = next_no buffer b m;
    sheet_answer = next_sheet buffer b m;
    governed = govern b es (store_valid m) e;
    governed_within = within;
  }

from_held : (buffer : Text) (b : Book) → Holds buffer b → (calls : List Call)
    → Answered (book_of b calls) (entries_of b ++ history_of b calls) (leaves buffer calls)
from_held buffer b h calls =
    answered (leaves buffer calls) (book_of b calls) (entries_of b ++ history_of b calls)
    (holds_all_lem calls buffer b h)
    (book_enters calls b ∙ ap (λ l. after_events l (history_of b calls)) (entries_are b (store_valid h)) ∙ sym (after_append [] (entries_of b) (history_of b calls)))

pub demand_3 : Demand3
demand_3 = record {
  held = from_held;
  counted = λ buffer b h. book_counts b (store_valid h);
  made = λ buffer password e. from_held (make_call buffer password).lent (fresh password) (made_holds buffer password e);
  brought = λ b n s h e. from_held (bring_call b).lent.state s (brought_holds b n s h e);
}

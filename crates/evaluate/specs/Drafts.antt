-- A record that is written field by field. Its fields are rows of text with slots, so that a label is looked for as a name is.
use Rattle.std.specs.Prelude.{Option as Answer, Some, None, ◌≡◌, ℕ, ◌+◌, ◌*◌, ◌≤◌, List, [], ◌∷◌, ◌++◌, T, length, take}
use Rattle.std.proofs.Math.Option.{Option, none, some}
use Rattle.language.specs.Text.{Text, all, sum, member, distinct}
use Rattle.language.specs.Syntax.{Name}
use Rattle.language.specs.Programs.{longest}
use Rattle.language.specs.Identifiers.{is_name}
use Rattle.language.specs.State.{Field, labels, fields}
use Rattle.language.specs.Weight.{limit, element_weight}
use Rattle.language.specs.Encode.{element_text}
use Rattle.language.specs.Valid.{valid_field}
use Rattle.store.specs.Held.{places}
use Rattle.text.specs.Parts.{part}
use Rattle.store.specs.Rows.{Row, Rows, row_names}
use Rattle.evaluate.specs.declared.draft.Draft.{Draft}

-- the bytes that fields take in a program at the least: each has its label, an equals sign, a value, and a comma or a brace
abbrev pub spelling : List Field → ℕ
spelling fs = sum (λ f. length f.label + 3) fs

-- the fields fs are written: past the record's first line each has a row with its label, and while they are light the rows are their text
pub record Drafted (fs : List Field) (out : Text) (slots : List ℕ) (d : Draft) : Type 0 where
  pub rows : List Row
  pub held : Rows rows (part out 2 d.end) d.count slots
  pub named : row_names rows ≡ labels fs
  pub are_valid : T (all valid_field fs)
  pub are_distinct : T (distinct (labels fs))
  pub weighs : d.weight ≡ element_weight (fields fs)
  pub is_text_lem : d.weight ≤ limit → take d.end out ≡ element_text (fields fs)
  pub started : 2 ≤ d.end
  pub within : d.end ≤ length out
  -- how far it has come
  pub long : d.end ≤ d.weight + 2 + spelling fs
  pub full : d.end ≤ limit + 2 + spelling fs
  pub heavy : d.weight ≤ places * spelling fs

-- some fields are written, and the program has room for one of that label more
pub record SomeDraft (out : Text) (slots : List ℕ) (d : Draft) (label : Name) : Type 0 where
  pub fields_written : List Field
  pub drafted : Drafted fields_written out slots d
  pub room : spelling fields_written + length label + 3 ≤ longest
  pub name_holds : T (is_name label)

-- what was lent
pub record Lent (out : Text) (slots : List ℕ) : Type 0 where
  pub out_size : 32768 ≤ length out
  pub slots_size : 4096 ≤ length slots

-- what becomes of the fields fs when one is added, whose text is o where it has one
abbrev pub Extends : List Field → Name → Option Text → Answer Draft → Text → List ℕ → Type 0
Extends fs x (some t) (Some d) out slots = Drafted (fs ++ (record { label = x; text = t } ∷ [])) out slots d
Extends fs x (some t) None out slots = T (member x (labels fs))
Extends fs x none (Some d) out slots = ⊥
Extends fs x none None out slots = Unit {0}

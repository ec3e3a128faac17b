-- Records with different names that stand one after the other, and their slots.
use Rattle.std.specs.Prelude.{Bool, List, ℕ, Option, Some, None}
use Rattle.language.specs.Text.{Text, joined}
use Rattle.language.specs.Syntax.{Name}
use Rattle.record_fields.specs.Sections.{Records, Fails, light_all}
use Rattle.record_fields.specs.declared.Section.{Section}
use Rattle.text.specs.Parts.{part}
use Rattle.store.specs.Held.{Held}

pub record Listed {A : Type 0} (name : A → Name) (text : A → Text) (fine : A → Bool) (good : List A → Bool) (weight : A → ℕ) (off : Text → Bool) (t : Text) (at w : ℕ) (slots : List ℕ) (e n after : ℕ) : Type 0 where
  pub records : Records text fine good weight off t at w e n after
  pub held : Held name text records.rows (part t at e) n slots

abbrev pub ListedMeant : {A : Type 0} → (A → Name) → (A → Text) → (A → Bool) → (List A → Bool) → (A → ℕ) → (Text → Bool) → Text → ℕ → ℕ → List ℕ → Option Section → Type 0
ListedMeant name text fine good weight off t at w slots (Some r) = Listed name text fine good weight off t at w slots r.end r.count r.weighed
ListedMeant name text fine good weight off t at w slots None = Fails (joined text) (light_all fine good weight w) off t at

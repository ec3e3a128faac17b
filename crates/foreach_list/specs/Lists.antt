-- The list that foreach and filtereach make.
use Rattle.std.specs.Prelude.{◌≤◌, Bool, true, false, List}
use Rattle.language.specs.Text.{Text}
use Rattle.language.specs.Syntax.{Name}
use Rattle.language.specs.State.{Element, list}
use Rattle.language.specs.Weight.{limit, value_weight}
use Rattle.language.specs.Outcomes.{Outcome}
use Rattle.language.specs.Values.{Session}
use Rattle.values.specs.Encoding.{Holds}
use Rattle.permits.specs.declared.Known.{Known}
use Rattle.permits.specs.declared.Known.TheVariants as Rights
use Rattle.foreach_piece.specs.declared.Made.{Made}
use Rattle.foreach_piece.specs.declared.Made.TheVariants as Is
use Rattle.foreach_piece.specs.Drafts.{MadeOf}

-- t is the text of some list, which is not too heavy
pub record SomeList (t : Text) : Type 0 where
  pub elements : List Element
  pub held : Holds (list elements) t
  pub light : value_weight (list elements) ≤ limit

-- m is what became of some elements
pub record SomeMade (H : List Element → Text → Type 0) (out : Text) (m : Made) : Type 0 where
  pub session : Session
  pub names : List Name
  pub outcome : Outcome (List Element)
  pub made_of : MadeOf H m session names outcome out

-- nothing that follows changes what became of the elements: what is denied stays so, and what failed, where every term may be read
abbrev pub decided : Made → Known → Bool
decided Is.Denied known = true
decided Is.No Rights.All = true
decided Is.No (Rights.Until k) = false
decided Is.No Rights.Nothing = false
decided (Is.Done d) known = false

-- The locals of a session, where a `let` is asked for: they fit a copy that has room for its names.
use Rattle.std.specs.Prelude.{ℕ, ◌≤◌, List, length}
use Rattle.language.specs.Text.{Text}
use Rattle.language.specs.Syntax.{Expr}
use Rattle.language.specs.Values.{Session}
use Rattle.permits.specs.Permits.{Sends}
use Rattle.lets.specs.Reaching.{Texts}
use Rattle.lets.specs.Giving.{Starts}

pub record SomeAside (t : Text) (b : Texts) (number at : ℕ) (assertions : List ℕ) (n principals sender : ℕ) : Type 0 where
  pub session : Session
  pub expression : Expr
  pub starts : Starts session expression t b (length b.scope) number at
  pub sends : Sends session b.shared b.slots b.count assertions n principals sender
  pub short : length b.scope ≤ 32768
  pub few : length b.local_slots ≤ 4096

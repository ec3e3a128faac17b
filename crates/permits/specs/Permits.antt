-- Who sends a program, and what the sender may do with a name.
use Rattle.std.specs.Prelude.{◌≡◌, ℕ, Bool, true, not, List, T, length}
use Rattle.language.specs.Text.{Text, when◌then◌else◌, any, member}
use Rattle.language.specs.Syntax.{Name, Right}
use Rattle.language.specs.Values.{Session, is_shared}
use Rattle.language.specs.Chains.{has}
use Rattle.language.specs.Valid.{valid_store}
use Rattle.language.specs.Commands.{met, reads}
use Rattle.store.specs.Held.{Variables}
use Rattle.store.specs.Rows.{position}
use Rattle.named_rights.specs.Numbers as Numbers

-- the shared variables' text, the assertions that stand as numbers, how many principals there are and the number of the sender are those of
-- the session s, whose store is valid
pub record Sends (s : Session) (shared : Text) (slots : List ℕ) (count : ℕ) (assertions : List ℕ) (n principals sender : ℕ) : Type 0 where
  pub shared_held : Variables s.store.variables shared count slots
  pub assertions_held : Numbers.Standing s.store n assertions
  pub everyone : principals ≡ length (Numbers.principals_of s.store)
  pub sender_known : T (member s.sender (Numbers.principals_of s.store))
  pub sender_is : sender ≡ position (Numbers.principals_of s.store) s.sender
  pub is_valid : T (valid_store s.store)

pub record SomeSender (shared : Text) (slots : List ℕ) (count : ℕ) (assertions : List ℕ) (n principals sender : ℕ) : Type 0 where
  pub session : Session
  pub sends : Sends session shared slots count assertions n principals sender

-- the sender has the right r on x, or x is no shared variable and asks for none
abbrev pub allowed_on : Session → Right → Name → Bool
allowed_on s r x = when is_shared s x then has s.store r x s.sender else true

-- the sender may not read one of these names
abbrev pub unread : Session → List Name → Bool
unread s xs = any (λ n. not (met s n)) (reads s xs)

-- What is asked for, once a term has come to something.
use mathlib.Core.Path.{◌≡◌, refl, sym, ap, subst, ◌∙◌}
use Prim.Native.Nat.{ℕ}
use mathlib.Core.Bool.{false, not}
use mathlib.Core.List.{List, [], ◌∷◌, ◌++◌}
use Rattle.language.specs.Text.{Text, any}
use Rattle.language.specs.Syntax.{Name, Expr}
use Rattle.language.specs.State.{Value, Variable}
use Rattle.language.specs.Outcomes.{Outcome, gives, fails, fills, ◌>>=◌}
use Rattle.language.specs.Values.{Session}
use Rattle.language.specs.Commands.{need, reads, met}
use Rattle.language.specs.Syntax.{read}
use Rattle.language.specs.Expressions.{Environment, unbound, value_within, tried, names_within}
use Rattle.permits.specs.Permits.{Sends, unread}
use Rattle.evaluated.specs.declared.Answered.{Answered}
use Rattle.evaluated.specs.declared.Answered.TheVariants as Is
use Rattle.evaluated.specs.Results.{Written}
use Rattle.term_answer.specs.Telling.{Tells}
use Rattle.lets.specs.Frames.{Frame, environment, opening, unwound, unwound_names}
use Rattle.lets.specs.Reaching.{Sinks}
use Rattle.lets.proofs.Unwinding.{unwound_fails, names_fail, names_fill}

-- ---- the locals do not matter for rights

reads_any : (s : Session) (ls : List Variable) (xs : List Name) → reads (environment s ls 0).session xs ≡ reads s xs
reads_any s ls [] = refl
reads_any s ls (x ∷ xs) = ap (λ l. need s (read ∷ []) x ++ l) (reads_any s ls xs)

pub unread_any : (s : Session) (ls : List Variable) (xs : List Name) → unread (environment s ls 0).session xs ≡ unread s xs
unread_any s ls xs = ap (any (λ n. not (met s n))) (reads_any s ls xs)

pub sends_any : {s : Session} {shared : Text} {slots : List ℕ} {count : ℕ} {assertions : List ℕ} {n principals sender : ℕ} (ls : List Variable)
    → Sends s shared slots count assertions n principals sender → Sends (environment s ls 0).session shared slots count assertions n principals sender
sends_any ls W = record {
  shared_held = W.shared_held;
  assertions_held = W.assertions_held;
  everyone = W.everyone;
  sender_known = W.sender_known;
  sender_is = W.sender_is;
  is_valid = W.is_valid;
}

-- ---- a term that may be read

-- what is asked for is what the frames make of o, and of the names only those that they evaluate can be denied
pub record Passed (s : Session) (x : Expr) (frames : List Frame) (o : Outcome Value) : Type 0 where
  pub comes_to_lem : value_within (unbound s) x ≡ unwound s frames o
  pub evaluates : unread s (names_within (unbound s) x) ≡ unread s (unwound_names s frames o)

module _ (s : Session) (x : Expr) where
  pub passed_as : {frames : List Frame} {o p : Outcome Value} → o ≡ p → Passed s x frames o → Passed s x frames p
  passed_as {frames} e P = subst (Passed s x frames) e P

  pub tells_fails : (frames : List Frame) → Passed s x frames fails → (unread s (names_within (unbound s) x) ≡ false) × (value_within (unbound s) x ≡ fails)
  tells_fails frames P = (P.evaluates ∙ ap (unread s) (names_fail s frames), P.comes_to_lem ∙ unwound_fails s frames)

  pub tells_sinks : (frames : List Frame) (r : Answered) (out : Text) → Passed s x frames fills → Sinks r s frames → Tells r s (names_within (unbound s) x) (value_within (unbound s) x) out
  tells_sinks frames Is.Denied out P S = absurd S
  tells_sinks frames Is.Missing out P S = (P.evaluates ∙ ap (unread s) (names_fill s frames), P.comes_to_lem ∙ S)
  tells_sinks frames Is.Heavy out P S = (P.evaluates ∙ ap (unread s) (names_fill s frames), P.comes_to_lem ∙ S)
  tells_sinks frames (Is.Value n w) out P S = absurd S

  pub tells_value : (o : Outcome Value) (out : Text) (n w : ℕ) → Passed s x [] o → Written o out n w
      → Tells (Is.Value n w) s (names_within (unbound s) x) (value_within (unbound s) x) out
  tells_value o out n w P W = (P.evaluates, subst (λ (q : Outcome Value). Written q out n w) (sym P.comes_to_lem) W)

  -- ---- past the innermost frame
  module _ (k : Frame) (rest : List Frame) (o : Outcome Value) (P : Passed s x (k ∷ rest) o) where
    pub enters_fails : opening s k o ≡ fails → Passed s x rest fails
    enters_fails e = record {
      comes_to_lem = P.comes_to_lem ∙ ap (λ (q : Outcome Environment). unwound s rest (q >>= λ inner. value_within inner k.second)) e;
      evaluates = P.evaluates ∙ ap (λ (q : Outcome Environment). unread s (tried q (λ inner. names_within inner k.second) ++ unwound_names s rest (q >>= λ inner. value_within inner k.second))) e;
    }

    pub enters_fills : opening s k o ≡ fills → Passed s x rest fills
    enters_fills e = record {
      comes_to_lem = P.comes_to_lem ∙ ap (λ (q : Outcome Environment). unwound s rest (q >>= λ inner. value_within inner k.second)) e;
      evaluates = P.evaluates ∙ ap (λ (q : Outcome Environment). unread s (tried q (λ inner. names_within inner k.second) ++ unwound_names s rest (q >>= λ inner. value_within inner k.second))) e;
    }

    module _ (env : Environment) (e : opening s k o ≡ gives env) where
      pub second_value : value_within (unbound s) x ≡ unwound s rest (value_within env k.second)
      second_value = P.comes_to_lem ∙ ap (λ (q : Outcome Environment). unwound s rest (q >>= λ inner. value_within inner k.second)) e

      pub second_names : unread s (names_within (unbound s) x) ≡ unread s (names_within env k.second ++ unwound_names s rest (value_within env k.second))
      second_names =
          P.evaluates ∙ ap (λ (q : Outcome Environment). unread s (tried q (λ inner. names_within inner k.second) ++ unwound_names s rest (q >>= λ inner. value_within inner k.second))) e

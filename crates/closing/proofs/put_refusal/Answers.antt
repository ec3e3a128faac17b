-- `closing::put_refusal` meets its contract. Each refusal has its word.
-- Assumes nothing.
use mathlib.Core.Path.{◌≡◌, sym, ap}
use Rattle.language.specs.Run.{refusal_line}
use Rattle.value_text.proofs.Pieces.{rewritten}
use Rattle.refusal.specs.declared.Refusal.{Refusal}
use Rattle.refusal.specs.Refusals.{refusal_meant}
use borrow.Author.Rules.{rules}
use Rattle.closing.proofs.put_refusal.Goals as goal

-- the line of a refusal that the match has told
said : {f g : Refusal} → f ≡ g → refusal_line (refusal_meant g) ≡ refusal_line (refusal_meant f)
said e = ap (λ (h : Refusal). refusal_line (refusal_meant h)) (sym e)

pub returns-in-Denied : goal.returns-in-Denied
returns-in-Denied c = rewritten (said c.in-Denied.is) c.status.ensures

pub returns-in-Failed : goal.returns-in-Failed
returns-in-Failed c = rewritten (said c.in-Failed.is) c.status-in-Failed.ensures

pub returns-in-Full : goal.returns-in-Full
returns-in-Full c = rewritten (said c.in-Full.is) c.status-in-Full.ensures

-- How set delegation and delete delegation end, once nobody denies them.
-- Assumes nothing.
use mathlib.Core.Path.{◌≡◌, sym, ap, subst}
use mathlib.Core.Bool.{Bool, true, false}
use mathlib.Core.List.{List, map}
use Prim.Native.Nat.{ℕ, ◌≤◌}
use lib.Dec.{T}
use lib.ListN.{length, take}
use Rattle.language.specs.Text.{all}
use Rattle.language.specs.Outcomes.{gives, provided, ◌>>◌}
use Rattle.language.specs.Syntax.{Name, Right, Target, set_delegation, delete_delegation}
use Rattle.language.specs.Output.{status}
use Rattle.language.specs.Values.{Session, is_shared, is_principal}
use Rattle.language.specs.Commands.{Effect, effect, done, denied, step, refused, FAILED, targets, assertions_on}
use Rattle.language.proofs.Logic.Tests.{three}
use Rattle.language.proofs.StateText.Names.{named_is}
use Rattle.store.specs.Rows.{position}
use Rattle.named_rights.specs.Numbers.{code, variables}
use Rattle.session.specs.declared.Layout.{Layout}
use Rattle.session.specs.Sessions.{Slices, Running}
use Rattle.session.proofs.Steps.{is_failed}
use Rattle.delegation_rules.specs.declared.Ask.{Ask}
use Rattle.assertion_changes.specs.Entering.{entered, withdrawn}
use Rattle.delegations.specs.Delegates.{Delegates}
use Rattle.delegation_rules.specs.Asking.{Names}
use Rattle.delegation_rules.proofs.Existing.{complete}

module _ (s : Session) (t : Target) (q : Name) (r : Right) (p : Name) where
  pub set_fails : denied s (set_delegation t q r p) ≡ false → complete s t q p ≡ false → step s (set_delegation t q r p) ≡ refused FAILED
  set_fails d e = is_failed s (set_delegation t q r p) d
      (ap (λ (b : Bool). provided b >> done "SET_DELEGATION" (entered s (assertions_on (targets s.store t q) q r p))) e)

  abbrev pub setting : Effect
  setting = record { after = entered s (assertions_on (targets s.store t q) q r p); line = status "SET_DELEGATION" }

  pub set_goes : complete s t q p ≡ true → effect s (set_delegation t q r p) ≡ gives setting
  set_goes e = ap (λ (b : Bool). provided b >> done "SET_DELEGATION" (entered s (assertions_on (targets s.store t q) q r p))) e

  pub delete_fails : denied s (delete_delegation t q r p) ≡ false → complete s t q p ≡ false → step s (delete_delegation t q r p) ≡ refused FAILED
  delete_fails d e = is_failed s (delete_delegation t q r p) d
      (ap (λ (b : Bool). provided b >> done "DELETE_DELEGATION" (withdrawn s (assertions_on (targets s.store t q) q r p))) e)

  abbrev pub deleting : Effect
  deleting = record { after = withdrawn s (assertions_on (targets s.store t q) q r p); line = status "DELETE_DELEGATION" }

  pub delete_goes : complete s t q p ≡ true → effect s (delete_delegation t q r p) ≡ gives deleting
  delete_goes e = ap (λ (b : Bool). provided b >> done "DELETE_DELEGATION" (withdrawn s (assertions_on (targets s.store t q) q r p))) e

  all_there : complete s t q p ≡ true → T (is_principal s p) × T (is_principal s q) × T (all (is_shared s) (targets s.store t q))
  all_there e = three (is_principal s p) (is_principal s q) (all (is_shared s) (targets s.store t q)) (subst T (sym e) tt)

  pub giver_there : complete s t q p ≡ true → T (is_principal s q)
  giver_there e = (all_there e).1

  -- what is entered, or withdrawn
  pub delegates : (l : Layout) (b : Slices) (k : Ask) (chosen : List ℕ) (count right : ℕ) → Running s l b → Names s t q p k → complete s t q p ≡ true
      → count ≤ length chosen → take count chosen ≡ map (position (variables s.store)) (targets s.store t q) → right ≡ code r
      → Delegates s l b chosen count k.giver right k.taker (targets s.store t q) q r p
  delegates l b k chosen count right R N e w h c =
      let (kp, kq, kx) = all_there e in
      record {
        running = R;
        within = w;
        targets_are = h;
        all_shared = kx;
        giver = record { known = named_is q s.store.principals kq; number = N.giver_is };
        right_is = c;
        taker = record { known = named_is p s.store.principals kp; number = N.taker_is };
      }

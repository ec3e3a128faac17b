-- Another password: what the command does to a running session, and what that weighs.
use mathlib.Core.Path.{◌≡◌, sym, ap, ◌∙◌}
use mathlib.Core.Logic.{◌⊎◌}
use mathlib.Core.Bool.{Bool}
use mathlib.Core.Option.{none, some}
use mathlib.Core.List.{List, [], map}
use Prim.Native.Nat.{ℕ, ◌+◌, ◌-◌, ◌≤◌, ◌<◌}
use native.Mathlib.Omega.{arith}
use borrow.Author.Tests.{lt-ltb, le-ltb}
use lib.Dec.{T}
use lib.ListN.{length, take}
use Rattle.language.specs.Text.{Text}
use Rattle.language.specs.Outcomes.{gives, provided, ◌>>◌}
use Rattle.language.specs.Syntax.{Name, change_password}
use Rattle.language.specs.Identifiers.{is_identifier, is_string}
use Rattle.language.specs.Weight.{limit, password_weight, principal_weight}
use Rattle.language.specs.Output.{status}
use Rattle.language.specs.Values.{Session}
use Rattle.language.specs.Commands.{changed, with_store, with_principals, Effect, effect, session_weight, step, refused, went, DENIED, FAILED, FULL, done}
use Rattle.language.proofs.Parsing.ValidPrograms.{valid_command}
use Rattle.language.proofs.Logic.Tests.{both}
use Rattle.language.proofs.Meaning.Adding.{changed_names}
use Rattle.language.proofs.Meaning.Stores.{changed_shape}
use Rattle.language.proofs.Meaning.Weights.{password_weight_lem}
use Rattle.store.specs.Rows.{position}
use Rattle.store.specs.Contents.{principal_at}
use Rattle.store.proofs.Answers.{principal_at_lem}
use Rattle.edits.specs.Changes.{SomePassword}
use Rattle.named_rights.specs.Numbers.{principals_of, variables, numbered}
use Rattle.session.specs.declared.Layout.{Layout}
use Rattle.session.specs.Sessions.{Slices, Running}
use Rattle.session.specs.Endings.{Succeeds}
use Rattle.session.proofs.Steps.{is_denied, is_failed, is_full, is_done, after_ready}
use Rattle.session.proofs.PrincipalsText.{principals_text_lem}
use Rattle.creation.specs.Creating.{with_principal_text}
use Rattle.session.proofs.Denials.{strangers_denied, they_may}
use Rattle.session.proofs.Finding.{is_missing, is_there}
use Rattle.creation.proofs.OtherPrincipals.{with_other_principals, Kept, with_principal_text_lem}
use Rattle.language.proofs.Logic.Lists.{sum_at}

module _ (s : Session) (l : Layout) (b : Slices) (R : Running s l b) (p : Name) (t : Text) (n : ℕ) (n-is : n ≡ position (principals_of s.store) p) where
  abbrev after : Session
  after = with_store s (with_principals s.store (map (changed p t) s.store.principals))

  pub password_denied : (l.sender ≡ 0 → ⊥) → (l.sender ≡ n → ⊥) → step s (change_password p t) ≡ refused DENIED
  password_denied h g = is_denied s (change_password p t) (strangers_denied s l b R p n n-is h g)

  pub password_failed : (l.sender ≡ 0) ⊎ (l.sender ≡ n) → n ≡ l.principals → step s (change_password p t) ≡ refused FAILED
  password_failed m h =
      is_failed s (change_password p t) (they_may s l b R p n n-is m)
      (ap (λ (c : Bool). provided c >> done "CHANGE_PASSWORD" after) (is_missing s l b R p n n-is h))

  module _ (h : n < l.principals) where
    below : n < length s.store.principals
    below = omega (arith, h, R.principals.counted)

    -- the old password is part of the weight, and the new one comes in its place
    pub old_weighs : password_weight (principal_at s.store.principals n).password ≤ l.weight
    old_weighs = omega (arith, R.weighed, sum_at principal_weight s.store.principals n (record { name = []; password = none; count = 0 }) below)

    pub after_weighs : l.weight - password_weight (principal_at s.store.principals n).password + length t ≡ session_weight after
    after_weighs =
        let e = principal_at_lem s.store.principals p (omega (arith, n-is, below)) ∙ ap (λ (k : ℕ). some (principal_at s.store.principals k)) (sym n-is) in
        omega (arith, R.weighed, old_weighs, password_weight_lem p t (principal_at s.store.principals n) s.store.principals R.ready.is_good.store_shape.principals_distinct e)

    module _ (m : (l.sender ≡ 0) ⊎ (l.sender ≡ n)) where
      abbrev out : Effect
      out = record { after = after; line = status "CHANGE_PASSWORD" }

      does : effect s (change_password p t) ≡ gives out
      does = ap (λ (c : Bool). provided c >> done "CHANGE_PASSWORD" after) (is_there s l b R p n n-is h)

      pub password_full : limit < session_weight after → step s (change_password p t) ≡ refused FULL
      password_full w = is_full s (change_password p t) out (they_may s l b R p n n-is m) does (lt-ltb limit (session_weight after) w)

      pub password_done : {text : Text} {slots : List ℕ} {len count weight : ℕ} → Kept s b (map (changed p t) s.store.principals) text slots len count weight
          → T (valid_command (change_password p t)) → Succeeds (step s (change_password p t)) (with_other_principals l len count weight) (with_principal_text b text slots)
      password_done {text} {slots} {len} {count} {weight} K v =
          let light : session_weight after ≤ limit = omega (arith, K.weighed, K.light) in
          let e : step s (change_password p t) ≡ went out = is_done s (change_password p t) out (they_may s l b R p n n-is m) does (le-ltb limit (session_weight after) light) in
          let names = changed_names p t s.store.principals in
          record {
            effect = out;
            is_step = e;
            running = with_principal_text_lem s l b R (map (changed p t) s.store.principals) (record {
              delegator = ap (λ (ps : List Name). position ps s.store.delegator) names;
              sender = ap (λ (ps : List Name). position ps s.sender) names;
              assertions = ap (λ (ps : List Name). map (numbered ps (variables s.store)) s.store.assertions) names;
            }) K (after_ready s (change_password p t) out R.ready v e);
          }

    -- the buffer has room for it
    pub some_password : session_weight after ≤ limit → T (valid_command (change_password p t))
        → SomePassword (take l.principals_len b.principals) l.principals b.principal_slots n t (length b.principals)
    some_password light v =
        let G = changed_shape s.store R.ready.is_good.store_shape p t (both (is_identifier p) (is_string t) v).1 in
        record {
          principals = s.store.principals;
          name = p;
          held = R.principals;
          below = h;
          apart = R.ready.is_good.store_shape.principals_distinct;
          number = n-is;
          fits = omega (arith, light, R.sized.principals_size, principals_text_lem (map (changed p t) s.store.principals) G.order G.principals_valid G.principals_distinct);
        }

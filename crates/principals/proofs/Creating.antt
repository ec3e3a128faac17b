-- A principal is created: what the command does to a running session.
use mathlib.Core.Path.{◌≡◌, refl, sym, ap, ◌∙◌}
use mathlib.Core.Bool.{Bool, not}
use mathlib.Core.Option.{some}
use mathlib.Core.List.{List, [], ◌∷◌, ◌++◌}
use Prim.Native.Nat.{ℕ, ◌<◌}
use native.Mathlib.Omega.{arith}
use borrow.Author.Tests.{lt-ltb, le-ltb}
use lib.Dec.{T}
use lib.ListN.{length}
use Rattle.language.specs.Text.{Text}
use Rattle.language.specs.Outcomes.{gives, provided, ◌>>◌}
use Rattle.language.specs.Syntax.{Name, create_principal, rights}
use Rattle.language.specs.State.{Principal}
use Rattle.language.specs.Weight.{limit}
use Rattle.language.specs.Output.{status}
use Rattle.language.specs.Values.{Session}
use Rattle.language.specs.Commands.{with_store, with_principal, delegations, created, Effect, effect, session_weight, step, refused, DENIED, FAILED, FULL, done}
use Rattle.language.proofs.Parsing.ValidPrograms.{valid_command}
use Rattle.language.proofs.StateText.Names.{named_is}
use Rattle.language.proofs.Meaning.Adding.{added_names, added_there}
use Rattle.store.specs.Rows.{position}
use Rattle.named_rights.specs.Numbers.{principals_of}
use Rattle.session.specs.declared.Layout.{Layout}
use Rattle.session.specs.Sessions.{Slices, Running}
use Rattle.session.specs.Endings.{Succeeds}
use Rattle.session.proofs.Steps.{is_denied, is_failed, is_full, is_done}
use Rattle.session.proofs.Scoping.{everyone}
use Rattle.assertion_changes.proofs.Lists.{entering_grows}
use Rattle.creation.specs.Creating.{New, Gives}
use Rattle.session.proofs.Denials.{others_denied, admin_may}
use Rattle.session.proofs.Finding.{is_missing, is_there}
use Rattle.creation.proofs.Adding.{position_new}

module _ (s : Session) (l : Layout) (b : Slices) (R : Running s l b) (p t : Text) where
  pub create_denied : (l.sender ≡ 0 → ⊥) → step s (create_principal p t) ≡ refused DENIED
  create_denied h = is_denied s (create_principal p t) (others_denied s l b R h)

  module _ (n : ℕ) (n-is : n ≡ position (principals_of s.store) p) (by-admin : l.sender ≡ 0) where
    abbrev after : Session
    after = with_store s (created s.store p t)

    abbrev out : Effect
    out = record { after = after; line = status "CREATE_PRINCIPAL" }

    pub create_failed : n < l.principals → step s (create_principal p t) ≡ refused FAILED
    create_failed h =
        is_failed s (create_principal p t) (admin_may s l b R by-admin)
        (ap (λ (c : Bool). provided (not c) >> done "CREATE_PRINCIPAL" after) (is_there s l b R p n n-is h))

    module _ (new : n ≡ l.principals) where
      does : effect s (create_principal p t) ≡ gives out
      does = ap (λ (c : Bool). provided (not c) >> done "CREATE_PRINCIPAL" after) (is_missing s l b R p n n-is new)

      pub create_new : T (valid_command (create_principal p t)) → New s l b b.principals b.principal_slots p t
      create_new v = record { running = R; principals_are = refl; slots_are = refl; unknown = is_missing s l b R p n n-is new; is_valid = v }

      pub create_full : limit < session_weight after → step s (create_principal p t) ≡ refused FULL
      create_full w = is_full s (create_principal p t) out (admin_may s l b R by-admin) does (lt-ltb limit (session_weight after) w)

      -- too heavy before anything is delegated
      pub create_over : limit < session_weight (with_store s (with_principal s.store p t)) → step s (create_principal p t) ≡ refused FULL
      create_over w = create_full (omega (arith, w, entering_grows s.store.assertions (delegations rights (with_principal s.store p t) s.store.delegator p)))

      pub create_done : (k : Layout) (c : Slices) → Running after k c → Succeeds (step s (create_principal p t)) k c
      create_done k c K = record {
        effect = out;
        is_step = is_done s (create_principal p t) out (admin_may s l b R by-admin) does (le-ltb limit (session_weight after) (omega (arith, K.weighed, K.light)));
        running = K;
      }

      -- the default delegator and the new principal, by number
      pub create_gives : (k : Layout) (c : Slices) → Running (with_store s (with_principal s.store p t)) k c
          → Gives (with_store s (with_principal s.store p t)) k c k.delegator l.principals s.store.delegator p
      create_gives k c K =
          let one : Principal = record { name = p; password = some t; count = 0 } in
          let names : principals_of (with_principal s.store p t) ≡ principals_of s.store ++ (p ∷ []) = added_names s.store.principals one in
          let last : position (principals_of s.store) p ≡ length (principals_of s.store) = sym n-is ∙ new ∙ everyone s l b R in
          record {
            running = K;
            giver = record { known = named_is s.store.delegator (s.store.principals ++ (one ∷ [])) K.ready.is_good.store_shape.delegator_known; number = K.delegator };
            taker = record {
              known = named_is p (s.store.principals ++ (one ∷ [])) (added_there s.store.principals one);
              number = everyone s l b R ∙ sym (ap (λ (ns : List Name). position ns p) names ∙ position_new (principals_of s.store) p last);
            };
          }

-- One principal more in a running session: what it weighs, the room for it, and the numbers that stay.
use mathlib.Core.Path.{◌≡◌, refl, sym, ap, subst, ◌∙◌}
use mathlib.Core.Bool.{Bool, true, false}
use mathlib.Core.Option.{some}
use mathlib.Core.List.{List, [], ◌∷◌, ◌++◌, map, append-nil}
use Prim.Native.Nat.{ℕ, suc, ◌+◌, ◌≤◌, ◌<◌}
use native.Mathlib.Omega.{arith}
use lib.Dec.{T}
use lib.ListN.{length, take}
use Rattle.language.specs.Text.{Text, ◌≟◌, when◌then◌else◌, member}
use Rattle.language.specs.Syntax.{Name}
use Rattle.language.specs.State.{Principal, admin, anyone}
use Rattle.language.specs.Identifiers.{is_identifier, is_name, is_string}
use Rattle.language.specs.Weight.{limit, name_weight, principal_weight}
use Rattle.language.specs.Valid.{valid_assertion}
use Rattle.language.specs.Values.{Session, is_principal}
use Rattle.language.specs.Commands.{with_store, with_principal, session_weight}
use Rattle.language.proofs.Logic.Tests.{both, ==→≡, ==_refl, all_map}
use Rattle.language.proofs.StateText.Names.{is_named, named_is}
use Rattle.language.proofs.StateText.Clean.{identifier_name, name_length}
use Rattle.language.proofs.Meaning.Adding.{added_names, added_keeps}
use Rattle.language.proofs.Meaning.Stores.{added_shape}
use Rattle.language.proofs.Logic.Lists.{sum_append}
use Rattle.language.proofs.Meaning.ValidRuns.{Ready}
use Rattle.store.specs.Held.{Principals}
use Rattle.store.specs.Rows.{position}
use Rattle.named_rights.specs.Numbers.{principals_of, variables, numbered}
use Rattle.named_rights.proofs.Places.{position_lt}
use Rattle.named_rights.proofs.Chains.{first_two}
use Rattle.assertion_list.specs.Known.{known}
use Rattle.assertion_list.proofs.Images.{position_last, numbers_last}
use Rattle.session.specs.declared.Layout.{Layout}
use Rattle.session.specs.Sessions.{Slices, Running}
use Rattle.session.proofs.Scoping.{store_valid, sender_known}
use Rattle.session.proofs.Room.{principals_short, records_few}
use Rattle.store.proofs.NameWeights.{weighs_all}
use Rattle.assertion_changes.proofs.Changes.{valid_known}
use Rattle.creation.specs.Creating.{with_principal_text, New}
use Rattle.creation.proofs.OtherPrincipals.{with_other_principals, Same, with_principal_text_lem}

-- a name that is new, put last
pub position_new : (l : List Name) (x : Name) → position l x ≡ length l → position (l ++ (x ∷ [])) x ≡ length l
position_new [] x h = go (x ≟ x) (==_refl x)
  where
    go : (b : Bool) → T b → ◌≡◌ {A = ℕ} (when b then 0 else 1) 0
    go true t = refl
    go false t = absurd t
position_new (y ∷ l) x h = go (y ≟ x) h (position_new l x)
  where
    go : (b : Bool) → (when b then 0 else suc (position l x)) ≡ suc (length l) → (position l x ≡ length l → position (l ++ (x ∷ [])) x ≡ length l)
        → (when b then 0 else suc (position (l ++ (x ∷ [])) x)) ≡ suc (length l)
    go true h f = absurd (omega (arith, h))
    go false h f = ap suc (f (omega (arith, h)))

module _ (s : Session) (l : Layout) (b : Slices) (text : Text) (slots : List ℕ) (p t : Text) (N : New s l b text slots p t) where
  abbrev one_more : List Principal
  one_more = s.store.principals ++ (record { name = p; password = some t; count = 0 } ∷ [])

  unknown : ¬ T (is_principal s p)
  unknown h = subst T N.unknown h

  -- another name than one that exists
  another : (q : Name) → T (member q (principals_of s.store)) → (p ≟ q) ≡ false
  another q m = go (p ≟ q) (==→≡ p q)
    where
      go : (c : Bool) → (T c → p ≡ q) → c ≡ false
      go true f = absurd (unknown (subst (λ (x : Name). T (is_principal s x)) (sym (f tt)) (is_named q s.store.principals m)))
      go false f = refl

  pub name_weight_lem : name_weight p ≡ length p
  name_weight_lem =
      let two = first_two s.store (store_valid s l b N.running) in
      weighs_all p (another admin (subst (λ (ns : List Name). T (member admin ns)) (sym two.1) tt))
      (another anyone (subst (λ (ns : List Name). T (member anyone ns)) (sym two.1) tt))

  pub added_weighs : l.weight + 11 + length p + length t ≡ session_weight (with_store s (with_principal s.store p t))
  added_weighs = omega (arith, N.running.weighed, name_weight_lem, sum_append principal_weight s.store.principals (record { name = p; password = some t; count = 0 } ∷ []))

  valid_parts : T (is_identifier p) × T (is_string t)
  valid_parts = both (is_identifier p) (is_string t) N.is_valid

  pub added_name : T (is_name p)
  added_name = identifier_name p valid_parts.0

  pub added_held : Principals s.store.principals (take l.principals_len text) l.principals slots
  added_held =
      subst (λ (x : Text). Principals s.store.principals (take l.principals_len x) l.principals slots) N.principals_are
      (subst (λ (m : List ℕ). Principals s.store.principals (take l.principals_len b.principals) l.principals m) N.slots_are N.running.principals)

  module _ (w : l.weight + 11 + length p + length t ≤ limit) where
    pub added_fits : (length text ≤ 65536) × (l.principals_len + 6 + length p + length t ≤ length text) × (l.principals < length slots)
    added_fits =
        let z : length text ≡ 11008 = ap length (sym N.principals_are) ∙ N.running.sized.principals_size in
        let m : length slots ≡ 1024 = ap length (sym N.slots_are) ∙ N.running.sized.principal_slots_size in
        let n = (name_length p added_name).0 in
        (omega (arith, z), omega (arith, z, principals_short s l b N.running), omega (arith, m, n, records_few s l b N.running))

    added_ready : Ready (with_store s (with_principal s.store p t))
    added_ready = record {
      is_good = record {
        store_shape = added_shape s.store N.running.ready.is_good.store_shape p t added_name valid_parts.1 unknown;
        locals_valid = N.running.ready.is_good.locals_valid;
        sender_known = added_keeps s.store.principals (record { name = p; password = some t; count = 0 }) s.sender N.running.ready.is_good.sender_known;
      };
      is_light = omega (arith, added_weighs);
    }

    added_same : Same s one_more
    added_same =
        let ns : List Name = principals_of s.store in
        let xs : List Name = variables s.store in
        let names : map (λ k. k.name) one_more ≡ ns ++ (p ∷ []) = added_names s.store.principals (record { name = p; password = some t; count = 0 }) in
        let stays : (q : Name) → T (member q ns) → position (map (λ k. k.name) one_more) q ≡ position ns q =
        λ q m. ap (λ (l : List Name). position l q) names ∙ position_last ns (p ∷ []) q (position_lt ns q m) in
        let shape = N.running.ready.is_good.store_shape in
        record {
          delegator = stays s.store.delegator (named_is s.store.delegator s.store.principals shape.delegator_known);
          sender = stays s.sender (sender_known s l b N.running);
          assertions =
              (λ i. map (numbered (names i) (sym (append-nil xs) i)) s.store.assertions)
              ∙ numbers_last ns (p ∷ []) xs [] s.store.assertions
              (all_map (valid_assertion s.store) (known ns xs) (valid_known s.store) s.store.assertions shape.assertions_valid);
        }

    -- the buffers after it was added
    pub added_running : (text' : Text) (slots' : List ℕ) (len : ℕ) → Principals one_more (take len text') (l.principals + 1) slots' → len ≤ length text
        → length text' ≡ length text → length slots' ≡ length slots
        → Running (with_store s (with_principal s.store p t)) (with_other_principals l len (l.principals + 1) (l.weight + 11 + length p + length t)) (with_principal_text b text' slots')
    added_running text' slots' len H h z m =
        with_principal_text_lem s l b N.running one_more added_same (record {
          held = H;
          within = subst (λ (x : Text). len ≤ length x) (sym N.principals_are) h;
          text_size = z ∙ ap length (sym N.principals_are);
          slots_size = m ∙ ap length (sym N.slots_are);
          weighed = added_weighs;
          light = w;
        }) added_ready

-- When foreach and filtereach are denied, and what they do.
-- Assumes nothing.
use mathlib.Core.Path.{◌≡◌, refl, ap, ◌∙◌}
use mathlib.Core.Bool.{Bool, true, false, ◌||◌, not}
use mathlib.Core.Option.{Option, none, some}
use mathlib.Core.List.{List, [], ◌∷◌, ◌++◌}
use Rattle.language.specs.Text.{Text, when◌then◌else◌, any}
use Rattle.language.specs.Syntax.{Name, read, write, Expr}
use Rattle.language.specs.State.{Element, list}
use Rattle.language.specs.Chains.{has}
use Rattle.language.specs.Outcomes.{Outcome, gives, fails, fills, ◌>>=◌, from, each_of}
use Rattle.language.specs.Output.{status}
use Rattle.language.specs.Values.{Session, is_shared}
use Rattle.language.specs.Commands.{Need, elements, names_for_each, names_over, reads, met, replaced, filtered, flat, effect, denied, step, refused, FAILED, DENIED, assign}
use Rattle.permits.specs.Permits.{unread}
use Rattle.session.proofs.Steps.{is_denied, is_failed}
use Rattle.foreach_piece.specs.declared.Way.{Way}
use Rattle.foreach_piece.specs.declared.Way.TheVariants.{Replace, Filter}
use Rattle.foreach_piece.specs.Ways.{made, throughout}
use Rattle.foreach_piece.proofs.Joining.{replaced_whole, filtered_whole}
use Rattle.foreach_source.specs.Sources.{forbidden}
use Rattle.foreach_command.specs.Each.{command, putting}

-- ---- who may send them

module _ (s : Session) (x : Name) where
  two_rights : (r w : Bool) (b : Bool) → (not (r || false) || (not (w || false) || b)) ≡ ((not r || not w) || b)
  two_rights true true b = refl
  two_rights true false b = refl
  two_rights false w b = refl

  ruled_by : (b : Bool) (rest : List Need)
      → any (λ n. not (met s n)) (((when b then record { holder = s.sender; one_of = read ∷ []; variable = x } ∷ [] else []) ++ (when b then record { holder = s.sender; one_of = write ∷ []; variable = x } ∷ [] else [])) ++ rest)
      ≡ ((not (when b then has s.store read x s.sender else true) || not (when b then has s.store write x s.sender else true)) || any (λ n. not (met s n)) rest)
  ruled_by true rest = two_rights (has s.store read x s.sender) (has s.store write x s.sender) (any (λ n. not (met s n)) rest)
  ruled_by false rest = refl

module _ (s : Session) (y x : Name) (e : Expr) where
  -- by what the sender may do to the list, and by what is evaluated
  denied_is : (w : Way) → denied s (command w y x e) ≡ (forbidden s x || unread s (names_over s y e (elements s y x)))
  denied_is Replace = ruled_by s x (is_shared s x) (reads s (names_over s y e (elements s y x)))
  denied_is Filter = ruled_by s x (is_shared s x) (reads s (names_over s y e (elements s y x)))

  pub list_denied : (w : Way) → forbidden s x ≡ true → step s (command w y x e) ≡ refused DENIED
  list_denied w h = is_denied s (command w y x e) (denied_is w ∙ ap (λ (b : Bool). b || unread s (names_over s y e (elements s y x))) h)

  module _ (w : Way) (h : forbidden s x ≡ false) where
    denied_after : denied s (command w y x e) ≡ unread s (names_over s y e (elements s y x))
    denied_after = denied_is w ∙ ap (λ (b : Bool). b || unread s (names_over s y e (elements s y x))) h

    pub denied_by : (es : List Element) → elements s y x ≡ some es → denied s (command w y x e) ≡ unread s (names_for_each s y e es)
    denied_by es k = denied_after ∙ ap (λ (o : Option (List Element)). unread s (names_over s y e o)) k

-- ---- what they do

-- the line printed
abbrev pub printed : Way → Text
printed Replace = status "FOREACH"
printed Filter = status "FILTEREACH"

module _ (s : Session) (y x : Name) (e : Expr) where
  flattened : (line : Text) (o : Outcome (List (List Element)))
      → (o >>= λ ls. gives (record { after = assign s x (list (flat ls)); line = line })) ≡ putting s x line (o >>= λ ls. gives (flat ls))
  flattened line (gives ls) = refl
  flattened line fails = refl
  flattened line fills = refl

  pub effect_is : (w : Way) (es : List Element) → elements s y x ≡ some es → effect s (command w y x e) ≡ putting s x (printed w) (throughout (made w s y e) es)
  effect_is Replace es h =
      ap (λ (o : Option (List Element)). from o >>= λ es. putting s x (status "FOREACH") (each_of (replaced s y e) es)) h
      ∙ ap (putting s x (status "FOREACH")) (replaced_whole s y e es)
  effect_is Filter es h =
      ap (λ (o : Option (List Element)). from o >>= λ es. each_of (filtered s y e) es >>= λ ls. gives (record { after = assign s x (list (flat ls)); line = status "FILTEREACH" })) h
      ∙ flattened (status "FILTEREACH") (each_of (filtered s y e) es) ∙ ap (putting s x (status "FILTEREACH")) (filtered_whole s y e es)

  effect_none : (w : Way) → elements s y x ≡ none → effect s (command w y x e) ≡ fails
  effect_none Replace h = ap (λ (o : Option (List Element)). from o >>= λ es. putting s x (status "FOREACH") (each_of (replaced s y e) es)) h
  effect_none Filter h =
      ap (λ (o : Option (List Element)). from o >>= λ es. each_of (filtered s y e) es >>= λ ls. gives (record { after = assign s x (list (flat ls)); line = status "FILTEREACH" })) h

  -- ---- how they end

  module _ (w : Way) (h : forbidden s x ≡ false) where
    pub ends_without : elements s y x ≡ none → step s (command w y x e) ≡ refused FAILED
    ends_without k =
        is_failed s (command w y x e) (denied_after s y x e w h ∙ ap (λ (o : Option (List Element)). unread s (names_over s y e o)) k) (effect_none w k)

    module _ (es : List Element) (k : elements s y x ≡ some es) where
      pub ends_denied : unread s (names_for_each s y e es) ≡ true → step s (command w y x e) ≡ refused DENIED
      ends_denied q = is_denied s (command w y x e) (denied_by s y x e w h es k ∙ q)

      pub ends_failed : unread s (names_for_each s y e es) ≡ false → throughout (made w s y e) es ≡ fails → step s (command w y x e) ≡ refused FAILED
      ends_failed q f = is_failed s (command w y x e) (denied_by s y x e w h es k ∙ q) (effect_is w es k ∙ ap (putting s x (printed w)) f)

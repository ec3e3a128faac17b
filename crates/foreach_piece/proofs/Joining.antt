-- What becomes of each element, one after the other; and that foreach and filtereach are defined by it.
-- Assumes nothing.
use mathlib.Core.Path.{◌≡◌, refl, sym, ap, ◌∙◌}
use mathlib.Core.List.{List, [], ◌∷◌, ◌++◌, append_assoc, append-nil}
use Rattle.language.specs.Syntax.{Name, Expr}
use Rattle.language.specs.State.{Element, Value}
use Rattle.language.specs.Outcomes.{Outcome, gives, fails, fills, ◌>>=◌, from, with_others, each_of}
use Rattle.language.specs.Values.{Session, as_element}
use Rattle.language.specs.Expressions.{value}
use Rattle.language.specs.Commands.{with_element, replaced, filtered, flat}
use Rattle.foreach_piece.specs.declared.Way.TheVariants.{Replace, Filter}
use Rattle.foreach_piece.specs.Ways.{becomes, made, together, throughout}

-- ---- in a row

together_none : (o : Outcome (List Element)) → o ≡ together (gives []) o
together_none (gives m) = refl
together_none fails = refl
together_none fills = refl

none_together : (o : Outcome (List Element)) → together o (gives []) ≡ o
none_together (gives m) = ap gives (append-nil m)
none_together fails = refl
none_together fills = refl

together_assoc : (o p q : Outcome (List Element)) → together o (together p q) ≡ together (together o p) q
together_assoc (gives k) (gives l) (gives m) = ap gives (sym (append_assoc k l m))
together_assoc (gives k) (gives l) fails = refl
together_assoc (gives k) (gives l) fills = refl
together_assoc (gives k) fails q = refl
together_assoc (gives k) fills (gives m) = refl
together_assoc (gives k) fills fails = refl
together_assoc (gives k) fills fills = refl
together_assoc fails p q = refl
together_assoc fills (gives l) (gives m) = refl
together_assoc fills (gives l) fails = refl
together_assoc fills (gives l) fills = refl
together_assoc fills fails q = refl
together_assoc fills fills (gives m) = refl
together_assoc fills fills fails = refl
together_assoc fills fills fills = refl

pub together_fails : (o : Outcome (List Element)) → together o fails ≡ fails
together_fails (gives l) = refl
together_fails fails = refl
together_fails fills = refl

module _ (f : Element → Outcome (List Element)) where
  pub throughout_together : (l m : List Element) → throughout f (l ++ m) ≡ together (throughout f l) (throughout f m)
  throughout_together [] m = together_none (throughout f m)
  throughout_together (a ∷ l) m = ap (together (f a)) (throughout_together l m) ∙ together_assoc (f a) (throughout f l) (throughout f m)

  pub throughout_last : (l : List Element) (a : Element) → throughout f (l ++ (a ∷ [])) ≡ together (throughout f l) (f a)
  throughout_last l a = throughout_together l (a ∷ []) ∙ ap (together (throughout f l)) (none_together (f a))

  -- what failed fails, whatever follows
  pub throughout_fails : (l m : List Element) → throughout f l ≡ fails → throughout f (l ++ m) ≡ fails
  throughout_fails l m h = throughout_together l m ∙ ap (λ (o : Outcome (List Element)). together o (throughout f m)) h

-- ---- as the definitions say it

module _ (s : Session) (y : Name) (x : Expr) where
  pub replaced_whole : (es : List Element) → each_of (replaced s y x) es ≡ throughout (made Replace s y x) es
  replaced_whole [] = refl
  replaced_whole (a ∷ es) = ap (with_others (replaced s y x a)) (replaced_whole es) ∙ go (value (with_element s y a) x) (throughout (made Replace s y x) es)
    where
      others : (o : Outcome Element) (p : Outcome (List Element)) → with_others o p ≡ together (o >>= λ e. gives (e ∷ [])) p
      others (gives e) (gives l) = refl
      others (gives e) fails = refl
      others (gives e) fills = refl
      others fails p = refl
      others fills (gives l) = refl
      others fills fails = refl
      others fills fills = refl

      go : (o : Outcome Value) (p : Outcome (List Element)) → with_others (o >>= λ v. from (as_element v)) p ≡ together (o >>= becomes Replace a) p
      go (gives v) p = others (from (as_element v)) p
      go fails p = refl
      go fills (gives l) = refl
      go fills fails = refl
      go fills fills = refl

  pub filtered_whole : (es : List Element) → (each_of (filtered s y x) es >>= λ ls. gives (flat ls)) ≡ throughout (made Filter s y x) es
  filtered_whole [] = refl
  filtered_whole (a ∷ es) = go (filtered s y x a) (each_of (filtered s y x) es) ∙ ap (together (made Filter s y x a)) (filtered_whole es)
    where
      go : (o : Outcome (List Element)) (p : Outcome (List (List Element))) → (with_others o p >>= λ ls. gives (flat ls)) ≡ together o (p >>= λ ls. gives (flat ls))
      go (gives l) (gives m) = refl
      go (gives l) fails = refl
      go (gives l) fills = refl
      go fails p = refl
      go fills (gives m) = refl
      go fills fails = refl
      go fills fills = refl

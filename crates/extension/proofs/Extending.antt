-- What a value adds to a list, and which list it is.
-- Assumes nothing.
use mathlib.Core.Path.{◌≡◌, refl, sym, ap, subst, ◌∙◌}
use mathlib.Core.Option.{Option, none, some}
use mathlib.Core.List.{List, [], ◌∷◌, ◌++◌, append-nil}
use Prim.Native.Nat.{ℕ, ◌+◌, ◌-◌}
use native.Mathlib.Nat.{sub-zero}
use native.Mathlib.Omega.{arith}
use lib.ListN.{length, take, drop}
use lib.Seq.{take-length}
use Rattle.language.specs.Text.{Text, all, joined, ◌or_else◌}
use Rattle.language.specs.State.{Element, string, fields, Value, single, list}
use Rattle.language.specs.Encode.{element_text}
use Rattle.language.specs.Valid.{valid_element}
use Rattle.language.specs.Commands.{extend}
use Rattle.language.proofs.Logic.Tests.{and}
use Rattle.values.specs.Answers.{kind_of}
use Rattle.values.specs.declared.Kind.{Kind}
use Rattle.values.specs.declared.Kind.TheVariants as Is
use Rattle.variable_text.specs.Puts.{Weighs}
use Rattle.extension.specs.Extensions.{added_by, Adds}

pub extend_adds : (es : List Element) (v : Value) → es ++ added_by v ≡ extend es v
extend_adds es (single e) = refl
extend_adds es (list fs) = refl

-- ---- by the kind of the value

abbrev pub start_by : Kind → ℕ
start_by Is.Text = 0
start_by Is.Record = 0
start_by Is.List = 2

abbrev pub weight_by : Kind → ℕ → ℕ
weight_by Is.Text w = w + 1
weight_by Is.Record w = w + 1
weight_by Is.List w = w

one_element : (e : Element) (t : Text) (w : ℕ) → Weighs (single e) t w → Adds (single e) t 0 (w + 1)
one_element e t w W = record {
  within = omega arith;
  extra = record {
    are_valid = and (valid_element e) (all valid_element []) W.held.is_valid tt;
    is_text_lem = ap (λ (n : ℕ). take n t) (sub-zero (length t)) ∙ take-length t ∙ W.held.is_text_lem ∙ sym (append-nil (element_text e));
    weighs = omega (arith, W.weighs);
  };
  small = omega (arith, W.light);
}

its_elements : (fs : List Element) (t : Text) (w : ℕ) → Weighs (list fs) t w → Adds (list fs) t 2 w
its_elements fs t w W = record {
  within = omega (arith, ap length W.held.is_text_lem);
  extra = record {
    are_valid = W.held.is_valid;
    is_text_lem = ap (λ (z : Text). take (length z - 2) (drop 2 z)) W.held.is_text_lem ∙ ap (λ (n : ℕ). take n (joined element_text fs)) less ∙ take-length (joined element_text fs);
    weighs = W.weighs;
  };
  small = omega (arith, W.light);
}
  where
    less : length (76 ∷ 10 ∷ joined element_text fs) - 2 ≡ length (joined element_text fs)
    less = omega arith

pub adds : (v : Value) (t : Text) (w : ℕ) → Weighs v t w → Adds v t (start_by (kind_of v)) (weight_by (kind_of v) w)
adds (single (string u)) t w W = one_element (string u) t w W
adds (single (fields fs)) t w W = one_element (fields fs) t w W
adds (list fs) t w W = its_elements fs t w W

pub adds_by : (v : Value) (t : Text) (w : ℕ) → Weighs v t w → (r k : Kind) → r ≡ kind_of v → r ≡ k → Adds v t (start_by k) (weight_by k w)
adds_by v t w W r k e f = subst (λ (z : Kind). Adds v t (start_by z) (weight_by z w)) (sym e ∙ f) (adds v t w W)

-- ---- where the list is

pub none_some : {A : Type 0} {o : Option A} {a : A} → o ≡ none → o ≡ some a → ⊥
none_some e f = let z : ◌≡◌ {A = ℕ} 0 1 = cc in omega arith

pub in_first : {A : Type 0} (o p : Option A) {a b : A} → o ≡ some a → (o or_else p) ≡ some b → o ≡ some b
in_first none p e f = absurd (none_some refl e)
in_first (some c) p e f = f

pub in_second : {A : Type 0} (o p : Option A) {b : A} → o ≡ none → (o or_else p) ≡ some b → p ≡ some b
in_second none p e f = f
in_second (some c) p e f = absurd (none_some e refl)

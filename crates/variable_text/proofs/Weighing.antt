-- What a change of the variables in one text does to the session's weight, and that there is room for it.
-- Assumes nothing.
use mathlib.Core.Path.{◌≡◌, sym, ap, subst, ◌∙◌}
use mathlib.Core.Option.{Option, none, some}
use mathlib.Core.List.{List, [], ◌∷◌, ◌++◌}
use Prim.Native.Nat.{ℕ, ◌+◌, ◌*◌, ◌-◌, ◌≤◌, ◌<◌}
use native.Mathlib.Omega.{arith}
use lib.Dec.{T}
use lib.ListN.{length, take, length-append}
use lib.Seq.{length-take-le}
use Rattle.language.specs.Text.{Text, all, sum, present}
use Rattle.language.specs.Syntax.{Name}
use Rattle.language.specs.State.{Element, Value, list, Variable, value_in, put}
use Rattle.language.specs.Identifiers.{is_name}
use Rattle.language.specs.Weight.{limit, element_weight, value_weight, variable_weight}
use Rattle.language.specs.Encode.{variable_text, variables_text, value_text}
use Rattle.language.specs.Valid.{valid_element, valid_value, valid_variable}
use Rattle.language.proofs.Logic.Tests.{both, and, all_append}
use Rattle.language.proofs.StateText.Bound.{variables_bound}
use Rattle.language.proofs.StateText.Names.{variable_name}
use Rattle.language.proofs.Meaning.Adding.{put_all}
use Rattle.language.proofs.Logic.Lists.{sum_append, sum_at}
use Rattle.language.proofs.Meaning.Weights.{put_old, put_new}
use Rattle.store.specs.Held.{Variables, places}
use Rattle.text.specs.Parts.{part}
use Rattle.store.specs.Rows.{position}
use Rattle.store.specs.Contents.{variable_at}
use Rattle.contents.specs.Contents.{ValueAt}
use Rattle.store.proofs.Records.{all_at, joined_append}
use Rattle.store.proofs.Answers.{value_at}
use Rattle.store.proofs.Holders.{variable_text_lem}
use Rattle.edits.specs.Changes.{variable_names}
use Rattle.edits.proofs.Putting as Putting
use Rattle.values.specs.Encoding.{Holds}
use Rattle.language.proofs.StateText.Least.{variables_weigh}
use Rattle.variable_text.specs.Puts.{Lies, Weighs, Extra, Became, Becomes}
use Rattle.variable_text.specs.declared.Put.{Put}
use Rattle.variable_text.specs.declared.Put.TheVariants as Is

-- the value of variable k, and that it is valid
pub value_holds : (vs : List Variable) (t : Text) (k s e : ℕ) → T (all valid_variable vs) → k < length vs → ValueAt vs t k s e → Holds (variable_at vs k).value (part t s e)
value_holds vs t k s e h l A = record {
  is_valid = (both (is_name (variable_at vs k).name) (valid_value (variable_at vs k).value) (all_at valid_variable vs k (record { name = []; value = list [] }) h l)).1;
  is_text_lem = A.is_value;
}

-- variables that are not too heavy are short
pub fits : (ws : List Variable) → T (all valid_variable ws) → sum variable_weight ws ≤ limit → length (variables_text ws) ≤ 32768
fits ws h k = omega (arith, variables_bound ws h)

module _ {vs : List Variable} {buf : Text} {len count : ℕ} {slots : List ℕ} {total : ℕ} (L : Lies vs buf len count slots total) where
  pub len_is : len ≡ length (variables_text vs)
  len_is = sym (length-take-le len buf L.within) ∙ ap length L.held.is_text_lem

  module _ (x : Name) (k : ℕ) (h : k < count) (n : k ≡ position (variable_names vs) x) where
    below : k < length vs
    below = omega (arith, L.held.counted)

    pub old_value : value_in vs x ≡ some (variable_at vs k).value
    old_value = value_at vs x (omega (arith, n, below)) ∙ ap (λ (m : ℕ). some (variable_at vs m).value) (sym n)

    pub old_within : value_weight (variable_at vs k).value ≤ total
    old_within = omega (arith, sum_at variable_weight vs k (record { name = []; value = list [] }) below, L.weight_within)

    put_valid : (v : Value) → T (valid_value v) → T (all valid_variable (put x v vs))
    put_valid v i =
        put_all valid_variable x v vs
        (and (is_name x) (valid_value v) (variable_name x vs L.are_valid (subst (λ (o : Option Value). T (present o)) (sym old_value) tt)) i) L.are_valid

    -- ---- another value

    module _ (v : Value) (src : Text) (weight : ℕ) (W : Weighs v src weight) (old : ℕ) (q : old ≡ value_weight (variable_at vs k).value) where
      grown : sum variable_weight (put x v vs) + old ≡ sum variable_weight vs + weight
      grown = omega (arith, q, W.weighs, put_old x (variable_at vs k).value v vs old_value)

      pub replaced_full : limit < total - old + weight → limit + sum variable_weight vs < total + sum variable_weight (put x v vs)
      replaced_full f = omega (arith, grown, q, old_within)

      pub replaced_fits : total - old + weight ≤ limit → length (variables_text (put x v vs)) ≤ 32768
      replaced_fits f = fits (put x v vs) (put_valid v W.held.is_valid) (omega (arith, grown, q, old_within, L.weight_within))

      pub replaced : (buf' : Text) (r : ℕ) (slots' : List ℕ) → total - old + weight ≤ limit → length buf' ≡ length buf → length slots' ≡ length slots → r ≤ length buf
          → Variables (put x v vs) (take r buf') count slots' → Became vs (put x v vs) total buf' r count slots' (total - old + weight)
      replaced buf' r slots' f e m l H = record {
        slots_size = m ∙ L.slots_size;
        held = H;
        within = omega (arith, e, l);
        weighs = omega (arith, grown, q, old_within);
        light = f;
      }

    -- ---- more elements

    module _ (es fs : List Element) (i : value_in vs x ≡ some (list es)) (src : Text) (weight : ℕ) (E : Extra fs src weight) where
      is_list : (variable_at vs k).value ≡ list es
      is_list = some_same (sym old_value ∙ i)
        where
          some_same : {a b : Value} → some a ≡ some b → a ≡ b
          some_same e = cc

      lengthened : sum variable_weight (put x (list (es ++ fs)) vs) ≡ sum variable_weight vs + weight
      lengthened =
          let a : sum variable_weight (put x (list (es ++ fs)) vs) + value_weight (list es) ≡ sum variable_weight vs + value_weight (list (es ++ fs)) = put_old x (list es) (list (es ++ fs)) vs i in
          let b : value_weight (list (es ++ fs)) ≡ value_weight (list es) + sum (λ e. 1 + element_weight e) fs = sum_append (λ e. 1 + element_weight e) es fs in
          omega (arith, a, b, E.weighs)

      pub both_valid : T (all valid_element (es ++ fs))
      both_valid =
          all_append valid_element es fs
          (subst (λ (v : Value). T (valid_value v)) is_list
          (both (is_name (variable_at vs k).name) (valid_value (variable_at vs k).value) (all_at valid_variable vs k (record { name = []; value = list [] }) L.are_valid below)).1)
          E.are_valid

      pub extended_full : limit < total + weight → limit + sum variable_weight vs < total + sum variable_weight (put x (list (es ++ fs)) vs)
      extended_full f = omega (arith, lengthened)

      pub extended_fits : total + weight ≤ limit → length (variables_text (put x (list (es ++ fs)) vs)) ≤ 32768
      extended_fits f = fits (put x (list (es ++ fs)) vs) (put_valid (list (es ++ fs)) both_valid) (omega (arith, lengthened, L.weight_within))

      pub extended : (buf' : Text) (r : ℕ) (slots' : List ℕ) → total + weight ≤ limit → length buf' ≡ length buf → length slots' ≡ length slots → r ≤ length buf
          → Variables (put x (list (es ++ fs)) vs) (take r buf') count slots' → Became vs (put x (list (es ++ fs)) vs) total buf' r count slots' (total + weight)
      extended buf' r slots' f e m l H = record {
        slots_size = m ∙ L.slots_size;
        held = H;
        within = omega (arith, e, l);
        weighs = omega (arith, lengthened);
        light = f;
      }

  -- ---- a variable more

  pub few : 2 * count ≤ total
  few = omega (arith, variables_weigh vs L.are_valid, L.held.counted, L.weight_within)

  module _ (x : Name) (v : Value) (src : Text) (weight : ℕ) (N : T (is_name x)) (W : Weighs v src weight) where
    pub added_room : total + 1 + length x + weight ≤ limit → (length buf ≤ places) × (len + 3 + length x + length src ≤ length buf) × (count < length slots)
    added_room f =
        let ws : List Variable = vs ++ (record { name = x; value = v } ∷ []) in
        let valid : T (all valid_variable ws) = all_append valid_variable vs (record { name = x; value = v } ∷ []) L.are_valid (and (valid_variable (record { name = x; value = v })) (all valid_variable []) (and (is_name x) (valid_value v) N W.held.is_valid) tt) in
        let w : sum variable_weight ws ≡ sum variable_weight vs + (1 + length x + value_weight v + 0) = sum_append variable_weight vs (record { name = x; value = v } ∷ []) in
        let short : length (variables_text ws) ≤ 32768 = fits ws valid (omega (arith, w, W.weighs, L.weight_within)) in
        let t : length (variables_text ws) ≡ length (variables_text vs) + (length (variable_text x v) + 0) =
        ap length (joined_append (λ (z : Variable). variable_text z.name z.value) vs (record { name = x; value = v } ∷ []))
        ∙ length-append (variables_text vs) _ ∙ omega (arith, length-append (variable_text x v) []) in
        let u : length (variable_text x v) ≡ 3 + length x + length src =
        ap length (variable_text_lem x v) ∙ omega (arith, length-append x (9 ∷ value_text v), ap length W.held.is_text_lem) in
        (omega (arith, L.small), omega (arith, L.room, len_is), omega (arith, L.slots_size, few))

    module _ (new : value_in vs x ≡ none) where
      more : sum variable_weight (put x v vs) ≡ sum variable_weight vs + (1 + length x + weight)
      more = omega (arith, put_new x v vs new, W.weighs)

      pub added_full : limit < total + 1 + length x + weight → limit + sum variable_weight vs < total + sum variable_weight (put x v vs)
      added_full f = omega (arith, more)

      pub added : (buf' : Text) (r : ℕ) (slots' : List ℕ) → total + 1 + length x + weight ≤ limit → length buf' ≡ length buf → length slots' ≡ length slots → r ≤ length buf
          → Variables (vs ++ (record { name = x; value = v } ∷ [])) (take r buf') (count + 1) slots'
          → Became vs (put x v vs) total buf' r (count + 1) slots' (total + 1 + length x + weight)
      added buf' r slots' f e m l H = record {
        slots_size = m ∙ L.slots_size;
        held = subst (λ (ws : List Variable). Variables ws (take r buf') (count + 1) slots') (sym (Putting.put_new vs x v new)) H;
        within = omega (arith, e, l);
        weighs = omega (arith, more);
        light = f;
      }

-- ---- the answer

module _ (vs ws : List Variable) (total : ℕ) (r : Put) (buf : Text) (count : ℕ) (slots : List ℕ) (B : Becomes vs ws total r buf count slots) where
  pub put_full : r ≡ Is.Full → limit + sum variable_weight vs < total + sum variable_weight ws
  put_full e = subst (λ (z : Put). Becomes vs ws total z buf count slots) e B

  pub put_done : (n w : ℕ) → r ≡ Is.Done n w → Became vs ws total buf n count slots w
  put_done n w e = subst (λ (z : Put). Becomes vs ws total z buf count slots) e B

-- `application::priced` meets its contract. Two prices, and the price that the operation makes of them; where there is none it fails.
-- Assumes nothing.
use mathlib.Core.Path.{◌≡◌, sym, ap, subst, ◌∙◌}
use mathlib.Core.List.{[], ◌∷◌}
use Prim.Native.Nat.{ℕ, ◌+◌, ◌≤◌}
use native.Mathlib.Omega.{arith}
use mathlib.Core.Option.{some}
use lib.Dec.{T, leb→le}
use lib.IntN.{ℤ, nat_abs}
use mir.Syntax.{w64}
use mir.Val.{to_z, of_z}
use lib.ListN.{length, length-append}
use Rattle.language.specs.State.{string}
use Rattle.language.specs.Encode.{element_text}
use Rattle.language.specs.Prices.{greatest, in_range, price_text, price, reckoned}
use Rattle.language.proofs.Meaning.Prices.{price_in_range, price_length, price_string}
use Rattle.amounts.specs.Amounts.{amount_meant}
use Rattle.amounts.proofs.Fitting.{amount_again}
use Rattle.syntax.specs.Values.{operation_meant}
use Rattle.evaluated.proofs.Putting.{value_put}
use Rattle.application.proofs.Heavier.{no_first_price, no_second_price, no_result, result_range, price_light}
use Rattle.std.proofs.Common.{zero-add}
use Rattle.application.proofs.priced.Goals as goal

pub returns-in_default : goal.returns-in_default
returns-in_default c =
    no_first_price (operation_meant c.args.o) c.args.first.now c.args.second.now (sym c.price_in-one.ensures ∙ ap amount_meant c.in_default.is)

-- an amount that was read is in range, and so are its bits
kept_range : (a : ℤ) → T (in_range a) → nat_abs (to_z w64 (of_z w64 a)) ≤ greatest
kept_range a h = subst (λ (b : ℤ). nat_abs b ≤ greatest) (sym (amount_again a h)) (leb→le (nat_abs a) greatest h)

pub returns-in_default-other : goal.returns-in_default-other
returns-in_default-other c =
    let first_price : price c.args.first.now ≡ some c.in-Some.a = sym c.price_in-one.ensures ∙ ap amount_meant c.in-Some.is in
    no_second_price (operation_meant c.args.o) c.args.first.now c.args.second.now first_price (sym c.price_in-other.ensures ∙ ap amount_meant c.in_default-other.is)

pub reckon-result-requires : goal.reckon-result-requires
reckon-result-requires c =
    let first_price : price c.args.first.now ≡ some c.in-Some.a = sym c.price_in-one.ensures ∙ ap amount_meant c.in-Some.is in
    let second_price : price c.args.second.now ≡ some c.in-Some-other.b = sym c.price_in-other.ensures ∙ ap amount_meant c.in-Some-other.is in
    (kept_range c.in-Some.a (price_in_range c.args.first.now c.in-Some.a first_price), kept_range c.in-Some-other.b (price_in_range c.args.second.now c.in-Some-other.b second_price))

pub returns-in_default-result : goal.returns-in_default-result
returns-in_default-result c =
    let o = operation_meant c.args.o in
    let first_price : price c.args.first.now ≡ some c.in-Some.a = sym c.price_in-one.ensures ∙ ap amount_meant c.in-Some.is in
    let second_price : price c.args.second.now ≡ some c.in-Some-other.b = sym c.price_in-other.ensures ∙ ap amount_meant c.in-Some-other.is in
    let reckoned_is : amount_meant c.reckon-result.result ≡ reckoned o c.in-Some.a c.in-Some-other.b =
    c.reckon-result.ensures
    ∙ (λ i. reckoned o (amount_again c.in-Some.a (price_in_range c.args.first.now c.in-Some.a first_price) i) (amount_again c.in-Some-other.b (price_in_range c.args.second.now c.in-Some-other.b second_price) i)) in
    no_result o c.args.first.now c.args.second.now first_price second_price (sym reckoned_is ∙ ap amount_meant c.in_default-result.is)

pub put_amount-len-requires : goal.put_amount-len-requires
put_amount-len-requires c =
    let o = operation_meant c.args.o in
    let first_price : price c.args.first.now ≡ some c.in-Some.a = sym c.price_in-one.ensures ∙ ap amount_meant c.in-Some.is in
    let second_price : price c.args.second.now ≡ some c.in-Some-other.b = sym c.price_in-other.ensures ∙ ap amount_meant c.in-Some-other.is in
    let reckoned_is : amount_meant c.reckon-result.result ≡ reckoned o c.in-Some.a c.in-Some-other.b =
    c.reckon-result.ensures
    ∙ (λ i. reckoned o (amount_again c.in-Some.a (price_in_range c.args.first.now c.in-Some.a first_price) i) (amount_again c.in-Some-other.b (price_in_range c.args.second.now c.in-Some-other.b second_price) i)) in
    let is_result : reckoned o c.in-Some.a c.in-Some-other.b ≡ some c.in-Some-result.c = sym reckoned_is ∙ ap amount_meant c.in-Some-result.is in
    (kept_range c.in-Some-result.c (result_range o c.args.first.now c.args.second.now first_price second_price is_result), omega (arith, c.requires))

-- how long the text is
text_length : (a : ℤ) → length (element_text (string (price_text a))) ≡ length (price_text a) + 3
text_length a = omega (arith, length-append (price_text a) (10 ∷ []))

written : (amount : ℤ) → T (in_range amount) → (n : ℕ) → n ≡ length (element_text (string (price_text (to_z w64 (of_z w64 amount))))) → n ≡ length (price_text amount) + 3
written amount h n e = e ∙ ap (λ (a : ℤ). length (element_text (string (price_text a)))) (amount_again amount h) ∙ text_length amount

pub overflow_sub-result : goal.overflow_sub-result
overflow_sub-result c =
    let o = operation_meant c.args.o in
    let first_price : price c.args.first.now ≡ some c.in-Some.a = sym c.price_in-one.ensures ∙ ap amount_meant c.in-Some.is in
    let second_price : price c.args.second.now ≡ some c.in-Some-other.b = sym c.price_in-other.ensures ∙ ap amount_meant c.in-Some-other.is in
    let reckoned_is : amount_meant c.reckon-result.result ≡ reckoned o c.in-Some.a c.in-Some-other.b =
    c.reckon-result.ensures
    ∙ (λ i. reckoned o (amount_again c.in-Some.a (price_in_range c.args.first.now c.in-Some.a first_price) i) (amount_again c.in-Some-other.b (price_in_range c.args.second.now c.in-Some-other.b second_price) i)) in
    let is_result : reckoned o c.in-Some.a c.in-Some-other.b ≡ some c.in-Some-result.c = sym reckoned_is ∙ ap amount_meant c.in-Some-result.is in
    omega (arith, written c.in-Some-result.c (result_range o c.args.first.now c.args.second.now first_price second_price is_result) c.put_amount-len.result (c.put_amount-len.ensures.ends ∙ zero-add _))

pub returns : goal.returns
returns c =
    let o = operation_meant c.args.o in
    let amount = c.in-Some-result.c in
    let first_price : price c.args.first.now ≡ some c.in-Some.a = sym c.price_in-one.ensures ∙ ap amount_meant c.in-Some.is in
    let second_price : price c.args.second.now ≡ some c.in-Some-other.b = sym c.price_in-other.ensures ∙ ap amount_meant c.in-Some-other.is in
    let reckoned_is : amount_meant c.reckon-result.result ≡ reckoned o c.in-Some.a c.in-Some-other.b =
    c.reckon-result.ensures
    ∙ (λ i. reckoned o (amount_again c.in-Some.a (price_in_range c.args.first.now c.in-Some.a first_price) i) (amount_again c.in-Some-other.b (price_in_range c.args.second.now c.in-Some-other.b second_price) i)) in
    let is_result : reckoned o c.in-Some.a c.in-Some-other.b ≡ some amount = sym reckoned_is ∙ ap amount_meant c.in-Some-result.is in
    let h = result_range o c.args.first.now c.args.second.now first_price second_price is_result in
    let n : c.put_amount-len.result ≡ length (price_text amount) + 3 = written amount h c.put_amount-len.result (c.put_amount-len.ensures.ends ∙ zero-add _) in
    let l : length (price_text amount) ≤ 11 = price_length amount h in
    value_put _ _ _ _ _ _ _
    (price_light o c.args.first.now c.args.second.now first_price second_price is_result)
    (record { is_valid = price_string amount h; is_text_lem = ap (λ (z : ℤ). element_text (string (price_text z))) (amount_again amount h) })
    c.put_amount-len.ensures (omega (arith, n)) (omega (arith, l, n))

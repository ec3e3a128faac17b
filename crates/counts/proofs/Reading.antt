-- The number that stands where a principal's count starts is that count.
-- Assumes nothing.
use mathlib.Core.Path.{◌≡◌, refl, sym, ap, ◌∙◌}
use mathlib.Core.Bool.{◌&&◌}
use mathlib.Core.Option.{none}
use mathlib.Core.List.{List, [], ◌∷◌, ◌++◌, map, append_assoc}
use Prim.Native.Nat.{ℕ, suc, ◌+◌, ◌≤◌, ◌<◌}
use native.Mathlib.Omega.{arith}
use lib.Dec.{T, leb, leb→le}
use lib.ListN.{length, drop, length-append, length-drop}
use Rattle.language.specs.Text.{Text, all, decimal}
use Rattle.language.specs.State.{Principal, last_count}
use Rattle.language.specs.Identifiers.{is_name}
use Rattle.language.specs.Valid.{valid_password, valid_principal}
use Rattle.language.specs.Encode.{newline}
use Rattle.language.specs.Decode.{number}
use Rattle.language.proofs.Logic.Tests.{both}
use Rattle.language.proofs.StateText.Clean.{decimal_number}
use Rattle.language.proofs.StateText.Digits.{decimal_digits}
use Rattle.store.specs.Rows.{start_of, principal_row}
use Rattle.store.specs.Contents.{principal_at}
use Rattle.store.proofs.Records.{all_at}
use Rattle.contents.specs.Contents.{CountAt}
use Rattle.lines.specs.Cuts.{is_digit, Digits}
use Rattle.lines.proofs.Cuts.{unique}
use Rattle.counts.specs.Counted.{Counted}

module _ (ks : List Principal) (t : Text) (k : ℕ) (valid : T (all valid_principal ks)) (below : k < length ks) (s : ℕ) (C : CountAt ks t k s) where
  pub count_bound : (principal_at ks k).count ≤ last_count
  count_bound =
      let p : Principal = principal_at ks k in
      let v : T (valid_principal p) = all_at valid_principal ks k (record { name = []; password = none; count = 0 }) valid below in
      leb→le p.count last_count (both (is_name p.name && valid_password p.password) (leb p.count last_count) v).1

  pub digits_here : drop s t ≡ decimal (principal_at ks k).count ++ newline ∷ drop (start_of (map principal_row ks) (suc k)) t
  digits_here = C.is_count ∙ append_assoc (decimal (principal_at ks k).count) (newline ∷ []) (drop (start_of (map principal_row ks) (suc k)) t)

  pub counted_here : (n e : ℕ) → Digits t s n e → Counted ks t k (record { value = n; start = s; end = e })
  counted_here n e D =
      let m : ℕ = (principal_at ks k).count in
      let same : decimal n ≡ decimal m = (unique is_digit 10 refl (decimal n) (decimal m) (drop (e + 1) t) (drop (start_of (map principal_row ks) (suc k)) t)
      (decimal_digits n D.bound) (decimal_digits m count_bound) (sym D.here ∙ digits_here)).0 in
      let l : length (drop s t) ≡ length (decimal n) + suc (length (drop (e + 1) t)) = ap length D.here ∙ length-append (decimal n) (newline ∷ drop (e + 1) t) in
      let z : s + length (decimal n) ≡ e = omega (arith, l, length-drop s t, length-drop (e + 1) t, D.low, D.high) in
      record {
        is_count = sym (decimal_number n D.bound) ∙ ap (number 0) same ∙ decimal_number m count_bound;
        bound = D.bound;
        size = z;
        ends = omega (arith, z, C.size, ap length same, length-append (decimal m) (newline ∷ []));
        within = omega (arith, D.high);
        here = D.here;
      }

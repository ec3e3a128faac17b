-- What an assertion's step says of a board, in terms of its list.
use mathlib.Core.Path.{◌≡◌, sym, ap, subst, ◌∙◌}
use mathlib.Core.List.{List, ◌++◌}
use mathlib.Core.Logic.{◌⊎◌, inl, inr, ⊎_elim}
use Prim.Native.Nat.{ℕ, ◌+◌, ◌*◌, ◌≤◌, ◌<◌}
use mathlib.Core.Bool.{Bool, true, false}
use Rattle.std.specs.Int.{from_bool}
use Rattle.board.specs.declared.Reached.TheVariants.{Nobody, Somebody, Principal}
use native.Mathlib.Omega.{arith}
use lib.ListN.{length, get_or, set, take, drop, take-append-drop, length-set}
use lib.Seq.{length-take-le, get_or-take, set-append_left, get_or-set_other}
use Rattle.search_steps.specs.Steps.{unreached, marked, left, Marks}
use Rattle.search_steps.proofs.Marking.{Hit, marked_cases, left_set, reaches}
use Rattle.board.specs.Board.{board_size, first_from, last_from, nothing, pushed, Reaches, Stepped}

-- ---- the marks, lent and back

pub whole_same : (n : ℕ) (b part : List ℕ) → part ≡ take n b → part ++ drop n b ≡ b
whole_same n b part e = ap (λ (x : List ℕ). x ++ drop n b) e ∙ take-append-drop n b

pub whole_set : (n t v : ℕ) (b part : List ℕ) → n ≤ length b → t < n → part ≡ set (take n b) t v → part ++ drop n b ≡ set b t v
whole_set n t v b part le lt e =
    let sized = length-take-le n b le in
    ap (λ (x : List ℕ). x ++ drop n b) e
    ∙ sym (set-append_left (take n b) (drop n b) t v (omega arith))
    ∙ ap (λ (x : List ℕ). set x t v) (take-append-drop n b)

-- ---- an assertion's step

-- a step that reaches t, by the marks alone
pub reaches_marks : (n d q t : ℕ) (b : List ℕ) → n ≤ length b → d < 4096 → Reaches n d q t b → Marks (take n b) (marked d q t (take n b)) (set (take n b) t (d + 1)) 1
reaches_marks n d q t b le small h =
    let sized = length-take-le n b le in
    reaches d q t (take n b) small (omega (arith, h.q_in)) (get_or-take n b q 0 h.q_in ∙ h.q_has) (omega (arith, h.t_in)) (get_or-take n b t 0 h.t_in ∙ h.t_has)

-- the step from q to t among the first n of the board b, whose marks were lent and came back as `part`; r says whether somebody was reached
module _ (n d q t p : ℕ) (r : Bool) (b part : List ℕ) (le : n ≤ length b) (small : d < 4096) (did : Marks (take n b) (marked d q t (take n b)) part (from_bool r)) where
  nobody : r ≡ false → part ≡ take n b
  nobody none = ⊎_elim (λ e. did.marks ∙ e)
      (λ h.
      let e : part ≡ set (take n b) t (d + 1) = did.marks ∙ h.gives in
      let less = left_set (take n b) t (d + 1) h.p_in h.p_has (omega arith) in
      absurd (omega (arith, did.counts, ap from_bool none, ap left e)))
      (marked_cases d q t (take n b))

  somebody : r ≡ true → Hit d q t (take n b)
  somebody some =
      ⊎_elim (λ e. absurd (omega (arith, did.counts, ap from_bool some, ap left (did.marks ∙ e)))) (λ h. h) (marked_cases d q t (take n b))

  pub step_reaches : r ≡ true → Reaches n d q t b
  step_reaches some =
      let h = somebody some in
      let sized = length-take-le n b le in
      let q_in : q < n = omega (arith, h.q_in) in
      let t_in : t < n = omega (arith, h.p_in) in
      record { q_in = q_in; q_has = sym (get_or-take n b q 0 q_in) ∙ h.q_has; t_in = t_in; t_has = sym (get_or-take n b t 0 t_in) ∙ h.p_has }

  pub step_marks : r ≡ true → part ++ drop n b ≡ set b t (d + 1)
  step_marks some = whole_set n t (d + 1) b part le (step_reaches some).t_in (did.marks ∙ (somebody some).gives)

  pub step_none : r ≡ false → Stepped n d q t p b (part ++ drop n b) Nobody
  step_none none = (
    whole_same n b part (nobody none),
    λ h.
        let m = reaches_marks n d q t b le small h in
        omega (arith, did.counts, m.counts, ap from_bool none, ap left did.marks, ap left m.marks),
  )

  pub step_hits : r ≡ true → t ≡ p → Stepped n d q t p b (part ++ drop n b) Principal
  step_hits some same = (step_reaches some, same, step_marks some)

  pub step_other : (last : List ℕ) → r ≡ true → (t ≡ p → ⊥) → last ≡ pushed n t (part ++ drop n b) → Stepped n d q t p b last Somebody
  step_other last some other e = (step_reaches some, other, e ∙ ap (pushed n t) (step_marks some))

  -- what a push takes is there after the step as it was before
  pub step_pushes : r ≡ true → n ≤ 4096 → 3 * n < length b → (t < n → get_or b t 0 ≡ unreached → (first_from n b t ≡ nothing) ⊎ (board_size n (last_from n b t) < length b))
      → (n ≤ 4096) × (t < n) × (3 * n < length (part ++ drop n b)) × ((first_from n (part ++ drop n b) t ≡ nothing) ⊎ (board_size n (last_from n (part ++ drop n b) t) < length (part ++ drop n b)))
  step_pushes some few long asked =
      let t_in = (step_reaches some).t_in in
      let size : length (set b t (d + 1)) ≡ length b = length-set b t (d + 1) in
      let first : first_from n (set b t (d + 1)) t ≡ first_from n b t = get_or-set_other b t (n + t) (d + 1) 0 (λ e. omega arith) in
      let last : last_from n (set b t (d + 1)) t ≡ last_from n b t = get_or-set_other b t (2 * n + t) (d + 1) 0 (λ e. omega arith) in
      let Asked : List ℕ → Type 0 = λ (x : List ℕ). (n ≤ 4096) × (t < n) × (3 * n < length x) × ((first_from n x t ≡ nothing) ⊎ (board_size n (last_from n x t) < length x)) in
      subst Asked (sym (step_marks some))
      (few, t_in, omega arith, ⊎_elim (λ e. inl (first ∙ e)) (λ h. inr (omega arith)) (asked t_in (step_reaches some).t_has))

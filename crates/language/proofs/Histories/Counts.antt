-- A principal's count is the number of its programs that were completed since, on what it was before.
use mathlib.Core.Path.{◌≡◌, refl, sym, ap, subst, ◌∙◌}
use Prim.Native.Nat.{ℕ, ◌+◌, ◌≤◌, ◌<◌}
use native.Mathlib.Nat.{add-zero, add_assoc}
use native.Mathlib.Omega.{arith}
use mathlib.Core.Bool.{Bool, true, false, not}
use mathlib.Core.Option.{Option, none, some}
use mathlib.Core.List.{List, [], ◌∷◌, map}
use lib.Dec.{T, leb, leb→le, ltb, ltb→lt, nltb→le}
use Rattle.language.specs.Text.{when◌then◌else◌, ◌≟◌, all, present}
use Rattle.language.specs.Identifiers.{is_name}
use Rattle.language.specs.Syntax.{Name, Program}
use Rattle.language.specs.State.{Principal, Store, last_count, named}
use Rattle.language.specs.Weight.{limit, store_weight}
use Rattle.language.specs.Valid.{valid_password, valid_principal, well_formed, valid_store}
use Rattle.language.specs.Run.{End, refusal, completed, perform, Login, mistaken, right, login, begin, counted, counts, tally, tallied, run_as, run, left}
use Rattle.language.specs.Programs.{parse}
use Rattle.language.specs.History.{Call, send, ask, sheet, Book, is_wrong, entered, book_of, count_in, count_of, one_if_completed, program_count, completions, completed_by, shown_count}
use Rattle.language.proofs.Logic.Tests.{both, three, ==→≡}
use Rattle.language.proofs.Logic.Outcomes.{Where}
use Rattle.language.proofs.StateText.Shape.{shape}
use Rattle.language.proofs.Parsing.ValidPrograms.{valid_program}
use Rattle.language.proofs.Parsing.Parsing.{valid_parsed}
use Rattle.language.proofs.Meaning.ValidRuns.{EndsValid, run_valid, begin_ready, commands_valid}
use Rattle.language.proofs.Meaning.Sent.{EndsSame, perform_same}

-- ---- one program more

-- a count that grows by one, or by nothing
abbrev grown : Bool → ℕ → ℕ
grown true n = counted n
grown false n = n

-- counting for p changes p's count, where p is there, and nobody else's
own_count : (p : Name) (ks : List Principal) → T (present (named ks p)) → count_in (named (map (counts p) ks) p) ≡ counted (count_in (named ks p))
own_count p [] h = absurd h
own_count p (k ∷ ks) h = go (k.name ≟ p) h (own_count p ks)
  where
    go : (b : Bool) → T (present (when b then some k else named ks p)) → (T (present (named ks p)) → count_in (named (map (counts p) ks) p) ≡ counted (count_in (named ks p)))
        → count_in (when b then some (record { name = k.name; password = k.password; count = when b then counted k.count else k.count }) else named (map (counts p) ks) p)
        ≡ counted (count_in (when b then some k else named ks p))
    go true h f = refl
    go false h f = f h

other_count : (p q : Name) (ks : List Principal) → ¬ T (p ≟ q) → count_in (named (map (counts p) ks) q) ≡ count_in (named ks q)
other_count p q [] n = refl
other_count p q (k ∷ ks) n =
    go (k.name ≟ q) (k.name ≟ p) (λ a b. n (subst (λ x. T (x ≟ q)) (==→≡ k.name p b) a)) (other_count p q ks n)
  where
    go : (b c : Bool) → (T b → T c → ⊥) → count_in (named (map (counts p) ks) q) ≡ count_in (named ks q)
        → count_in (when b then some (record { name = k.name; password = k.password; count = when c then counted k.count else k.count }) else named (map (counts p) ks) q)
        ≡ count_in (when b then some k else named ks q)
    go true true f e = absurd (f tt tt)
    go true false f e = refl
    go false c f e = e

tally_count : (p : Name) (s : Store) (q : Name) → T (present (named s.principals p)) → count_of (tally p s) q ≡ grown (p ≟ q) (count_of s q)
tally_count p s q h = go (p ≟ q) (==→≡ p q) (λ n. other_count p q s.principals n)
  where
    go : (b : Bool) → (T b → p ≡ q) → (¬ T b → count_of (tally p s) q ≡ count_of s q) → count_of (tally p s) q ≡ grown b (count_of s q)
    go true f g = subst (λ r. count_of (tally p s) r ≡ counted (count_of s r)) (f tt) (own_count p s.principals h)
    go false f g = g (λ h. h)

-- ---- the count that is shown

shown_more : (n : ℕ) → counted (shown_count n) ≡ shown_count (n + 1)
shown_more n = go (ltb n last_count) (ltb (n + 1) last_count) refl refl
  where
    last_stays : (when ltb last_count last_count then last_count + 1 else last_count) ≡ last_count
    last_stays = refl

    go : (b c : Bool) → ltb n last_count ≡ b → ltb (n + 1) last_count ≡ c
        → counted (when b then n else last_count) ≡ (when c then n + 1 else last_count)
    go true true e f = rw e refl
    go true false e f =
        let h : n < last_count = ltb→lt n last_count (subst T (sym e) tt) in
        let k : last_count ≤ n + 1 = nltb→le (n + 1) last_count (subst (λ c. T (not c)) (sym f) tt) in
        rw e (omega arith)
    go false true e f =
        let h : last_count ≤ n = nltb→le n last_count (subst (λ c. T (not c)) (sym e) tt) in
        let k : n + 1 < last_count = ltb→lt (n + 1) last_count (subst T (sym f) tt) in
        absurd (omega arith)
    go false false e f = last_stays

grown_shown : (b : Bool) (n m : ℕ) → n ≡ shown_count m → grown b n ≡ shown_count (m + (when b then 1 else 0))
grown_shown true n m e = ap counted e ∙ shown_more m
grown_shown false n m e = e ∙ ap shown_count (sym (add-zero m))

-- a count that a state may have is shown as it is
small_shown : (n : ℕ) → n ≤ last_count → n ≡ shown_count n
small_shown n h = go (ltb n last_count) refl
  where
    go : (b : Bool) → ltb n last_count ≡ b → n ≡ (when b then n else last_count)
    go true e = refl
    go false e = let k : last_count ≤ n = nltb→le n last_count (subst (λ c. T (not c)) (sym e) tt) in omega arith

named_small : (ks : List Principal) (p : Name) → T (all valid_principal ks) → count_in (named ks p) ≤ last_count
named_small [] p h = omega arith
named_small (k ∷ ks) p h =
    let (v, r) = both (valid_principal k) (all valid_principal ks) h in
    let (n, w, c) = three (is_name k.name) (valid_password k.password) (leb k.count last_count) v in
    go (k.name ≟ p) (leb→le k.count last_count c) (named_small ks p r)
  where
    go : (b : Bool) → k.count ≤ last_count → count_in (named ks p) ≤ last_count → count_in (when b then some k else named ks p) ≤ last_count
    go true a c = a
    go false a c = c

-- ---- programs, calls and lists of calls

module _ (p : Name) where
  program_count_lem : (b : Book) → T (valid_store b) → (m : ℕ) → count_of b p ≡ shown_count m → (o : Option Program) → Where (λ q. T (valid_program q)) o
      → count_of (left b (run b o)) p ≡ shown_count (m + program_count b p o)
  program_count_lem b v m e none w = e ∙ ap shown_count (sym (add-zero m))
  program_count_lem b v m e (some q) w = go (login b q) refl
    where
      ends : (d : End) → EndsSame (begin b q) d → count_of (left b (tallied q.sender d)) p ≡ shown_count (m + one_if_completed p q.sender (tallied q.sender d))
      ends (refusal r) k = e ∙ ap shown_count (sym (add-zero m))
      ends (completed lines t) k =
          tally_count q.sender t p k.1 ∙ ap (grown (q.sender ≟ p)) (k.0 p) ∙ grown_shown (q.sender ≟ p) (count_of b p) m e

      go : (l : Login) → login b q ≡ l
          → count_of (left b (run_as l (begin b q) q.commands)) p ≡ shown_count (m + one_if_completed p q.sender (run_as l (begin b q) q.commands))
      go mistaken i = e ∙ ap shown_count (sym (add-zero m))
      go right i = ends (perform (begin b q) q.commands) (perform_same q.commands (begin b q) (begin_ready b q v i) (commands_valid q w))

  call_count : (b : Book) → T (valid_store b) → (m : ℕ) → count_of b p ≡ shown_count m → (c : Call) → count_of (entered b c) p ≡ shown_count (m + completions b p c)
  call_count b v m e (send o w t) = go (is_wrong b (send o w t))
    where
      go : (k : Bool) → count_of (when k then b else left b (run b (parse t))) p ≡ shown_count (m + (when k then 0 else program_count b p (parse t)))
      go true = e ∙ ap shown_count (sym (add-zero m))
      go false = program_count_lem b v m e (parse t) (valid_parsed t)
  call_count b v m e (ask q x r) = e ∙ ap shown_count (sym (add-zero m))
  call_count b v m e (sheet o x) = e ∙ ap shown_count (sym (add-zero m))

entered_valid : (b : Book) → T (valid_store b) → (c : Call) → T (valid_store (entered b c))
entered_valid b v (send o w t) = go (is_wrong b (send o w t)) (run b (parse t)) (run_valid b v (parse t) (valid_parsed t))
  where
    go : (k : Bool) (e : End) → EndsValid e → T (valid_store (when k then b else left b e))
    go true e h = v
    go false (refusal r) h = v
    go false (completed lines s) h = h
entered_valid b v (ask p x r) = v
entered_valid b v (sheet o x) = v

calls_count : (p : Name) (calls : List Call) (b : Book) → T (valid_store b) → (m : ℕ) → count_of b p ≡ shown_count m
    → count_of (book_of b calls) p ≡ shown_count (m + completed_by b p calls)
calls_count p [] b v m e = e ∙ ap shown_count (sym (add-zero m))
calls_count p (c ∷ calls) b v m e =
    calls_count p calls (entered b c) (entered_valid b v c) (m + completions b p c) (call_count p b v m e c)
    ∙ ap shown_count (add_assoc m (completions b p c) (completed_by (entered b c) p calls))

pub book_counts : (b : Book) → T (valid_store b) → (calls : List Call) (p : Name)
    → count_of (book_of b calls) p ≡ shown_count (count_of b p + completed_by b p calls)
book_counts b v calls p =
    let g = shape b (both (well_formed b) (leb (store_weight b) limit) v).0 in
    calls_count p calls b v (count_of b p) (small_shown (count_of b p) (named_small b.principals p g.principals_valid))

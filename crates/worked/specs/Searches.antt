-- The search over numbers: worked cases of document 01 (Chains, and its wrong turns) and of request M-103, computed from the definitions. Numbers for
-- names: admin 0, anyone 1, then a, b, c and e; the variable q is 0 and x is 1; the rights are numbered in the order r, w, a, d. Of the request's
-- cases the two chains of 49 steps are replayed only.
use Rattle.std.specs.Prelude.{Option, Some, None, ◌≡◌, refl, ℕ, zero, suc, List, [], ◌∷◌, ◌++◌, map}
use Prim.Native.String.{String}
use Rattle.std.proofs.Common.{arith}
use Rattle.assertion.specs.Packed.{Assertion, pack, fields}
use Rattle.search_steps.specs.Steps.{delegations, marked, left}
use Rattle.chains.specs.Chain.{Asked, Shortest, Searched, asked}
use Rattle.chains.specs.Rounds.{begun_of, longest_of, shortest_of, searched, start, one_round}
use Rattle.chains.proofs.Answers.{computed_right, computed_searched}

-- what a search says, and the rounds that it begins
pub record Told : Type 0 where
  pub says : Option ℕ
  pub begins : ℕ

abbrev pub yes : ℕ → Told
yes n = record { says = Some n; begins = n }

abbrev pub no_after : ℕ → Told
no_after n = record { says = None; begins = n }

-- the numbers below n
abbrev pub below : ℕ → List ℕ
below zero = []
below (suc n) = below n ++ (n ∷ [])

abbrev pub search : Asked → ℕ → Told
search a p = record { says = shortest_of a p; begins = begun_of a p }

-- for each principal, in order of creation
abbrev pub searches : Asked → List Told
searches a = map (search a) (below a.count)

-- from hands the right w on the variable v on to `to`
abbrev pub by : ℕ → ℕ → ℕ → ℕ → Assertion
by v from w to = record { variable = v; from = from; right = w; to = to }

abbrev pub step : ℕ → ℕ → Assertion
step from to = by 0 from 0 to

-- read on q, among n principals
abbrev pub reads : ℕ → List Assertion → Asked
reads n s = asked s n 0 0

-- read on q to a, write on q to b, read on x to b
abbrev pub mixed : List Assertion
mixed = by 0 0 0 2 ∷ by 0 0 1 3 ∷ by 1 0 0 3 ∷ []

pub record Case : Type 0 where
  pub what : String
  pub asks : Asked
  pub tells : List Told

abbrev pub cases : List Case
cases =
    record {
      what = "no assertions at all";
      asks = reads 3 [];
      tells = yes 0 ∷ no_after 1 ∷ no_after 1 ∷ [];
    }
    ∷ record {
      what = "a line entered from its far end: a pass in order of entry would not do";
      asks = reads 5 (step 3 4 ∷ step 2 3 ∷ step 0 2 ∷ []);
      tells = yes 0 ∷ no_after 4 ∷ yes 1 ∷ yes 2 ∷ yes 3 ∷ [];
    }
    ∷ record {
      what = "the same line as packed numbers";
      asks = reads 5 (map fields (pack 0 3 0 4 ∷ pack 0 2 0 3 ∷ pack 0 0 0 2 ∷ []));
      tells = yes 0 ∷ no_after 4 ∷ yes 1 ∷ yes 2 ∷ yes 3 ∷ [];
    }
    ∷ record {
      what = "a line of three; e is not reached: one more than the longest shortest chain";
      asks = reads 6 (step 0 2 ∷ step 2 3 ∷ step 3 4 ∷ []);
      tells = yes 0 ∷ no_after 4 ∷ yes 1 ∷ yes 2 ∷ yes 3 ∷ no_after 4 ∷ [];
    }
    ∷ record {
      what = "two ways to c, and a ring back";
      asks = reads 6 (step 0 2 ∷ step 0 3 ∷ step 2 4 ∷ step 3 4 ∷ step 4 2 ∷ []);
      tells = yes 0 ∷ no_after 3 ∷ yes 1 ∷ yes 1 ∷ yes 2 ∷ no_after 3 ∷ [];
    }
    ∷ record {
      what = "a second way is shorter: c is 1, and the longest is b's 2";
      asks = reads 6 (step 0 2 ∷ step 2 3 ∷ step 3 4 ∷ step 0 4 ∷ []);
      tells = yes 0 ∷ no_after 3 ∷ yes 1 ∷ yes 2 ∷ yes 1 ∷ no_after 3 ∷ [];
    }
    ∷ record {
      what = "a ring that admin does not reach";
      asks = reads 4 (step 2 3 ∷ step 3 2 ∷ []);
      tells = yes 0 ∷ no_after 1 ∷ no_after 1 ∷ no_after 1 ∷ [];
    }
    ∷ record {
      what = "anyone is reached in the first round: everybody else in the second";
      asks = reads 4 (step 0 1 ∷ []);
      tells = yes 0 ∷ yes 1 ∷ yes 2 ∷ yes 2 ∷ [];
    }
    ∷ record {
      what = "a round is begun for anyone's step although no assertion is gone over in it";
      asks = reads 5 (step 0 2 ∷ step 2 1 ∷ []);
      tells = yes 0 ∷ yes 2 ∷ yes 1 ∷ yes 3 ∷ yes 3 ∷ [];
    }
    ∷ record {
      what = "an assertion from anyone adds nothing to the step to all";
      asks = reads 5 (step 0 1 ∷ step 1 2 ∷ step 0 4 ∷ []);
      tells = yes 0 ∷ yes 1 ∷ yes 2 ∷ yes 2 ∷ yes 1 ∷ [];
    }
    ∷ record {
      what = "from anyone, who has nothing";
      asks = reads 4 (step 1 2 ∷ step 2 3 ∷ []);
      tells = yes 0 ∷ no_after 1 ∷ no_after 1 ∷ no_after 1 ∷ [];
    }
    ∷ record {
      what = "steps to oneself reach nobody";
      asks = reads 4 (step 0 0 ∷ step 1 1 ∷ step 2 2 ∷ step 3 3 ∷ []);
      tells = yes 0 ∷ no_after 1 ∷ no_after 1 ∷ no_after 1 ∷ [];
    }
    ∷ record {
      what = "another variable and another right do not count";
      asks = asked mixed 4 0 0;
      tells = yes 0 ∷ no_after 2 ∷ yes 1 ∷ no_after 2 ∷ [];
    }
    ∷ record {
      what = "for write on q";
      asks = asked mixed 4 0 1;
      tells = yes 0 ∷ no_after 2 ∷ no_after 2 ∷ yes 1 ∷ [];
    }
    ∷ record {
      what = "for delegate on q";
      asks = asked mixed 4 0 3;
      tells = yes 0 ∷ no_after 1 ∷ no_after 1 ∷ no_after 1 ∷ [];
    }
    ∷ record {
      what = "for read on x";
      asks = asked mixed 4 1 0;
      tells = yes 0 ∷ no_after 2 ∷ no_after 2 ∷ yes 1 ∷ [];
    }
    ∷ record {
      what = "left in the middle of a round: a is reached first; b has 1 as well, and c has 2";
      asks = reads 6 (step 0 2 ∷ step 0 3 ∷ step 3 4 ∷ []);
      tells = yes 0 ∷ no_after 3 ∷ yes 1 ∷ yes 1 ∷ yes 2 ∷ no_after 3 ∷ [];
    }
    ∷ record {
      what = "only admin and anyone";
      asks = reads 2 [];
      tells = yes 0 ∷ no_after 1 ∷ [];
    }
    ∷ record {
      what = "two ways to c, by a and by b with e";
      asks = reads 6 (step 0 2 ∷ step 2 4 ∷ step 3 5 ∷ step 5 4 ∷ step 0 3 ∷ []);
      tells = yes 0 ∷ no_after 3 ∷ yes 1 ∷ yes 1 ∷ yes 2 ∷ yes 2 ∷ [];
    }
    ∷ record {
      what = "the shorter is withdrawn: the longer remains";
      asks = reads 6 (step 0 2 ∷ step 3 5 ∷ step 5 4 ∷ step 0 3 ∷ []);
      tells = yes 0 ∷ no_after 4 ∷ yes 1 ∷ yes 1 ∷ yes 3 ∷ yes 2 ∷ [];
    }
    ∷ record {
      what = "both are withdrawn";
      asks = reads 6 (step 0 2 ∷ step 3 5 ∷ step 5 4 ∷ []);
      tells = yes 0 ∷ no_after 2 ∷ yes 1 ∷ no_after 2 ∷ no_after 2 ∷ no_after 2 ∷ [];
    }
    ∷ []

pub searches_tell : map (λ c. searches c.asks) cases ≡ map (λ c. c.tells) cases
unfolding begun_of longest_of shortest_of searched delegations start one_round marked left fields pack
searches_tell = refl

-- a number that no principal has: no round is begun
pub outside : map (search (reads 4 (step 0 2 ∷ []))) (4 ∷ 5 ∷ []) ≡ no_after 0 ∷ no_after 0 ∷ []
unfolding begun_of shortest_of
outside = refl

-- ---- what is computed is what the relation says, on the line of three
abbrev pub line : Asked
line = reads 6 (step 0 2 ∷ step 2 3 ∷ step 3 4 ∷ [])

-- the shortest chain to c has three steps
pub three_steps : Shortest line 4 3
unfolding shortest_of searched delegations start one_round marked left
three_steps = computed_right line 4 (omega arith)

-- a search for e that keeps its promise says no after four rounds, and nothing else
pub four_rounds : (o : Option ℕ) (r : ℕ) → Searched line 5 o r → (o ≡ None) × (r ≡ 4)
unfolding begun_of longest_of shortest_of searched delegations start one_round marked left
four_rounds o r f = computed_searched line 5 o r (omega arith) f

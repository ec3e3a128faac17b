-- One step of the evaluation: a `let` entered, or a term that has come to something.
use mathlib.Core.Path.{◌≡◌, refl, sym, ap, subst, ◌∙◌}
use Prim.Native.Nat.{ℕ, ◌+◌, ◌≤◌, ◌<◌}
use native.Mathlib.Omega.{arith}
use mathlib.Core.Bool.{true, false}
use mathlib.Core.Option.{Option, none, some}
use mathlib.Core.List.{List, [], ◌∷◌, ◌++◌, append-nil, append_assoc}
use lib.Dec.{T}
use lib.ListN.{length, drop, set}
use Rattle.language.specs.Text.{Text, bytes}
use Rattle.language.specs.Tokens.{Token, lex}
use Rattle.language.specs.Syntax.{Name, Term, Expr, term, let_in}
use Rattle.language.specs.Grammar.{then_read, ◌>>=◌, ◌>>◌, give, the, any_term, any_expression}
use Rattle.language.specs.Identifiers.{is_identifier}
use Rattle.language.specs.Values.{Session}
use Rattle.language.specs.Expressions.{unbound, term_value, term_names, value_within, names_within}
use Rattle.language.proofs.Logic.Tests.{three}
use Rattle.language.proofs.StateText.Clean.{identifier_name}
use Rattle.language.proofs.Parsing.ValidPrograms.{valid_term, valid_expr}
use Rattle.tokens.proofs.Reading.{no_some}
use Rattle.syntax.specs.declared.Term as Read
use Rattle.syntax.specs.Values.{term_meant}
use Rattle.syntax.proofs.Fuel.{sign_shorter}
use Rattle.syntax.proofs.Lets.{lets_not_longer}
use Rattle.expression_readers.specs.Heads.{let_head}
use Rattle.expression_readers.proofs.Lets.{inside_let, term_first, let_first}
use Rattle.permits.specs.Permits.{unread}
use Rattle.permits.specs.Knowledge.{terms_then, Knows}
use Rattle.permits.proofs.Readers.{first_unread, second_decides}
use Rattle.lets.specs.Frames.{Frame, FrameAt, environment, unwound, unwound_names, next, terms_of}
use Rattle.lets.specs.Reaching.{Texts, Stack, stack, Reached, Deep}
use Rattle.lets.specs.declared.place.Place.{Place}
use Rattle.lets.proofs.Passing.{Passed}
use Rattle.lets.proofs.Nesting.{held_length, held_count, frames_stay, frame_pushed}
use Rattle.lets.proofs.Counting.{head_takes, follows_takes}

pub same_here : {A : Type 0} (a b : A) (us vs : List Token) → ◌≡◌ {A = Option (A × List Token)} (some (a, us)) (some (b, vs)) → (a ≡ b) × (us ≡ vs)
same_here {A} a b us vs e = let p : ◌≡◌ {A = A × List Token} (a, us) (b, vs) = cc in (ap (λ (q : A × List Token). q.0) p, ap (λ (q : A × List Token). q.1) p)

-- ---- a term

-- the term that stands from place p on and ends before n
pub record TermAt (t : Text) (p : ℕ) (e : Read.Term) (n : ℕ) : Type 0 where
  pub term_read : Term
  pub meant : term_meant t e ≡ some term_read
  pub here : any_term (lex (drop p t)) ≡ some (term_read, lex (drop n t))

module _ {s : Session} {x : Expr} {t : Text} {b : Texts} {k : Stack} {base number : ℕ} {at : Place} (R : Reached s x t b k base number at) where
  module _ (e : Read.Term) (n : ℕ) (H : TermAt t at.p e n) where
    is_term : (R.here ≡ term H.term_read) × (R.others ≡ lex (drop n t))
    is_term = same_here R.here (term H.term_read) R.others (lex (drop n t)) (sym R.reads ∙ term_first (lex (drop at.p t)) H.here)

    pub term_valid : T (valid_term H.term_read)
    term_valid = subst (λ (y : Expr). T (valid_expr y)) is_term.0 R.is_valid

    evaluates_term : unread s (names_within (unbound s) x)
        ≡ unread s (term_names H.term_read ++ unwound_names s R.frames (term_value (environment s R.locals 0).session H.term_read))
    evaluates_term = R.evaluates ∙ ap (λ (y : Expr). unread s (names_within (environment s R.locals at.bound) y ++ unwound_names s R.frames (value_within (environment s R.locals at.bound) y))) is_term.0

    pub term_denied : unread s (term_names H.term_read) ≡ true → unread s (names_within (unbound s) x) ≡ true
    term_denied q = evaluates_term ∙ first_unread s (term_names H.term_read) (unwound_names s R.frames (term_value (environment s R.locals 0).session H.term_read)) q

    -- what is known of it, and of the terms behind it
    pub term_knows : Knows at.known s (H.term_read ∷ terms_of R.frames)
    term_knows = subst (λ (y : Expr). Knows at.known s (terms_then y (terms_of R.frames))) is_term.0 R.knows

    pub term_passed : unread s (term_names H.term_read) ≡ false → Passed s x R.frames (term_value (environment s R.locals 0).session H.term_read)
    term_passed q = record {
      comes_to_lem = R.comes_to_lem ∙ ap (λ (y : Expr). unwound s R.frames (value_within (environment s R.locals at.bound) y)) is_term.0;
      evaluates = evaluates_term ∙ second_decides s (term_names H.term_read) (unwound_names s R.frames (term_value (environment s R.locals 0).session H.term_read)) q;
    }

    pub others_past : R.others ≡ lex (drop n t)
    others_past = is_term.1

-- ---- a let

pub record LetAt (y : Name) (us : List Token) (here : Expr) (others : List Token) : Type 0 where
  pub first : Expr
  pub second : Expr
  pub mid : List Token
  pub after : List Token
  pub is_let : here ≡ let_in y first second
  pub first_reads : any_expression us ≡ some (first, mid)
  pub in_reads : the "in" mid ≡ some (tt, after)
  pub second_reads : any_expression after ≡ some (second, others)

pub let_at : (y : Name) (us : List Token) (here : Expr) (others : List Token) → inside_let y us ≡ some (here, others) → LetAt y us here others
let_at y us here others e = go₁ (any_expression us) refl e
  where
    go₃ : (a : Expr) (mid after : List Token) → any_expression us ≡ some (a, mid) → the "in" mid ≡ some (tt, after) → (o : Option (Expr × List Token)) → any_expression after ≡ o
        → then_read o (λ f. give (let_in y a f)) ≡ some (here, others) → LetAt y us here others
    go₃ a mid after p i none q e = no_some e
    go₃ a mid after p i (some r) q e =
        let (h, u) = same_here (let_in y a r.0) here r.1 others e in
        record { first = a; second = r.0; mid = mid; after = after; is_let = sym h; first_reads = p; in_reads = i; second_reads = q ∙ ap (λ (vs : List Token). some (r.0, vs)) u }

    go₂ : (a : Expr) (mid : List Token) → any_expression us ≡ some (a, mid) → (o : Option (Unit {0} × List Token)) → the "in" mid ≡ o
        → then_read o (λ _. any_expression >>= λ f. give (let_in y a f)) ≡ some (here, others) → LetAt y us here others
    go₂ a mid p none q e = no_some e
    go₂ a mid p (some (tt, after)) q e = go₃ a mid after p q (any_expression after) refl e

    go₁ : (o : Option (Expr × List Token)) → any_expression us ≡ o → then_read o (λ a. the "in" >> (any_expression >>= λ f. give (let_in y a f))) ≡ some (here, others) → LetAt y us here others
    go₁ none q e = no_some e
    go₁ (some r) q e = go₂ r.0 r.1 q (the "in" r.1) refl e

module _ {s : Session} {x : Expr} {t : Text} {b : Texts} {k : Stack} {base number : ℕ} {at : Place} (R : Reached s x t b k base number at)
    (no_term : any_term (lex (drop at.p t)) ≡ none) where
  module _ (y : Name) (n : ℕ) (e : let_head (lex (drop at.p t)) ≡ some (y, lex (drop n t))) where
    pub L : LetAt y (lex (drop n t)) R.here R.others
    L = let_at y (lex (drop n t)) R.here R.others (sym (let_first (lex (drop at.p t)) no_term e) ∙ R.reads)

    parts_valid : T (is_identifier y) × T (valid_expr L.first) × T (valid_expr L.second)
    parts_valid = three (is_identifier y) (valid_expr L.first) (valid_expr L.second) (subst (λ (z : Expr). T (valid_expr z)) L.is_let R.is_valid)

    -- the frame that is pushed
    abbrev pub pushed : Frame
    pushed = record { name = y; locals = R.locals; bound = at.bound; second = L.second }

    takes : 3 + length (lex (drop n t)) ≤ length (lex (drop at.p t))
    takes = head_takes (lex (drop at.p t)) (lex (drop n t)) y e

    pub deep_enough : at.depth < 4096
    deep_enough = omega (arith, R.few, takes, R.deep, follows_takes R.frames R.others R.follows, short)
      where
        short : length R.others ≤ length (lex (drop n t))
        short =
            omega (
              arith,
              lets_not_longer (length (lex (drop n t))) (lex (drop n t)) L.mid L.first L.first_reads,
              sign_shorter (bytes "in") L.mid L.after tt L.in_reads,
              lets_not_longer (length L.after) L.after R.others L.second L.second_reads,
            )

    pub entered : n ≤ length t → Deep k
        → Reached s x t b (stack (set k.heads at.depth at.p) (set k.lens at.depth at.len) (set k.counts at.depth at.count) (set k.bounds at.depth at.bound)) base number
        (record { p = n; depth = at.depth + 1; len = at.len; count = at.count; bound = at.bound; known = at.known })
    entered w Z = record {
      locals = R.locals;
      frames = pushed ∷ R.frames;
      here = L.first;
      others = L.mid;
      within = w;
      reads = L.first_reads;
      is_valid = parts_valid.1;
      follows = next L.in_reads L.second_reads parts_valid.2 R.follows;
      framed = (
        subst (λ (d : ℕ). FrameAt t pushed d (set k.heads at.depth at.p) (set k.lens at.depth at.len) (set k.counts at.depth at.count) (set k.bounds at.depth at.bound)) R.deep
            (frame_pushed t k.heads k.lens k.counts k.bounds at.depth at.p at.len at.count at.bound
            (omega (arith, deep_enough, Z.heads_size)) (omega (arith, deep_enough, Z.lens_size)) (omega (arith, deep_enough, Z.counts_size)) (omega (arith, deep_enough, Z.bounds_size))
            pushed (lex (drop n t)) R.within e (identifier_name y parts_valid.0) (held_length s b R.locals at.len at.count R.held R.in_scope)
            (held_count s b R.locals at.len at.count R.held R.in_scope) refl),
        frames_stay t k.heads k.lens k.counts k.bounds at.depth at.p at.len at.count at.bound R.frames (omega (arith, R.deep)) R.framed,
      );
      deep = omega (arith, R.deep);
      few = omega (arith, R.few, takes);
      nested = (([], sym (append-nil R.locals)), R.nested);
      roomy = R.roomy;
      all_roomy = (R.roomy, R.all_roomy);
      held = R.held;
      in_scope = R.in_scope;
      base_is = R.base_is;
      number_is = R.number_is;
      comes_to_lem = R.comes_to_lem ∙ ap (λ (z : Expr). unwound s R.frames (value_within (environment s R.locals at.bound) z)) L.is_let;
      evaluates =
          R.evaluates ∙ ap (λ (z : Expr). unread s (names_within (environment s R.locals at.bound) z ++ unwound_names s R.frames (value_within (environment s R.locals at.bound) z))) L.is_let
          ∙ ap (unread s) (append_assoc (names_within (environment s R.locals at.bound) L.first) _ _);
      knows = subst (λ (z : Expr). Knows at.known s (terms_then z (terms_of R.frames))) L.is_let R.knows;
    }

-- the same numbers, in other words
pub restacked : {s : Session} {x : Expr} {t : Text} {b : Texts} {base number : ℕ} {at : Place} (heads heads' lens lens' counts counts' bounds bounds' : List ℕ)
    → heads ≡ heads' → lens ≡ lens' → counts ≡ counts' → bounds ≡ bounds'
    → Reached s x t b (stack heads' lens' counts' bounds') base number at → Reached s x t b (stack heads lens counts bounds) base number at
restacked {s} {x} {t} {b} {base} {number} {at} heads heads' lens lens' counts counts' bounds bounds' e₁ e₂ e₃ e₄ R =
    subst (λ (l : List ℕ). Reached s x t b (stack l lens counts bounds) base number at) (sym e₁)
    (subst (λ (l : List ℕ). Reached s x t b (stack heads' l counts bounds) base number at) (sym e₂)
    (subst (λ (l : List ℕ). Reached s x t b (stack heads' lens' l bounds) base number at) (sym e₃)
    (subst (λ (l : List ℕ). Reached s x t b (stack heads' lens' counts' l) base number at) (sym e₄) R)))

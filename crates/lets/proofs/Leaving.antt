-- A term that was read, and what its answer leaves of the evaluation.
use mathlib.Core.Path.{◌≡◌, refl, sym, ap, subst, ◌∙◌}
use Prim.Native.Nat.{ℕ, ◌≤◌, ◌<◌}
use native.Mathlib.Omega.{arith}
use mathlib.Core.Bool.{true, false}
use mathlib.Core.Option.{Option, none, some}
use mathlib.Core.List.{List, [], ◌∷◌}
use lib.ListN.{length, take, drop}
use Rattle.language.specs.Text as Options
use Rattle.language.specs.Text.{Text, present}
use Rattle.language.specs.Tokens.{lex}
use Rattle.language.specs.Syntax.{Term, Expr}
use Rattle.language.specs.Grammar.{any_term}
use Rattle.language.specs.State.{Value}
use Rattle.language.specs.Outcomes.{Outcome, gives, fails, fills}
use Rattle.language.specs.Values.{Session}
use Rattle.language.specs.Expressions.{unbound, term_value, term_names, value_within, names_within}
use Rattle.syntax.specs.declared.Term as Read
use Rattle.syntax.specs.Values.{term_meant, TermWithin, SomeTerm}
use Rattle.syntax.proofs.Said.{term_there}
use Rattle.syntax.proofs.Lets.{lets_not_longer}
use Rattle.permits.specs.Permits.{unread}
use Rattle.permits.specs.Knowledge.{Knows, KnowsFirst, past}
use Rattle.permits.proofs.Knowing.{first_same, knows_first, knows_past}
use Rattle.evaluated.specs.declared.Answered.{Answered}
use Rattle.evaluated.specs.declared.Answered.TheVariants as Is
use Rattle.evaluated.specs.Results.{Written}
use Rattle.term_answer.specs.Telling.{Tells}
use Rattle.lets.specs.Frames.{Frame, environment, Follows, FramesAt, Nested, AllRoomy, terms_of}
use Rattle.lets.specs.Reaching.{Texts, Stack, Holding, Reached, Sized, Stepped, Sinks}
use Rattle.lets.specs.Standing.{AllStanding}
use Rattle.lets.specs.Giving.{AtTerm, Given}
use Rattle.lets.specs.declared.place.Place.{Place}
use Rattle.std.proofs.Common.{ControlFlow, Continue, Break}
use Rattle.lets.proofs.Passing.{Passed, passed_as, tells_fails, tells_sinks, tells_value, unread_any}
use Rattle.lets.proofs.Nesting.{standing_each}
use Rattle.lets.proofs.Counting.{follows_takes}
use Rattle.lets.proofs.Stepping.{TermAt, term_valid, term_denied, term_knows, term_passed, others_past}
use Rattle.lets.proofs.Returning.{base_held}

pub term_at : (t : Text) (p : ℕ) (e : Read.Term) (n : ℕ) → AtTerm t p e n → TermAt t p e n
term_at t p e n A = go (term_meant t e) refl (term_there t e A.placed.0) A.meant
  where
    go : (o : Option Term) → term_meant t e ≡ o → present o ≡ true → Options.◌>>=◌ o (λ x. some (x, lex (drop n t))) ≡ any_term (lex (drop p t)) → TermAt t p e n
    go none m q h = absurd (let z : ◌≡◌ {A = ℕ} 0 1 = cc in omega arith)
    go (some y) m q h = record { term_read = y; meant = m; here = sym h }

-- a step that starts earlier
pub step_later : (r : ControlFlow Answered Place) (s : Session) (x : Expr) (t : Text) (b : Texts) (k : Stack) (base number p q : ℕ) (out : Text) → p ≤ q
    → Stepped r s x t b k base number q out → Stepped r s x t b k base number p out
step_later (Continue at) s x t b k base number p q out h (R, l) = (R, omega (arith, h, l))
step_later (Break r) s x t b k base number p q out h S = S

module _ {s : Session} {x : Expr} {t : Text} {b : Texts} {k : Stack} {base number : ℕ} {at : Place} (R : Reached s x t b k base number at) where
  pub reached_base : Holding s s.locals b base number
  reached_base = base_held s b R.locals at.bound base number at.len at.count R.roomy R.held R.in_scope R.base_is R.number_is

  few_frames : length R.frames ≤ 4096
  few_frames =
      omega (arith, R.few, R.deep, follows_takes R.frames R.others R.follows, lets_not_longer (length (lex (drop at.p t))) (lex (drop at.p t)) R.others R.here R.reads)

  pub reached_standing : Sized b k base number → AllStanding s R.frames t b k.heads k.lens k.counts at.depth
  reached_standing Z = record {
    deep = R.deep;
    each =
        standing_each s t b k.heads k.lens k.counts k.bounds Z.deep.heads_size Z.deep.lens_size Z.deep.counts_size R.locals at.len at.count R.held R.in_scope
        R.frames few_frames R.nested R.framed;
  }

  module _ (e : Read.Term) (n : ℕ) (H : TermAt t at.p e n) where
    -- the term's session, and what it comes to there
    abbrev pub inner : Session
    inner = (environment s R.locals 0).session

    abbrev pub outcome : Outcome Value
    outcome = term_value inner H.term_read

    pub some_term : TermWithin t e → SomeTerm t e
    some_term w = record { term = H.term_read; meant = H.meant; within = w; is_valid = term_valid R e n H }

    -- what is known of it where it is evaluated
    pub first_known : KnowsFirst at.known inner (term_names H.term_read)
    first_known =
        first_same s inner (term_names H.term_read) (unread_any s R.locals (term_names H.term_read)) at.known
        (knows_first s H.term_read (terms_of R.frames) at.known (term_knows R e n H))

    pub leave_denied : unread inner (term_names H.term_read) ≡ true → unread s (names_within (unbound s) x) ≡ true
    leave_denied q = term_denied R e n H (sym (unread_any s R.locals (term_names H.term_read)) ∙ q)

    module _ (q : unread inner (term_names H.term_read) ≡ false) where
      P : Passed s x R.frames outcome
      P = term_passed R e n H (sym (unread_any s R.locals (term_names H.term_read)) ∙ q)

      pub leave_fails : (out : Text) → outcome ≡ fails → Tells Is.Missing s (names_within (unbound s) x) (value_within (unbound s) x) out
      leave_fails out z = tells_fails s x R.frames (passed_as s x z P)

      pub leave_sinks : (r : Answered) (out : Text) → outcome ≡ fills → Sinks r s R.frames → Tells r s (names_within (unbound s) x) (value_within (unbound s) x) out
      leave_sinks r out z K = tells_sinks s x R.frames r out (passed_as s x z P) K

      pub leave_value : (out : Text) (size weight : ℕ) → at.depth ≡ 0 → Written outcome out size weight
          → Tells (Is.Value size weight) s (names_within (unbound s) x) (value_within (unbound s) x) out
      leave_value out size weight d W = go R.frames (sym d ∙ R.deep) P
        where
          go : (frames : List Frame) → 0 ≡ length frames → Passed s x frames outcome → Tells (Is.Value size weight) s (names_within (unbound s) x) (value_within (unbound s) x) out
          go [] z Q = tells_value s x outcome out size weight Q W
          go (f ∷ fs) z Q = absurd (omega arith)

      pub leave_given : (out : Text) (size weight : ℕ) → 0 < at.depth → n ≤ length t → Sized b k base number → Written outcome out size weight
          → Given s x t b k base number at.depth n (past at.known) (take size out) weight
      leave_given out size weight d w Z W =
          go R.frames (knows_past s H.term_read (terms_of R.frames) at.known (term_knows R e n H) (sym (unread_any s R.locals (term_names H.term_read)) ∙ q)) R.deep (subst (Follows R.frames) (others_past R e n H) R.follows) R.framed R.nested R.all_roomy
          (passed_as s x W.is_value P)
        where
          shorter : length (lex (drop n t)) ≤ length (lex (drop at.p t))
          shorter =
              omega (arith, ap length (others_past R e n H), lets_not_longer (length (lex (drop at.p t))) (lex (drop at.p t)) R.others R.here R.reads)

          go : (frames : List Frame) → Knows (past at.known) s (terms_of frames) → at.depth ≡ length frames → Follows frames (lex (drop n t)) → FramesAt t frames k.heads k.lens k.counts k.bounds
              → Nested R.locals frames → AllRoomy s frames base number → Passed s x frames (gives W.value) → Given s x t b k base number at.depth n (past at.known) (take size out) weight
          go [] K z F A N B Q = absurd (omega arith)
          go (top ∷ rest) K z F A N B Q = record {
            locals = R.locals;
            len = at.len;
            n = at.count;
            top = top;
            rest = rest;
            value = W.value;
            within = w;
            follows = F;
            framed = A;
            deep = z;
            few = omega (arith, R.few, shorter);
            nested = N;
            all_roomy = B;
            held = R.held;
            in_scope = R.in_scope;
            base_is = R.base_is;
            number_is = R.number_is;
            sized = Z;
            is_value = W.held;
            weighs = W.weighs;
            light = W.light;
            comes_to_lem = Q.comes_to_lem;
            evaluates = Q.evaluates;
            knows = K;
          }

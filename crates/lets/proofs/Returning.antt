-- The innermost `let` has the value of its first expression: what its name may be bound to, and what follows.
use mathlib.Core.Path.{◌≡◌, sym, ap, subst, ◌∙◌}
use Prim.Native.Nat.{ℕ, ◌-◌, ◌≤◌}
use native.Mathlib.Omega.{arith}
use mathlib.Core.Option.{none, some}
use mathlib.Core.List.{List, [], ◌∷◌, ◌++◌, append_assoc}
use lib.Dec.{T}
use lib.ListN.{length, drop}
use Rattle.language.specs.Text.{Text, bytes}
use Rattle.language.specs.Tokens.{Token, lex}
use Rattle.language.specs.Syntax.{Expr}
use Rattle.language.specs.Grammar.{the, any_expression}
use Rattle.language.specs.State.{Variable}
use Rattle.language.specs.Encode.{variables_text}
use Rattle.language.specs.Outcomes.{gives, fails, fills}
use Rattle.language.specs.Values.{Session}
use Rattle.language.specs.Expressions.{unbound, value_within, names_within}
use Rattle.language.proofs.Parsing.ValidPrograms.{valid_expr}
use Rattle.tokens.proofs.Reading.{no_some}
use Rattle.syntax.proofs.Fuel.{sign_shorter, rest_is}
use Rattle.evaluated.specs.declared.Answered.{Answered}
use Rattle.evaluated.specs.declared.Answered.TheVariants as Is
use Rattle.term_answer.specs.Telling.{Tells}
use Rattle.permits.specs.declared.Known.{Known}
use Rattle.lets.specs.Frames.{Frame, opening, Follows, next, FrameAt, Nested, Roomy}
use Rattle.lets.specs.Reaching.{Texts, Stack, Holding, Reached, Opened, Unmoved, Sinks}
use Rattle.lets.specs.Standing.{Standing, Pushed, EachStanding, AllStanding}
use Rattle.lets.specs.Giving.{Given}
use Rattle.lets.proofs.Passing.{Passed, tells_fails, tells_sinks, enters_fails, enters_fills, second_value, second_names}
use Rattle.lets.proofs.Nesting.{first_held, standing_each}
use Rattle.lets.proofs.Counting.{follows_takes}

-- the second expression of the innermost let stands past `in`
pub record Second (k : Frame) (rest : List Frame) (us : List Token) : Type 0 where
  pub after : List Token
  pub others : List Token
  pub in_reads : the "in" us ≡ some (tt, after)
  pub second_reads : any_expression after ≡ some (k.second, others)
  pub is_valid : T (valid_expr k.second)
  pub follows : Follows rest others

second_there : (k : Frame) (rest : List Frame) (us : List Token) → Follows (k ∷ rest) us → Second k rest us
second_there k rest us (next {vs} {ws} i e v f) = record { after = vs; others = ws; in_reads = i; second_reads = e; is_valid = v; follows = f }

nested_more : (ls one : List Variable) (frames : List Frame) → Nested ls frames → Nested (ls ++ one) frames
nested_more ls one [] N = tt
nested_more ls one (k ∷ rest) ((more, e), N) = ((more ++ one, ap (λ (l : List Variable). l ++ one) e ∙ append_assoc k.locals more one), N)

-- the session's own locals, where more are held
pub base_held : (s : Session) (b : Texts) (ls : List Variable) (bound base number len n : ℕ) → Roomy s ls bound base number → Holding s ls b len n → len ≤ length b.scope
    → base ≡ length (variables_text s.locals) → number ≡ length s.locals → Holding s s.locals b base number
base_held s b ls bound base number len n R H l e q =
    subst (λ (m : ℕ). Holding s s.locals b m number) (sym e)
    (subst (λ (m : ℕ). Holding s s.locals b (length (variables_text s.locals)) m) (sym q)
    (first_held s b ls s.locals R.lets len n H l R.are).0)

module _ {s : Session} {x : Expr} {t : Text} {b : Texts} {k : Stack} {base number depth at : ℕ} {known : Known} {src : Text} {weight : ℕ} (G : Given s x t b k base number depth at known src weight) where
  top_deep : depth ≤ 4096
  top_deep = omega (arith, G.few, G.deep, follows_takes (G.top ∷ G.rest) (lex (drop at t)) G.follows)

  pub depth_is : depth - 1 ≡ length G.rest
  depth_is = omega (arith, G.deep)

  all_standing : EachStanding s (G.top ∷ G.rest) t b k.heads k.lens k.counts
  all_standing =
      standing_each s t b k.heads k.lens k.counts k.bounds G.sized.deep.heads_size G.sized.deep.lens_size G.sized.deep.counts_size G.locals G.len G.n G.held G.in_scope
      (G.top ∷ G.rest) (omega (arith, top_deep, G.deep)) G.nested G.framed

  pub given_pushed : Pushed s G.top G.value t b k.heads k.lens k.counts k.bounds (depth - 1) src weight base number
  given_pushed = record {
    standing = subst (Standing s G.top t b k.heads k.lens k.counts) (sym depth_is) all_standing.0;
    bound_below = omega (arith, top_deep, G.deep, G.sized.deep.bounds_size);
    weighs = (subst (λ (d : ℕ). FrameAt t G.top d k.heads k.lens k.counts k.bounds) (sym depth_is) G.framed.0).weighs;
    name_holds = G.framed.0.name_holds;
    is_value = G.is_value;
    value_weighs = G.weighs;
    value_light = G.light;
    roomy = G.all_roomy.0;
    scope_size_lem = G.sized.scope_size_lem;
    scope_small = G.sized.scope_small;
    slots_size = G.sized.slots_size;
  }

  pub passed : Passed s x (G.top ∷ G.rest) (gives G.value)
  passed = record { comes_to_lem = G.comes_to_lem; evaluates = G.evaluates }

  S : Second G.top G.rest (lex (drop at t))
  S = second_there G.top G.rest (lex (drop at t)) G.follows

  pub in_there : the "in" (lex (drop at t)) ≡ none → ⊥
  in_there e = no_some (sym e ∙ S.in_reads)

  top_short : length (variables_text G.top.locals) ≤ length b.scope
  top_short = omega (arith, (first_held s b G.locals G.top.locals G.nested.0.0 G.len G.n G.held G.in_scope G.nested.0.1).1, G.in_scope)

  module _ (b' : Texts) (same : length b'.scope ≡ length b.scope) where
    pub given_base : Unmoved s G.top b' → Holding s s.locals b' base number
    given_base U =
        base_held s b' G.top.locals G.top.bound base number (length (variables_text G.top.locals)) (length G.top.locals) G.all_roomy.0 U (omega (arith, top_short, same)) G.base_is G.number_is

    pub given_standing : Unmoved s G.top b' → AllStanding s G.rest t b' k.heads k.lens k.counts (depth - 1)
    given_standing U = record {
      deep = depth_is;
      each =
          standing_each s t b' k.heads k.lens k.counts k.bounds G.sized.deep.heads_size G.sized.deep.lens_size G.sized.deep.counts_size
          G.top.locals (length (variables_text G.top.locals)) (length G.top.locals) U (omega (arith, top_short, same)) G.rest (omega (arith, top_deep, G.deep)) G.nested.1 G.framed.1;
    }

  pub given_fails : (out : Text) → opening s G.top (gives G.value) ≡ fails → Tells Is.Missing s (names_within (unbound s) x) (value_within (unbound s) x) out
  given_fails out e = tells_fails s x G.rest (enters_fails s x G.top G.rest (gives G.value) passed e)

  pub given_sinks : (r : Answered) (out : Text) → opening s G.top (gives G.value) ≡ fills → Sinks r s G.rest → Tells r s (names_within (unbound s) x) (value_within (unbound s) x) out
  given_sinks r out e K = tells_sinks s x G.rest r out (enters_fills s x G.top G.rest (gives G.value) passed e) K

  module _ (b' : Texts) (len n bound p : ℕ) (O : Opened s G.top G.value b' base number len n bound) (i : the "in" (lex (drop at t)) ≡ some (tt, lex (drop p t))) where
    past : S.after ≡ lex (drop p t)
    past = rest_is (sym S.in_reads ∙ i)

    pub given_next : p ≤ length t → Reached s x t b' k base number (record { p = p; depth = depth - 1; len = len; count = n; bound = bound; known = known })
    given_next w = record {
      locals = G.top.locals ++ (record { name = G.top.name; value = G.value } ∷ []);
      frames = G.rest;
      here = G.top.second;
      others = S.others;
      within = w;
      reads = ap any_expression (sym past) ∙ S.second_reads;
      is_valid = S.is_valid;
      follows = S.follows;
      framed = G.framed.1;
      deep = depth_is;
      few = omega (arith, G.few, sign_shorter (bytes "in") (lex (drop at t)) (lex (drop p t)) tt i, G.deep);
      nested = nested_more G.top.locals (record { name = G.top.name; value = G.value } ∷ []) G.rest G.nested.1;
      roomy = O.roomy;
      all_roomy = G.all_roomy.1;
      held = O.holds;
      in_scope = O.in_scope;
      base_is = G.base_is;
      number_is = G.number_is;
      comes_to_lem = second_value s x G.top G.rest (gives G.value) passed _ O.enters;
      evaluates = second_names s x G.top G.rest (gives G.value) passed _ O.enters;
      knows = G.knows;
    }

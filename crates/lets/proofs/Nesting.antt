-- The locals of each frame are the first of those inside it, and so are in the first bytes of the scope; a frame pushed leaves the others.
use mathlib.Core.Path.{◌≡◌, sym, ap, subst, ◌∙◌}
use Prim.Native.Nat.{ℕ, ◌+◌, ◌≤◌, ◌<◌}
use native.Mathlib.Omega.{arith}
use mathlib.Core.Option.{some}
use mathlib.Core.List.{List, [], ◌∷◌, ◌++◌}
use lib.Dec.{T}
use lib.ListN.{length, take, drop, get_or, set, length-append}
use lib.Seq.{length-take-le, take-take, get_or-set_same, get_or-set_other}
use Rattle.language.specs.Text.{Text}
use Rattle.language.specs.Tokens.{Token, lex}
use Rattle.language.specs.Identifiers.{is_name}
use Rattle.language.specs.State.{Variable}
use Rattle.language.specs.Encode.{variable_text, variables_text}
use Rattle.language.specs.Values.{Session}
use Rattle.values.proofs.Texts.{joined_append}
use Rattle.scopes.specs.Scopes.{Scope}
use Rattle.scopes.proofs.Naming.{first_names}
use Rattle.expression_readers.specs.Heads.{let_head}
use Rattle.lets.specs.Frames.{Frame, environment, FrameAt, FramesAt, Nested}
use Rattle.lets.specs.Reaching.{Texts, Holding}
use Rattle.lets.specs.Standing.{Framed, Standing, EachStanding}

-- ---- the first of the locals

module _ (s : Session) (b : Texts) where
  module _ (ls : List Variable) (len n : ℕ) (H : Holding s ls b len n) (l : len ≤ length b.scope) where
    pub held_length : len ≡ length (variables_text ls)
    held_length = sym (length-take-le len b.scope l) ∙ ap length H.locals_held.is_text_lem

    pub held_count : n ≡ length ls
    held_count = H.locals_held.counted

  pub first_held : (ls first more : List Variable) (len n : ℕ) → Holding s ls b len n → len ≤ length b.scope → ls ≡ first ++ more
      → Holding s first b (length (variables_text first)) (length first) × (length (variables_text first) ≤ len)
  first_held ls first more len n H l e =
      let q : length (variables_text ls) ≡ length (variables_text first) + length (variables_text more)
      = ap (λ (vs : List Variable). length (variables_text vs)) e ∙ ap length (joined_append (λ v. variable_text v.name v.value) first more) ∙ length-append (variables_text first) (variables_text more) in
      let k : length (variables_text first) ≤ len = omega (arith, q, held_length ls len n H l) in
      let F = first_names s first more (subst (λ (vs : List Variable). Scope (environment s vs 0).session b.shared b.slots b.count (take len b.scope) b.local_slots n) e H) in
      (subst (λ (t : Text). Scope (environment s first 0).session b.shared b.slots b.count t b.local_slots (length first)) (take-take (length (variables_text first)) len b.scope k) F, k)

-- ---- all frames

framed_at : (t : Text) (k : Frame) (d : ℕ) (heads lens counts bounds : List ℕ) → FrameAt t k d heads lens counts bounds → d < length heads → Framed t heads d k
framed_at t k d heads lens counts bounds F h = record { below = h; within = F.within; rest = F.rest; named = F.named }

module _ (s : Session) (t : Text) (b : Texts) (heads lens counts bounds : List ℕ) (n-heads : length heads ≡ 4096) (n-lens : length lens ≡ 4096) (n-counts : length counts ≡ 4096) where
  pub standing_at : (k : Frame) (d : ℕ) → FrameAt t k d heads lens counts bounds → d < 4096 → Holding s k.locals b (length (variables_text k.locals)) (length k.locals)
      → length (variables_text k.locals) ≤ length b.scope → Standing s k t b heads lens counts d
  standing_at k d F h H l = record {
    framed = framed_at t k d heads lens counts bounds F (omega (arith, h, n-heads));
    len_below = omega (arith, h, n-lens);
    count_below = omega (arith, h, n-counts);
    in_scope = omega (arith, l, F.long);
    held =
        subst (λ (m : ℕ). Holding s k.locals b m (get_or counts d 0)) (sym F.long)
        (subst (λ (m : ℕ). Holding s k.locals b (length (variables_text k.locals)) m) (sym F.counted) H);
  }

  pub standing_each : (ls : List Variable) (len n : ℕ) → Holding s ls b len n → len ≤ length b.scope → (frames : List Frame) → length frames ≤ 4096
      → Nested ls frames → FramesAt t frames heads lens counts bounds → EachStanding s frames t b heads lens counts
  standing_each ls len n H l [] m N F = tt
  standing_each ls len n H l (k ∷ rest) m ((more, e), N) (F, G) =
      let (I, i) = first_held s b ls k.locals more len n H l e in
      let j : length (variables_text k.locals) ≤ length b.scope = omega (arith, i, l) in (
        standing_at k (length rest) F (omega arith) I j,
        standing_each k.locals (length (variables_text k.locals)) (length k.locals) I j rest (omega arith) N G,
      )

-- ---- a frame pushed

other : (i j : ℕ) → i < j → i ≡ j → ⊥
other i j h e = omega (arith, h, e)

module _ (t : Text) (heads lens counts bounds : List ℕ) (d p len n bound : ℕ) where
  frame_stays : (k : Frame) (i : ℕ) → i < d → FrameAt t k i heads lens counts bounds → FrameAt t k i (set heads d p) (set lens d len) (set counts d n) (set bounds d bound)
  frame_stays k i h F =
      let e₁ : get_or (set heads d p) i 0 ≡ get_or heads i 0 = get_or-set_other heads d i p 0 (other i d h) in
      record {
        within = subst (λ (m : ℕ). m ≤ length t) (sym e₁) F.within;
        rest = F.rest;
        named = ap (λ (m : ℕ). let_head (lex (drop m t))) e₁ ∙ F.named;
        name_holds = F.name_holds;
        long = get_or-set_other lens d i len 0 (other i d h) ∙ F.long;
        counted = get_or-set_other counts d i n 0 (other i d h) ∙ F.counted;
        weighs = get_or-set_other bounds d i bound 0 (other i d h) ∙ F.weighs;
      }

  pub frames_stay : (frames : List Frame) → length frames ≤ d → FramesAt t frames heads lens counts bounds → FramesAt t frames (set heads d p) (set lens d len) (set counts d n) (set bounds d bound)
  frames_stay [] h F = tt
  frames_stay (k ∷ rest) h (F, G) = (frame_stays k (length rest) (omega arith) F, frames_stay rest (omega arith) G)

  module _ (h₁ : d < length heads) (h₂ : d < length lens) (h₃ : d < length counts) (h₄ : d < length bounds) where
    pub frame_pushed : (k : Frame) (rest : List Token) → p ≤ length t → let_head (lex (drop p t)) ≡ some (k.name, rest) → T (is_name k.name)
        → len ≡ length (variables_text k.locals) → n ≡ length k.locals → bound ≡ k.bound
        → FrameAt t k d (set heads d p) (set lens d len) (set counts d n) (set bounds d bound)
    frame_pushed k rest w e i q r z =
        let e₁ : get_or (set heads d p) d 0 ≡ p = get_or-set_same heads d p 0 h₁ in
        record {
          within = subst (λ (m : ℕ). m ≤ length t) (sym e₁) w;
          rest = rest;
          named = ap (λ (m : ℕ). let_head (lex (drop m t))) e₁ ∙ e;
          name_holds = i;
          long = get_or-set_same lens d len 0 h₂ ∙ q;
          counted = get_or-set_same counts d n 0 h₃ ∙ r;
          weighs = get_or-set_same bounds d bound 0 h₄ ∙ z;
        }

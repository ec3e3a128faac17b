use mathlib.Core.Path.{sym, ap, subst, ◌∙◌}
use Prim.Native.Nat.{ℕ, ◌≤◌}
use lib.ListN.{length, drop}
use Rattle.language.specs.Tokens.{lex}
use Rattle.expression_readers.specs.Heads.{let_head}
use Rattle.lets.proofs.frames.name_of.Goals as goal

pub name_at-requires : goal.name_at-requires
name_at-requires c =
    let t = c.args.text.now in
    let F = c.requires.framed in
    record {
      within = subst (λ (m : ℕ). m ≤ length t) (sym c.small.ensures.0) F.within;
      name = c.requires.frame.name;
      rest = F.rest;
      named = ap (λ (m : ℕ). let_head (lex (drop m t))) c.small.ensures.0 ∙ F.named;
    }

pub returns : goal.returns
returns c =
    let t = c.args.text.now in record {
      within = c.name_at.ensures.within;
      named = λ k F. c.name_at.ensures.named k.name F.rest (ap (λ (m : ℕ). let_head (lex (drop m t))) c.small.ensures.0 ∙ F.named);
    }

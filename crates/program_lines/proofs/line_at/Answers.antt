use mathlib.Core.Path.{sym, ◌∙◌}
use native.Mathlib.Omega.{arith}
use Rattle.program_lines.proofs.Rows.{stars, stars_more, no_newline, comment_row, token_row}
use Rattle.program_lines.proofs.line_at.Goals as goal

pub returns-then-text-end-le1 : goal.returns-then-text-end-le1
returns-then-text-end-le1 c =
    let a = c.args in
    let t = a.text.now in
    let same = sym c.same_bytes.ensures ∙ c.if-same_bytes.true in record {
      meant = stars t a.at c.until-end.result c.requires c.until-end.ensures.ends same (omega arith) c.if-text-end-le1.true;
      placed = tt;
    }

pub returns-then-same_bytes : goal.returns-then-same_bytes
returns-then-same_bytes c =
    let a = c.args in
    let t = a.text.now in
    let same = sym c.same_bytes.ensures ∙ c.if-same_bytes.true in record {
      meant = stars_more t a.at c.until-end.result c.requires c.until-end.ensures.ends same c.if-text-end-le1.false;
      placed = tt;
    }

pub returns-then-end-text : goal.returns-then-end-text
returns-then-end-text c =
    let a = c.args in
    let t = a.text.now in
    let same = sym c.same_bytes.ensures ∙ c.if-same_bytes.false in record {
      meant = no_newline t a.at c.until-end.result c.requires c.until-end.ensures.ends same (omega arith);
      placed = tt;
    }

pub returns-then-is_comment : goal.returns-then-is_comment
returns-then-is_comment c =
    let a = c.args in
    let t = a.text.now in
    let same = sym c.same_bytes.ensures ∙ c.if-same_bytes.false in record {
      meant = comment_row t a.at c.until-end.result c.requires c.until-end.ensures.ends same (omega arith) (sym c.is_comment.ensures ∙ c.if-is_comment.true);
      placed = omega arith;
    }

pub returns : goal.returns
returns c =
    let a = c.args in
    let t = a.text.now in
    let same = sym c.same_bytes.ensures ∙ c.if-same_bytes.false in record {
      meant = token_row t a.at c.until-end.result c.requires c.until-end.ensures.ends same (omega arith) (sym c.is_comment.ensures ∙ c.if-is_comment.false);
      placed = omega arith;
    }

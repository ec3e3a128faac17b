-- `evaluate::value` meets its contract. One arm for each kind of term.
-- Assumes nothing.
use mathlib.Core.Path.{◌≡◌, sym, subst}
use Rattle.language.specs.Text.{Text}
use Rattle.language.specs.Syntax.{Term}
use Rattle.language.specs.Values.{Session}
use Rattle.language.specs.Expressions.{term_value}
use Rattle.syntax.proofs.Said.{single_meant, empty_meant, record_meant, lower_meant, call_meant, compare_meant, single_safe, record_safe, lower_safe, call_safe, compare_safe}
use Rattle.evaluated.specs.Results.{Valued}
use Rattle.evaluated.specs.declared.Evaluated.{Evaluated}
use Rattle.evaluate.proofs.value.Goals as goal

-- the same term, by another name
valued-at : (r : Evaluated) (s : Session) (out : Text) {x y : Term} → x ≡ y → Valued r (term_value s y) out → Valued r (term_value s x) out
valued-at r s out e h = subst (λ (z : Term). Valued r (term_value s z) out) (sym e) h

pub put_operand-requires : goal.put_operand-requires
put_operand-requires c =
    record {
      some_scope = c.requires.some_scope;
      operand_within = single_safe c.args.text.now c.args.e c.requires.some_term.0 c.in-Single.v c.in-Single.is;
      in_bounds = c.requires.lent.out_size;
    }

pub put_fields-requires : goal.put_fields-requires
put_fields-requires c =
    record {
      some_scope = c.requires.some_scope;
      some_record = (record_safe c.args.text.now c.args.e c.requires.some_term.0 c.in-Record.at c.in-Record.is, c.requires.some_term.1);
      lent = c.requires.lent;
    }

pub put_lower-requires : goal.put_lower-requires
put_lower-requires c =
    record {
      some_scope = c.requires.some_scope;
      operand_within = lower_safe c.args.text.now c.args.e c.requires.some_term.0 c.in-Lower.v c.in-Lower.is;
      in_bounds = c.requires.lent.out_size;
    }

pub put_call-requires : goal.put_call-requires
put_call-requires c =
    let S = call_safe c.args.text.now c.args.e c.requires.some_term.0 c.in-Call.f c.in-Call.v c.in-Call.w c.in-Call.is in record {
      some_scope = c.requires.some_scope;
      operand_within = S.0;
      operand_within_2 = (S.1.0, S.1.1, c.requires.lent.out_size);
    }

pub put_comparison-requires : goal.put_comparison-requires
put_comparison-requires c =
    let S = compare_safe c.args.text.now c.args.e c.requires.some_term.0 c.in-Compare.c c.in-Compare.v c.in-Compare.w c.in-Compare.is in record {
      some_scope = c.requires.some_scope;
      operand_within = (S.0.0, S.1.0, c.requires.lent.out_size);
    }

pub returns-in-Single : goal.returns-in-Single
returns-in-Single c s x S m = valued-at c.put_operand.result s c.put_operand.new.out (single_meant c.args.text.now c.args.e c.in-Single.v x c.in-Single.is m) (c.put_operand.ensures s S)

pub returns-in-Empty : goal.returns-in-Empty
returns-in-Empty c s x S m = valued-at c.put_empty.result s c.put_empty.new.out (empty_meant c.args.text.now c.args.e x c.in-Empty.is m) c.put_empty.ensures

pub returns-in-Record : goal.returns-in-Record
returns-in-Record c s x S m =
    let F = record_meant c.args.text.now c.args.e c.in-Record.at x c.in-Record.is m in
    valued-at c.put_fields.result s c.put_fields.new.out F.is_record (c.put_fields.ensures s F.bindings F.others S F.here)

pub returns-in-Lower : goal.returns-in-Lower
returns-in-Lower c s x S m = valued-at c.put_lower.result s c.put_lower.new.out (lower_meant c.args.text.now c.args.e c.in-Lower.v x c.in-Lower.is m) (c.put_lower.ensures s S)

pub returns-in-Call : goal.returns-in-Call
returns-in-Call c s x S m = valued-at c.put_call.result s c.put_call.new.out (call_meant c.args.text.now c.args.e c.in-Call.f c.in-Call.v c.in-Call.w x c.in-Call.is m) (c.put_call.ensures s S)

pub returns-in-Compare : goal.returns-in-Compare
returns-in-Compare c s x S m = valued-at c.put_comparison.result s c.put_comparison.new.out (compare_meant c.args.text.now c.args.e c.in-Compare.c c.in-Compare.v c.in-Compare.w x c.in-Compare.is m) (c.put_comparison.ensures s S)

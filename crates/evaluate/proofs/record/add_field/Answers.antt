-- `evaluate::record::add_field` meets its contract. The field is added by the string that its operand is, found in the operand's source.
-- Assumes nothing.
use mathlib.Core.Path.{sym, subst}
use Rattle.text.specs.Meaning.{part}
use Rattle.evaluated.specs.Results.{MaybeString}
use Rattle.evaluate.proofs.Calling.{source_string, source_short}
use Rattle.evaluate.proofs.Drafting.{extends_by}
use Rattle.evaluate.proofs.record.add_field.Goals as goal

pub string_in-found-requires : goal.string_in-found-requires
string_in-found-requires c = (record { session = c.requires.some_scope.session; held = c.source-s.ensures c.requires.some_scope.session c.requires.some_scope.scope }, c.requires.within.1)

pub add_found-requires : goal.add_found-requires
add_found-requires c =
    let t = c.args.text.now in
    let v = c.args.v in
    let H = c.source-s.ensures c.requires.some_scope.session c.requires.some_scope.scope in record {
      lent = c.requires.lent;
      placed = (c.string_in-found.ensures.placed, subst MaybeString (sym (c.string_in-found.ensures.meant c.requires.some_scope.session H)) (source_string c.requires.some_scope.session t c.source-s.result.now v H c.requires.within.2), source_short c.requires.some_scope.scope t c.source-s.result.now v H c.requires.within.3);
    }

pub returns : goal.returns
returns c s fs S D h =
    let a = c.args in
    extends_by fs (part a.text.now a.x) c.add_found.result c.add_found.new.out c.add_found.new.slots (c.string_in-found.ensures.meant s (c.source-s.ensures s S)) (c.add_found.ensures fs D h)

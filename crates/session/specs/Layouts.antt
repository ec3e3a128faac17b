-- A layout whose locals, or whose shared variables and assertions, are others.
use Rattle.std.specs.Prelude.{ℕ}
use Rattle.session.specs.declared.Layout.{Layout}

abbrev pub with_other_locals : Layout → ℕ → ℕ → ℕ → Layout
with_other_locals l n count weight = record {
  principals_len = l.principals_len;
  principals = l.principals;
  vars_len = l.vars_len;
  vars = l.vars;
  locals_len = n;
  locals = count;
  asserted = l.asserted;
  delegator = l.delegator;
  sender = l.sender;
  weight = weight;
  is_open = l.is_open;
}

abbrev pub with_other_shared : Layout → ℕ → ℕ → ℕ → ℕ → Layout
with_other_shared l n count asserted weight = record {
  principals_len = l.principals_len;
  principals = l.principals;
  vars_len = n;
  vars = count;
  locals_len = l.locals_len;
  locals = l.locals;
  asserted = asserted;
  delegator = l.delegator;
  sender = l.sender;
  weight = weight;
  is_open = l.is_open;
}

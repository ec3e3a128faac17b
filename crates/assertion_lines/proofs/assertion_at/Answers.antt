use Rattle.std.proofs.Common.{◌≡◌, ℕ, ◌+◌, get_or, sym, ap, ◌∙◌, arith}
use Rattle.assertion.specs.Packed.{pack}
use Rattle.store.specs.Rows.{row_names}
use Rattle.assertion_lines.specs.Assertions.{code_of}
use Rattle.references.proofs.Members.{member_word, member_number}
use Rattle.assertion_lines.proofs.Grants.{no_giver, no_right, no_second_tab, no_taker, assertion_heavy, assertion_good}
use Rattle.assertion_lines.proofs.assertion_at.Goals as goal

pub returns-in_err-q : goal.returns-in_err-q
returns-in_err-q c =
    let is-tab : get_or c.args.text.now (c.args.at + 1) 0 ≡ 9 = sym c.byte_at.ensures ∙ c.if-byte_at-ne9.false in
    let r = c.args.roll in
    λ prows vrows G W.
    let pw = member_word prows c.args.text.now r.principals_from r.principals_to r.principals c.args.principals.now G in
    let vw = member_word vrows c.args.text.now r.vars_from r.vars_to r.vars c.args.vars.now W in
    rw c.from_residual-in_err-q.ensures (no_giver (row_names prows) (row_names vrows) pw vw c.args.text.now c.args.at c.args.w c.requires.1 is-tab _ _ (c.in_ok-x.ensures vrows W) (c.in_err-q.ensures prows G))

pub returns-in_err-right : goal.returns-in_err-right
returns-in_err-right c =
    let is-tab : get_or c.args.text.now (c.args.at + 1) 0 ≡ 9 = sym c.byte_at.ensures ∙ c.if-byte_at-ne9.false in
    let r = c.args.roll in
    λ prows vrows G W.
    let pw = member_word prows c.args.text.now r.principals_from r.principals_to r.principals c.args.principals.now G in
    let vw = member_word vrows c.args.text.now r.vars_from r.vars_to r.vars c.args.vars.now W in
    rw c.from_residual-in_err-right.ensures (no_right (row_names prows) (row_names vrows) pw vw c.args.text.now c.args.at c.args.w c.requires.1 is-tab _ _ (c.in_ok-x.ensures vrows W) _ _ (c.in_ok-q.ensures prows G) (ap code_of (sym c.byte_at-2.ensures) ∙ c.in_err-right.ensures))

pub returns-then-byte_at-ne9-2 : goal.returns-then-byte_at-ne9-2
returns-then-byte_at-ne9-2 c =
    let is-tab : get_or c.args.text.now (c.args.at + 1) 0 ≡ 9 = sym c.byte_at.ensures ∙ c.if-byte_at-ne9.false in
    let e : c.in_ok-right.right ≡ code_of (get_or c.args.text.now (c.in_ok-q.n + 1) 0) = c.in_ok-right.ensures.0 ∙ ap code_of c.byte_at-2.ensures in
    let is_right : code_of (get_or c.args.text.now (c.in_ok-q.n + 1) 0) ≡ 4 → ⊥ = λ z. omega (arith, c.in_ok-right.ensures.1) in
    let r = c.args.roll in
    λ prows vrows G W.
    let pw = member_word prows c.args.text.now r.principals_from r.principals_to r.principals c.args.principals.now G in
    let vw = member_word vrows c.args.text.now r.vars_from r.vars_to r.vars c.args.vars.now W in
    no_second_tab (row_names prows) (row_names vrows) pw vw c.args.text.now c.args.at c.args.w c.requires.1 is-tab _ _ (c.in_ok-x.ensures vrows W) _ _ (c.in_ok-q.ensures prows G) (λ z. c.if-byte_at-ne9-2.true (c.byte_at-3.ensures ∙ z))

pub returns-in_err-p : goal.returns-in_err-p
returns-in_err-p c =
    let is-tab : get_or c.args.text.now (c.args.at + 1) 0 ≡ 9 = sym c.byte_at.ensures ∙ c.if-byte_at-ne9.false in
    let e : c.in_ok-right.right ≡ code_of (get_or c.args.text.now (c.in_ok-q.n + 1) 0) = c.in_ok-right.ensures.0 ∙ ap code_of c.byte_at-2.ensures in
    let is_right : code_of (get_or c.args.text.now (c.in_ok-q.n + 1) 0) ≡ 4 → ⊥ = λ z. omega (arith, c.in_ok-right.ensures.1) in
    let is-tab2 : get_or c.args.text.now (c.in_ok-q.n + 2) 0 ≡ 9 = sym c.byte_at-3.ensures ∙ c.if-byte_at-ne9-2.false in
    let r = c.args.roll in
    λ prows vrows G W.
    let pw = member_word prows c.args.text.now r.principals_from r.principals_to r.principals c.args.principals.now G in
    let vw = member_word vrows c.args.text.now r.vars_from r.vars_to r.vars c.args.vars.now W in
    rw c.from_residual-in_err-p.ensures (no_taker (row_names prows) (row_names vrows) pw vw c.args.text.now c.args.at c.args.w c.requires.1 is-tab _ _ (c.in_ok-x.ensures vrows W) _ _ (c.in_ok-q.ensures prows G) (c.in_err-p.ensures prows G))

pub returns-then-weighed-gt-LIMIT : goal.returns-then-weighed-gt-LIMIT
returns-then-weighed-gt-LIMIT c =
    let is-tab : get_or c.args.text.now (c.args.at + 1) 0 ≡ 9 = sym c.byte_at.ensures ∙ c.if-byte_at-ne9.false in
    let e : c.in_ok-right.right ≡ code_of (get_or c.args.text.now (c.in_ok-q.n + 1) 0) = c.in_ok-right.ensures.0 ∙ ap code_of c.byte_at-2.ensures in
    let is_right : code_of (get_or c.args.text.now (c.in_ok-q.n + 1) 0) ≡ 4 → ⊥ = λ z. omega (arith, c.in_ok-right.ensures.1) in
    let is-tab2 : get_or c.args.text.now (c.in_ok-q.n + 2) 0 ≡ 9 = sym c.byte_at-3.ensures ∙ c.if-byte_at-ne9-2.false in
    let r = c.args.roll in
    λ prows vrows G W.
    let pw = member_word prows c.args.text.now r.principals_from r.principals_to r.principals c.args.principals.now G in
    let vw = member_word vrows c.args.text.now r.vars_from r.vars_to r.vars c.args.vars.now W in
    assertion_heavy (row_names prows) (row_names vrows) pw vw c.args.text.now c.args.at c.args.w c.requires.1 is-tab _ _ (c.in_ok-x.ensures vrows W) _ _ (c.in_ok-q.ensures prows G) is_right is-tab2 _ _ (c.in_ok-p.ensures prows G) (omega (arith, c.if-weighed-gt-LIMIT.true, c.name_weight.ensures, c.name_weight-2.ensures))

pub pack-requires : goal.pack-requires
pack-requires c =
    let r = c.args.roll in
    let P = c.requires.0.principals_some in
    let X = c.requires.0.vars_some in (
      omega (arith, member_number X.rows c.args.text.now r.vars_from r.vars_to r.vars c.args.vars.now X.held _ _ _ _ (c.in_ok-x.ensures X.rows X.held), c.requires.0.vars_few),
      omega (arith, member_number P.rows c.args.text.now r.principals_from r.principals_to r.principals c.args.principals.now P.held _ _ _ _ (c.in_ok-q.ensures P.rows P.held), c.requires.0.principals_few),
      omega (arith, member_number P.rows c.args.text.now r.principals_from r.principals_to r.principals c.args.principals.now P.held _ _ _ _ (c.in_ok-p.ensures P.rows P.held), c.requires.0.principals_few),
    )

pub returns : goal.returns
returns c =
    let is-tab : get_or c.args.text.now (c.args.at + 1) 0 ≡ 9 = sym c.byte_at.ensures ∙ c.if-byte_at-ne9.false in
    let e : c.in_ok-right.right ≡ code_of (get_or c.args.text.now (c.in_ok-q.n + 1) 0) = c.in_ok-right.ensures.0 ∙ ap code_of c.byte_at-2.ensures in
    let is_right : code_of (get_or c.args.text.now (c.in_ok-q.n + 1) 0) ≡ 4 → ⊥ = λ z. omega (arith, c.in_ok-right.ensures.1) in
    let is-tab2 : get_or c.args.text.now (c.in_ok-q.n + 2) 0 ≡ 9 = sym c.byte_at-3.ensures ∙ c.if-byte_at-ne9-2.false in
    let r = c.args.roll in
    λ prows vrows G W.
    let pw = member_word prows c.args.text.now r.principals_from r.principals_to r.principals c.args.principals.now G in
    let vw = member_word vrows c.args.text.now r.vars_from r.vars_to r.vars c.args.vars.now W in
    assertion_good (row_names prows) (row_names vrows) pw vw c.args.text.now c.args.at c.args.w c.requires.1 is-tab _ _ (c.in_ok-x.ensures vrows W) _ _ (c.in_ok-q.ensures prows G) is_right is-tab2 _ _ (c.in_ok-p.ensures prows G) _ _
    (c.pack.ensures ∙ ap (λ (i : ℕ). pack c.in_ok-x.x c.in_ok-q.q i c.in_ok-p.p) e)
    (omega (arith, c.name_weight.ensures, c.name_weight-2.ensures)) c.if-weighed-gt-LIMIT.false

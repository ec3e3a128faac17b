use Rattle.std.proofs.Common.{◌≡◌, ◌<◌, ◌∙◌, sym, ap, not, arith, rules}
use Rattle.text.specs.Meaning.{part}
use Rattle.permits.specs.declared.Known.TheVariants as Is
use Rattle.expression_rights.proofs.Asking.{asking_start, of_whole, front, front_safe, front_denied, front_last, in_there, past_front, head_there, past_let}
use Rattle.expression_rights.proofs.lets_known.Goals as goal

pub terms-init : goal.terms-init
terms-init c =
    let E = c.requires.1 in record {
      text = search rules;
      within = E.within.0;
      few = omega arith;
      counted = omega arith;
      asking = asking_start _ c.args.text.now c.args.at E;
    }

pub readable-requires : goal.readable-requires
readable-requires c =
    let i = c.terms.invariant in
    let m = rw i.text at c.in-Some.ensures.meant in
    let p = rw i.text at c.in-Some.ensures.placed in
    let F = front i.asking c.in-Some.e c.read_term.new.scanner.at p.0 (sym m) in
    (c.requires.0, front_safe i.asking F p.0)

pub returns-then-not-readable : goal.returns-then-not-readable
returns-then-not-readable c s x W n =
    let i = c.terms.invariant in
    let m = rw i.text at c.in-Some.ensures.meant in
    let p = rw i.text at c.in-Some.ensures.placed in
    let F = front i.asking c.in-Some.e c.read_term.new.scanner.at p.0 (sym m) in
    let no = c.readable.ensures s F.found W F.meant ∙ ap not c.if-not-readable.true in
    of_whole i.asking x n s (Is.Until c.terms.done) (front_denied i.asking F s W no)

pub returns-then-pending-eq0 : goal.returns-then-pending-eq0
returns-then-pending-eq0 c s x W n =
    let i = c.terms.invariant in
    let m = rw i.text at c.in-Some.ensures.meant in
    let p = rw i.text at c.in-Some.ensures.placed in
    let F = front i.asking c.in-Some.e c.read_term.new.scanner.at p.0 (sym m) in
    let yes = c.readable.ensures s F.found W F.meant ∙ ap not c.if-not-readable.false in
    let z : c.terms.pending ≡ 0 = omega arith in
    of_whole i.asking x n s Is.All (front_last i.asking F s W z yes)

pub returns-in_default : goal.returns-in_default
returns-in_default c s x W n =
    let i = c.terms.invariant in
    let m = rw i.text at c.in-Some.ensures.meant in
    let p = rw i.text at c.in-Some.ensures.placed in
    let F = front i.asking c.in-Some.e c.read_term.new.scanner.at p.0 (sym m) in
    let f = rw (c.in-Some.ensures.text, i.text) at c.in_default.ensures.meant in
    let h : 0 < c.terms.pending = omega (arith, c.if-pending-eq0.false) in
    absurd (in_there i.asking F h (sym f))

pub terms-preserved-in-Some : goal.terms-preserved-in-Some
terms-preserved-in-Some c =
    let i = c.terms.invariant in
    let m = rw i.text at c.in-Some.ensures.meant in
    let p = rw i.text at c.in-Some.ensures.placed in
    let F = front i.asking c.in-Some.e c.read_term.new.scanner.at p.0 (sym m) in
    let f = rw (c.in-Some.ensures.text, i.text) at c.in-Some-expect.ensures.meant in
    let q = rw (c.in-Some.ensures.text, i.text) at c.in-Some-expect.ensures.placed in
    let h : 0 < c.terms.pending = omega (arith, c.if-pending-eq0.false) in record {
      text = search rules;
      within = omega (arith, q);
      few = omega (arith, p, q);
      counted = omega (arith, p, q);
      asking = past_front i.asking F h c.expect.new.self.at (sym f) (λ s W. c.readable.ensures s F.found W F.meant ∙ ap not c.if-not-readable.false);
    }

pub returns-in_default-read_let : goal.returns-in_default-read_let
returns-in_default-read_let c s x W n =
    let i = c.terms.invariant in
    let m = rw i.text at c.in-None.ensures.meant in
    let f = rw i.text at c.in_default-read_let.ensures.meant in
    absurd (head_there i.asking (sym m) (sym f))

pub terms-preserved : goal.terms-preserved
terms-preserved c =
    let t = c.args.text.now in
    let i = c.terms.invariant in
    let m = rw i.text at c.in-None.ensures.meant in
    let f = rw i.text at c.in-Some-read_let.ensures.meant in
    let q = rw i.text at c.in-Some-read_let.ensures.placed in record {
      text = search rules;
      within = omega (arith, q);
      few = omega (arith, q);
      counted = omega (arith, q);
      asking = past_let i.asking (sym m) (part t c.in-Some-read_let.field-0) c.read_let.new.scanner.at (sym f);
    }

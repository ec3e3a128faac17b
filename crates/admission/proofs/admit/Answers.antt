use Rattle.text.specs.Meaning.{part}
use Rattle.admission.proofs.admit.Goals as goal

pub returns-in-Some-login : goal.returns-in-Some-login
returns-in-Some-login c v k s R =
    let t = c.args.program.now in
    let head = c.in-Some.head in
    let h = c.in-Some-login.ensures v k s R in
    let p = c.in-Some.ensures.placed in
    record {
      opening = record { sender = part t head.sender; password = part t head.password };
      parsed = c.in-Some.ensures.meant;
      placed = p.2;
      not_longer = p.3;
      logged_in = h.0;
      numbered = h.1;
    }

use mathlib.Core.Path.{sym}
use Rattle.value_text.proofs.Pieces.{◌▸◌, rewritten}
use Rattle.decimals.proofs.Digits.{digit_last, longer}
use Rattle.decimals.proofs.+put_digits.Goals as goal

pub returns-then-n-lt10 : goal.returns-then-n-lt10
returns-then-n-lt10 t c = λ more d. rewritten (digit_last more c.args.n c.if-n-lt10.true) c.put_byte.ensures

pub returns : goal.returns
returns t c = λ more k.
    let L = longer more c.args.n c.if-n-lt10.false k in
    rewritten (sym L.parted) (c.put_digits-p.ensures L.less L.enough ▸ c.put_byte-2.ensures)

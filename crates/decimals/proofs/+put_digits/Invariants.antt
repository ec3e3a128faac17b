use Rattle.decimals.proofs.+put_digits.Given as goal

-- it calls itself with a tenth of the number
abbrev pub decreases-put_digits : goal.decreases-put_digits
decreases-put_digits l = l.n

use Rattle.report.proofs.+put_digits.Given as goal

-- `report::put_digits` calls itself for the tenth of its number: the measure is the number.
abbrev pub decreases-put_digits : goal.decreases-put_digits
decreases-put_digits l = l.n

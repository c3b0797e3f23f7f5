-- Case Mux of document 01, "Gate walk and program", a refusal, and numbers of one, two and four digits. Assumes nothing.
use mathlib.Core.Path.{◌≡◌, refl}
use mathlib.Core.Bool.{false}
use Rattle.kung.specs.Class.{S1}
use Rattle.report.specs.Text.{ascii, digits, decimal, line, counts_line, verdict_word, verdict_line, refusal_line}

counts : counts_line 3 4 1 1 ≡ ascii "3 inputs 4 gates 1 outputs 1 changes\n"
unfolding digits decimal line counts_line
counts = refl

verdict : verdict_line 0 0 S1 false 4 7 ≡ ascii "0 0 S1 hazard 4 7\n"
unfolding digits decimal line verdict_word verdict_line
verdict = refl

refusal : refusal_line 14 5 ≡ ascii "refused 14 at 5\n"
unfolding digits decimal line refusal_line
refusal = refl

zero_digit : decimal 0 ≡ ascii "0"
unfolding digits decimal
zero_digit = refl

two_digits : decimal 10 ≡ ascii "10"
unfolding digits decimal
two_digits = refl

four_digits : decimal 2048 ≡ ascii "2048"
unfolding digits decimal
four_digits = refl

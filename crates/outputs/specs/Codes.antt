-- What the code finds, as an output's byte.
use Rattle.std.specs.Prelude.{ℕ}
use Rattle.visit.specs.declared.Verdict as found
use Rattle.visit.specs.declared.Verdict.TheVariants as verdict

abbrev pub found_byte : found.Verdict → ℕ
found_byte (verdict.Clean class) = 0
found_byte verdict.Hazardous = 1

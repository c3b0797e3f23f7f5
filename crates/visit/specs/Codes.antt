-- What the code's numbers say of what stands behind a pin, and of a search's end.
use Rattle.std.specs.Prelude.{ℕ, cond, ltb}
use Rattle.kung.specs.Class.{code}
use Rattle.search.specs.Search.{Driver, told, behind}
use Rattle.visit.specs.declared.Verdict.{Verdict}
use Rattle.visit.specs.declared.Verdict.TheVariants.{Clean, Hazardous}

-- what stands behind a pin: the class that is told, or 8 for a gate to visit
abbrev pub told_of : Driver → ℕ
told_of (told k) = code k
told_of (behind p next) = 8

-- "If the output's gate becomes known, it is clean."
abbrev pub verdict_from : (ending : ℕ) → Verdict
verdict_from ending = cond (ltb ending 8) (Clean ending) Hazardous

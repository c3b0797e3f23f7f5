-- What a search hands back.
use Rattle.kung.specs.Class.{code}
use Rattle.search.specs.Search as search
use Rattle.visit.specs.declared.Verdict.{Verdict}
use Rattle.visit.specs.declared.Verdict.TheVariants.{Clean, Hazardous}
use Rattle.visit.specs.declared.Found.{Found}

abbrev pub verdict_code : search.Verdict → Verdict
verdict_code (search.clean k) = Clean (code k)
verdict_code search.hazardous = Hazardous

-- the answer of a search: its verdict, gates visited and pins taken
abbrev pub found_of : search.Answer → Found
found_of answer = record { verdict = verdict_code answer.verdict; gates = answer.gates; pins = answer.pins }

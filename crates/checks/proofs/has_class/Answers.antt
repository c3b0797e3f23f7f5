use Rattle.kung.specs.Sets.{has}
use Rattle.checks.proofs.Codes.{code_of_code}
use Rattle.checks.proofs.has_class.Goals as goal

-- `checks::has_class` meets its contract. Assumes nothing.
pub returns : goal.returns
unfolding has
returns c = rw (code_of_code c.args.class)

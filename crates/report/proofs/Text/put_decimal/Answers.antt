use mathlib.Core.Path.{refl}
use Rattle.report.proofs.Placing.{appended}
use Rattle.report.proofs.Text.put_decimal.Goals as goal

-- the digits stand where the text ended
pub returns : goal.returns
returns c = appended refl c.put_digits-self.ensures

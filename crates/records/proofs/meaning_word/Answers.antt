use Rattle.std.proofs.Common.{rules}
use Rattle.records.specs.Meaning.{meaning_word}
use Rattle.records.proofs.meaning_word.Goals as goal

-- `meaning_word`: the parts added. Assumes nothing.
pub returns : goal.returns
unfolding meaning_word
returns c = search rules

use Rattle.std.proofs.Common.{ap, ◌∙◌}
use Rattle.records.specs.Meaning.{meaning_word}
use Rattle.records.proofs.Meanings.{meaning_low}
use Rattle.records.proofs.byte_word.Goals as goal

-- `byte_word`: a meaning's parts are small. Assumes nothing.
pub meaning_word-requires : goal.meaning_word-requires
meaning_word-requires c = rw c.meaning_of.ensures (meaning_low c.args.kind)

pub returns : goal.returns
returns c = c.meaning_word.ensures ∙ ap meaning_word c.meaning_of.ensures

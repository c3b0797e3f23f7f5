use Rattle.report.specs.Text.{verdict_word}
use Rattle.report.proofs.Text.put_judgement.Goals as goal

-- by cases of the verdict
pub put_word-requires : goal.put_word-requires
unfolding verdict_word
put_word-requires c = rw c.if-clean.true at c.requires

pub put_word-requires-else-clean : goal.put_word-requires-else-clean
unfolding verdict_word
put_word-requires-else-clean c = rw c.if-clean.false at c.requires

pub returns-then-clean : goal.returns-then-clean
unfolding verdict_word
returns-then-clean c = rw c.if-clean.true c.put_word.ensures

pub returns-else-clean : goal.returns-else-clean
unfolding verdict_word
returns-else-clean c = rw c.if-clean.false c.put_word-else-clean.ensures

use Rattle.std.proofs.Common.{rules, ℕ}
use Rattle.words.proofs.Made.{made_at}
use Rattle.records.specs.Meaning.{meaning_of, meaning_word}
use Rattle.records.proofs.Meanings.{table_all}
use Rattle.records.proofs.meaning_table.Goals as goal

-- `meaning_table`: each word is its byte's. Assumes nothing.
pub returns : goal.returns
returns c =
    let made = c.from_fn.ensures.items in
    table_all _ made.long (made_at _ (λ (k : ℕ). meaning_word (meaning_of k)) _ _ 8 0 (λ k y f' l called. search rules) made)

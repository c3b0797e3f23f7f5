use Rattle.std.proofs.Common.{List, ℕ, slice_get, ap, ◌∙◌}
use Rattle.records.proofs.Meanings.{read_slot}
use Rattle.records.proofs.kind_word.Goals as goal

-- `kind_word`: the words are the table's. Assumes nothing.
pub returns : goal.returns
returns c =
    let words = c.args.meanings.now in
    c.copied.ensures ∙ read_slot words c.args.kind c.get.result c.get.ensures.lookup.0 c.get.ensures.lookup.1
    ∙ ap (λ (l : List ℕ). slice_get l c.args.kind) c.requires

use mathlib.Core.Path.{◌∙◌, sym}
use Rattle.wanted.proofs.Laws.{clean_set_lem, wanted_declared, wanted_clean}
use Rattle.wanted.proofs.wanted_set.Goals as goal

-- `wanted::wanted_set` meets its contract. Assumes nothing.
pub returns-then-layout-eq2 : goal.returns-then-layout-eq2
returns-then-layout-eq2 c = c.declared_set.ensures ∙ sym (wanted_declared _ _ _ _ c.if-layout-eq2.true)

pub returns-else-layout-eq2 : goal.returns-else-layout-eq2
returns-else-layout-eq2 c = sym (wanted_clean _ _ _ _ c.if-layout-eq2.false ∙ clean_set_lem)

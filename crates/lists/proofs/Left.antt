-- What the loops leave in the lent bytes, from one change to the next. Assumes nothing.
use Rattle.std.proofs.Common.{◌≡◌, ℕ, ◌+◌, List, ◌++◌, drop, refl, ap, ◌∙◌, ap₂, add-one}
use Rattle.changes.specs.Lent.{signals_of}
use Rattle.jobs.specs.declared.Job.{Job}
use Rattle.sweep.specs.Sweep.{codes_of, hots_of}
use Rattle.simulate.proofs.Laws.{filled_codes, filled_after}
use Rattle.forward.specs.Known.{known_codes, swept_codes}
use Rattle.lists.specs.Left.{after, heated, known_constants, filled}

module _ (step : ℕ → List ℕ → List ℕ) (lent : List ℕ) where
  pub after_none : lent ≡ after step 0 lent
  unfolding after
  after_none = refl

  pub after_next : (c : ℕ) (now exit : List ℕ) → now ≡ after step c lent → exit ≡ step c now → exit ≡ after step (c + 1) lent
  unfolding after
  after_next c now exit e x = rw add-one (x ∙ ap (step c) e)

module _ (job : Job) (t : ℕ) (old now : List ℕ) (e : now ≡ filled job t old) where
  abbrev i : ℕ
  i = job.task.shape.inputs

  abbrev g : ℕ
  g = job.task.shape.gates

  abbrev s : ℕ
  s = signals_of job.task.shape

  pub heated_by : (hot exit : List ℕ) → exit ≡ hots_of (codes_of job.rows.now now i g s) ++ drop s hot → exit ≡ heated job t hot
  heated_by hot exit x =
      x ∙ ap (λ b. hots_of (codes_of job.rows.now b i g s) ++ drop s hot) e ∙ ap (λ k. hots_of k ++ drop s hot) (filled_codes _ _ _ _ job.accepts t old)

  pub known_constants_by : (exit : List ℕ) → exit ≡ known_codes (swept_codes job.rows.now now i g) i g → exit ≡ known_constants job t old
  unfolding swept_codes
  known_constants_by exit x =
      x ∙ ap (λ b. known_codes (codes_of job.rows.now b i g s ++ drop s b) i g) e
      ∙ ap₂ (λ k r. known_codes (k ++ r) i g) (filled_codes _ _ _ _ job.accepts t old) (filled_after _ _ _ _ job.accepts t old)

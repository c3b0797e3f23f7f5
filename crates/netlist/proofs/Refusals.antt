-- The chains of refusals, step by step. Assumes nothing.
use Prim.Native.Nat.{ℕ, suc, ◌+◌, ◌-◌, ◌*◌, ◌≤◌, ◌<◌}
use native.Mathlib.Omega.{arith}
use mathlib.Core.Path.{◌≡◌, ◌∙◌, ap}
use mathlib.Core.Bool.{true, false, not}
use mathlib.Core.List.{List}
use borrow.Author.Tests.{le-ltb, le-leb, lt-leb, eq-eqb}
use lib.Dec.{leb}
use lib.ListN.{length}
use Rattle.std.specs.Prelude.{Ok, Err}
use Rattle.words.specs.Words.{word_at, marked, outside}
use Rattle.words.proofs.Laws.{within}
use Rattle.refusals.specs.declared.Refusal.{Refusal}
use Rattle.refusals.specs.Refusal.{refuse}
use Rattle.refusals.proofs.Laws.{stop, pass}
use Rattle.netlist.specs.Netlist.{Checked, inputs_of, gates_of, outputs_of, pin_total, entries_at}
use Rattle.netlist.specs.Netlist.{words_below, opening, counts, shape_of, accepted, body, body_within}

module _ (n : ℕ) (s : List ℕ) (at bound : ℕ) (refusal : (at : ℕ) → Refusal) (next : Checked) (k : ℕ) where
  -- the first k of n words are below the bound: what is left
  abbrev pub left : Checked
  left = words_below (n - k) s (at + 2 * k) bound refusal next

  words_split : k < n → left ≡ refuse (leb bound (word_at s (at + 2 * k))) (refusal (at + 2 * k)) (words_below (n - (k + 1)) s (at + 2 * (k + 1)) bound refusal next)
  unfolding words_below
  words_split h =
      let e : n - k ≡ suc (n - (k + 1)) = omega arith in
      let d : at + 2 * k + 2 ≡ at + 2 * (k + 1) = omega arith in
      rw (e, ← d)

  -- by the word that the code has read
  module _ {word : ℕ} (h : k < n) (e : word ≡ word_at s (at + 2 * k)) where
    pub words_stop : bound ≤ word → left ≡ Err (refusal (at + 2 * k))
    words_stop b = words_split h ∙ stop _ _ _ (le-leb bound _ (rw e at b))

    pub words_more : word < bound → left ≡ words_below (n - (k + 1)) s (at + 2 * (k + 1)) bound refusal next
    words_more b = words_split h ∙ pass _ _ _ (lt-leb bound _ (rw e at b))

  pub words_end : n ≤ k → left ≡ next
  unfolding words_below
  words_end h = let e : n - k ≡ 0 = omega arith in rw e

-- the counts that the code has read and counted
pub accepted_read : (s : List ℕ) {i g o p e : ℕ} → i ≡ inputs_of s → g ≡ gates_of s → o ≡ outputs_of s → p ≡ pin_total s → e ≡ entries_at s
    → Ok (record { inputs = i; gates = g; outputs = o; pins = p; entries = e }) ≡ accepted s
unfolding accepted shape_of
accepted_read s i g o p e = rw (i, g, o, p, e)

-- the first bytes
pub opening_pass : (version : ℕ) (s : List ℕ) (next : Checked) → 11 ≤ length s → marked s 0x4C 0x43 0x4E ≡ true → word_at s 3 ≡ version
    → opening version s next ≡ next
unfolding opening
opening_pass version s next long mark e = pass _ _ _ (le-ltb (length s) 11 long) ∙ pass _ _ _ (ap not mark) ∙ pass _ _ _ (ap not (eq-eqb (word_at s 3) version e))

-- counts in their ranges are at most 256 + 2,048 signals
pub body_within_lem : (s : List ℕ) → outside 1 256 (inputs_of s) ≡ false → outside 0 2048 (gates_of s) ≡ false → body_within 2304 s ≡ body s
unfolding body_within
body_within_lem s i g = pass _ _ _ (le-ltb 2304 (inputs_of s + gates_of s) (omega (arith, within 1 256 (inputs_of s) i, within 0 2048 (gates_of s) g)))

pub counts_body : (s : List ℕ) → outside 1 256 (inputs_of s) ≡ false → outside 0 2048 (gates_of s) ≡ false → outside 1 64 (outputs_of s) ≡ false
    → counts s (body_within 2304 s) ≡ body s
unfolding counts
counts_body s i g o = pass _ _ _ i ∙ pass _ _ _ g ∙ pass _ _ _ o ∙ body_within_lem s i g

-- The lines of the cores of a net, one core after another.
use Rattle.std.proofs.Common.{◌≡◌, ◌<◌, inl, inr, ℕ, zero, suc, ◌+◌, List, [], ◌∷◌, ◌++◌, length, drop, get_or, Option, None, Some, refl, sym, ap, ◌∙◌, arith}
use Rattle.std.proofs.lemmas.Bool.{cases_lt}
use Rattle.std.proofs.lemmas.List.{drop_more}
use Rattle.std.proofs.lemmas.Grind.{flat_map-append}
use Rattle.tta_net_command.specs.Cited.{Line, line_text, lines_text, core_lines, StepResult}
use Rattle.tta_net_command.specs.Net.{turn_line, net_lines, earlier, first_fault}

module _ (output : ℕ → List ℕ) (fault : ℕ → Option (ℕ × ℕ)) where
  -- the text of the cores from one on: its own, and that of the others
  pub net_at : (last : List StepResult) (core k : ℕ) (d : StepResult) → k < length last
      → lines_text (net_lines output fault core (drop k last))
      ≡ lines_text (core_lines core (output core) (turn_line (fault core) (get_or last k d))) ++ lines_text (net_lines output fault (core + 1) (drop (k + 1) last))
  net_at last core k d below =
      ap (λ turns. lines_text (net_lines output fault core turns)) (drop_more last k d below)
      ∙ flat_map-append line_text (core_lines core (output core) (turn_line (fault core) (get_or last k d))) (net_lines output fault (core + 1) (drop (k + 1) last))

  -- the same, where the core's words and the line of its last turn come by other names
  pub net_put : (last : List StepResult) (core k : ℕ) (d : StepResult) (words : List ℕ) (f : Option (ℕ × ℕ)) (line : Line) → words ≡ output core → f ≡ fault core
      → line ≡ turn_line f (get_or last k d) → k < length last
      → lines_text (net_lines output fault core (drop k last)) ≡ lines_text (core_lines core words line) ++ lines_text (net_lines output fault (core + 1) (drop (k + 1) last))
  net_put last core k d words f line words_are fault_is line_is below =
      let same : core_lines core words line ≡ core_lines core (output core) (turn_line (fault core) (get_or last k d)) =
      ap (λ ws. core_lines core ws line) words_are ∙ ap (core_lines core (output core)) (line_is ∙ ap (λ o. turn_line o (get_or last k d)) fault_is) in
      net_at last core k d below ∙ ap (λ lines. lines_text lines ++ lines_text (net_lines output fault (core + 1) (drop (k + 1) last))) (sym same)

  -- the same lines are printed by what is the same of each core
  pub net_same : (output' : ℕ → List ℕ) (fault' : ℕ → Option (ℕ × ℕ)) → ((k : ℕ) → output k ≡ output' k) → ((k : ℕ) → fault k ≡ fault' k)
      → (core : ℕ) (last : List StepResult) → net_lines output fault core last ≡ net_lines output' fault' core last
  net_same output' fault' same alike core [] = refl
  net_same output' fault' same alike core (turn ∷ turns) =
      ap (λ words. core_lines core words (turn_line (fault core) turn) ++ net_lines output fault (core + 1) turns) (same core)
      ∙ ap (λ f. core_lines core (output' core) (turn_line f turn) ++ net_lines output fault (core + 1) turns) (alike core)
      ∙ ap (λ lines. core_lines core (output' core) (turn_line (fault' core) turn) ++ lines) (net_same output' fault' same alike (core + 1) turns)

-- one core more is looked at
pub fault_more : (fault : ℕ → Option (ℕ × ℕ)) (core : ℕ) → earlier (first_fault fault core) (fault core) ≡ first_fault fault (core + 1)
fault_more fault core = let number : suc core ≡ core + 1 = omega arith in ap (first_fault fault) number

-- the first fault is that of the same faults
pub first_same : (fault fault' : ℕ → Option (ℕ × ℕ)) → ((k : ℕ) → fault k ≡ fault' k) → (count : ℕ) → first_fault fault count ≡ first_fault fault' count
first_same fault fault' alike zero = refl
first_same fault fault' alike (suc n) =
    ap (λ first. earlier first (fault n)) (first_same fault fault' alike n) ∙ ap (earlier (first_fault fault' n)) (alike n)

-- where none of so many cores is at a fault, none of these is
pub none_first : (fault : ℕ → Option (ℕ × ℕ)) (count k : ℕ) → first_fault fault count ≡ None → k < count → fault k ≡ None
none_first fault zero k none less = absurd (omega (arith, less))
none_first fault (suc n) k none less = by (first_fault fault n) refl none (none_first fault n k) where
  by : (o : Option (ℕ × ℕ)) → first_fault fault n ≡ o → earlier o (fault n) ≡ None → (first_fault fault n ≡ None → k < n → fault k ≡ None) → fault k ≡ None
  by (Some f) is odd before = absurd cc
  by None is last before = elim (cases_lt k n) as (λ e. fault k ≡ None) [
    | inl below ↦ before is below
    | inr past ↦ let same : n ≡ k = omega (arith, past, less) in ap fault (sym same) ∙ last
  ]

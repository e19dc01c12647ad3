-- The states that are left, one after another.
use Rattle.std.proofs.Common.{◌≡◌, ℕ, suc, Bool, true, false, List, ◌++◌, sym, ap, ◌∙◌}
use Rattle.std.specs.Prelude.{if◌then◌else◌}
use Rattle.std.proofs.lemmas.List.{append_assoc}
use Rattle.tta_waves.specs.Cited.{State, Outcome, Running, is_made}
use Rattle.tta_waves.specs.declared.level.Level.{Level}
use Rattle.tta_waves.specs.Dump.{state_text, last_text, states_text}

module _ (step : State → State) (levels : State → List Level) where
  -- a state whose cycle was carried out was put
  pub state_more : (s : State) (left less : ℕ) (before after : List Level) (old new all : List ℕ) → left ≡ suc less → is_made step s ≡ true
      → new ≡ old ++ state_text before (levels s) s.cycle → after ≡ levels s
      → old ++ states_text step levels left before s ≡ all → new ++ states_text step levels less after (step s) ≡ all
  state_more s left less before after old new all is made put last was =
      let rest = states_text step levels less (levels s) (step s) in
      let told = state_text before (levels s) s.cycle in
      ap (λ l. new ++ states_text step levels less l (step s)) last ∙ ap (λ l. l ++ rest) put ∙ append_assoc old told rest
      ∙ sym (ap (λ (b : Bool). old ++ (told ++ (if b then rest else last_text (step s).outcome s.cycle))) made)
      ∙ sym (ap (λ n. old ++ states_text step levels n before s) is) ∙ was

  -- the last state and why the run is over were put
  pub state_over : (s : State) (left less : ℕ) (before : List Level) (outcome : Outcome) (old mid new all : List ℕ) → left ≡ suc less → is_made step s ≡ false
      → (step s).outcome ≡ outcome → mid ≡ old ++ state_text before (levels s) s.cycle → new ≡ mid ++ last_text outcome s.cycle
      → old ++ states_text step levels left before s ≡ all → new ≡ all
  state_over s left less before outcome old mid new all is made why put last was =
      let rest = states_text step levels less (levels s) (step s) in
      let told = state_text before (levels s) s.cycle in
      last ∙ ap (λ l. l ++ last_text outcome s.cycle) put ∙ append_assoc old told (last_text outcome s.cycle)
      ∙ ap (λ o. old ++ (told ++ last_text o s.cycle)) (sym why)
      ∙ sym (ap (λ (b : Bool). old ++ (told ++ (if b then rest else last_text (step s).outcome s.cycle))) made)
      ∙ sym (ap (λ n. old ++ states_text step levels n before s) is) ∙ was

  -- no cycle is left
  pub state_last : (s : State) (left : ℕ) (before : List Level) (old mid new all : List ℕ) → left ≡ 0
      → mid ≡ old ++ state_text before (levels s) s.cycle → new ≡ mid ++ last_text Running s.cycle
      → old ++ states_text step levels left before s ≡ all → new ≡ all
  state_last s left before old mid new all is put last was =
      last ∙ ap (λ l. l ++ last_text Running s.cycle) put ∙ append_assoc old (state_text before (levels s) s.cycle) (last_text Running s.cycle)
      ∙ sym (ap (λ n. old ++ states_text step levels n before s) is) ∙ was

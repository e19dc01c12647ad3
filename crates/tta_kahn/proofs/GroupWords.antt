-- What programs that are joined by queues output are words.
use Rattle.std.proofs.Common.{◌≡◌, ⊎_elim, ℕ, ◌+◌, ◌-◌, Bool, true, false, List, [], ◌∷◌, length, drop, Option, Some, None, refl, sym, ap, subst, ◌∙◌}
use Rattle.std.specs.Prelude.{if◌then◌else◌, slice_get}
use Rattle.std.specs.Option.{option_map_or}
use Rattle.std.specs.List.{AllByRecursion}
use Rattle.tta_list.proofs.Lists.{all_one, slice_get-changed}
use Rattle.tta_kahn.specs.Cited.{Units, Program, IsProgram, AreWords}
use Rattle.tta_program.specs.Sequential.{State, next}
use Rattle.tta_kahn.specs.Network.{Network, NetworkCore, output_of, feeder_of, fed_to, after_step, stepped, turn, interleaved}
use Rattle.tta_kahn.specs.Programs.{step_of, steps_of}
use Rattle.tta_kahn.proofs.Clusters.{next_core, turn_none, turn_some}
use Rattle.tta_kahn.proofs.ProgramWords.{KeepsWords, drop_words, next_words}

module _ (u : Units) (programs : List Program) (rules : AllByRecursion IsProgram programs) (feeds : List (Option ℕ)) (given : ℕ → List ℕ)
    (given_words : (core : ℕ) → AreWords (given core)) where
  abbrev net : Network State
  net = steps_of u programs feeds given

  -- all that the programs keep are words
  abbrev pub AllKeep : List (NetworkCore State) → Type 0
  AllKeep cores = (core : ℕ) (c : NetworkCore State) → slice_get cores core ≡ Some c → KeepsWords c.state

  output_words : (cores : List (NetworkCore State)) → AllKeep cores → (core : ℕ) → AreWords (output_of net cores core)
  output_words cores keep core = by (slice_get cores core) refl where
    by : (o : Option (NetworkCore State)) → slice_get cores core ≡ o → AreWords (option_map_or (λ c. c.state.output) o [])
    by None at = tt
    by (Some c) at = (keep core c at).output

  fed_words : (cores : List (NetworkCore State)) → AllKeep cores → (core : ℕ) → AreWords (fed_to net cores core)
  fed_words cores keep core = by (feeder_of net core) where
    by : (o : Option ℕ) → AreWords (option_map_or (output_of net cores) o (given core))
    by None = given_words core
    by (Some feeder) = output_words cores keep feeder

  step_words : (core : ℕ) (s : State) → KeepsWords s → KeepsWords (step_of u programs core s)
  step_words core s keeps = by (slice_get programs core) refl where
    by : (o : Option Program) → slice_get programs core ≡ o → KeepsWords (option_map_or (λ p. next u p s) o s)
    by None at = keeps
    by (Some p) at = next_words u p (all_one IsProgram programs core p rules at) s keeps

  stepped_words : (core : ℕ) (input : List ℕ) (c : NetworkCore State) → AreWords input → KeepsWords c.state → KeepsWords (stepped net core input c).state
  stepped_words core input c words keeps = by (net.waits after) where
    after : State
    after = after_step net core input c

    went : KeepsWords after
    went = step_words core (record c.state { rest = input }) (record { vars = keeps.vars; memory = keeps.memory; rest = words; output = keeps.output })

    by : (b : Bool) → KeepsWords (if b then c else record { state = record after { rest = [] }; taken = c.taken + (length input - length after.rest) }).state
    by true = keeps
    by false = record { vars = went.vars; memory = went.memory; rest = tt; output = went.output }

  turn_words : (cores : List (NetworkCore State)) (core : ℕ) → AllKeep cores → AllKeep (turn net cores core)
  turn_words cores core keep k c at = by (slice_get cores core) refl where
    by : (o : Option (NetworkCore State)) → slice_get cores core ≡ o → KeepsWords c.state
    by None none = keep k c (ap (λ cs. slice_get cs k) (sym (turn_none net cores core none)) ∙ at)
    by (Some b) there =
        ⊎_elim (λ same. keep k c same)
        (λ new. subst (λ x. KeepsWords x.state) new.1 (stepped_words core (drop b.taken (fed_to net cores core)) b (drop_words b.taken (fed_to net cores core) (fed_words cores keep core)) (keep core b there)))
        (slice_get-changed cores core (next_core net cores core b) k c (ap (λ cs. slice_get cs k) (sym (turn_some net cores core b there)) ∙ at))

  pub interleaved_words : (cores : List (NetworkCore State)) (steps : List ℕ) → AllKeep cores → AllKeep (interleaved net cores steps)
  interleaved_words cores [] keep = keep
  interleaved_words cores (core ∷ steps) keep = interleaved_words (turn net cores core) steps (turn_words cores core keep)

  pub all_words : (cores : List (NetworkCore State)) (steps : List ℕ) → AllKeep cores → (core : ℕ) → AreWords (output_of net (interleaved net cores steps) core)
  all_words cores steps keep core = output_words (interleaved net cores steps) (interleaved_words cores steps keep) core

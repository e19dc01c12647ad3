-- Two cores, and two programs, in two orders of their steps.
use Rattle.std.specs.Prelude.{◌≡◌, ℕ, List, [], ◌∷◌, ◌++◌, Some, None, Option, refl, replicate}
use Rattle.std.specs.List.{concat}
use Rattle.tta_kahn.specs.Cited.{Units, Var, Word, Step, Program, Code}
use Rattle.tta_arch.specs.declared.ends.Source.TheVariants as source
use Rattle.tta_arch.specs.declared.ends.Dest.TheVariants as dest
use Rattle.tta_arch.proofs.Samples.{with_input}
use Rattle.tta_program.specs.declared.step.Step.TheVariants as step
use Rattle.tta_program.specs.Sequential as program
use Rattle.tta_code.specs.Cycle.{next}
use Rattle.tta_code.proofs.Rows.{go, three}
use Rattle.tta_kahn.specs.declared.cores.Core.{Core}
use Rattle.tta_kahn.specs.Network.{no_input, turn}
use Rattle.tta_kahn.specs.Cluster.{cycles, cluster, cluster_output, output_given}
use Rattle.tta_kahn.specs.Programs.{group_output}

-- core 1 takes what core 0 outputs
abbrev feeds : List (Option ℕ)
feeds = None ∷ Some 0 ∷ []

-- each core takes what the other outputs
abbrev ring : List (Option ℕ)
ring = Some 1 ∷ Some 0 ∷ []

-- so many rounds, in each of which core 0 steps and then core 1
abbrev rounds : ℕ → List ℕ
rounds n = concat (replicate n (0 ∷ 1 ∷ []))

-- ---- cores

-- code that outputs 5 and 6 and halts
abbrev sender : Code
sender = record {
  words = three (go (source.Value 5) (dest.Trigger 3 0)) None None
      ∷ three (go (source.Value 6) (dest.Trigger 3 0)) None None
      ∷ three (go (source.Value 0) dest.Halt) None None
      ∷ three None None None ∷ three None None None ∷ [];
}

-- code that outputs each word of its input
abbrev relay : Code
relay = record {
  words = three (go (source.Value 0) (dest.Trigger 3 1)) None None
      ∷ three (go (source.Shown 3) (dest.Trigger 3 0)) None None
      ∷ three (go (source.Value 0) dest.Jump) None None
      ∷ three None None None ∷ three None None None ∷ [];
}

abbrev core : Code → Core
core code = record { machine = with_input; code = code }

abbrev none : List (List ℕ)
none = [] ∷ [] ∷ []

relayed : (u : Units) → cluster_output u (core sender ∷ core relay ∷ []) feeds none (rounds 12) 1 ≡ 5 ∷ 6 ∷ []
unfolding next
relayed u = refl

-- in another order it waits first
relayed_late : (u : Units) → cluster_output u (core sender ∷ core relay ∷ []) feeds none (replicate 3 1 ++ replicate 6 0 ++ replicate 12 1) 1 ≡ 5 ∷ 6 ∷ []
unfolding next
relayed_late u = refl

-- words from outside, of which core 1 takes none
abbrev three_words : ℕ → List ℕ
three_words core = 7 ∷ 8 ∷ 9 ∷ []

relayed_from_outside : (u : Units) → output_given u (core relay ∷ core relay ∷ []) feeds three_words none (rounds 16) 1 ≡ 7 ∷ 8 ∷ 9 ∷ []
unfolding next
relayed_from_outside u = refl

-- of two cores that wait for each other, no turn changes anything
both_wait : (u : Units) → turn (cycles u (core relay ∷ core relay ∷ []) ring) (cluster u (core relay ∷ core relay ∷ []) ring none (rounds 2)) 0
    ≡ cluster u (core relay ∷ core relay ∷ []) ring none []
unfolding next
both_wait u = refl

-- ---- programs

abbrev alone : ℕ → List Step → Program
alone vars steps = record { procs = record { params = 0; vars = vars; steps = steps; lines = [] } ∷ []; main = 0; init = [] }

-- programs that do the same
abbrev sends : Program
sends = alone 0 (step.Put (Word 5) ∷ step.Put (Word 6) ∷ step.Halt ∷ step.End ∷ [])

abbrev relays : Program
relays = alone 1 (step.Take 0 ∷ step.Put (Var 0) ∷ step.Goto 0 ∷ step.End ∷ [])

programs_relay : (u : Units) → group_output u (sends ∷ relays ∷ []) feeds no_input none (rounds 8) 1 ≡ 5 ∷ 6 ∷ []
unfolding program.next
programs_relay u = refl

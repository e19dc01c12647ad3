-- The text of cores that are joined by queues.
use Rattle.std.specs.Prelude.{◌≡◌, ℕ, ◌+◌, true, List, [], ◌∷◌, ◌++◌, Option, length, map, codes}
use Rattle.std.specs.List.{flat_map, enumerate_from}
use Rattle.tta_ops.specs.Units.{Units}
use Rattle.tta_arch.specs.declared.parts.Op.TheVariants.{Out, Take}
use Rattle.tta_code.specs.Legal.{IsLegalCode}
use Rattle.tta_kahn.specs.declared.cores.Core.{Core}
use Rattle.tta_hardware.specs.Hardware.{circuit_of}
use Rattle.tta_rtl.specs.Module.{module_of, offers}
use Rattle.tta_wiring.specs.declared.part.Ends.{Ends}
use Rattle.tta_wiring.specs.Queues.{numbered, queue_text}
use Rattle.tta_wiring.specs.Top.{top_text}

-- The circuit of a core whose data space begins with these words, as a module with the ports of the output and of the input.
unfoldable pub core_module : Units → (k : ℕ) → Core → (memory : List ℕ) → List ℕ
core_module u k c memory = module_of u c.machine (numbered (codes "tta_core_") k) true true (circuit_of c.machine c.code memory)

-- the circuits of the cores from one on, as modules
abbrev pub core_modules : Units → (k : ℕ) → List Core → (memories : List (List ℕ)) → List ℕ
core_modules u k [] memories = []
core_modules u k (c ∷ cs) [] = []
core_modules u k (c ∷ cs) (m ∷ ms) = core_module u k c m ++ core_modules u (k + 1) cs ms

-- which words cores have: whether the machine of each can put words out, and whether it can take some
abbrev pub ends_at : Core → Ends
ends_at c = record { gives = offers c.machine Out; takes = offers c.machine Take }

abbrev pub ends_of : List Core → List Ends
ends_of cores = map ends_at cores

-- A core can stand in a text: its code is legal, and there is a word for each address of its data space.
pub record IsSound (c : Core) (memory : List ℕ) : Type 0 where
  pub legal : IsLegalCode c.machine c.code
  pub size : length memory ≡ c.machine.data_words

-- each of these can, with the words that are for it
abbrev pub AreSound : List Core → (memories : List (List ℕ)) → Type 0
AreSound [] memories = Unit {0}
AreSound (c ∷ cs) [] = Unit {0}
AreSound (c ∷ cs) (m ∷ ms) = IsSound c m × AreSound cs ms

-- Cores whose data spaces begin with these words, where this core feeds each, with a queue before each of as many words as this power of
-- two: the module that joins them, the queues, and the cores. Where no core feeds one that can take words, the module has ports for them.
abbrev pub net_text : Units → List Core → (memories : List (List ℕ)) → (feeds : List (Option ℕ)) → (depths : List ℕ) → List ℕ
net_text u cores memories feeds depths =
    top_text (ends_of cores) feeds ++ (flat_map queue_text (enumerate_from 0 depths) ++ core_modules u 0 cores memories)

-- The text of the memory of a queue.
use Rattle.std.proofs.Common.{◌≡◌, ℕ, zero, suc, ◌+◌, ◌^◌, List, [], ◌++◌, length, replicate, refl, ap, ◌∙◌}
use Rattle.std.specs.Prelude.{codes}
use Rattle.std.specs.List.{flat_map, enumerate_from}
use Rattle.std.proofs.lemmas.List.{append-nil, length-replicate}
use Rattle.tta_queue.specs.Queue.{queue_of}
use Rattle.tta_verilog.specs.Circuits.{first_line, array_start, memory_text}
use Rattle.tta_wiring.specs.Queues.{pin_names}

-- words that are 0 have no lines
no_lines : (name : List ℕ) (a n : ℕ) → flat_map (λ k. first_line name 32 k.0 k.1) (enumerate_from a (replicate n 0)) ≡ []
unfolding first_line
no_lines name a zero = refl
no_lines name a (suc n) = no_lines name (a + 1) n

-- a memory of words that are 0 is one that begins and ends
pub memory_is : (k : ℕ) → flat_map (memory_text pin_names) (queue_of k 32).memories ≡ array_start (codes "words") 32 (2 ^ k) ++ codes "end\n"
memory_is k =
    let zeros = replicate (2 ^ k) 0 in
    let lines = flat_map (λ w. first_line (codes "words") 32 w.0 w.1) (enumerate_from 0 zeros) in
    append-nil (array_start (codes "words") 32 (length zeros) ++ (lines ++ codes "end\n"))
    ∙ ap (λ (n : ℕ). array_start (codes "words") 32 n ++ (lines ++ codes "end\n")) (length-replicate (2 ^ k) 0)
    ∙ ap (λ (l : List ℕ). array_start (codes "words") 32 (2 ^ k) ++ (l ++ codes "end\n")) (no_lines (codes "words") 0 (2 ^ k))

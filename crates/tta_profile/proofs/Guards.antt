-- The guards of the instruction that comes next.
use Rattle.std.proofs.Common.{◌≡◌, ◌≤◌, ℕ, List, [], ◌∷◌, length, Some, IsTrue}
use Rattle.std.specs.Prelude.{slice_get}
use Rattle.std.specs.List.{All, AllByRecursion}
use Rattle.std.proofs.lemmas.List.Elements.{All-nil, All-cons}
use Rattle.tta_list.proofs.Lists.{all_one}
use Rattle.tta_profile.specs.Cited.{Machine, IsMachine, Instruction, Code, IsLegalCode, is_legal, IsPossible}
use Rattle.tta_sim.proofs.Possible.{possible}

-- an instruction of legal code has moves that a run can make
pub possible_at : (m : Machine) → IsMachine m → (code : Code) → IsLegalCode m code → (k : ℕ) (i : Instruction) → slice_get code.words k ≡ Some i → IsPossible m i
possible_at m rules code legal k i at = possible m rules i (all_one (λ i. IsTrue (is_legal m i)) code.words k i legal.words at)

-- each of its instructions has at most 16 slots
pub few_slots : (m : Machine) → IsMachine m → (words : List Instruction) → AllByRecursion (λ i. IsTrue (is_legal m i)) words → All (λ i. length i.moves ≤ 16) words
few_slots m rules [] all = All-nil (λ i. length i.moves ≤ 16)
few_slots m rules (i ∷ is) all = All-cons (λ i. length i.moves ≤ 16) i is (possible m rules i all.0).few (few_slots m rules is all.1)

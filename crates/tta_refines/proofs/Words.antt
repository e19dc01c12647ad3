-- Lists of words stay so.
use Rattle.std.proofs.Common.{ℕ, zero, suc, ◌<◌, ◌^◌, List, [], ◌∷◌, replicate, arith}
use Rattle.std.specs.Prelude.{slice_set}
use Rattle.std.specs.List.{AllByRecursion}
use Rattle.tta_list.specs.Laid.{Laid, over}
use Rattle.tta_refines.specs.Agrees.{AreWords}

-- one of them is set
pub set_words : (ws : List ℕ) (k v : ℕ) → AreWords ws → v < 2 ^ 32 → AreWords (slice_set ws k v)
set_words [] k v all one = tt
set_words (w ∷ ws) zero v all one = (one, all.1)
set_words (w ∷ ws) (suc k) v all one = (all.0, set_words ws k v all.1 one)

-- words of 0
pub none_words : (n : ℕ) → AreWords (replicate n 0)
none_words zero = tt
none_words (suc n) = (omega arith, none_words n)

-- data are laid over them
pub laid_words : (laid : Laid) (memory : List ℕ) → AllByRecursion (λ d. d.1 < 2 ^ 32) laid → AreWords memory → AreWords (over laid memory)
laid_words [] memory all words = words
laid_words (d ∷ laid) memory all words = laid_words laid (slice_set memory d.0 d.1) all.1 (set_words memory d.0 d.1 words all.0)

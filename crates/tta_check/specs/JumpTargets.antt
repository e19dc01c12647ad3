-- Where a jump or call goes, as an abstract state has it.
use Rattle.std.specs.Prelude.{if◌then◌else◌, List, Option, Some, None}
use Rattle.tta_check.specs.Cited.{Effect}
use Rattle.tta_check.specs.declared.values.ValueSet.{ValueSet}
use Rattle.tta_check.specs.declared.values.ValueSet.TheVariants.{Nothing, One, Two}
use Rattle.tta_check.specs.declared.state.Kept.{Kept}
use Rattle.tta_check.specs.Walks.{Word, takes_address}
use Rattle.tta_check.specs.Facts.{origin_of}
use Rattle.tta_check.specs.Steps.{words_of}

-- the word of some words, if they are not two; where there is none, 0 stands for it
abbrev pub only_word : ValueSet → Option Word
only_word Nothing = Some (Some 0)
only_word (One a) = Some a
only_word (Two a b) = None

-- the word of the control move, if it has one alone; a halt has none
abbrev pub jump_target_of : List Kept → Option Effect → Option Word
jump_target_of ks None = Some None
jump_target_of ks (Some e) = if takes_address e.target then only_word (words_of ks (origin_of e.src)) else Some None

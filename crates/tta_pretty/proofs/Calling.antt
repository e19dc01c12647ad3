-- Lines that end with any number of words.
use Rattle.tta_pretty.proofs.Pushing.{spaced-cons}

-- a first word and those after it, for lines of any number of words
pub ruleset call_lines = spaced-cons

-- What a session at a prompt has in common with one of a script.
use Rattle.std.specs.Prelude.{◌≡◌, ℕ, List, All, None}
use Rattle.tta_prompt.specs.Cited.{Units, Machine, words_of, Debugged, session}
use Rattle.tta_code.specs.declared.code.Code.{Code}
use Rattle.tta_prompt.specs.Own.{own_by}
use Rattle.tta_prompt.specs.Prompted.{prompted}

-- a line asks nothing that a script cannot
abbrev pub IsOfScripts : (line : List ℕ) → Type 0
IsOfScripts line = own_by (words_of line) ≡ None

-- lines that ask nothing that a script cannot are answered as in a script
abbrev pub AsInScripts : Type 0
AsInScripts =
    (u : Units) (m : Machine) (code : Code) (lines : List (List ℕ)) (d : Debugged) → All IsOfScripts lines
    → prompted u m code lines d ≡ session u m code lines d

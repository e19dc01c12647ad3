-- What the words of a line ask at a prompt alone.
use Rattle.std.specs.Prelude.{[], ◌∷◌, Option, Some, None, option_map, if◌then◌else◌, codes}
use Rattle.tta_prompt.specs.Cited.{Lexeme, Line, is_keyword, value_of}
use Rattle.tta_prompt.specs.declared.own.Own.{Own}
use Rattle.tta_prompt.specs.declared.own.Own.TheVariants.{Help, Regs, Code, Slot}

-- one word
abbrev pub bare : Lexeme → Option Own
bare w =
    if is_keyword (codes "help") w then Some Help
    else if is_keyword (codes "regs") w then Some Regs
    else None

-- two words
abbrev pub with_one : Lexeme → Lexeme → Option Own
with_one w x =
    if is_keyword (codes "code") w then option_map Code (value_of x)
    else if is_keyword (codes "slot") w then option_map Slot (value_of x)
    else None

-- what the words of a line ask, if it is none of what a script can
abbrev pub own_by : Line → Option Own
own_by [] = None
own_by (w ∷ []) = bare w
own_by (w ∷ x ∷ []) = with_one w x
own_by (w ∷ x ∷ y ∷ more) = None

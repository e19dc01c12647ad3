-- Small procedures, and what the definitions make of them.
use Rattle.std.specs.Prelude.{◌≡◌, List, [], ◌∷◌, refl, false}
use Rattle.tta_flow.specs.Cited.{Var, Word, Step, Copy, Put, Goto, End}
use Rattle.tta_flow.specs.Steps.{leads}
use Rattle.tta_flow.specs.Paths.{Reached, Begin, Onward, LiveBefore, ReadHere, ReadLater, LiveAfter}

-- a loop that puts a variable out and then sets it for the next turn
abbrev turns : List Step
turns = Put (Var 0) ∷ Copy 0 (Word 5) ∷ Goto 0 ∷ End ∷ []

-- the variable is live after the last step of the loop, and not before it is set
live_in_next_turn : LiveAfter turns 0 2
live_in_next_turn = record { next = 0; leads = refl; live = ReadHere 0 refl }

not_live_before_set : LiveBefore turns 0 1 → ⊥
not_live_before_set (ReadHere _ e) = absurd cc
not_live_before_set (ReadLater _ j free e l) = absurd cc

-- paths come to the third step
third_reached : Reached turns 2
third_reached = Onward 1 2 (Onward 0 1 Begin refl) refl

-- none leads past the goto
no_fall : leads turns 2 3 ≡ false
no_fall = refl

-- A program of two procedures, its register code, and what that does.
use Rattle.std.proofs.Common.{◌≡◌, ◌==◌, ◌&&◌, ◌||◌, ℕ, Bool, List, [], ◌∷◌, Option, Some, None, refl}
use Rattle.std.specs.Prelude.{if◌then◌else◌}
use Rattle.tta_lower.specs.Cited.{Units, Halted, At, SaveRa, Next, Back, Rir, rrun}
use Rattle.tta_lir.specs.declared.code.Place.TheVariants.{Reg, Frame}
use Rattle.tta_lir.specs.declared.code.RSrc.TheVariants.{Word}
use Rattle.tta_lir.specs.declared.code.RStep.TheVariants.{Copy, Apply, Put}
use Rattle.tta_lir.specs.declared.code.Exit.TheVariants.{Invoke, Halt}
use Rattle.tta_lir.specs.Meaning as code
use Rattle.tta_lower.specs.Squares.{squares}
use Rattle.tta_lower.specs.Layout.{base}
use Rattle.tta_lower.specs.Liveness.{LoweringInput, Block}
use Rattle.tta_lower.specs.Lower.{lowered}

-- its blocks
abbrev blocks : List Block
blocks =
    record { owner = 0; first = 0; last = 1 }
    ∷ record { owner = 1; first = 0; last = 1 }
    ∷ record { owner = 1; first = 2; last = 2 }
    ∷ record { owner = 1; first = 3; last = 6 }
    ∷ []

-- a and b are live after a call, and have their slots
abbrev home : (owner x : ℕ) → Option ℕ
home owner x = if owner == 0 then Some x else if x == 2 then Some 0 else if x == 3 then Some 1 else None

-- x of sq is live at its entry
abbrev live_first : (owner x : ℕ) → Bool
live_first owner x = owner == 0 && x == 0

-- what is live after each step
abbrev live_after : (owner at x : ℕ) → Bool
live_after owner at x = owner == 1 && (x == 0 || (x == 1 || x == 2 && at == 2))

-- what lowering is told
abbrev known : LoweringInput
known = record { blocks = blocks; home = home; first = live_first; after = live_after }

-- the code
abbrev squares_code : Rir
squares_code = lowered squares known 2

-- the slots of sq are 0 to 3, those of main 4 to 7
squares-code : squares_code ≡ record {
  blocks =
      record { steps = Copy (Frame 4) (Word 3) ∷ Copy (Frame 2) (At (Frame 4)) ∷ []; exit = Invoke 5; live_out = [] }
      ∷ record { steps = Copy (Frame 5) (At (Frame 1)) ∷ []; exit = Next; live_out = [] }
      ∷ record { steps = Copy (Frame 2) (Word 5) ∷ []; exit = Invoke 5; live_out = [] }
      ∷ record { steps = Copy (Reg 0) (At (Frame 1)) ∷ []; exit = Next; live_out = 0 ∷ [] }
      ∷ record {
        steps = Apply (Reg 1) (record { 0 = 0 }) (At (Frame 4)) (At (Frame 5)) ∷ Apply (Reg 1) (record { 0 = 0 }) (At (Reg 1)) (At (Reg 0)) ∷ Put (At (Reg 1)) ∷ [];
        exit = Halt;
        live_out = [];
      }
      ∷ record { steps = SaveRa 0 ∷ Copy (Reg 0) (At (Frame 2)) ∷ []; exit = Next; live_out = 0 ∷ [] }
      ∷ record { steps = Apply (Reg 1) (record { 0 = 7 }) (At (Reg 0)) (At (Reg 0)) ∷ Copy (Frame 1) (At (Reg 1)) ∷ []; exit = Back 0; live_out = [] }
      ∷ [];
}
unfolding base
squares-code = refl

-- five legs: two calls, two returns, and the halt
squares-run : (u : Units) → (rrun u squares_code [] [] 5).output ≡ u.value 0 (u.value 0 3 (u.value 7 3 3)) (u.value 7 5 5) ∷ []
unfolding base code.leg code.step
squares-run u = refl

-- the run has halted
squares-ended : (u : Units) → (rrun u squares_code [] [] 5).outcome ≡ Halted
unfolding base code.leg code.step
squares-ended u = refl

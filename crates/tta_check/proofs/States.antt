-- Small programs of moves, and what walks of them have.
use Rattle.std.specs.Prelude.{◌≡◌, List, [], ◌∷◌, ◌++◌, false, Some, None, refl}
use Rattle.tta_arch.specs.declared.ends.Source.TheVariants as source
use Rattle.tta_arch.specs.declared.ends.Dest.TheVariants as dest
use Rattle.tta_arch.proofs.Samples.{three_buses}
use Rattle.tta_check.specs.Cited.{Instruction, Code}
use Rattle.tta_code.proofs.Rows.{go, three, r, into, wide}
use Rattle.tta_check.specs.Walks.{after, walk}
use Rattle.tta_check.specs.Verdict.{HasCode}

-- an instruction that moves nothing
abbrev none : Instruction
none = three None None None

-- a program that starts the product of 5 and 6, waits for as long as these instructions take, and outputs what the unit shows
abbrev product : List Instruction → Code
product waits = record {
  words = three (go (source.Value 5) (dest.Operand 1)) (go (source.Value 6) (dest.Trigger 1 0)) None
      ∷ (waits ++ (three (go (source.Shown 1) (dest.Trigger 3 0)) None None ∷ three (go (source.Value 0) dest.Halt) None None ∷ none ∷ none ∷ []));
}

-- a word of the unit is not shown yet after two cycles
early : HasCode three_buses (product (none ∷ [])) 61 2
unfolding after
early = record { before = [] ∷ [] ∷ []; choice = []; last = _; walks = refl; here = refl; has = refl }

-- the code ends
ends : HasCode three_buses wide 65 2
unfolding after
ends = record { before = [] ∷ [] ∷ []; choice = []; last = _; walks = refl; here = refl; has = refl }

-- a jump to a word that was loaded
abbrev loaded : Code
loaded = record {
  words = three (go (source.Value 0) (dest.Trigger 2 0)) None None
      ∷ none
      ∷ three (go (source.Shown 2) dest.Jump) None None
      ∷ [];
}

to_loaded : HasCode three_buses loaded 80 2
unfolding after
to_loaded = record { before = [] ∷ [] ∷ []; choice = []; last = _; walks = refl; here = refl; has = refl }

-- a guarded jump with two delay slots: the walk that takes it goes to its target, and the other one goes on
abbrev branch : Code
branch = record {
  words = three (go (source.Value 1) (dest.Reg 2 0)) None None
      ∷ three (Some (record { guard = Some (record { file = 2; index = 0; inverted = false }); src = source.Value 6; dst = dest.Jump })) None None
      ∷ none ∷ none
      ∷ three (go (r 1) (into 2)) None None
      ∷ none
      ∷ three (go (source.Value 0) dest.Halt) None None
      ∷ none ∷ none ∷ [];
}

taken : walk three_buses branch ([] ∷ [] ∷ [] ∷ [] ∷ [] ∷ ((2, 0) ∷ []) ∷ [] ∷ []) ≡ None
unfolding after
taken = refl

not_taken : HasCode three_buses branch 60 4
unfolding after
not_taken = record { before = [] ∷ [] ∷ [] ∷ [] ∷ []; choice = []; last = _; walks = refl; here = refl; has = refl }

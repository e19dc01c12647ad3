-- What the compiler makes of a program, as one value: how its parts hang together.
use Rattle.std.specs.Prelude.{◌≡◌, true, false, [], ◌∷◌, Some, None}
use Rattle.tta_build.specs.Cited.{Units, Machine, Choice, IsChoice, Program, Homes, selected, Code, IsLinked, is_direct, list_of_direct, AreFirstFits, AreRoomy}
use Rattle.tta_lower.specs.Statement.{IsCodeOf}
use Rattle.tta_build.specs.declared.register.RegisterOrder.{RegisterOrder}
use Rattle.tta_build.specs.declared.register.Analysed.{Analysed}
use Rattle.tta_build.specs.declared.best_candidate.Planned.{Planned}
use Rattle.tta_build.specs.declared.placed_program.Homed.{Homed}
use Rattle.tta_build.specs.declared.placed_program.Listed.{Listed}
use Rattle.tta_build.specs.declared.value.Assembled.{Assembled}
use Rattle.tta_build.specs.declared.value.Compiled.{Compiled}
use Rattle.tta_build.specs.RegisterOrder.{AreHomesBy}
use Rattle.tta_build.specs.Lowered.{IsAnalysed, IsLoweredAs}
use Rattle.tta_build.specs.Compiled.{AreNoLonger}
use Rattle.tta_build.specs.Placing.{ArePlanned}

-- ---- a pair that is no direct one

-- With these homes register code is made of the program, by its blocks and its liveness, lists are selected for it, and of each
-- the shortest placement of its candidates stays.
pub record IsListedWith (kept : Homes) (u : Units) (m : Machine) (c : Choice) (p : Program) (known : Analysed) (r : Listed) : Type 0 where
  pub code : IsCodeOf p known.flow.blocks known.live kept m.frame_words r.code
  pub planned : ArePlanned m (selected m c u r.code) r.planned

-- Homes are given in one of the two ways, and all is made with them; the placements are together no longer than plain ones.
pub record IsHomedBest (u : Units) (m : Machine) (c : Choice) (p : Program) (known : Analysed) (r : Homed) : Type 0 where
  pub sharing : RegisterOrder
  pub homes : AreHomesBy sharing p c r.homes
  pub listed : IsListedWith r.homes u m c p known r.listed
  pub short : AreNoLonger u m c p r.listed.planned.placed.items

-- what is made of a program, part by part
abbrev pub gathered : Analysed → Homed → Code → Assembled
gathered known homed code = record {
  lowered = record { known = known; homes = homed.homes; code = homed.listed.code };
  planned = homed.listed.planned;
  code = code;
}

-- The program is lowered by its blocks, its liveness, and homes that are given in one of the two ways; its lists are selected
-- for what is chosen on the machine; of each the shortest placement of its candidates stays; the placements are together no
-- longer than plain ones; and the code is that of the placements, one after another.
pub record IsAssembled (u : Units) (m : Machine) (c : Choice) (p : Program) (r : Assembled) : Type 0 where
  pub known : IsAnalysed p r.lowered.known
  pub sharing : RegisterOrder
  pub homes : AreHomesBy sharing p c r.lowered.homes
  pub code : IsCodeOf p r.lowered.known.flow.blocks r.lowered.known.live r.lowered.homes m.frame_words r.lowered.code
  pub planned : ArePlanned m (selected m c u r.lowered.code) r.planned
  pub short : AreNoLonger u m c p r.planned.placed.items
  pub linked : IsLinked m r.code r.planned.placed.items

-- these parts, with what is chosen
abbrev pub staged : Choice → Assembled → Compiled
staged c r = record { choice = Some c; lowered = r.lowered; planned = r.planned; code = r.code }

-- The pair is no direct one, and all is made for what is chosen on the machine.
pub record IsCompiledInBlocks (u : Units) (m : Machine) (p : Program) (r : Compiled) : Type 0 where
  pub other : is_direct m p ≡ false
  pub choice : Choice
  pub chosen : IsChoice m choice
  pub made : Assembled
  pub parts : IsAssembled u m choice p made
  pub is : r ≡ staged choice made

-- ---- a direct pair

-- the one list of a direct pair is placed as it is
pub record AreDirectLists (m : Machine) (p : Program) (r : Planned) : Type 0 where
  pub selected : r.selected.items ≡ list_of_direct m p ∷ []
  pub trails : r.trails.items ≡ []
  pub first : AreFirstFits m r.selected.items r.placed.items
  pub roomy : AreRoomy m r.selected.items r.placed.items

-- The program is lowered without home registers, its one list is placed, and the code is that of its placement.
pub record IsDirectlyCompiled (m : Machine) (p : Program) (r : Compiled) : Type 0 where
  pub pair : is_direct m p ≡ true
  pub choice : r.choice ≡ None
  pub lowered : IsLoweredAs p 0 4096 r.lowered
  pub planned : AreDirectLists m p r.planned
  pub linked : IsLinked m r.code r.planned.placed.items

-- ---- both

-- what the compiler makes of a direct pair, or of one that is not
pub data IsCompiled (u : Units) (m : Machine) (p : Program) (r : Compiled) : Type 0 where
  OneList : IsDirectlyCompiled m p r → IsCompiled u m p r
  ManyLists : IsCompiledInBlocks u m p r → IsCompiled u m p r

-- Code is the code of what the compiler makes of a pair.
pub record IsMadeOf (u : Units) (m : Machine) (p : Program) (code : Code) : Type 0 where
  pub value : Compiled
  pub is : IsCompiled u m p value
  pub same : code ≡ value.code

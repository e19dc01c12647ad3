-- The stages of a program on the way to code for a machine.
use Rattle.std.specs.Prelude.{◌≡◌, Vec}
use Rattle.std.specs.Global.{Global}
use Rattle.tta_stages.specs.Cited.{Units, Machine, Program, Part, first_by, parts, Compiled, IsCompiled, IsCodeFor}
use Rattle.tta_alloc.specs.declared.intervals.Intervals.{Intervals}
use Rattle.tta_stages.specs.declared.stages.Stages.{Stages}
use Rattle.tta_alloc.specs.AllIntervals.{AreIntervals}

-- what the compiler makes of a program, with its intervals and parts
abbrev pub staged : Compiled → Intervals → Vec Part Global → Stages
staged r intervals all = record {
  choice = r.choice;
  lowered = record {
    flow = r.lowered.known.flow;
    live = r.lowered.known.live;
    intervals = intervals;
    homes = r.lowered.homes;
    parts = all;
    code = r.lowered.code;
  };
  planned = r.planned;
  code = r.code;
}

-- Stages tell what the compiler makes of a program; the intervals are those of its variables, and the parts are those of the
-- program in the order of their code.
pub record AreToldOf (p : Program) (r : Compiled) (s : Stages) : Type 0 where
  pub intervals : AreIntervals p s.lowered.intervals
  pub parts : s.lowered.parts.items ≡ parts p r.lowered.known.flow.blocks (first_by p r.lowered.known.live)
  pub is : s ≡ staged r s.lowered.intervals s.lowered.parts

-- Stages tell what the compiler makes of a pair, and its code is code for the pair.
pub record AreStages (u : Units) (m : Machine) (p : Program) (s : Stages) : Type 0 where
  pub value : Compiled
  pub is : IsCompiled u m p value
  pub told : AreToldOf p value s
  pub code : IsCodeFor u m p s.code

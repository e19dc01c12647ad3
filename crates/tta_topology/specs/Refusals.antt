-- The numbers of the refusals of links.
use Rattle.std.specs.Prelude.{ℕ}
use Rattle.tta_topology.specs.declared.error.Refusal.{Refusal}
use Rattle.tta_topology.specs.declared.error.Refusal.TheVariants.{Syntax, Range, Twice}

-- the number of a refusal
abbrev pub code_of : Refusal → ℕ
code_of Syntax = 82
code_of Range = 83
code_of Twice = 84

-- How the command `asm` ends, by its status.
use Rattle.std.specs.Prelude.{◌↔◌, ℕ, List}
use Rattle.tta_exit_laws.specs.Cited.{World, Units, Status, no_memory, IsAssemblyFor, RefusesAssembly, WriteEndings, Assembles, IsAssembled}

-- what holds where `asm M A OUT` ends with a status
abbrev pub AsmEndings : Units → (M A OUT : List ℕ) → (before after : World) → Status → Type 0
AsmEndings u M A OUT before after s =
    WriteEndings u (IsAssemblyFor u) (RefusesAssembly u) IsAssembled (λ file whole. no_memory) M A OUT before after s

-- the clause of `asm` says this of each status
abbrev pub AsmByStatus : Type 0
AsmByStatus =
    (u : Units) (M A OUT : List ℕ) (before after : World) (s : Status) → Assembles u M A OUT before after s ↔ AsmEndings u M A OUT before after s

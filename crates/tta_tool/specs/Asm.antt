-- What the command `asm` does, and why it does not.
use Rattle.std.specs.Prelude.{ℕ, List}
use Rattle.tta_tool.specs.Cited.{World, Units, Whole, Image, MachineFile, Status, no_memory, IsAssemblyFor, RefusesAssembly, Writes}

-- bytes are the image of code with data for a machine, with the digest of the machine's text
abbrev pub IsAssembled : MachineFile → Whole → (bytes : List ℕ) → Type 0
IsAssembled file whole bytes = Image file.machine file.digest whole bytes

-- How `asm M A OUT` ends. Each ending but out of memory comes only where its cause holds.
abbrev pub Assembles : Units → (M A OUT : List ℕ) → (before after : World) → Status → Type 0
Assembles u M A OUT before after s =
    Writes u (IsAssemblyFor u) (RefusesAssembly u) IsAssembled (λ file whole. no_memory) M A OUT before after s

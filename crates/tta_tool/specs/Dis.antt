-- What the command `dis` does, and why it does not.
use Rattle.std.specs.Prelude.{◌≡◌, ℕ, List}
use Rattle.tta_tool.specs.Cited.{World, Units, Whole, canonical, MachineFile, Status, no_memory, IsImageFor, RefusesImage, Writes}

-- bytes are the canonical text of code with data for a machine
abbrev pub IsShown : Units → MachineFile → Whole → (bytes : List ℕ) → Type 0
IsShown u file whole bytes = bytes ≡ canonical u file.machine whole

-- How `dis M IMG OUT` ends. Each ending but out of memory comes only where its cause holds.
abbrev pub Shows : Units → (M IMG OUT : List ℕ) → (before after : World) → Status → Type 0
Shows u M IMG OUT before after s =
    Writes u IsImageFor RefusesImage (IsShown u) (λ file whole. no_memory) M IMG OUT before after s

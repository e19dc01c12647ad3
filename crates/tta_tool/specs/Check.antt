-- What the command `check` does, and why it does not.
use Rattle.std.specs.Prelude.{◌≡◌, ℕ, List, codes}
use Rattle.tta_tool.specs.Cited.{World, Output, Units, Whole, IsSafe, IsUnsafe, NeverFaults, MachineFile, Status, IsImageFor, RefusesImage, Puts}
use Rattle.tta_load.specs.declared.status.Status.TheVariants as status

-- no walk of the code has a code and no two disagree; so no run of it faults
pub record CannotFault (file : MachineFile) (whole : Whole) : Type 0 where
  pub safe : IsSafe file.machine whole.code
  pub runs : NeverFaults file.machine whole.code

-- a text is the line `safe`, and the code is so
abbrev pub IsCalledSafe : MachineFile → Whole → (text : List ℕ) → Type 0
IsCalledSafe file whole text = (text ≡ codes "safe\n") × CannotFault file whole

-- some walk of the code has this code at this word, or it is 80 and two walks disagree there; or there is no memory
abbrev pub IsFound : MachineFile → Whole → Status → Type 0
IsFound file whole (status.Unsafe number word) = IsUnsafe file.machine whole.code number word
IsFound file whole status.NoMemory = Unit {0}
IsFound file whole s = ⊥

-- How `check M IMG` ends. Each ending but out of memory comes only where its cause holds.
abbrev pub ChecksCode : Units → (M IMG : List ℕ) → (before after : World) → (old new : Output) → Status → Type 0
ChecksCode u M IMG before after old new s = Puts u IsImageFor RefusesImage IsCalledSafe IsFound M IMG before after old new s

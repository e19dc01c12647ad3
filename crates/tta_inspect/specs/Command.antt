-- How a command ends.
use Rattle.std.specs.Prelude.{◌≡◌, ◌⊎◌, ◌↔◌, List, ℕ, Option, Some, None}
use Rattle.tta_inspect.specs.Cited.{World, IsUntouched, Output, NothingOutput, IsPut, IsCut, Come, Units, Whole, MachineFile, Status, HasText, ReadFailed, IsTooLong, no_memory, IsBadMachine, HasMachine, MachineFails, IsImageFor, RefusesImage, IsUsage, TextEnds, Puts}
use Rattle.tta_load.specs.declared.status.Status.TheVariants as status
use Rattle.tta_load.specs.Endings as endings
use Rattle.tta_inspect.specs.declared.view.View.{View}
use Rattle.tta_inspect.specs.Views.{machine_view, told_of}
use Rattle.tta_inspect.specs.Request.{Request, OfMachine, OfInfo, OfPicture, OfRun, OfPrompt, OfStages, OfRtl, OfCost, OfNet}
use Rattle.tta_inspect.specs.Runs.{ShowsRun}
use Rattle.tta_inspect.specs.Prompts.{OpensPrompt}
use Rattle.tta_inspect.specs.Stages.{ShowsStages}
use Rattle.tta_inspect.specs.Circuits.{ShowsCircuit}
use Rattle.tta_inspect.specs.Costs.{ShowsCost}
use Rattle.tta_inspect.specs.Pictures.{ShowsPicture}
use Rattle.tta_inspect.specs.Joining.{ShowsNet}

-- the machine is refused, and nothing is output; or its view is
abbrev pub ShowsMachine : Units → View → (M : List ℕ) → (before after : World) → (old new : Output) → Status → Type 0
ShowsMachine u view M before after old new s =
    (MachineFails u M 1 before after s × NothingOutput old new)
    ⊎ ((m : HasMachine u before.contents M)
    × IsUntouched before after × TextEnds (λ text. text ≡ machine_view u view m.value) no_memory old new s)

-- a text is what is told of code with data for a machine
abbrev pub IsTold : MachineFile → Whole → (text : List ℕ) → Type 0
IsTold file whole text = text ≡ told_of file whole

-- How a request for a text ends. Either its text is output, or nothing is and there is a cause. Each ending but out of memory comes only where its
-- cause holds.
abbrev pub Ends : Units → Option Request → (before after : World) → (old new : Output) → Status → Type 0
Ends u None before after old new s = IsUsage before after old new s
Ends u (Some (OfMachine view M)) before after old new s = ShowsMachine u view M before after old new s
Ends u (Some (OfInfo M IMG)) before after old new s =
    Puts u IsImageFor RefusesImage IsTold (λ file whole. no_memory) M IMG before after old new s
Ends u (Some (OfPicture M F)) before after old new s = ShowsPicture u M F before after old new s
Ends u (Some (OfRun view M F IN STREAM bound)) before after old new s = ShowsRun u view M F IN STREAM bound before after old new s
Ends u (Some (OfPrompt M IMG IN STREAM)) before after old new s = ⊥
Ends u (Some (OfStages view M P)) before after old new s = ShowsStages u view M P before after old new s
Ends u (Some (OfRtl view M F)) before after old new s = ShowsCircuit u view M F before after old new s
Ends u (Some (OfCost M F)) before after old new s = ShowsCost u M F before after old new s
Ends u (Some (OfNet depths LINKS names)) before after old new s = ShowsNet u depths LINKS names before after old new s

-- How a request ends. Lines come of a session at a prompt alone.
abbrev pub Shows : Units → Option Request → (before after : World) → (came comes : Come) → (old new : Output) → Status → Type 0
Shows u (Some (OfPrompt M IMG IN STREAM)) before after came comes old new s = OpensPrompt u M IMG IN STREAM before after came comes old new s
Shows u request before after came comes old new s = (comes ≡ came) × Ends u request before after old new s

-- ---- how it ends by its status

-- what holds where a view of a machine ends with a status
abbrev pub MachineEndings : Units → View → (M : List ℕ) → (before after : World) → (old new : Output) → Status → Type 0
MachineEndings u view M before after old new status.Ok =
    IsUntouched before after × endings.OfMachine u before.contents M (λ file. IsPut (machine_view u view file) old new)
MachineEndings u view M before after old new (status.BadMachine line code) =
    IsUntouched before after × NothingOutput old new × HasText before.contents M (λ text. IsBadMachine u text line code)
MachineEndings u view M before after old new (status.ReadFault word) = NothingOutput old new × (word ≡ 1) × ReadFailed M before after
MachineEndings u view M before after old new status.WriteFault =
    IsUntouched before after × endings.OfMachine u before.contents M (λ file. IsCut (machine_view u view file) old new)
MachineEndings u view M before after old new (status.TooLong word) = NothingOutput old new × (word ≡ 1) × IsTooLong M before after
MachineEndings u view M before after old new status.NoMemory = IsUntouched before after × NothingOutput old new
MachineEndings u view M before after old new s = ⊥

-- what holds where `info M IMG` ends with a status
abbrev pub InfoEndings : Units → (M IMG : List ℕ) → (before after : World) → (old new : Output) → Status → Type 0
InfoEndings u M IMG before after old new s =
    endings.PutEndings u IsImageFor RefusesImage IsTold (λ file whole. no_memory) M IMG before after old new s

-- the command ends so with each status
abbrev pub MachineByStatus : Type 0
MachineByStatus =
    (u : Units) (view : View) (M : List ℕ) (before after : World) (old new : Output) (s : Status)
    → Ends u (Some (OfMachine view M)) before after old new s ↔ MachineEndings u view M before after old new s

abbrev pub InfoByStatus : Type 0
InfoByStatus =
    (u : Units) (M IMG : List ℕ) (before after : World) (old new : Output) (s : Status)
    → Ends u (Some (OfInfo M IMG)) before after old new s ↔ InfoEndings u M IMG before after old new s

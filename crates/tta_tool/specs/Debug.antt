-- What the command `debug` does, and why it does not.
use Rattle.std.specs.Prelude.{◌≡◌, ◌≤◌, ◌⊎◌, ℕ, false, List, [], length, Option, Result, Ok, Err}
use Rattle.tta_tool.specs.Cited.{Store, Holds, World, IsUntouched, Output, NothingOutput, IsPut, IsCut, Units, Machine, Whole, Fault, code_at, is_fault, Debugged, Status, IsHeld, ReadFails, FileFails, limit, IsImageFor, RefusesImage, Fills, RefusesInput, HasInput, IsStream, HasStream, StreamFails, HasPair, PairFails}
use Rattle.tta_code.specs.Cycle.{Outcome}
use Rattle.tta_debug.specs.Debugged.{session as replies_of}
use Rattle.tta_debug.specs.Scripts.{lines_of}
use Rattle.tta_load.specs.declared.status.Status.TheVariants as status

-- ---- what was read

-- the file of a name holds bytes
pub record HasBytes (files : Option Store) (name : List ℕ) : Type 0 where
  pub bytes : List ℕ
  pub holds : Holds files name bytes
  pub short : length bytes ≤ limit

-- files hold the words of a data space of this size, a script, and, if it is named, an input
pub record HasAsked (space : ℕ) (files : Option Store) (IN SCRIPT : List ℕ) (STREAM : Option (List ℕ)) : Type 0 where
  pub input : HasInput space files IN
  pub script : HasBytes files SCRIPT
  pub stream : HasStream files STREAM

-- Why they do not: the data words, which word 3 names, are refused; or they are not and the script, which word 4 names, was
-- not read; or it was and the input is refused.
abbrev pub AskedFails : (space : ℕ) → (IN SCRIPT : List ℕ) → (STREAM : Option (List ℕ)) → (before after : World) → Status → Type 0
AskedFails space IN SCRIPT STREAM before after s =
    FileFails (RefusesInput space) IN 3 before after s
    ⊎ (HasInput space before.contents IN
    × (ReadFails SCRIPT 4 before after s ⊎ (HasBytes before.contents SCRIPT × StreamFails 5 STREAM before after s)))

-- ---- how the command ends

-- what a session begins with: the run before its first cycle, and no breakpoints
abbrev pub at_first : Units → Machine → Whole → (memory words : List ℕ) → Debugged
at_first u m whole memory words = record { state = code_at u m whole memory words 0; stops = [] }

-- all that a session replies to the lines of its script, and what it leaves under the debugger
abbrev pub said : Units → Machine → Whole → (memory script words : List ℕ) → List ℕ × Debugged
said u m whole memory script words = replies_of u m whole.code (lines_of script) (at_first u m whole memory words)

-- a session has replied this and left that, and its replies were put, or a prefix of them
abbrev pub SessionEnds : (said : List ℕ × Debugged) → (old new : Output) → Status → Type 0
SessionEnds said old new status.Ok = (is_fault said.1.state.outcome ≡ false) × IsPut said.0 old new
SessionEnds said old new (status.MachineFault code cycle) = (said.1.state.outcome ≡ Fault code cycle) × IsPut said.0 old new
SessionEnds said old new status.WriteFault = IsCut said.0 old new
SessionEnds said old new status.NoMemory = NothingOutput old new
SessionEnds said old new other = ⊥

-- Code is known. Either what a session over it is asked is not read, and nothing is put, or no file is touched and the session
-- ends so.
abbrev pub AskedRuns : Units → Machine → Whole → (IN SCRIPT : List ℕ) → (STREAM : Option (List ℕ)) → (before after : World) → (old new : Output) → Status → Type 0
AskedRuns u m whole IN SCRIPT STREAM before after old new s =
    (AskedFails m.data_words IN SCRIPT STREAM before after s × NothingOutput old new)
    ⊎ ((asked : HasAsked m.data_words before.contents IN SCRIPT STREAM)
    × IsUntouched before after × SessionEnds (said u m whole asked.input.value asked.script.bytes asked.stream.words) old new s)

-- How `debug M IMG IN SCRIPT` and `debug M IMG IN SCRIPT STREAM` end. Each ending but out of memory comes only where its cause holds.
-- Nothing is put but by a session: all of its replies, or a prefix of them where a put has failed.
abbrev pub Debugs : Units → (M IMG IN SCRIPT : List ℕ) → (STREAM : Option (List ℕ)) → (before after : World) → (old new : Output) → Status → Type 0
Debugs u M IMG IN SCRIPT STREAM before after old new s =
    (PairFails u RefusesImage M IMG before after s × NothingOutput old new)
    ⊎ ((pair : HasPair u IsImageFor before.contents M IMG)
    × AskedRuns u pair.machine.value.machine pair.second.value IN SCRIPT STREAM before after old new s)

-- ---- the command's parts

-- the bytes of a script and the words of the input were read, and no file was touched
pub record ReadsScript (SCRIPT : List ℕ) (STREAM : Option (List ℕ)) (script words : List ℕ) (before after : World) : Type 0 where
  pub holds : Holds before.contents SCRIPT script
  pub short : length script ≤ limit
  pub stream : IsStream before.contents STREAM words
  pub untouched : IsUntouched before after

-- they were read, or there is a cause
abbrev pub ScriptEnds : {T : Type 0} → (SCRIPT : List ℕ) → (STREAM : Option (List ℕ)) → (before after : World) → (script words : T → List ℕ) → Result T Status → Type 0
ScriptEnds SCRIPT STREAM before after script words (Ok v) = ReadsScript SCRIPT STREAM (script v) (words v) before after
ScriptEnds SCRIPT STREAM before after script words (Err s) =
    ReadFails SCRIPT 4 before after s ⊎ (HasBytes before.contents SCRIPT × StreamFails 5 STREAM before after s)

-- all that a session is asked was read, and no file was touched
pub record ReadsAsked (space : ℕ) (IN SCRIPT : List ℕ) (STREAM : Option (List ℕ)) (memory script words : List ℕ) (before after : World) : Type 0 where
  pub input : IsHeld (Fills space) before.contents IN memory
  pub rest : ReadsScript SCRIPT STREAM script words before after

-- it was read, or there is a cause
abbrev pub AskedEnds : {T : Type 0} → (space : ℕ) → (IN SCRIPT : List ℕ) → (STREAM : Option (List ℕ)) → (before after : World) → (memory script words : T → List ℕ) → Result T Status → Type 0
AskedEnds space IN SCRIPT STREAM before after memory script words (Ok v) =
    ReadsAsked space IN SCRIPT STREAM (memory v) (script v) (words v) before after
AskedEnds space IN SCRIPT STREAM before after memory script words (Err s) = AskedFails space IN SCRIPT STREAM before after s

-- how a session that was left by its script ends the command: by the outcome of its run
abbrev pub EndsAs : Outcome → Status → Type 0
EndsAs outcome status.Ok = is_fault outcome ≡ false
EndsAs outcome (status.MachineFault code cycle) = outcome ≡ Fault code cycle
EndsAs outcome other = ⊥

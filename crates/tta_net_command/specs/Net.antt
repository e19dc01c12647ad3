-- What the command `net` does: cores that are joined by queues make rounds, and what they have output is printed.
use Rattle.std.specs.Prelude.{◌≡◌, ◌⊎◌, ℕ, zero, suc, ◌+◌, Bool, true, false, List, [], ◌∷◌, ◌++◌, length, Option, Some, None}
use Rattle.std.specs.Option.{option_map_or}
use Rattle.tta_net_command.specs.Cited.{World, IsUntouched, Output, NothingOutput, IsPut, IsCut, Line, lines_text, core_lines, Units, State, Core, NetworkCore, joined, AreAtRest, cycles, first_states, StepResult, output_at, fault_at, HasEnded, Status, Held, FileFails}
use Rattle.tta_report.specs.declared.line.Line.TheVariants as line
use Rattle.tta_net.specs.declared.step_result.StepResult.TheVariants as turn
use Rattle.tta_load.specs.declared.status.Status.TheVariants as status
use Rattle.tta_net_command.specs.CoreFiles.{AreLinks, RefusesLinks, cores_in, HasCores, CoresFail}

-- ---- what is printed

-- how a core's last turn ended; the cycle of a fault is the core's own
abbrev pub turn_line : (fault : Option (ℕ × ℕ)) → StepResult → Line
turn_line fault turn.Ran = line.Running
turn_line fault turn.Halted = line.Halted
turn_line fault turn.Waiting = line.Waiting
turn_line fault (turn.Fault number) = option_map_or (λ f. line.Fault f.0 f.1) fault line.Running

-- The lines of the cores from one on, by what each has output, the fault that it is at, and its last turn: its number, its words, and
-- how that turn ended.
abbrev pub net_lines : (output : ℕ → List ℕ) → (fault : ℕ → Option (ℕ × ℕ)) → (core : ℕ) → (last : List StepResult) → List Line
net_lines output fault core [] = []
net_lines output fault core (turn ∷ turns) = core_lines core (output core) (turn_line (fault core) turn) ++ net_lines output fault (core + 1) turns

-- all that is printed of cores that have come to these states, where these were their last turns
abbrev pub net_text : List (NetworkCore State) → (last : List StepResult) → List ℕ
net_text cs last = lines_text (net_lines (output_at cs) (fault_at cs) 0 last)

-- ---- how rounds end

-- the earlier of two that is there
abbrev pub earlier : {A : Type 0} → Option A → Option A → Option A
earlier None other = other
earlier (Some x) other = Some x

-- the fault of the least of so many cores that is at one
abbrev pub first_fault : (fault : ℕ → Option (ℕ × ℕ)) → (count : ℕ) → Option (ℕ × ℕ)
first_fault fault zero = None
first_fault fault (suc n) = earlier (first_fault fault n) (fault n)

-- Running where all rounds were made that may be, and some core ran in each; else the fault of the least core that is at one; else Ok
abbrev pub rounds_status : (is_running : Bool) → (fault : Option (ℕ × ℕ)) → Status
rounds_status true fault = status.Running
rounds_status false (Some f) = status.MachineFault f.0 f.1
rounds_status false None = status.Ok

-- cores that have come to these states are reported: their text is put, or a prefix of it
abbrev pub NetPuts : (is_running : Bool) → (last : List StepResult) → List (NetworkCore State) → (old new : Output) → Status → Type 0
NetPuts is_running last cs old new status.WriteFault = IsCut (net_text cs last) old new
NetPuts is_running last cs old new s = (s ≡ rounds_status is_running (first_fault (fault_at cs) (length last))) × IsPut (net_text cs last) old new

-- Cores have made rounds and are reported. Where that ends well, they are at rest.
pub record HasMadeRounds (u : Units) (feeds : List (Option ℕ)) (cores : List Core) (memories : List (List ℕ)) (rounds : ℕ) (old new : Output) (s : Status) : Type 0 where
  pub is_running : Bool
  pub last : List StepResult
  pub ended : HasEnded (cycles u cores feeds) (length cores) (joined (first_states cores memories)) rounds is_running last
      (λ cs. NetPuts is_running last cs old new s × (s ≡ status.Ok → AreAtRest (cycles u cores feeds) cs))

-- the same, or there was no memory for them
abbrev pub NetReports : Units → (feeds : List (Option ℕ)) → List Core → (memories : List (List ℕ)) → (rounds : ℕ) → (old new : Output) → Status → Type 0
NetReports u feeds cores memories rounds old new status.NoMemory = NothingOutput old new
NetReports u feeds cores memories rounds old new s = HasMadeRounds u feeds cores memories rounds old new s

-- Where these cores feed one another, how the command ends: a core is not taken, and nothing is put; or no file is touched, and the
-- cores make rounds and are reported.
abbrev pub CoresReport : Units → (feeds : List (Option ℕ)) → (rounds : ℕ) → (names : List (List ℕ)) → (before after : World) → (old new : Output) → Status → Type 0
CoresReport u feeds rounds names before after old new s =
    let count = cores_in (length names) in
    (CoresFail u names count before after s × NothingOutput old new)
    ⊎ ((has : HasCores u before.contents names count)
    × IsUntouched before after × NetReports u feeds has.cores has.memories rounds old new s)

-- How `net N LINKS` with three names for each core ends: the links are not taken, and nothing is put; or the cores report.
abbrev pub Nets : Units → (rounds : ℕ) → (LINKS : List ℕ) → (names : List (List ℕ)) → (before after : World) → (old new : Output) → Status → Type 0
Nets u rounds LINKS names before after old new s =
    let count = cores_in (length names) in
    (FileFails (RefusesLinks count) LINKS 2 before after s × NothingOutput old new)
    ⊎ ((links : Held (AreLinks count) before.contents LINKS)
    × CoresReport u links.value rounds names before after old new s)

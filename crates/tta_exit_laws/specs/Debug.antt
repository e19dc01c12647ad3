-- How the command `debug` ends, by its status.
use Rattle.std.specs.Prelude.{◌≡◌, ◌↔◌, ◌⊎◌, ℕ, false, List, Option, Err}
use Rattle.tta_exit_laws.specs.Cited.{Store, World, IsUntouched, Output, NothingOutput, IsPut, IsCut, Units, is_fault, Debugged, input_of, stream_of, Refused, decoded_image, Status, HasText, ReadFailed, IsBadMachine, IsImageFor, HasPair, OfPair, PairFault, HasThree, OfNamed, Debugs, HasAsked, HasBytes, said}
use Rattle.tta_code.specs.Cycle.{Fault}
use Rattle.tta_load.specs.declared.status.Status.TheVariants as status
use Rattle.tta_load.specs.Held.{IsTooLong}
use Rattle.tta_load.specs.Endings.{OfMachine}

-- files hold all that a session is asked, and something is true of all that it replies and what it leaves
abbrev pub HasSession : Units → (files : Option Store) → (M IMG IN SCRIPT : List ℕ) → (STREAM : Option (List ℕ)) → (Is : List ℕ × Debugged → Type 0) → Type 0
HasSession u files M IMG IN SCRIPT STREAM Is =
    OfPair u IsImageFor files M IMG (λ file whole.
    (asked : HasAsked file.machine.data_words files IN SCRIPT STREAM)
    × Is (said u file.machine whole asked.input.value asked.script.bytes asked.stream.words))

-- which file is at fault: that of word 1, 2 or 3 where those before it were taken, or that of the script, which is word 4, or that
-- of word 5, where it is there and all others were taken
abbrev pub SessionFault : Units → (files : Option Store) → (M IMG IN SCRIPT : List ℕ) → (STREAM : Option (List ℕ)) → (Is : List ℕ → Type 0) → (word : ℕ) → Type 0
SessionFault u files M IMG IN SCRIPT STREAM Is word =
    PairFault u files M IMG Is word
    ⊎ ((word ≡ 3) × HasPair u IsImageFor files M IMG × Is IN)
    ⊎ ((word ≡ 4) × HasThree u IsImageFor files M IMG IN × Is SCRIPT)
    ⊎ ((word ≡ 5) × HasThree u IsImageFor files M IMG IN × HasBytes files SCRIPT × OfNamed STREAM Is)

-- what holds where `debug M IMG IN SCRIPT` or `debug M IMG IN SCRIPT STREAM` ends with a status
abbrev pub DebugEndings : Units → (M IMG IN SCRIPT : List ℕ) → (STREAM : Option (List ℕ)) → (before after : World) → (old new : Output) → Status → Type 0
DebugEndings u M IMG IN SCRIPT STREAM before after old new status.Ok =
    IsUntouched before after
    × HasSession u before.contents M IMG IN SCRIPT STREAM (λ said. (is_fault said.1.state.outcome ≡ false) × IsPut said.0 old new)
DebugEndings u M IMG IN SCRIPT STREAM before after old new (status.BadMachine line code) =
    IsUntouched before after × NothingOutput old new × HasText before.contents M (λ text. IsBadMachine u text line code)
DebugEndings u M IMG IN SCRIPT STREAM before after old new (status.BadImage code word bus) =
    IsUntouched before after × NothingOutput old new
    × OfMachine u before.contents M (λ file. HasText before.contents IMG (λ bytes. decoded_image file.machine file.digest bytes ≡ Err (Refused code word bus)))
DebugEndings u M IMG IN SCRIPT STREAM before after old new (status.BadInput line) =
    IsUntouched before after × NothingOutput old new
    × OfPair u IsImageFor before.contents M IMG (λ file whole. HasText before.contents IN (λ bytes. input_of file.machine.data_words bytes ≡ Err line))
DebugEndings u M IMG IN SCRIPT STREAM before after old new (status.BadStream line) =
    IsUntouched before after × NothingOutput old new × HasThree u IsImageFor before.contents M IMG IN × HasBytes before.contents SCRIPT
    × OfNamed STREAM (λ name. HasText before.contents name (λ bytes. stream_of bytes ≡ Err line))
DebugEndings u M IMG IN SCRIPT STREAM before after old new (status.MachineFault code cycle) =
    IsUntouched before after
    × HasSession u before.contents M IMG IN SCRIPT STREAM (λ said. (said.1.state.outcome ≡ Fault code cycle) × IsPut said.0 old new)
DebugEndings u M IMG IN SCRIPT STREAM before after old new (status.ReadFault word) =
    NothingOutput old new × SessionFault u before.contents M IMG IN SCRIPT STREAM (λ name. ReadFailed name before after) word
DebugEndings u M IMG IN SCRIPT STREAM before after old new status.WriteFault =
    IsUntouched before after × HasSession u before.contents M IMG IN SCRIPT STREAM (λ said. IsCut said.0 old new)
DebugEndings u M IMG IN SCRIPT STREAM before after old new (status.TooLong word) =
    NothingOutput old new × SessionFault u before.contents M IMG IN SCRIPT STREAM (λ name. IsTooLong name before after) word
DebugEndings u M IMG IN SCRIPT STREAM before after old new status.NoMemory = IsUntouched before after × NothingOutput old new
DebugEndings u M IMG IN SCRIPT STREAM before after old new s = ⊥

-- the clause of `debug` says this of each status
abbrev pub DebugByStatus : Type 0
DebugByStatus =
    (u : Units) (M IMG IN SCRIPT : List ℕ) (STREAM : Option (List ℕ)) (before after : World) (old new : Output) (s : Status)
    → Debugs u M IMG IN SCRIPT STREAM before after old new s ↔ DebugEndings u M IMG IN SCRIPT STREAM before after old new s

-- Lines in memory, some of which are to fail.
use Rattle.std.specs.Prelude.{◌≡◌, ℕ, ◌+◌, ◌==◌, nat_lt, if◌then◌else◌, Bool, true, false, List, [], length, take, Option, Some, None, slice_get, Result, Ok, Err, Vec}
use Rattle.std.specs.List.{list_any}
use Rattle.std.specs.declared.alloc.Global.{Global}
use Rattle.tta_ports.specs.Faults.{next_count}
use Rattle.tta_stdin.specs.declared.error.LineError.{LineError}
use Rattle.tta_stdin.specs.declared.error.LineError.TheVariants.{Failed, TooLong, NoMemory}
use Rattle.tta_stdin.specs.Come.{Come}

-- all the lines, how many of them have come, whether the end has, the numbers of the calls that are to fail, how many calls
-- there were, how many of them failed, and the limit of the latest that met a line that was too long
pub record Queue : Type 0 where
  pub all : List (List ℕ)
  pub at : ℕ
  pub ended : Bool
  pub failing : List ℕ
  pub calls : ℕ
  pub faults : ℕ
  pub overlong : Option ℕ

-- no lines, and no call yet
abbrev pub new_queue : List ℕ → Queue
new_queue failing = record { all = []; at = 0; ended = false; failing = failing; calls = 0; faults = 0; overlong = None }

-- what has come of them
abbrev pub come_of : Queue → Come
come_of q = record { lines = Some (take q.at q.all); ended = q.ended; faults = q.faults; overlong = q.overlong }

-- whether the next call, whose number is one more than those before, is to fail
abbrev pub fails_next : Queue → Bool
fails_next q = list_any (λ n. n == next_count q.calls) q.failing

-- a line with its newline has to fit
abbrev pub up_to : ℕ → Option (List ℕ) → Result (Option (List ℕ)) LineError
up_to limit None = Ok None
up_to limit (Some line) = if nat_lt (length line) limit then Ok (Some line) else Err TooLong

-- what the next call answers, but for lack of memory
abbrev pub line_answer : Queue → ℕ → Result (Option (List ℕ)) LineError
line_answer q limit =
    if q.ended then Ok None
    else if fails_next q then Err Failed
    else up_to limit (slice_get q.all q.at)

-- a call answers this, but for lack of memory
abbrev pub LineAnswers : Result (Option (List ℕ)) LineError → Result (Option (Vec ℕ Global)) LineError → Type 0
LineAnswers answer (Ok (Some line)) = answer ≡ Ok (Some line.items)
LineAnswers answer (Ok None) = answer ≡ Ok None
LineAnswers answer (Err Failed) = answer ≡ Err Failed
LineAnswers answer (Err TooLong) = answer ≡ Err TooLong
LineAnswers answer (Err NoMemory) = Unit {0}

-- after a call, by its answer
abbrev pub after_call : Queue → (limit : ℕ) → Result (Option (Vec ℕ Global)) LineError → Queue
after_call q limit (Ok (Some line)) = record q { calls = next_count q.calls; at = q.at + 1 }
after_call q limit (Ok None) = record q { calls = next_count q.calls; ended = true }
after_call q limit (Err Failed) = record q { calls = next_count q.calls; faults = next_count q.faults }
after_call q limit (Err TooLong) = record q { calls = next_count q.calls; overlong = Some limit }
after_call q limit (Err NoMemory) = record q { calls = next_count q.calls }

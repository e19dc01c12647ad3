-- Lines that come one by one, as contracts see them.
use Rattle.std.specs.Prelude.{◌≡◌, ℕ, Bool, true, false, List, ◌∷◌, [], ◌++◌, Option, Some, None, option_map, Result, Ok, Err, Vec}
use Rattle.std.specs.declared.alloc.Global.{Global}
use Rattle.tta_ports.specs.Faults.{Rose}
use Rattle.tta_stdin.specs.declared.error.LineError.{LineError}
use Rattle.tta_stdin.specs.declared.error.LineError.TheVariants.{Failed, TooLong, NoMemory}

-- The lines that have come, where they are shown, each without its newline; whether the end has come; how often a call has failed,
-- up to the last value of a 64-bit counter; and how many bytes the latest line that was too long could have had, none before the first
pub record Come : Type 0 where
  pub lines : Option (List (List ℕ))
  pub ended : Bool
  pub faults : ℕ
  pub overlong : Option ℕ

-- these lines have come since
abbrev pub with_lines : List (List ℕ) → Come → Come
with_lines lines c = record c { lines = option_map (λ before. before ++ lines) c.lines }

-- the end has come
abbrev pub with_end : Come → Come
with_end c = record c { ended = true }

-- the outside has failed, and nothing has come
pub record IsFailed (old new : Come) : Type 0 where
  pub rose : Rose old.faults new.faults
  pub same : new ≡ record old { faults = new.faults }

-- a line had more bytes than this, and none has come
abbrev pub with_overlong : (limit : ℕ) → Come → Come
with_overlong limit c = record c { overlong = Some limit }

-- what a call with a limit has done, by its answer. Once the end has come, it is all that comes.
abbrev pub Comes : (limit : ℕ) → (old new : Come) → Result (Option (Vec ℕ Global)) LineError → Type 0
Comes limit old new (Ok (Some line)) = (old.ended ≡ false) × (new ≡ with_lines (line.items ∷ []) old)
Comes limit old new (Ok None) = new ≡ with_end old
Comes limit old new (Err Failed) = (old.ended ≡ false) × IsFailed old new
Comes limit old new (Err TooLong) = (old.ended ≡ false) × (new ≡ with_overlong limit old)
Comes limit old new (Err NoMemory) = (old.ended ≡ false) × (new ≡ old)

-- a fact of the line that has come, where one has
abbrev pub IfLine : {E : Type 0} → Result (Option (Vec ℕ Global)) E → (List ℕ → Type 0) → Type 0
IfLine (Ok (Some line)) P = P line.items
IfLine (Ok None) P = Unit {0}
IfLine (Err e) P = Unit {0}

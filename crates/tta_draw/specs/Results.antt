-- The results that moves start, and the rows in which they are on the way.
use Rattle.std.specs.Prelude.{ℕ, ◌+◌, ◌-◌, ◌==◌, if◌then◌else◌, min, max, List, [], ◌∷◌, Option, Some, None}
use Rattle.std.specs.Option.{option_map_or}
use Rattle.std.specs.List.{flat_map, enumerate_from}
use Rattle.tta_arch.specs.declared.parts.Unit.{Unit as OpUnit}
use Rattle.tta_draw.specs.Cited.{UnitOp, Dest, Machine, op_at, Instruction, Move}
use Rattle.tta_arch.specs.declared.ends.Dest.TheVariants as dest
use Rattle.tta_draw.specs.declared.span.Span.{Span}

-- after how many cycles the result shows that a move into this destination starts in a unit; 0 if it starts none there
abbrev pub latency_in : Machine → (unit : ℕ) → Dest → ℕ
latency_in m unit (dest.Trigger u op) = if u == unit then option_map_or (λ o. o.latency) (op_at m u op) 0 else 0
latency_in m unit dest.Jump = 0
latency_in m unit dest.Call = 0
latency_in m unit dest.Halt = 0
latency_in m unit (dest.Reg file index) = 0
latency_in m unit (dest.Operand u) = 0

-- the rows in which a result is on the way that a row starts: it shows from the row after them on, if instructions are carried out in order
abbrev pub on_the_way : (row latency : ℕ) → List Span
on_the_way row latency = if latency == 0 then [] else record { from = row; to = row + latency - 1 } ∷ []

-- the result that the move of a slot starts in a unit, if its guard lets it
abbrev pub started : Machine → (unit row : ℕ) → Option Move → List Span
started m unit row None = []
started m unit row (Some v) = on_the_way row (latency_in m unit v.dst)

-- those of an instruction
abbrev pub started_in : Machine → (unit row : ℕ) → Instruction → List Span
started_in m unit row i = flat_map (started m unit row) i.moves

-- the results of a unit, in the order of the rows that start them
abbrev pub results_of : Machine → List Instruction → (unit : ℕ) → List Span
results_of m words unit = flat_map (λ i. started_in m unit i.0 i.1) (enumerate_from 0 words)

-- the greatest of a number and the latencies of operations
abbrev pub longest : ℕ → List UnitOp → ℕ
longest n [] = n
longest n (o ∷ os) = longest (max n o.latency) os

-- so many results of a unit can be on the way at once, since one alone starts in a row: it has as many lanes, at most 16
abbrev pub lanes_in : OpUnit → ℕ
lanes_in q = min 16 (longest 1 q.ops)

-- Where the jumps and calls of code lead, as far as its text shows it.
use Rattle.std.specs.Prelude.{ℕ, ◌+◌, ◌==◌, Bool, true, false, ◌&&◌, nat_lt, if◌then◌else◌, List, [], ◌∷◌, length, take, fold, Option, Some, None, slice_get, option_and_then}
use Rattle.std.specs.Option.{option_map_or}
use Rattle.std.specs.List.{flat_map, enumerate_from}
use Rattle.tta_draw.specs.Cited.{Source, Dest, Machine, first_some, or_else, Instruction, Move}
use Rattle.tta_arch.specs.declared.ends.Source.TheVariants as source
use Rattle.tta_arch.specs.declared.ends.Dest.TheVariants as dest
use Rattle.tta_draw.specs.declared.span.Span.{Span}

-- whether a move into this destination jumps or calls
abbrev pub leads : Dest → Bool
leads dest.Jump = true
leads dest.Call = true
leads dest.Halt = false
leads (dest.Reg file index) = false
leads (dest.Operand unit) = false
leads (dest.Trigger unit op) = false

-- the move of a slot, if it jumps or calls
abbrev pub leading : Option Move → Option Move
leading slot = option_and_then (λ v. if leads v.dst then Some v else None) slot

-- the word that an instruction's long immediate writes into an immediate register, if it writes it
abbrev pub long_word : Machine → (unit index : ℕ) → Instruction → Option ℕ
long_word m unit index i =
    option_and_then (λ l. option_and_then (λ t. if t.imm == unit && t.reg == index then Some l.value else None) (slice_get m.templates l.template)) i.long

-- the word that the nearest of the instructions above writes into it
abbrev pub nearest_word : Machine → (above : List Instruction) → (unit index : ℕ) → Option ℕ
nearest_word m above unit index = fold (λ word i. or_else (long_word m unit index i) word) None above

-- The word of a source, where the text shows it: a word of the move's own, or that of an immediate register. A move reads what was
-- written before its cycle, so a long immediate of its own instruction does not count.
abbrev pub source_word : (held : (unit index : ℕ) → Option ℕ) → Source → Option ℕ
source_word held (source.Value word) = Some word
source_word held (source.Imm unit index) = held unit index
source_word held (source.Reg file index) = None
source_word held (source.Shown unit) = None
source_word held source.Ra = None

-- where the first move of an instruction leads that jumps or calls; legal code has one at most
abbrev pub target_of : (held : (unit index : ℕ) → Option ℕ) → Instruction → Option ℕ
target_of held i = option_and_then (λ v. source_word held v.src) (first_some leading i.moves)

-- the arrow from a row to a row, if there are both
abbrev pub arrow_to : (rows from : ℕ) → Option ℕ → List Span
arrow_to rows from target =
    option_map_or (λ to. if nat_lt from rows && nat_lt to rows then record { from = from; to = to } ∷ [] else []) target []

-- The arrow of the jump of a row, whose long immediates stand above it. It leads from the last delay slot: the row after whose cycle the
-- jump takes effect.
abbrev pub arrow_at : Machine → List Instruction → (row : ℕ) → Instruction → List Span
arrow_at m words row i = arrow_to (length words) (row + m.control.delay) (target_of (nearest_word m (take row words)) i)

-- the arrows of the jumps and calls of code whose targets are known and stand in the code
abbrev pub arrows_of : Machine → List Instruction → List Span
arrows_of m words = flat_map (λ i. arrow_at m words i.0 i.1) (enumerate_from 0 words)

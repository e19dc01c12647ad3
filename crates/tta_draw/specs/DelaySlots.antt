-- Which rows are delay slots: they are carried out before a jump, call or halt above them takes effect.
use Rattle.std.specs.Prelude.{ℕ, ◌-◌, Bool, true, false, List, slice_range}
use Rattle.std.specs.Option.{option_map_or}
use Rattle.std.specs.List.{list_any}
use Rattle.tta_draw.specs.Cited.{Dest, Machine, Instruction}
use Rattle.tta_arch.specs.declared.ends.Dest.TheVariants as dest

-- whether a move into this destination jumps, calls or halts
abbrev pub steers : Dest → Bool
steers dest.Jump = true
steers dest.Call = true
steers dest.Halt = true
steers (dest.Reg file index) = false
steers (dest.Operand unit) = false
steers (dest.Trigger unit op) = false

-- whether an instruction has such a move
abbrev pub has_turn : Instruction → Bool
has_turn i = list_any (λ slot. option_map_or (λ v. steers v.dst) slot false) i.moves

-- whether a row is a delay slot: one of the rows above it, which are as many as the delay, has such a move
abbrev pub is_delay_slot : Machine → List Instruction → (row : ℕ) → Bool
is_delay_slot m words row = list_any has_turn (slice_range words (row - m.control.delay) row)

-- Closed register code: all that it names is there, and its run has a meaning.
use Rattle.std.specs.Prelude.{◌≡◌, ℕ, ◌-◌, ◌^◌, ◌<◌, ◌≤◌, ◌==◌, nat_lt, nat_le, Bool, true, false, not, ◌&&◌, List, length, slice_get}
use Rattle.std.specs.Option.{option_map_or}
use Rattle.std.specs.List.{list_all}
use Rattle.tta_ops.specs.Units.{Units}
use Rattle.tta_lir.specs.declared.code.Place.{Place}
use Rattle.tta_lir.specs.declared.code.Place.TheVariants.{Reg, Frame}
use Rattle.tta_lir.specs.declared.code.RSrc.{RSrc}
use Rattle.tta_lir.specs.declared.code.RSrc.TheVariants.{At, Word}
use Rattle.tta_lir.specs.declared.code.RStep.{RStep}
use Rattle.tta_lir.specs.declared.code.RStep.TheVariants.{Copy, Apply, Load, Take, Store, Put, When, SaveRa}
use Rattle.tta_lir.specs.declared.code.Exit.{Exit}
use Rattle.tta_lir.specs.declared.code.Exit.TheVariants.{Next, Goto, If, Invoke, Back}
use Rattle.tta_lir.specs.declared.code.RBlock.{RBlock}
use Rattle.tta_lir.specs.declared.code.Rir.{Rir}
use Rattle.tta_lir.specs.Meaning.{rrun}

-- ---- places and slots that pass tests

-- an operand whose place passes
abbrev pub src_passes : (Place → Bool) → RSrc → Bool
src_passes place (At p) = place p
src_passes place (Word w) = true

-- a step whose places pass one test, and whose slots for return addresses pass another
abbrev pub step_passes : (place : Place → Bool) (slot : ℕ → Bool) → RStep → Bool
step_passes place slot (Copy d s) = place d && src_passes place s
step_passes place slot (Apply d op a b) = place d && (src_passes place a && src_passes place b)
step_passes place slot (Load d a) = place d && src_passes place a
step_passes place slot (Take d) = place d
step_passes place slot (Store a v) = src_passes place a && src_passes place v
step_passes place slot (Put v) = src_passes place v
step_passes place slot (When rel a b d s) = src_passes place a && (src_passes place b && (place d && src_passes place s))
step_passes place slot (SaveRa s) = slot s

-- an exit whose places and slots pass
abbrev pub exit_passes : (place : Place → Bool) (slot : ℕ → Bool) → Exit → Bool
exit_passes place slot (If rel a b to) = src_passes place a && src_passes place b
exit_passes place slot (Back s) = slot s
exit_passes place slot e = true

-- a block whose places and slots pass
abbrev pub block_passes : (place : Place → Bool) (slot : ℕ → Bool) → RBlock → Bool
block_passes place slot b = list_all (step_passes place slot) b.steps && exit_passes place slot b.exit

-- ---- closed

-- a place that is there
abbrev pub is_place : (homes frame_words : ℕ) → Place → Bool
is_place homes frame_words (Reg k) = nat_lt k homes
is_place homes frame_words (Frame f) = nat_lt f frame_words

-- a place other than a slot
abbrev pub is_not_slot : ℕ → Place → Bool
is_not_slot s (Reg k) = true
is_not_slot s (Frame f) = not (f == s)

-- the block that an exit names is there
abbrev pub leads_within : ℕ → Exit → Bool
leads_within count (Goto to) = nat_lt to count
leads_within count (If rel a b to) = nat_lt to count
leads_within count (Invoke to) = nat_lt to count
leads_within count e = true

-- whether an exit needs a block after it
abbrev pub wants_next : Exit → Bool
wants_next Next = true
wants_next (If rel a b to) = true
wants_next (Invoke to) = true
wants_next e = false

-- what a block of closed code keeps by itself
abbrev pub is_closed_block : (homes frame_words count : ℕ) → RBlock → Bool
is_closed_block homes frame_words count b =
    block_passes (is_place homes frame_words) (λ s. nat_lt s frame_words) b
    && (list_all (λ k. nat_lt k homes) b.live_out && (leads_within count b.exit && nat_le (length b.steps) (2 ^ 18)))

-- Register code is closed for so many homes and frame words: registers, slots and blocks are there; there are 1 to 2^24
-- blocks, the last of which needs none after it; no operand or destination is a slot that keeps a return address; and
-- every run has a meaning.
pub record IsClosed (u : Units) (r : Rir) (homes frame_words : ℕ) : Type 0 where
  pub blocks : list_all (is_closed_block homes frame_words (length r.blocks)) r.blocks ≡ true
  pub some : 0 < length r.blocks
  pub few : length r.blocks ≤ 2 ^ 24
  pub last : option_map_or (λ b. wants_next b.exit) (slice_get r.blocks (length r.blocks - 1)) true ≡ false
  pub apart : (s : ℕ) → list_all (block_passes (is_not_slot s) (λ t. true)) r.blocks ≡ false → list_all (block_passes (λ p. true) (λ t. not (t == s))) r.blocks ≡ true
  pub meaning : (memory input : List ℕ) (n : ℕ) → (rrun u r memory input n).sound ≡ true

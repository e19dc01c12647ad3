-- The run of all lists of a program, leg by leg.
use Rattle.std.specs.Prelude.{◌≡◌, ℕ, suc, ◌+◌, ◌<◌, ◌^◌, ◌==◌, Bool, true, false, not, ◌&&◌, if◌then◌else◌, List, [], ◌∷◌, length, filter, replicate, Option, Some, None, option_map, slice_index}
use Rattle.std.specs.Option.{option_map_or}
use Rattle.std.specs.List.{list_any}
use Rattle.tta_moves.specs.Cited.{Units, Machine, Jumps, Calls, Halts, Place, KeptReg, KeptImm, KeptOperand, KeptRa, KeptPort, Leave, ToNext, ToBlock, ToHalt, ToWait, ToNowhere, Run, legs}
use Rattle.tta_moves.specs.declared.items.BlockList.{BlockList}
use Rattle.tta_moves.specs.Meaning.{Exit, Next, Leaves, Waits, Held, do_items, has_meaning}

-- ---- the words of blocks

-- A word for each block, in order, and one for the end after the last; they rise.
pub record AreAddresses (addr : List ℕ) (blocks : ℕ) : Type 0 where
  pub size : length addr ≡ blocks + 1
  pub words : (k : ℕ) → slice_index addr k < 2 ^ 32
  pub rise : (j k : ℕ) → j < k → k < length addr → slice_index addr j < slice_index addr k

-- the block that has a word, if one has; the last word is after all blocks
abbrev pub block_at : (addr : List ℕ) → (word : ℕ) → Option ℕ
block_at [] word = None
block_at (a ∷ addr) word = if a == word && not (length addr == 0) then Some 0 else option_map suc (block_at addr word)

-- ---- from list to list

-- whether a place keeps its word up to the next list: the registers that are read after the list, and the return
-- address. Other registers, immediate registers and ports are unset from then on.
abbrev pub lives : (live : List (ℕ × ℕ)) → Place → Bool
lives live (KeptReg file index) = list_any (λ r. r.0 == file && r.1 == index) live
lives live (KeptImm unit index) = false
lives live (KeptOperand unit) = false
lives live KeptRa = true
lives live (KeptPort unit) = false

-- what a list leaves to the next
abbrev pub restart : (live : List (ℕ × ℕ)) → Held → Held
restart live h = record h { written = filter (λ w. lives live w.0) h.written; exit = Next }

-- a transfer to the block of a word; there is none to a word that no block has
abbrev pub to_word : (addr : List ℕ) → (word : ℕ) → Leave
to_word addr word = option_map_or (λ block. ToBlock block) (block_at addr word) ToNowhere

-- how a block is left whose list ends so
abbrev pub leave_of : (addr : List ℕ) → Exit → Leave
leave_of addr Next = ToNext
leave_of addr (Leaves Jumps word) = to_word addr word
leave_of addr (Leaves Calls word) = to_word addr word
leave_of addr (Leaves Halts word) = ToHalt
leave_of addr Waits = ToWait

-- what the list of block k leaves; a call in it writes the word of the block after it
abbrev pub go_list : Units → Machine → (addr : List ℕ) → (k : ℕ) → BlockList → Held → Held × Leave
go_list u m addr k b h =
    let back = slice_index addr (k + 1) in
    let end = do_items u m addr back h b.items in
    if has_meaning u m addr back h b.items then (restart b.live_out end, leave_of addr end.exit) else (h, ToNowhere)

-- ---- a run

-- nothing written, every frame word 0, no output
abbrev pub begin : Machine → (memory input : List ℕ) → Held
begin m memory input =
    record { written = []; memory = memory; frame = replicate m.frame_words 0; rest = input; output = []; exit = Next }

-- the run of the lists after at most n legs, from these data words and this input
abbrev pub lrun : Units → Machine → List BlockList → (addr : List ℕ) → (memory input : List ℕ) → ℕ → Run Held
lrun u m lists addr memory input n = legs (go_list u m addr) lists (begin m memory input) n

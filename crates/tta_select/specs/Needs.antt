-- What register code asks of a machine: places that are there, and operations that a usable unit offers.
use Rattle.std.specs.Prelude.{◌≡◌, ℕ, Bool, true, false, ◌&&◌, nat_lt, nat_le, ◌^◌, length, Option, Some, None, is_some}
use Rattle.std.specs.Option.{option_map_or}
use Rattle.std.specs.List.{list_all}
use Rattle.tta_select.specs.Cited.{Units, Op, Ldw, Stw, Out, Set, Machine, Choice, offered, RSrc, RStep, Copy, Apply, Load, Store, Put, When, SaveRa, Goto, If, Invoke, Back, Halt, RBlock}
use Rattle.tta_arch.specs.declared.parts.Op.TheVariants.{Take as TakeIn}
use Rattle.tta_lir.specs.declared.code.RSrc.TheVariants as rsrc
use Rattle.tta_lir.specs.declared.code.RStep.TheVariants.{Take}
use Rattle.tta_lir.specs.declared.code.Exit.{Exit}
use Rattle.tta_lir.specs.declared.code.Exit.TheVariants.{Next}
use Rattle.tta_select.specs.Select.{test_op}
use Rattle.tta_select.specs.Ground.{IsServed}
use Rattle.tta_select.specs.Relation.{is_place_of, is_src_of}

-- the operation that a step needs, if it needs one
abbrev pub op_of_step : Units → RStep → Option Op
op_of_step u (Apply d op a b) = Some (Set op)
op_of_step u (Load d a) = Some Ldw
op_of_step u (Take d) = Some TakeIn
op_of_step u (Store a v) = Some Stw
op_of_step u (Put v) = Some Out
op_of_step u (When rel a b d s) = Some (test_op u rel)
op_of_step u step = None

abbrev pub op_of_exit : Units → Exit → Option Op
op_of_exit u (If rel a b to) = Some (test_op u rel)
op_of_exit u e = None

-- an operation that is needed is offered
abbrev pub Served : Machine → Choice → Option Op → Type 0
Served m c o = (op : Op) → o ≡ Some op → IsServed m c op

-- the places of a step, of an exit
abbrev pub is_step_of : Machine → Choice → RStep → Bool
is_step_of m c (Copy d s) = is_place_of m c d && is_src_of m c s
is_step_of m c (Apply d op a b) = is_place_of m c d && (is_src_of m c a && is_src_of m c b)
is_step_of m c (Load d a) = is_place_of m c d && is_src_of m c a
is_step_of m c (Take d) = is_place_of m c d
is_step_of m c (Store a v) = is_src_of m c a && is_src_of m c v
is_step_of m c (Put v) = is_src_of m c v
is_step_of m c (When rel a b d s) = is_src_of m c a && (is_src_of m c b && (is_place_of m c d && is_src_of m c s))
is_step_of m c (SaveRa slot) = nat_lt slot m.frame_words

-- an exit of code with so many blocks
abbrev pub is_exit_of : Machine → Choice → (blocks : ℕ) → Exit → Bool
is_exit_of m c blocks Next = true
is_exit_of m c blocks (Goto to) = nat_lt to blocks
is_exit_of m c blocks (If rel a b to) = is_src_of m c a && (is_src_of m c b && nat_lt to blocks)
is_exit_of m c blocks (Invoke to) = nat_lt to blocks
is_exit_of m c blocks (Back slot) = nat_lt slot m.frame_words
is_exit_of m c blocks Halt = true

-- whether a usable unit offers an operation, if one is needed
abbrev pub is_offered : Machine → Choice → Option Op → Bool
is_offered m c o = option_map_or (λ op. is_some (offered m c.usable op)) o true

-- whether the places of a step, an exit and a block are there, and a usable unit offers all that they need
abbrev pub fits_step : Units → Machine → Choice → RStep → Bool
fits_step u m c r = is_step_of m c r && is_offered m c (op_of_step u r)

abbrev pub fits_exit : Units → Machine → Choice → (blocks : ℕ) → Exit → Bool
fits_exit u m c blocks e = is_exit_of m c blocks e && is_offered m c (op_of_exit u e)

abbrev pub fits_block : Units → Machine → Choice → (blocks : ℕ) → RBlock → Bool
fits_block u m c blocks b = list_all (fits_step u m c) b.steps && fits_exit u m c blocks b.exit

-- ---- words

-- constants are words, and a block has at most 2 ^ 18 steps
abbrev pub is_word : ℕ → Bool
is_word w = nat_lt w (2 ^ 32)

abbrev pub word_src : RSrc → Bool
word_src (rsrc.Word w) = is_word w
word_src (rsrc.At p) = true

abbrev pub word_step : RStep → Bool
word_step (Copy d s) = word_src s
word_step (Apply d op a b) = word_src a && word_src b
word_step (Load d a) = word_src a
word_step (Take d) = true
word_step (Store a v) = word_src a && word_src v
word_step (Put v) = word_src v
word_step (When rel a b d s) = word_src a && (word_src b && word_src s)
word_step (SaveRa slot) = true

abbrev pub word_exit : Exit → Bool
word_exit (If rel a b to) = word_src a && word_src b
word_exit e = true

abbrev pub word_block : RBlock → Bool
word_block b = list_all word_step b.steps && word_exit b.exit && nat_le (length b.steps) 262144

-- whether an exit asks no condition
abbrev pub has_no_condition : Exit → Bool
has_no_condition (If rel a b to) = false
has_no_condition e = true

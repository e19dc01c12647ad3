-- The list of a program of constants on a machine that brings constants to an output unit.
use Rattle.std.specs.Prelude.{ℕ, Bool, List, [], ◌∷◌, ◌++◌, map, None}
use Rattle.std.specs.Option.{unwrap_or}
use Rattle.std.specs.List.{flat_map}
use Rattle.tta_select.specs.Cited.{Out, Machine, Call, anywhere, Port, Item, BlockList, joined, RStep, Put, RBlock, Rir}
use Rattle.tta_arch.specs.declared.ends.Source.TheVariants as source
use Rattle.tta_arch.specs.declared.ends.Dest.TheVariants as dest
use Rattle.tta_lir.specs.declared.code.RSrc.TheVariants as rsrc
use Rattle.tta_select.specs.Select.{goes, trigger_at, no_call}

-- the operation that outputs words
abbrev pub out_of : Machine → Call
out_of m = unwrap_or (anywhere m Out) (no_call Out)

-- whether some bus joins a word, as an immediate, to the trigger port of the unit that offers `out`
abbrev pub brings : Machine → ℕ → Bool
brings m w = joined m (Port (source.Value w)) (trigger_at (out_of m)) None

-- a constant goes to the output's trigger
abbrev pub direct_step : Call → RStep → List Item
direct_step f (Put (rsrc.Word w)) = goes (Port (source.Value w)) (trigger_at f) ∷ []
direct_step f step = []

-- each constant does, and then the word 0 goes to control
abbrev pub direct_items : Call → List RStep → List Item
direct_items f steps = flat_map (direct_step f) steps ++ goes (Port (source.Value 0)) dest.Halt ∷ []

abbrev pub direct_block : Call → RBlock → BlockList
direct_block f b = record { items = direct_items f b.steps; live_out = [] }

abbrev pub direct_lists : Machine → Rir → List BlockList
direct_lists m r = map (direct_block (out_of m)) r.blocks

-- the same for constants alone
abbrev pub constants_out : Call → List ℕ → List Item
constants_out f [] = goes (Port (source.Value 0)) dest.Halt ∷ []
constants_out f (w ∷ words) = goes (Port (source.Value w)) (trigger_at f) ∷ constants_out f words

abbrev pub direct_list : Call → List ℕ → BlockList
direct_list f words = record { items = constants_out f words; live_out = [] }

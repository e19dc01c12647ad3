-- What a list of items means by itself, without cycles and buses: its items are carried out one after another, each at
-- once, and the result of an operation is on its port at once.
use Rattle.std.specs.Prelude.{ℕ, Bool, true, false, not, ◌&&◌, ◌||◌, if◌then◌else◌, List, [], ◌∷◌, ◌++◌, map, fold, Option, Some, None, is_none, slice_get, slice_index}
use Rattle.std.specs.Option.{option_map_or, option_to_list}
use Rattle.std.specs.List.{list_any, filter_map}
use Rattle.tta_moves.specs.Cited.{Units, Source, Machine, Kind, Effect, Place, KeptReg, KeptImm, KeptRa, KeptPort, Written, kept, Reads, Brought, bring, write_of, has_result, Start, start_of, result_word, store_data, store_frame, put_out, takes, take_in, control_of, has_unset_guard, has_unset, lacks_operand}
use Rattle.tta_arch.specs.declared.ends.Source.TheVariants as source
use Rattle.tta_moves.specs.declared.items.ItemSource.{ItemSource}
use Rattle.tta_moves.specs.declared.items.ItemSource.TheVariants.{Port, Address}
use Rattle.tta_moves.specs.declared.items.Item.{Item}
use Rattle.tta_moves.specs.Touches.{guard_of, source_of, target_of_item}

-- ---- states

-- how a list goes on: at the next block, at the word that a control item moved, or not before there is more input
pub data Exit : Type 0 where
  Next : Exit
  Leaves : Kind → (word : ℕ) → Exit
  Waits : Exit

abbrev pub is_waiting : Exit → Bool
is_waiting Next = false
is_waiting (Leaves kind word) = false
is_waiting Waits = true

-- what there is between two items: what was written into each place, a unit's result port among them, the spaces, the
-- rest of the input, the output, and how the list goes on as far as its items have said
pub record Held : Type 0 where
  pub written : Written
  pub memory : List ℕ
  pub frame : List ℕ
  pub rest : List ℕ
  pub output : List ℕ
  pub exit : Exit

-- ---- an item

-- a source, where the address of a block is the word that the block has
abbrev pub linked : (addr : List ℕ) → ItemSource → Source
linked addr (Port src) = src
linked addr (Address block) = source.Value (slice_index addr block)

-- an item as an effect: an address is a word, and a long immediate an unguarded move of its word
abbrev pub effect_of : (addr : List ℕ) → Item → Effect
effect_of addr x = record { guard = guard_of x; src = linked addr (source_of x); target = target_of_item x }

-- the word of a source
abbrev pub read_held : Written → Reads
read_held ws (source.Reg file index) = kept ws (KeptReg file index)
read_held ws (source.Imm unit index) = kept ws (KeptImm unit index)
read_held ws (source.Shown unit) = kept ws (KeptPort unit)
read_held ws source.Ra = kept ws KeptRa
read_held ws (source.Value word) = Some word

-- the result of an operation, which is on its unit's port at once
abbrev pub result_at_once : Units → Held → Start → Option (Place × ℕ)
result_at_once u h t =
    if has_result t.does.op then Some (KeptPort t.unit, result_word u h.memory h.frame (slice_index h.rest 0) t t.does.op) else None

-- how a list goes on after a control item, if this is one
abbrev pub exit_after : Exit → Option (Kind × ℕ) → Exit
exit_after exit None = exit
exit_after exit (Some c) = Leaves c.0 c.1

-- what a word that is brought to its target leaves, with all that it starts
abbrev pub acts : Units → Machine → (back : ℕ) → Held → Brought → List Start → Held
acts u m back h b ts = record {
  written = option_to_list (write_of m back b) ++ (filter_map (result_at_once u h) ts ++ h.written);
  memory = fold store_data h.memory ts;
  frame = fold store_frame h.frame ts;
  rest = fold take_in h.rest ts;
  output = fold put_out h.output ts;
  exit = exit_after h.exit (control_of b);
}

-- an operation that takes a word where none is left ends the list
abbrev pub waits_for : Held → List Start → Bool
waits_for h ts = list_any takes ts && is_none (slice_get h.rest 0)

-- a word that is brought, if one is
abbrev pub arrives : Units → Machine → (back : ℕ) → Held → Option Brought → Held
arrives u m back h None = h
arrives u m back h (Some b) =
    let ts = option_to_list (start_of m h.written b) in
    if waits_for h ts then record h { exit = Waits } else acts u m back h b ts

-- An effect, carried out at once; a list that waits stays as it is. A call writes `back`, the word of the block after it.
unfoldable pub does : Units → Machine → (back : ℕ) → Held → Effect → Held
does u m back h e = if is_waiting h.exit then h else arrives u m back h (bring (read_held h.written) e)

-- whether an effect reads what was never written: its guard, where it acts its source, and where it starts an operation
-- of two words the operand port
unfoldable pub lacks : Machine → Held → Effect → Bool
lacks m h e =
    has_unset_guard (read_held h.written) e || has_unset (read_held h.written) (λ s. true) e
    || option_map_or (λ b. option_map_or lacks_operand (start_of m h.written b) false) (bring (read_held h.written) e) false

-- ---- a list

-- what effects leave, one after another
abbrev pub does_all : Units → Machine → (back : ℕ) → Held → List Effect → Held
does_all u m back h es = fold (does u m back) h es

-- whether no effect lacks a word, up to the end or to where the list waits
abbrev pub means : Units → Machine → (back : ℕ) → Held → List Effect → Bool
means u m back h [] = true
means u m back h (e ∷ es) = (is_waiting h.exit || not (lacks m h e)) && means u m back (does u m back h e) es

-- the same of items, by the words of the blocks
abbrev pub do_items : Units → Machine → (addr : List ℕ) → (back : ℕ) → Held → List Item → Held
do_items u m addr back h items = does_all u m back h (map (effect_of addr) items)

abbrev pub has_meaning : Units → Machine → (addr : List ℕ) → (back : ℕ) → Held → List Item → Bool
has_meaning u m addr back h items = means u m back h (map (effect_of addr) items)

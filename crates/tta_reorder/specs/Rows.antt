-- Whether an order is one, by a table of which item last changed each channel.
use Rattle.std.specs.Prelude.{◌≡◌, ◌<◌, ℕ, ◌+◌, ◌==◌, Bool, true, false, not, ◌&&◌, ◌||◌, nat_le, if◌then◌else◌, List, [], ◌∷◌, length, replicate, Option, Some, None, option_map, slice_get, slice_index, slice_set}
use Rattle.std.specs.Option.{option_map_or}
use Rattle.std.specs.List.{list_all}
use Rattle.tta_reorder.specs.Cited.{Machine, KeptReg, Item, guard_of, source_of, target_of_item, place_of_source, guard_place, place_written, is_control, is_unguarded, place_number}
use Rattle.tta_reorder.specs.declared.rows.Found.{Found}
use Rattle.tta_reorder.specs.declared.rows.Entry.{Entry}
use Rattle.tta_reorder.specs.Channels.{Channel, Word, Data, Frame, Traffic, Ending, starts, uses_data, stores_data, uses_frame, stores_frame, passes_words, operand_place}

-- ---- numbers of channels

-- the channels that are no places have the numbers after all places
abbrev pub data_number : ℕ
data_number = 641

abbrev pub traffic_number : ℕ
traffic_number = 642

abbrev pub ending_number : ℕ
ending_number = 643

-- the number of the first part of the frame space, after which the others come
abbrev pub frame_number : ℕ
frame_number = 644

-- how many parts of the frame space have a number
abbrev pub part_count : ℕ
part_count = 1024

-- how many channels have a number
abbrev pub channels : ℕ
channels = 1668

-- the number of a channel
abbrev pub channel_number : Channel → ℕ
channel_number (Word p) = place_number p
channel_number Data = data_number
channel_number (Frame part) = frame_number + part
channel_number Traffic = traffic_number
channel_number Ending = ending_number

-- ---- the table of what was last changed

-- before a list: no item has changed any channel
abbrev pub none_changed : List ℕ
none_changed = replicate channels 0

-- what an entry says on the way down a list: nothing, where it is of another
abbrev pub last_in : (list : ℕ) → Entry → ℕ
last_in list e = if e.list == list then e.last else 0

-- The stamps of a table that serves one list after another, one for each channel: lists are counted from 1, and no stamp is
-- of a list that is still to come.
pub record AreStamps (list : ℕ) (stamps : List ℕ) : Type 0 where
  pub some : 0 < list
  pub size : length stamps ≡ channels
  pub past : list_all (λ s. nat_le s list) stamps ≡ true

-- a number, if something is so
abbrev pub if_so : Bool → ℕ → Option ℕ
if_so b k = if b then Some k else None

-- the entry of a table that has a number, if one is given
abbrev pub entry : List ℕ → Option ℕ → ℕ
entry table o = option_map_or (slice_index table) o 0

-- what an item finds that uses this part of the frame space, if it uses one
abbrev pub found : Machine → (part : ℕ) → List ℕ → Item → Found
found m part table x = record {
  source = entry table (option_map place_number (place_of_source (source_of x)));
  guard = entry table (option_map (λ g. place_number (guard_place g)) (guard_of x));
  operand = entry table (option_map place_number (operand_place m (target_of_item x)));
  own = if is_unguarded x then 0 else entry table (option_map place_number (place_written m (target_of_item x)));
  memory = entry table (if_so (starts m uses_data (target_of_item x)) data_number);
  frame = entry table (if_so (starts m uses_frame (target_of_item x)) (frame_number + part));
  traffic = entry table (if_so (starts m passes_words (target_of_item x)) traffic_number);
  ending = entry table (if_so (is_control x && not (is_unguarded x)) ending_number);
}

abbrev pub same_found : Found → Found → Bool
same_found a b =
    a.source == b.source && (a.guard == b.guard && (a.operand == b.operand && (a.own == b.own && (a.memory == b.memory && (a.frame == b.frame
    && (a.traffic == b.traffic && a.ending == b.ending))))))

-- a table with another entry, if a number is given
abbrev pub put : List ℕ → Option ℕ → ℕ → List ℕ
put table o v = option_map_or (λ k. slice_set table k v) o table

-- a table after an item that has a number, and uses this part of the frame space, if it uses one
unfoldable pub passed : Machine → (part : ℕ) → List ℕ → (n : ℕ) → Item → List ℕ
passed m part table n x =
    put (put (put (put (put table
    (option_map place_number (place_written m (target_of_item x))) (n + 1))
    (if_so (starts m stores_data (target_of_item x)) data_number) (n + 1))
    (if_so (starts m stores_frame (target_of_item x)) (frame_number + part)) (n + 1))
    (if_so (starts m passes_words (target_of_item x)) traffic_number) (n + 1))
    (if_so (is_control x) ending_number) (n + 1)

-- two tables have the same entry for a part of the frame space, if an item stores into it
abbrev pub same_part : Machine → (part : ℕ) → Item → List ℕ → List ℕ → Bool
same_part m part x a b =
    not (starts m stores_frame (target_of_item x)) || slice_index a (frame_number + part) == slice_index b (frame_number + part)

-- The part of the frame space that the item of each number uses is given for what follows.
module _ (m : Machine) (parts : List ℕ) where
  -- what each item of a list finds, the first of which has the number n
  abbrev pub rows_from : List ℕ → (n : ℕ) → List Item → List Found
  rows_from table n [] = []
  rows_from table n (x ∷ xs) = found m (slice_index parts n) table x ∷ rows_from (passed m (slice_index parts n) table n x) (n + 1) xs

  -- the table after a list
  abbrev pub table_after : List ℕ → (n : ℕ) → List Item → List ℕ
  table_after table n [] = table
  table_after table n (x ∷ xs) = table_after (passed m (slice_index parts n) table n x) (n + 1) xs

  -- the table after the items of numbers
  abbrev pub table_by : List Item → List ℕ → (numbers : List ℕ) → List ℕ
  table_by items table [] = table
  table_by items table (n ∷ ns) =
      table_by items (option_map_or (λ x. passed m (slice_index parts n) table n x) (slice_get items n) table) ns

  -- two tables have the same entry for each part of the frame space that an item stores into, the first of which has the number n
  abbrev pub same_parts : List ℕ → List ℕ → (n : ℕ) → List Item → Bool
  same_parts a b n [] = true
  same_parts a b n (x ∷ xs) = same_part m (slice_index parts n) x a b && same_parts a b (n + 1) xs

  -- Each number is that of an item, none is there twice, and each item finds what it found in the list. `rows` is what the
  -- items of the list find.
  abbrev pub agrees : List Item → (rows : List Found) → (table : List ℕ) → (marks : List Bool) → (numbers : List ℕ) → Bool
  agrees items rows table marks [] = true
  agrees items rows table marks (n ∷ ns) =
      option_map_or (λ x. option_map_or (λ row. same_found (found m (slice_index parts n) table x) row) (slice_get rows n) false
      && (option_map_or (λ b. not b) (slice_get marks n) false
      && agrees items rows (passed m (slice_index parts n) table n x) (slice_set marks n true) ns))
      (slice_get items n) false

-- two tables have the same entries for what the next list finds, but for the frame space
abbrev pub same_ends : (live : List (ℕ × ℕ)) → List ℕ → List ℕ → Bool
same_ends live a b =
    list_all (λ r. slice_index a (place_number (KeptReg r.0 r.1)) == slice_index b (place_number (KeptReg r.0 r.1))) live
    && (slice_index a 640 == slice_index b 640 && (slice_index a 641 == slice_index b 641
    && (slice_index a 642 == slice_index b 642 && slice_index a 643 == slice_index b 643)))

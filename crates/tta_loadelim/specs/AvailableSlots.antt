-- Which sources have the words of which frame slots, after the items of a list.
use Rattle.std.specs.Prelude.{◌≡◌, ⊤, ◌⊎◌, ℕ, ◌==◌, Bool, true, false, not, ◌&&◌, nat_lt, if◌then◌else◌, List, [], ◌∷◌, ◌++◌, map, filter, Option, Some, None, is_none, option_and_then}
use Rattle.std.specs.Option.{option_map_or}
use Rattle.std.specs.List.{list_any}
use Rattle.tta_loadelim.specs.Cited.{Source, Op, Ldf, Machine, Target, Reg, Imm, Trigger, Control, width_of, ItemSource, Port, Address, Item, source_of, target_of_item, place_of, writes, same_end, same_source, sure_source, copied, with_source, starts, stores_frame, operand_place}
use Rattle.tta_arch.specs.declared.ends.Source.TheVariants as source
use Rattle.tta_arch.specs.Effects.{Operand}
use Rattle.tta_loadelim.specs.declared.facts.Fact.{Fact}

-- that a source has the word of a frame slot
abbrev pub fact : ℕ → Source → Fact
fact slot src = record { slot = slot; from = src }

-- whether an operation loads a slot
abbrev pub is_load : Op → Bool
is_load Ldf = true
is_load o = false

-- the unit that a target is the trigger port of
abbrev pub unit_of : Target → Option ℕ
unit_of (Reg file index) = None
unit_of (Imm unit index) = None
unit_of (Operand unit) = None
unit_of (Trigger unit op) = Some unit
unit_of (Control kind) = None

-- the word that a source is, if it is one
abbrev pub word_of : ItemSource → Option ℕ
word_of (Port (source.Value word)) = Some word
word_of src = None

-- the source that is no address
abbrev pub port_of : ItemSource → Option Source
port_of (Port src) = Some src
port_of (Address block) = None

-- the slot that an item loads in any case
abbrev pub loaded : Machine → Item → Option ℕ
loaded m x = if starts m is_load (target_of_item x) then option_and_then word_of (sure_source x) else None

-- The slot that an item stores into in any case, after others: the word that the operand port has, where it is one and a
-- slot.
abbrev pub stored : Machine → (before : List Item) → Item → Option ℕ
stored m before x =
    if starts m stores_frame (target_of_item x)
    then option_and_then (λ v. if nat_lt v m.frame_words && not (is_none (sure_source x)) then Some v else None)
    (option_and_then word_of (option_and_then (λ p. copied m p before) (operand_place m (target_of_item x))))
    else None

-- whether an item may store into a slot
abbrev pub may_store : Machine → (before : List Item) → Item → (slot : ℕ) → Bool
may_store m before x slot = starts m stores_frame (target_of_item x) && option_map_or (λ v. v == slot) (stored m before x) true

-- whether an item may write the place of a source
abbrev pub spoils : Machine → Item → Source → Bool
spoils m x src = option_map_or (λ p. writes m p x) (place_of src) false

-- the register of whole words that a target is, as a source
abbrev pub register_in : Machine → Target → Option Source
register_in m (Reg file index) = if width_of m file == 1 then None else Some (source.Reg file index)
register_in m (Imm unit index) = None
register_in m (Operand unit) = None
register_in m (Trigger unit op) = None
register_in m (Control kind) = None

-- ---- what is known

-- after a load the result port has the slot's word
abbrev pub by_load : Machine → Item → List Fact
by_load m x = option_map_or (λ slot. option_map_or (λ unit. fact slot (source.Shown unit) ∷ []) (unit_of (target_of_item x)) []) (loaded m x) []

-- after a store the source of the stored word has it
abbrev pub by_store : Machine → (before : List Item) → Item → List Fact
by_store m before x = option_map_or (λ slot. option_map_or (λ src. fact slot src ∷ []) (option_and_then port_of (sure_source x)) []) (stored m before x) []

-- the register into which the item before has moved a source, if this has what the source has
abbrev pub twin : Machine → (before : List Item) → Source → Option Source
twin m [] src = None
twin m (w ∷ before) src =
    option_and_then (λ reg. if option_map_or (λ p. option_map_or (same_source (Port src)) (copied m p (w ∷ before)) false) (place_of reg) false then Some reg else None)
    (register_in m (target_of_item w))

-- and after a store a register has it that has what the source of the stored word has
abbrev pub by_twin : Machine → (before : List Item) → Item → List Fact
by_twin m before x =
    option_map_or (λ slot. option_map_or (λ src. option_map_or (λ reg. fact slot reg ∷ []) (twin m before src) []) (option_and_then port_of (sure_source x)) []) (stored m before x) []

-- after a move into a register it has what its source has
abbrev pub by_copy : Machine → List Fact → Item → List Fact
by_copy m facts x =
    option_map_or (λ src. option_map_or (λ reg. map (λ f. fact f.slot reg) (filter (λ f. same_end f.from src) facts)) (register_in m (target_of_item x)) []) (option_and_then port_of (sure_source x)) []

-- whether an item leaves a fact as it is
abbrev pub stays : Machine → (before : List Item) → Item → Fact → Bool
stays m before x f = not (spoils m x f.from) && not (may_store m before x f.slot)

-- what is known after items, the newest first
abbrev pub known : Machine → (before : List Item) → List Fact
known m [] = []
known m (x ∷ before) =
    by_load m x ++ (by_twin m before x ++ (by_store m before x ++ (by_copy m (known m before) x ++ filter (stays m before x) (known m before))))

-- ---- what may be served

-- two sources have the word of one slot
abbrev pub have_one : List Fact → Source → Source → Bool
have_one facts a b = list_any (λ f. same_end f.from a && list_any (λ g. g.slot == f.slot && same_end g.from b) facts) facts

-- an item is another, or takes its word from another source that has the word of the same slot
abbrev pub IsServed : Machine → (before : List Item) → Item → Item → Type 0
IsServed m before x y =
    (y ≡ x) ⊎ ((a : Source) × (b : Source) × (source_of x ≡ Port a) × (y ≡ with_source x (Port b)) × (have_one (known m before) a b ≡ true))

-- each item of a list is served so
abbrev pub AreServed : Machine → (before : List Item) → List Item → List Item → Type 0
AreServed m before [] [] = ⊤
AreServed m before [] (y ∷ ys) = ⊥
AreServed m before (x ∷ xs) [] = ⊥
AreServed m before (x ∷ xs) (y ∷ ys) = IsServed m before x y × AreServed m (x ∷ before) xs ys

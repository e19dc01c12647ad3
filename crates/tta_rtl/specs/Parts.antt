-- The text of parts of the instruction's word, and of wires that are made of them.
use Rattle.std.specs.Prelude.{ℕ, ◌-◌, ◌+◌, ◌^◌, ◌==◌, min, Bool, ◌&&◌, nat_lt, if◌then◌else◌, List, [], ◌∷◌, codes, map}
use Rattle.std.specs.List.{sum_by}
use Rattle.tta_rtl.specs.Cited.{BusFields, Machine, has_bit, Field, Fetched, constant, part, joined, choice}
use Rattle.tta_rtl.specs.Texts.{wires_text}

-- so many bits of the instruction's word, from one on
abbrev pub part_text : (low width : ℕ) → List ℕ
part_text low width = part (codes "n_word") low width

-- the wires of some fields
abbrev pub fields_text : Machine → List Field → List ℕ
fields_text m fs = wires_text m (map Fetched fs)

-- ---- short fields

-- a short field that stands so high, with these bits above it, if there are any above it
abbrev pub high_text : (low width high : ℕ) → List ℕ
high_text low width high =
    if width == 32 then part_text low width else joined (constant (32 - width) high) (part_text low width)

-- the word of a short field
abbrev pub short_text : (low width : ℕ) → (signed : Bool) → List ℕ
short_text low width signed =
    if signed
    then choice (part_text (low + (width - 1)) 1) (high_text low width (2 ^ (32 - width) - 1)) (high_text low width 0)
    else high_text low width 0

-- ---- long immediates

-- how many bits of a long immediate these buses have, the first of them having a number, where a template takes a set of buses
abbrev pub share_width : (taken bus : ℕ) → List BusFields → ℕ
share_width taken bus [] = 0
share_width taken bus (f ∷ fs) = if has_bit taken bus then f.width + share_width taken (bus + 1) fs else share_width taken (bus + 1) fs

-- a part of the word, with a text for so many bits below it, if there are any
abbrev pub above_text : (left low width : ℕ) → (rest : List ℕ) → List ℕ
above_text left low width rest = if left == 0 then part_text low width else joined (part_text low width) rest

-- the low 32 bits of the long immediate, from these buses on
abbrev pub shares_text : (taken bus : ℕ) → List BusFields → List ℕ
shares_text taken bus [] = constant 0 0
shares_text taken bus (f ∷ fs) =
    let left = share_width taken (bus + 1) fs in
    if has_bit taken bus && nat_lt left 32
    then above_text left (sum_by (λ f. f.width) fs) (min f.width (32 - left)) (shares_text taken (bus + 1) fs)
    else shares_text taken (bus + 1) fs

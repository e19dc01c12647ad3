-- The fields of an instruction as parts of its word.
use Rattle.std.specs.Prelude.{ℕ, zero, suc, ◌+◌, ◌-◌, ◌^◌, ◌==◌, min, ◌&&◌, nat_lt, if◌then◌else◌, List, [], ◌∷◌, length}
use Rattle.std.specs.List.{sum_by, range_with_len}
use Rattle.tta_hardware.specs.Cited.{Template, Machine, has_bit, guard_width, short_width, payload_width, dest_width, bus_width, template_width, is_signed, Expr, Const, Slice, Join, Select, Either, Equal}
use Rattle.tta_hardware.specs.Signals.{Field, GuardOf, IsShort, SourceOf, ShortOf, DestOf, TemplateOf, LongOf}

-- ---- where the parts stand

-- how many bits so many buses from one on have
abbrev pub buses_width : Machine → (bus count : ℕ) → ℕ
buses_width m bus count = sum_by (bus_width m) (range_with_len bus count)

-- how many of them stand for a long immediate, where a template takes these buses
abbrev pub long_width : Machine → (taken bus count : ℕ) → ℕ
long_width m taken bus count = sum_by (λ b. if has_bit taken b then bus_width m b else 0) (range_with_len bus count)

-- how many bits stand below those of a bus
abbrev pub below_bus : Machine → (bus : ℕ) → ℕ
below_bus m bus = buses_width m (bus + 1) (length m.buses - (bus + 1))

-- how many stand below the number of its source field, below its tag, and below its guard
abbrev pub below_payload : Machine → (bus : ℕ) → ℕ
below_payload m bus = below_bus m bus + dest_width m bus

abbrev pub below_tag : Machine → (bus : ℕ) → ℕ
below_tag m bus = below_payload m bus + payload_width m bus

abbrev pub below_guard : Machine → (bus : ℕ) → ℕ
below_guard m bus = below_tag m bus + 1

-- a part of a word, with so many bits of something else below it, if there are any
abbrev pub above : {N M : Type 0} → (word : Expr N M) → (left low width : ℕ) → (rest : Expr N M) → Expr N M
above word left low width rest = if left == 0 then Slice low width word else Join left (Slice low width word) rest

module _ {N M : Type 0} (m : Machine) (word : Expr N M) where
  -- ---- the template

  -- the code of the template
  abbrev pub template_part : Expr N M
  template_part = Slice (buses_width m 0 (length m.buses)) (template_width m) word

  -- whether the instruction has this template
  abbrev pub has_template : (template : ℕ) → Expr N M
  has_template template = Equal template_part (Const (template_width m) (template + 1))

  -- whether it has one that takes a bus, of those from a number on
  abbrev pub takes_from : (bus template : ℕ) → List Template → Expr N M
  takes_from bus template [] = Const 1 0
  takes_from bus template (t ∷ ts) =
      if has_bit t.buses bus then Either (has_template template) (takes_from bus (template + 1) ts) else takes_from bus (template + 1) ts

  -- ---- the long immediate

  -- The low 32 bits of the long immediate, from a bus on: the parts of the buses that are taken, one after another. What
  -- stands above these bits is left out.
  abbrev pub shares_from : (taken bus count : ℕ) → Expr N M
  shares_from taken bus zero = Const 0 0
  shares_from taken bus (suc count) =
      let left = long_width m taken (bus + 1) count in
      if has_bit taken bus && nat_lt left 32
      then above word left (buses_width m (bus + 1) count) (min (bus_width m bus) (32 - left)) (shares_from taken (bus + 1) count)
      else shares_from taken (bus + 1) count

  -- the long immediate of the template that the instruction has, of those from a number on
  abbrev pub long_from : (template : ℕ) → List Template → Expr N M
  long_from template [] = Const 32 0
  long_from template (t ∷ ts) = Select (has_template template) (shares_from t.buses 0 (length m.buses)) (long_from (template + 1) ts)

  -- ---- the slot of a bus

  -- the tag of a source field
  abbrev pub tag_part : (bus : ℕ) → Expr N M
  tag_part bus = Slice (below_tag m bus) 1 word

  -- a short field with these bits above it, if there are any above it
  abbrev pub with_high : (bus high : ℕ) → Expr N M
  with_high bus high =
      if short_width m bus == 32
      then Slice (below_payload m bus) (short_width m bus) word
      else Join (short_width m bus) (Const (32 - short_width m bus) high) (Slice (below_payload m bus) (short_width m bus) word)

  -- the word of a short field: in a signed one, the highest bit stands for all above it
  abbrev pub short_part : (bus : ℕ) → Expr N M
  short_part bus =
      if is_signed m bus
      then Select (Slice (below_payload m bus + (short_width m bus - 1)) 1 word) (with_high bus (2 ^ (32 - short_width m bus) - 1))
      (with_high bus 0)
      else with_high bus 0

  -- the code of the destination; a bus that is taken has no move, and so no destination
  abbrev pub dest_part : (bus : ℕ) → Expr N M
  dest_part bus = Select (takes_from bus 0 m.templates) (Const (dest_width m bus) 0) (Slice (below_bus m bus) (dest_width m bus) word)

  -- ---- all fields

  -- A field of the instruction whose word this is. That of a source is the number after the tag, whatever the tag says.
  abbrev pub field_part : Field → Expr N M
  field_part (GuardOf bus) = Slice (below_guard m bus) (guard_width m bus) word
  field_part (IsShort bus) = tag_part bus
  field_part (SourceOf bus) = Slice (below_payload m bus) (payload_width m bus) word
  field_part (ShortOf bus) = short_part bus
  field_part (DestOf bus) = dest_part bus
  field_part TemplateOf = template_part
  field_part LongOf = long_from 0 m.templates

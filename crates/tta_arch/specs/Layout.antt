-- The layout of a machine's instructions as one value.
use Rattle.std.specs.Prelude.{ℕ, Bool, false, if◌then◌else◌, List, [], ◌∷◌, ◌++◌, length, map}
use Rattle.std.specs.Option.{option_map_or}
use Rattle.std.specs.List.{flat_map, enumerate_from, sum_by}
use Rattle.tta_arch.specs.declared.parts.File.{File}
use Rattle.tta_arch.specs.declared.parts.ImmUnit.{ImmUnit}
use Rattle.tta_arch.specs.declared.parts.Unit.{Unit as OpUnit}
use Rattle.tta_arch.specs.declared.ends.Source.{Source}
use Rattle.tta_arch.specs.declared.ends.Source.TheVariants as source
use Rattle.tta_arch.specs.declared.ends.Dest.{Dest}
use Rattle.tta_arch.specs.declared.ends.Dest.TheVariants as dest
use Rattle.tta_arch.specs.declared.layout.BusFields.{BusFields}
use Rattle.tta_arch.specs.declared.layout.Layout.{Layout}
use Rattle.tta_arch.specs.Machine.{Machine}
use Rattle.tta_arch.specs.Joins.{has_bit, has_socket, source_socket}
use Rattle.tta_arch.specs.Fields.{numbers, guards_on, sources_on, dests_on, guard_width, short_width, payload_width, dest_width, bus_width, template_width, word_width}

-- ---- the layout

-- the fields of a bus
abbrev pub fields_of : Machine → (bus : ℕ) → BusFields
fields_of m bus = record {
  guards = guards_on m bus;
  sources = sources_on m bus;
  dests = dests_on m bus;
  guard_width = guard_width m bus;
  short_width = short_width m bus;
  payload_width = payload_width m bus;
  dest_width = dest_width m bus;
  width = bus_width m bus;
}

-- the layout of a machine: how wide the template's field is, the fields of each bus, and how wide an instruction is
abbrev pub layout_of : Machine → Layout
layout_of m = record { template_width = template_width m; buses = map (fields_of m) (numbers (length m.buses)); width = word_width m }

-- how many bits the buses of a set have
abbrev pub width_of_set : Layout → (taken : ℕ) → ℕ
width_of_set l taken = sum_by (λ b. if has_bit taken b.0 then b.1.width else 0) (enumerate_from 0 l.buses)

-- ---- the ends of moves, part by part

-- whether the socket of a source that is no short word leads onto a bus
abbrev pub has_source_socket : Machine → (bus : ℕ) → Source → Bool
has_source_socket m bus src = has_socket m false (source_socket m src) bus

-- the registers of these files, as sources
abbrev pub file_sources : List File → List Source
file_sources files = flat_map (λ f. map (source.Reg f.0) (numbers f.1.size)) (enumerate_from 0 files)

-- the registers of these immediate units
abbrev pub imm_sources : List ImmUnit → List Source
imm_sources imms = flat_map (λ u. map (source.Imm u.0) (numbers u.1.size)) (enumerate_from 0 imms)

-- the result ports of these units
abbrev pub result_sources : List OpUnit → List Source
result_sources units = flat_map (λ u. option_map_or (λ r. source.Shown u.0 ∷ []) u.1.result []) (enumerate_from 0 units)

-- the registers of these files, as destinations
abbrev pub file_dests : List File → List Dest
file_dests files = flat_map (λ f. map (dest.Reg f.0) (numbers f.1.size)) (enumerate_from 0 files)

-- a unit's operand port and its operations
abbrev pub dests_of_unit : ℕ → OpUnit → List Dest
dests_of_unit unit u = option_map_or (λ o. dest.Operand unit ∷ []) u.operand [] ++ map (dest.Trigger unit) (numbers (length u.ops))

-- the operand ports and operations of these units
abbrev pub unit_dests : List OpUnit → List Dest
unit_dests units = flat_map (λ u. dests_of_unit u.0 u.1) (enumerate_from 0 units)

-- What a page tells of the ports of a machine: the buses that each joins.
use Rattle.std.specs.Prelude.{ℕ, List, [], ◌++◌, Option, None, Some, slice_get, codes, decimal}
use Rattle.std.specs.Option.{option_map_or}
use Rattle.std.specs.List.{flat_map}
use Rattle.tta_play.specs.Cited.{File, ImmUnit, Machine}
use Rattle.tta_arch.specs.declared.parts.Unit.{Unit as OpUnit}

-- the buses that a socket joins, bit k for bus k
abbrev pub buses_of : Machine → (socket : ℕ) → ℕ
buses_of m socket = option_map_or (λ s. s.buses) (slice_get m.sockets socket) 0

-- a port: its part's name, which of the part's ports it is, and its buses
unfoldable pub port_text : Machine → (name which : List ℕ) → (socket : ℕ) → List ℕ
port_text m name which socket =
    codes "port " ++ (name ++ (codes " " ++ (which ++ (codes " " ++ (decimal (buses_of m socket) ++ codes "\n")))))

-- a port that a part may not have
abbrev pub some_port_text : Machine → (name which : List ℕ) → (socket : Option ℕ) → List ℕ
some_port_text m name which None = []
some_port_text m name which (Some socket) = port_text m name which socket

-- the ports of a file: where it is read, and where it is written
abbrev pub file_ports : Machine → File → List ℕ
file_ports m f = port_text m f.name (codes "r") f.out ++ port_text m f.name (codes "w") f.into

-- the port of an immediate unit
abbrev pub imm_port : Machine → ImmUnit → List ℕ
imm_port m i = port_text m i.name (codes "r") i.out

-- the ports of a unit: operand, trigger and result
abbrev pub unit_ports : Machine → OpUnit → List ℕ
unit_ports m q =
    some_port_text m q.name (codes "o") q.operand
    ++ (port_text m q.name (codes "t") q.trigger ++ some_port_text m q.name (codes "r") q.result)

-- the ports of control: trigger and return address
abbrev pub control_ports : Machine → List ℕ
control_ports m = port_text m (codes "gcu") (codes "t") m.control.trigger ++ some_port_text m (codes "gcu") (codes "ra") m.control.ra

-- the ports of a machine
unfoldable pub ports_text : Machine → List ℕ
ports_text m =
    flat_map (file_ports m) m.files ++ (flat_map (imm_port m) m.imms ++ (flat_map (unit_ports m) m.units ++ control_ports m))

-- What each declaration of a part that was taken found, and what it made of the draft. For each kind there are the part
-- that a form makes, the draft with that part more, what the tests have found, and that this is so of a taken line.
use Rattle.std.proofs.Common.{◌≡◌, ◌++◌, ◌∷◌, []}
use Rattle.std.specs.Prelude.{ℕ, Bool, true, false, not, ◌||◌, ◌==◌, nat_le, List, length, Option, Some, Ok}
use Rattle.std.proofs.lemmas.Bool.{or_parts, not-false}
use Rattle.tta_parse.proofs.Steps.{then-ok, some-ok, refuse_if-ok, same_ok}
use Rattle.tta_machine.specs.declared.refusal.Refusal.TheVariants.{Unknown, Twice, Range}
use Rattle.tta_machine.specs.declared.draft.Named.TheVariants as place
use Rattle.tta_machine.specs.declared.draft.Draft.{Draft}
use Rattle.tta_machine.specs.Cited.{Socket, File, ImmUnit, is_from_to, are_different}
use Rattle.tta_arch.specs.declared.parts.Unit.{Unit as OpUnit}
use Rattle.tta_machine.specs.Forms.{BusForm, SocketForm, FileForm, ImmForm, UnitForm}
use Rattle.tta_machine.specs.Draft.{is_taken, is_too_long, socket_named}
use Rattle.tta_machine.specs.Declarations.{take_bus, take_socket, take_file, take_imm, take_unit, buses_named, bus_set, port_named}
use Rattle.tta_machine.specs.Grammar.{bus_made}

-- ---- buses and sockets

-- the draft with the bus of a line more, and with its name
abbrev pub bus_added : Draft → BusForm → Draft
bus_added d f = record d {
  names = d.names ++ (f.name, place.Bus (length d.buses)) ∷ [];
  buses = d.buses ++ bus_made f ∷ [];
}

-- what is known of a draft with the bus of a line added
pub record BusMade (d e : Draft) (f : BusForm) : Type 0 where
  pub free : is_taken d f.name ≡ false
  pub range : (not (is_from_to 1 32 f.short) || is_too_long f.name || nat_le 16 (length d.buses)) ≡ false
  pub made : bus_added d f ≡ e

pub take_bus-made : (d e : Draft) (f : BusForm) → take_bus d f ≡ Ok e → BusMade d e f
unfolding take_bus
take_bus-made d e f h =
    let free = refuse_if-ok (is_taken d f.name) Twice _ e h in
    let range = refuse_if-ok (not (is_from_to 1 32 f.short) || is_too_long f.name || nat_le 16 (length d.buses)) Range _ e free.1 in
    record { free = free.0; range = range.0; made = same_ok (bus_added d f) e range.1 }

-- the socket that a line declares, which joins these buses
abbrev pub socket_of : SocketForm → List ℕ → Socket
socket_of f buses = record { name = f.name; input = f.input; buses = bus_set buses }

-- the draft with the socket of a line more, and with its name
abbrev pub socket_added : Draft → SocketForm → List ℕ → Draft
socket_added d f buses = record d {
  names = d.names ++ (f.name, place.Socket (length d.sockets)) ∷ [];
  sockets = d.sockets ++ socket_of f buses ∷ [];
}

-- what is known of a draft with the socket of a line added
pub record SocketMade (d e : Draft) (f : SocketForm) : Type 0 where
  pub buses : List ℕ
  pub found : buses_named d f.buses ≡ Some buses
  pub free : is_taken d f.name ≡ false
  pub different : are_different (λ a b. a == b) buses ≡ true
  pub range : (is_too_long f.name || nat_le 128 (length d.sockets)) ≡ false
  pub made : socket_added d f buses ≡ e

pub take_socket-made : (d e : Draft) (f : SocketForm) → take_socket d f ≡ Ok e → SocketMade d e f
unfolding take_socket
take_socket-made d e f h =
    let buses = some-ok Unknown (buses_named d f.buses) _ e h in
    let twice = refuse_if-ok (is_taken d f.name || not (are_different (λ a b. a == b) buses.0)) Twice _ e buses.2 in
    let range = refuse_if-ok (is_too_long f.name || nat_le 128 (length d.sockets)) Range _ e twice.1 in
    let new = or_parts (is_taken d f.name) (not (are_different (λ a b. a == b) buses.0)) twice.0 in
    record {
      buses = buses.0;
      found = buses.1;
      free = new.0;
      different = not-false (are_different (λ a b. a == b) buses.0) new.1;
      range = range.0;
      made = same_ok (socket_added d f buses.0) e range.1;
    }

-- ---- files and immediate units

-- the register file that a line declares, between its socket out and its socket in
abbrev pub file_of : FileForm → (out into : ℕ) → File
file_of f out into = record { name = f.name; width = f.width; size = f.size; read = f.read; write = f.write; out = out; into = into }

-- the draft with the register file of a line more, and with its name
abbrev pub file_added : Draft → FileForm → (out into : ℕ) → Draft
file_added d f out into = record d {
  names = d.names ++ (f.name, place.File (length d.files)) ∷ [];
  files = d.files ++ file_of f out into ∷ [];
}

-- the range test of a file
abbrev pub file_out_of_range : Draft → FileForm → Bool
file_out_of_range d f =
    not (f.width == 1 || f.width == 32) || not (is_from_to 1 64 f.size) || not (is_from_to 1 16 f.read) || not (is_from_to 1 16 f.write)
    || is_too_long f.name || nat_le 8 (length d.files)

-- what is known of a draft with the register file of a line added
pub record FileMade (d e : Draft) (f : FileForm) : Type 0 where
  pub out : ℕ
  pub into : ℕ
  pub found_out : socket_named d false f.out ≡ Some out
  pub found_into : socket_named d true f.into ≡ Some into
  pub free : is_taken d f.name ≡ false
  pub range : file_out_of_range d f ≡ false
  pub made : file_added d f out into ≡ e

pub take_file-made : (d e : Draft) (f : FileForm) → take_file d f ≡ Ok e → FileMade d e f
unfolding take_file
take_file-made d e f h =
    let out = some-ok Unknown (socket_named d false f.out) _ e h in
    let into = some-ok Unknown (socket_named d true f.into) _ e out.2 in
    let free = refuse_if-ok (is_taken d f.name) Twice _ e into.2 in
    let range = refuse_if-ok (file_out_of_range d f) Range _ e free.1 in
    record { out = out.0; into = into.0; found_out = out.1; found_into = into.1; free = free.0; range = range.0; made = same_ok (file_added d f out.0 into.0) e range.1 }

-- the immediate unit that a line declares, with its output socket
abbrev pub imm_of : ImmForm → (out : ℕ) → ImmUnit
imm_of f out = record { name = f.name; size = f.size; out = out }

-- the draft with the immediate unit of a line more, and with its name
abbrev pub imm_added : Draft → ImmForm → (out : ℕ) → Draft
imm_added d f out = record d {
  names = d.names ++ (f.name, place.Imm (length d.imms)) ∷ [];
  imms = d.imms ++ imm_of f out ∷ [];
}

-- what is known of a draft with the immediate unit of a line added
pub record ImmMade (d e : Draft) (f : ImmForm) : Type 0 where
  pub out : ℕ
  pub found : socket_named d false f.out ≡ Some out
  pub free : is_taken d f.name ≡ false
  pub range : (not (is_from_to 1 16 f.size) || is_too_long f.name || nat_le 4 (length d.imms)) ≡ false
  pub made : imm_added d f out ≡ e

pub take_imm-made : (d e : Draft) (f : ImmForm) → take_imm d f ≡ Ok e → ImmMade d e f
unfolding take_imm
take_imm-made d e f h =
    let out = some-ok Unknown (socket_named d false f.out) _ e h in
    let free = refuse_if-ok (is_taken d f.name) Twice _ e out.2 in
    let range = refuse_if-ok (not (is_from_to 1 16 f.size) || is_too_long f.name || nat_le 4 (length d.imms)) Range _ e free.1 in
    record { out = out.0; found = out.1; free = free.0; range = range.0; made = same_ok (imm_added d f out.0) e range.1 }

-- ---- units

-- the unit that a line declares, with the sockets of its ports and without operations
abbrev pub unit_of : UnitForm → (operand : Option ℕ) (trigger : ℕ) (result : Option ℕ) → OpUnit
unit_of f operand trigger result = record { name = f.name; operand = operand; trigger = trigger; result = result; ops = [] }

-- the draft with a unit more, and with its name
abbrev pub unit_added : Draft → OpUnit → Draft
unit_added d unit = record d {
  names = d.names ++ (unit.name, place.Unit (length d.units)) ∷ [];
  units = d.units ++ unit ∷ [];
}

-- what is known of a draft with the unit of a line added
pub record UnitMade (d e : Draft) (f : UnitForm) : Type 0 where
  pub operand : Option ℕ
  pub trigger : ℕ
  pub result : Option ℕ
  pub found_operand : port_named d true f.operand ≡ Ok operand
  pub found_trigger : socket_named d true f.trigger ≡ Some trigger
  pub found_result : port_named d false f.result ≡ Ok result
  pub free : is_taken d f.name ≡ false
  pub range : (is_too_long f.name || nat_le 32 (length d.units)) ≡ false
  pub made : unit_added d (unit_of f operand trigger result) ≡ e

pub take_unit-made : (d e : Draft) (f : UnitForm) → take_unit d f ≡ Ok e → UnitMade d e f
unfolding take_unit
take_unit-made d e f h =
    let operand = then-ok (port_named d true f.operand) _ e h in
    let trigger = some-ok Unknown (socket_named d true f.trigger) _ e operand.2 in
    let result = then-ok (port_named d false f.result) _ e trigger.2 in
    let free = refuse_if-ok (is_taken d f.name) Twice _ e result.2 in
    let range = refuse_if-ok (is_too_long f.name || nat_le 32 (length d.units)) Range _ e free.1 in
    record {
      operand = operand.0;
      trigger = trigger.0;
      result = result.0;
      found_operand = operand.1;
      found_trigger = trigger.1;
      found_result = result.1;
      free = free.0;
      range = range.0;
      made = same_ok (unit_added d (unit_of f operand.0 trigger.0 result.0)) e range.1;
    }

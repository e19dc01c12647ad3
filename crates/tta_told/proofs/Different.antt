-- The names of the parts of a machine differ.
use Rattle.std.proofs.Common.{◌≡◌, ℕ, true, List, ◌++◌, map}
use Rattle.std.specs.Str.{bytes_eq}
use Rattle.tta_arch.specs.Machine.{Machine}
use Rattle.tta_arch.specs.Rules.{IsMachine, are_different}
use Rattle.tta_told.proofs.Lookups.{different_parts}

-- the names of the buses of a machine
abbrev pub bus_names : Machine → List (List ℕ)
bus_names m = map (λ b. b.name) m.buses

-- the names of its register files
abbrev pub file_names : Machine → List (List ℕ)
file_names m = map (λ f. f.name) m.files

-- the names of its immediate units
abbrev pub imm_names : Machine → List (List ℕ)
imm_names m = map (λ i. i.name) m.imms

-- the names of its units
abbrev pub unit_names : Machine → List (List ℕ)
unit_names m = map (λ u. u.name) m.units

module _ (m : Machine) (good : IsMachine m) where
  but_templates : are_different bytes_eq
      ((bus_names m) ++ map (λ s. s.name) m.sockets ++ (file_names m) ++ (imm_names m) ++ (unit_names m)) ≡ true
  but_templates =
      (different_parts bytes_eq ((bus_names m) ++ map (λ s. s.name) m.sockets ++ (file_names m) ++ (imm_names m) ++ (unit_names m))
      (map (λ t. t.name) m.templates) good.different).0

  pub units_differ : are_different bytes_eq (unit_names m) ≡ true
  units_differ = (different_parts bytes_eq ((bus_names m) ++ map (λ s. s.name) m.sockets ++ (file_names m) ++ (imm_names m)) (unit_names m) but_templates).1

  but_units : are_different bytes_eq ((bus_names m) ++ map (λ s. s.name) m.sockets ++ (file_names m) ++ (imm_names m)) ≡ true
  but_units = (different_parts bytes_eq ((bus_names m) ++ map (λ s. s.name) m.sockets ++ (file_names m) ++ (imm_names m)) (unit_names m) but_templates).0

  pub imms_differ : are_different bytes_eq (imm_names m) ≡ true
  imms_differ = (different_parts bytes_eq ((bus_names m) ++ map (λ s. s.name) m.sockets ++ (file_names m)) (imm_names m) but_units).1

  but_imms : are_different bytes_eq ((bus_names m) ++ map (λ s. s.name) m.sockets ++ (file_names m)) ≡ true
  but_imms = (different_parts bytes_eq ((bus_names m) ++ map (λ s. s.name) m.sockets ++ (file_names m)) (imm_names m) but_units).0

  pub files_differ : are_different bytes_eq (file_names m) ≡ true
  files_differ = (different_parts bytes_eq ((bus_names m) ++ map (λ s. s.name) m.sockets) (file_names m) but_imms).1

  pub buses_differ : are_different bytes_eq (bus_names m) ≡ true
  buses_differ =
      (different_parts bytes_eq (bus_names m) (map (λ s. s.name) m.sockets)
      (different_parts bytes_eq ((bus_names m) ++ map (λ s. s.name) m.sockets) (file_names m) but_imms).0).0

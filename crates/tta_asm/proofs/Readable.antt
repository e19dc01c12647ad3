-- Machines over a set of units: the parts that assembly names have names that a text can hold, and so have their operations.
use Rattle.std.proofs.Common.{◌≡◌, ℕ, suc, true, false, List, [], ◌∷◌, ◌++◌, length, map, Some, slice_get, refl}
use Rattle.std.specs.Prelude.{◌&&◌, nat_le, option_and_then}
use Rattle.std.specs.Str.{bytes_eq}
use Rattle.std.specs.List.{list_all, AllByRecursion}
use Rattle.std.proofs.lemmas.Bool.{and_parts, and_from}
use Rattle.tta_list.proofs.Lists.{list_all_one, all_from as tests-from}
use Rattle.tta_asm.specs.Cited.{is_name, Units, UnitOp, Machine, IsMachine, IsMachineName, is_unit, is_unit_op, is_socket, is_port_socket, are_different, same_op, StandsOver}
use Rattle.tta_arch.specs.declared.parts.Unit.{Unit as OpUnit}
use Rattle.tta_asm.specs.Parts.{op_name}
use Rattle.tta_asm.proofs.CalledOps.{is_called, has_called_ops, IsToken, token, all_called, names_apart}

-- each part that assembly names has a name that a text can hold, and each unit has called operations
pub record IsReadable (u : Units) (m : Machine) : Type 0 where
  pub files : list_all (λ f. is_name f.name) m.files ≡ true
  pub imms : list_all (λ i. is_name i.name) m.imms ≡ true
  pub units : list_all (λ q. is_name q.name) m.units ≡ true
  pub templates : list_all (λ t. is_name t.name) m.templates ≡ true
  pub ops : list_all (has_called_ops u) m.units ≡ true

-- ---- names of parts

-- parts of a list of which all is known
pub all_left : {A : Type 0} (P : A → Type 0) (xs ys : List A) → AllByRecursion P (xs ++ ys) → AllByRecursion P xs
all_left P [] ys h = tt
all_left P (x ∷ xs) ys h = (h.0, all_left P xs ys h.1)

-- what is known of all of two lists is known of the second
pub all_right : {A : Type 0} (P : A → Type 0) (xs ys : List A) → AllByRecursion P (xs ++ ys) → AllByRecursion P ys
all_right P [] ys h = h
all_right P (x ∷ xs) ys h = all_right P xs ys h.1

-- parts whose names a machine may declare have names that a text can hold
parts-written : {A : Type 0} (name : A → List ℕ) (parts : List A) → AllByRecursion IsMachineName (map name parts)
    → list_all (λ p. is_name (name p)) parts ≡ true
parts-written name [] are = refl
parts-written name (p ∷ parts) are = and_from (is_name (name p)) (list_all (λ p. is_name (name p)) parts) are.0.written (parts-written name parts are.1)

-- ---- operations

-- what is so at each place of a list is so of all
all-from : {A : Type 0} (P : A → Type 0) (xs : List A) → ((k : ℕ) (x : A) → slice_get xs k ≡ Some x → P x) → AllByRecursion P xs
all-from P [] each = tt
all-from P (x ∷ xs) each = (each 0 x refl, all-from P xs (λ k y e. each (suc k) y e))

-- the same of a test

module _ (u : Units) (m : Machine) (rules : IsMachine m) (over : StandsOver u m) where
  -- the operations of a unit are called by names
  unit-tokens : (k : ℕ) (q : OpUnit) → slice_get m.units k ≡ Some q → AllByRecursion (λ (o : UnitOp). IsToken u o.op) q.ops
  unit-tokens k q at = all-from (λ (o : UnitOp). IsToken u o.op) q.ops (λ i o e.
      let there : option_and_then (λ q. slice_get q.ops i) (slice_get m.units k) ≡ Some o = rw at e in
      token u o.op (λ id is. over.names k i o id there is))

  -- so the unit has called operations
  unit-called : (k : ℕ) (q : OpUnit) → slice_get m.units k ≡ Some q → has_called_ops u q ≡ true
  unit-called k q at =
      let are = unit-tokens k q at in
      let differ = (and_parts
      (is_socket m.sockets true q.trigger && is_port_socket m.sockets true q.operand && is_port_socket m.sockets false q.result
      && nat_le (length q.ops) 32 && list_all (is_unit_op q) q.ops)
      (are_different (λ o p. same_op o.op p.op) q.ops) (list_all_one (is_unit m.sockets) m.units k q rules.units at)).1 in
      and_from (list_all (λ o. is_called u o.op) q.ops) (are_different bytes_eq (map (λ o. op_name u o.op) q.ops))
      (all_called u q.ops are) (names_apart u q.ops are differ)

  -- a machine that stands over a set of units is readable
  pub readable : IsReadable u m
  readable =
      let before = map (λ b. b.name) m.buses ++ map (λ s. s.name) m.sockets in
      let files = map (λ f. f.name) m.files in
      let imms = map (λ i. i.name) m.imms in
      let units = map (λ q. q.name) m.units in
      let templates = map (λ t. t.name) m.templates in
      let to_units = all_left IsMachineName (before ++ files ++ imms ++ units) templates rules.names in
      let to_imms = all_left IsMachineName (before ++ files ++ imms) units to_units in
      let to_files = all_left IsMachineName (before ++ files) imms to_imms in
      record {
        files = parts-written (λ f. f.name) m.files (all_right IsMachineName before files to_files);
        imms = parts-written (λ i. i.name) m.imms (all_right IsMachineName (before ++ files) imms to_imms);
        units = parts-written (λ q. q.name) m.units (all_right IsMachineName (before ++ files ++ imms) units to_units);
        templates = parts-written (λ t. t.name) m.templates (all_right IsMachineName (before ++ files ++ imms ++ units) templates rules.names);
        ops = tests-from (has_called_ops u) m.units (λ k q at. unit-called k q at);
      }

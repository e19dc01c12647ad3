-- What every draft keeps while the lines of a machine are read.
use Rattle.std.specs.Prelude.{◌≡◌, ℕ, ◌<◌, ◌≤◌, ◌^◌, true, List, length, Some, slice_get, unwrap_or}
use Rattle.std.specs.Option.{option_map_or}
use Rattle.std.specs.List.{list_all, AllByRecursion}
use Rattle.tta_machine.specs.Cited.{Declared, named_in, IsMachineName, IsBusSet, are_different, has_one_owner, is_bus, is_file, is_imm, is_unit, is_guard, same_guard, is_template, is_control, is_data_op, is_frame_op, is_stream_op}
use Rattle.tta_machine.specs.declared.draft.Named.{Named}
use Rattle.tta_machine.specs.declared.draft.Named.TheVariants as place
use Rattle.tta_machine.specs.declared.draft.Draft.{Draft}

-- ---- limits

-- there are no more parts of a kind than a machine may have, and each template has its line
pub record IsWithinLimits (d : Draft) : Type 0 where
  pub buses : length d.buses ≤ 16
  pub sockets : length d.sockets ≤ 128
  pub files : length d.files ≤ 8
  pub imms : length d.imms ≤ 4
  pub units : length d.units ≤ 32
  pub guards : length d.guards ≤ 64
  pub templates : length d.templates ≤ 8
  pub template_lines : length d.template_lines ≡ length d.templates
  pub data_words : unwrap_or d.data_words 0 ≤ 2 ^ 20
  pub frame_words : unwrap_or d.frame_words 0 ≤ 65536

-- ---- names

-- what a name names is there, and the name is one that a machine may declare
pub record NamesAreThere (d : Draft) : Type 0 where
  pub bus : (name : List ℕ) (k : ℕ) → named_in d.names name ≡ Some (place.Bus k) → k < length d.buses
  pub socket : (name : List ℕ) (k : ℕ) → named_in d.names name ≡ Some (place.Socket k) → k < length d.sockets
  pub file : (name : List ℕ) (k : ℕ) → named_in d.names name ≡ Some (place.File k) → k < length d.files
  pub imm : (name : List ℕ) (k : ℕ) → named_in d.names name ≡ Some (place.Imm k) → k < length d.imms
  pub unit : (name : List ℕ) (k : ℕ) → named_in d.names name ≡ Some (place.Unit k) → k < length d.units
  pub template : (name : List ℕ) (k : ℕ) → named_in d.names name ≡ Some (place.Template k) → k < length d.templates
  pub good : (name : List ℕ) (at : Named) → named_in d.names name ≡ Some at → IsMachineName name

-- each of these parts is what its name names
abbrev pub AreNamed : {A : Type 0} → (name : A → List ℕ) → (at : ℕ → Named) → Declared Named → List A → Type 0
AreNamed {A} name at names parts = (k : ℕ) (x : A) → slice_get parts k ≡ Some x → named_in names (name x) ≡ Some (at k)

-- each part of a draft is what its name names
pub record PartsAreNamed (d : Draft) : Type 0 where
  pub buses : AreNamed (λ b. b.name) place.Bus d.names d.buses
  pub sockets : AreNamed (λ s. s.name) place.Socket d.names d.sockets
  pub files : AreNamed (λ f. f.name) place.File d.names d.files
  pub imms : AreNamed (λ i. i.name) place.Imm d.names d.imms
  pub units : AreNamed (λ u. u.name) place.Unit d.names d.units
  pub templates : AreNamed (λ t. t.name) place.Template d.names d.templates

-- ---- rules

-- each part keeps the rule of its kind
pub record PartsKeepRules (d : Draft) : Type 0 where
  pub buses : list_all is_bus d.buses ≡ true
  pub sockets : AllByRecursion (λ s. IsBusSet (length d.buses) s.buses) d.sockets
  pub files : list_all (is_file d.sockets) d.files ≡ true
  pub imms : list_all (is_imm d.sockets) d.imms ≡ true
  pub units : list_all (is_unit d.sockets) d.units ≡ true
  pub one_data : has_one_owner is_data_op d.units ≡ true
  pub one_frame : has_one_owner is_frame_op d.units ≡ true
  pub one_stream : has_one_owner is_stream_op d.units ≡ true
  pub guards : list_all (is_guard (length d.buses) d.files) d.guards ≡ true
  pub different_guards : are_different same_guard d.guards ≡ true
  pub templates : list_all (is_template d.imms) d.templates ≡ true
  pub template_buses : AllByRecursion (λ t. IsBusSet (length d.buses) t.buses) d.templates
  pub control : option_map_or (is_control d.sockets) d.control true ≡ true

-- ---- drafts

-- every draft is so
pub record IsDraft (d : Draft) : Type 0 where
  pub limits : IsWithinLimits d
  pub there : NamesAreThere d
  pub named : PartsAreNamed d
  pub rules : PartsKeepRules d

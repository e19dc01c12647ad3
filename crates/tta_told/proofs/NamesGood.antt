-- The names of a machine's signals, memories and operations can be told apart.
use Rattle.std.proofs.Common.{◌≡◌, ℕ, ◌^◌, Bool, true, ◌&&◌, nat_lt, List, [], ◌∷◌, ◌++◌, length, map, refl, sym, ap, ◌∙◌}
use Rattle.std.specs.Prelude.{codes, decimal, drop, if◌then◌else◌}
use Rattle.std.specs.List.{list_all, AllByRecursion}
use Rattle.std.specs.Str.{bytes_eq}
use Rattle.std.proofs.lemmas.Bool.{and_parts, ltb-true}
use Rattle.std.proofs.lemmas.Fmt.{decimal_injective}
use Rattle.tta_list.proofs.Lists.{and_both}
use Rattle.tta_arch.specs.Machine.{Machine}
use Rattle.tta_arch.specs.Rules.{IsMachine, IsMachineName}
use Rattle.tta_arch.specs.Effects.{Place, KeptReg, KeptImm, KeptOperand, KeptRa, KeptPort}
use Rattle.tta_hardware.specs.Signals.{GuardOf, IsShort, SourceOf, ShortOf, DestOf, Signal as Named, Store, Code, Data, Frame, Underway, Keeps, IsDue, Due, HasBegun, Raw, IsInside, Port, Fetched, Word, Acts, Starts, Trigger, Operand, HasWord, LacksRegister, LacksPort, LacksOperand, Clashes, Watches, Shows, IsFrom, Boxes}
use Rattle.tta_names.specs.Names.{place_name, signal_name, store_name, names_of}
use Rattle.tta_verilog.specs.Spelling.{is_word_byte, is_name, AreNames}
use Rattle.tta_verilog.proofs.Words.{all_halves, number_is_name, name_letters}
use Rattle.tta_told.proofs.Spelled.{scope_of}
use Rattle.tta_told.proofs.Lookups.{name_at, letters_at}
use Rattle.tta_told.proofs.HasName.{is_named}
use Rattle.tta_told.proofs.Decoding.{one_signal}

abbrev letters : List ℕ → Bool
letters w = list_all is_word_byte w

number_letters : (n : ℕ) → nat_lt n (2 ^ 64) ≡ true → letters (decimal n) ≡ true
number_letters n small = name_letters (decimal n) (number_is_name n (ltb-true n (2 ^ 64) small))

-- a name with a number behind it
counted_letters : (w : List ℕ) (n : ℕ) → letters w ≡ true → nat_lt n (2 ^ 64) ≡ true → letters ((w ++ (95 ∷ [])) ++ decimal n) ≡ true
counted_letters w n p small = and_both is_word_byte (w ++ (95 ∷ [])) (decimal n) (and_both is_word_byte w (95 ∷ []) p refl) (number_letters n small)

-- a memory by its name
store_told : List ℕ → Store
store_told w = if bytes_eq w (codes "code") then Code else if bytes_eq w (codes "data") then Data else Frame

store_back : (s : Store) → store_told (store_name s) ≡ s
unfolding store_told
store_back Code = refl
store_back Data = refl
store_back Frame = refl

store_is_name : (s : Store) → is_name (store_name s) ≡ true
store_is_name Code = refl
store_is_name Data = refl
store_is_name Frame = refl

module _ (m : Machine) (good : IsMachine m) where
  abbrev has : Named → Bool
  has n = is_named (length m.buses) (length m.files) (length m.imms) (length m.units) n

  abbrev AreMachineNames : List (List ℕ) → Type 0
  AreMachineNames ns = AllByRecursion IsMachineName ns

  units_named : AreMachineNames (map (λ u. u.name) m.units)
  units_named =
      (all_halves IsMachineName (map (λ b. b.name) m.buses ++ map (λ s. s.name) m.sockets ++ map (λ f. f.name) m.files
      ++ map (λ i. i.name) m.imms) (map (λ u. u.name) m.units)
      (all_halves IsMachineName (map (λ b. b.name) m.buses ++ map (λ s. s.name) m.sockets ++ map (λ f. f.name) m.files
      ++ map (λ i. i.name) m.imms ++ map (λ u. u.name) m.units) (map (λ t. t.name) m.templates) good.names).0).1

  up_to_imms : AreMachineNames (map (λ b. b.name) m.buses ++ map (λ s. s.name) m.sockets ++ map (λ f. f.name) m.files
      ++ map (λ i. i.name) m.imms)
  up_to_imms =
      (all_halves IsMachineName (map (λ b. b.name) m.buses ++ map (λ s. s.name) m.sockets ++ map (λ f. f.name) m.files
      ++ map (λ i. i.name) m.imms) (map (λ u. u.name) m.units)
      (all_halves IsMachineName (map (λ b. b.name) m.buses ++ map (λ s. s.name) m.sockets ++ map (λ f. f.name) m.files
      ++ map (λ i. i.name) m.imms ++ map (λ u. u.name) m.units) (map (λ t. t.name) m.templates) good.names).0).0

  imms_named : AreMachineNames (map (λ i. i.name) m.imms)
  imms_named =
      (all_halves IsMachineName (map (λ b. b.name) m.buses ++ map (λ s. s.name) m.sockets ++ map (λ f. f.name) m.files)
      (map (λ i. i.name) m.imms) up_to_imms).1

  up_to_files : AreMachineNames (map (λ b. b.name) m.buses ++ map (λ s. s.name) m.sockets ++ map (λ f. f.name) m.files)
  up_to_files =
      (all_halves IsMachineName (map (λ b. b.name) m.buses ++ map (λ s. s.name) m.sockets ++ map (λ f. f.name) m.files)
      (map (λ i. i.name) m.imms) up_to_imms).0

  files_named : AreMachineNames (map (λ f. f.name) m.files)
  files_named = (all_halves IsMachineName (map (λ b. b.name) m.buses ++ map (λ s. s.name) m.sockets) (map (λ f. f.name) m.files) up_to_files).1

  buses_named : AreMachineNames (map (λ b. b.name) m.buses)
  buses_named =
      (all_halves IsMachineName (map (λ b. b.name) m.buses) (map (λ s. s.name) m.sockets)
      (all_halves IsMachineName (map (λ b. b.name) m.buses ++ map (λ s. s.name) m.sockets) (map (λ f. f.name) m.files) up_to_files).0).0

  -- the name of a place is
  place_letters : (p : Place) → has (Keeps p) ≡ true → letters (place_name m p) ≡ true
  place_letters (KeptOperand k) is = letters_at (λ x. x.name) m.units k units_named
  place_letters (KeptPort k) is = letters_at (λ x. x.name) m.units k units_named
  place_letters (KeptReg k n) is =
      counted_letters (name_at (λ x. x.name) m.files k) n (letters_at (λ x. x.name) m.files k files_named)
      (and_parts (nat_lt k (length m.files)) (nat_lt n (2 ^ 64)) is).1
  place_letters (KeptImm k n) is =
      counted_letters (name_at (λ x. x.name) m.imms k) n (letters_at (λ x. x.name) m.imms k imms_named)
      (and_parts (nat_lt k (length m.imms)) (nat_lt n (2 ^ 64)) is).1
  place_letters KeptRa is = refl

  -- a signal's name is made of letters, digits and underscores
  signal_is_name : (n : Named) → has n ≡ true → is_name (signal_name m n) ≡ true
  signal_is_name (Underway n) is = number_letters n is
  signal_is_name (Keeps (KeptOperand k)) is = letters_at (λ x. x.name) m.units k units_named
  signal_is_name (Keeps (KeptPort k)) is = letters_at (λ x. x.name) m.units k units_named
  signal_is_name (Port k) is = letters_at (λ x. x.name) m.units k units_named
  signal_is_name (Trigger k) is = letters_at (λ x. x.name) m.units k units_named
  signal_is_name (Operand k) is = letters_at (λ x. x.name) m.units k units_named
  signal_is_name (Fetched (GuardOf k)) is = letters_at (λ x. x.name) m.buses k buses_named
  signal_is_name (Fetched (IsShort k)) is = letters_at (λ x. x.name) m.buses k buses_named
  signal_is_name (Fetched (SourceOf k)) is = letters_at (λ x. x.name) m.buses k buses_named
  signal_is_name (Fetched (ShortOf k)) is = letters_at (λ x. x.name) m.buses k buses_named
  signal_is_name (Fetched (DestOf k)) is = letters_at (λ x. x.name) m.buses k buses_named
  signal_is_name (Word k) is = letters_at (λ x. x.name) m.buses k buses_named
  signal_is_name (Acts k) is = letters_at (λ x. x.name) m.buses k buses_named
  signal_is_name (Keeps (KeptReg k n)) is = place_letters (KeptReg k n) is
  signal_is_name (Keeps (KeptImm k n)) is = place_letters (KeptImm k n) is
  signal_is_name (IsDue k n) is =
      counted_letters (name_at (λ x. x.name) m.units k) n (letters_at (λ x. x.name) m.units k units_named)
      (and_parts (nat_lt k (length m.units)) (nat_lt n (2 ^ 64)) is).1
  signal_is_name (Due k n) is =
      counted_letters (name_at (λ x. x.name) m.units k) n (letters_at (λ x. x.name) m.units k units_named)
      (and_parts (nat_lt k (length m.units)) (nat_lt n (2 ^ 64)) is).1
  signal_is_name (HasBegun k n) is =
      counted_letters (name_at (λ x. x.name) m.units k) n (letters_at (λ x. x.name) m.units k units_named)
      (and_parts (nat_lt k (length m.units)) (nat_lt n (2 ^ 64)) is).1
  signal_is_name (Raw k n) is =
      counted_letters (name_at (λ x. x.name) m.units k) n (letters_at (λ x. x.name) m.units k units_named)
      (and_parts (nat_lt k (length m.units)) (nat_lt n (2 ^ 64)) is).1
  signal_is_name (IsInside k n) is =
      counted_letters (name_at (λ x. x.name) m.units k) n (letters_at (λ x. x.name) m.units k units_named)
      (and_parts (nat_lt k (length m.units)) (nat_lt n (2 ^ 64)) is).1
  signal_is_name (Starts k n) is =
      counted_letters (name_at (λ x. x.name) m.units k) n (letters_at (λ x. x.name) m.units k units_named)
      (and_parts (nat_lt k (length m.units)) (nat_lt n (2 ^ 64)) is).1
  signal_is_name (Watches (HasWord p)) is = place_letters p is
  signal_is_name (Watches (LacksRegister k)) is = letters_at (λ x. x.name) m.buses k buses_named
  signal_is_name (Watches (LacksPort k)) is = letters_at (λ x. x.name) m.buses k buses_named
  signal_is_name (Watches (LacksOperand k)) is = letters_at (λ x. x.name) m.units k units_named
  signal_is_name (Watches (Clashes k)) is = letters_at (λ x. x.name) m.units k units_named
  signal_is_name (Boxes (Shows k n)) is =
      counted_letters (name_at (λ x. x.name) m.units k) n (letters_at (λ x. x.name) m.units k units_named)
      (and_parts (nat_lt k (length m.units)) (nat_lt n (2 ^ 64)) is).1
  signal_is_name (Boxes (IsFrom k n d)) is =
      let p = and_parts (nat_lt k (length m.units) && nat_lt n (2 ^ 64)) (nat_lt d (2 ^ 64)) is in
      and_both is_word_byte ((name_at (λ x. x.name) m.units k ++ (95 ∷ [])) ++ decimal n) (95 ∷ decimal d)
      (counted_letters (name_at (λ x. x.name) m.units k) n (letters_at (λ x. x.name) m.units k units_named)
      (and_parts (nat_lt k (length m.units)) (nat_lt n (2 ^ 64)) p.0).1) (number_letters d p.1)
  signal_is_name n is = refl

  pub are_names : AreNames (names_of m) (scope_of has)
  are_names = record {
    signals = signal_is_name;
    memories = λ s is. store_is_name s;
    operations = λ op is. number_letters op is;
    one_signal = one_signal m good;
    one_memory = λ s t p q is. sym (store_back s) ∙ ap store_told is ∙ store_back t;
    one_operation = λ op k p q is. decimal_injective op k (ltb-true op (2 ^ 64) p) (ltb-true k (2 ^ 64) q) (ap (drop 3) is);
  }

-- The names of a machine's signals tell the signals.
use Rattle.std.proofs.Common.{◌≡◌, ℕ, ◌+◌, ◌^◌, true, ◌&&◌, nat_lt, List, [], ◌∷◌, ◌++◌, length, map, Option, Some, None, refl, sym, ap, ◌∙◌, arith}
use Rattle.std.specs.Prelude.{codes, decimal}
use Rattle.std.specs.Str.{bytes_eq}
use Rattle.std.specs.Str.Parse.{digits_value}
use Rattle.std.proofs.lemmas.Bool.{and_parts, ltb-true}
use Rattle.tta_ops.specs.Units.{first_at}
use Rattle.tta_arch.specs.Machine.{Machine}
use Rattle.tta_arch.specs.Rules.{IsMachine, are_different}
use Rattle.tta_arch.specs.Effects.{Place, KeptReg, KeptImm, KeptOperand, KeptRa, KeptPort}
use Rattle.tta_hardware.specs.Signals.{GuardOf, IsShort, SourceOf, ShortOf, DestOf, TemplateOf, LongOf, Signal as Named, Pc, Whole, HasHalted, Underway, Goal, Ends, Keeps, IsDue, Due, HasBegun, Raw, IsInside, IsOffered, Offer, IsReady, IsReset, Port, Fetched, Word, Acts, Starts, Trigger, Operand, Controls, GoalNow, EndsNow, Lands, Asks, Gives, Goes, NextPc, Puts, PutWord, HasWord, IsPast, LacksRegister, LacksPort, LacksOperand, Clashes, FaultNow, Watches, Shows, IsFrom, Boxes}
use Rattle.tta_names.specs.Names.{place_name, signal_name}
use Rattle.tta_verilog.proofs.Reader.{after, otherwise, past}
use Rattle.tta_told.proofs.Lookups.{name_at, found_at, last_cut, number_cut, pair_is, value_is}
use Rattle.tta_told.proofs.HasName.{small, is_named}
use Rattle.tta_told.proofs.Different.{bus_names, file_names, imm_names, unit_names, buses_differ, files_differ, imms_differ, units_differ}

-- ---- a reader of names

-- a signal without more, and one of a number
abbrev alone : Named → List ℕ → Option Named
alone n [] = Some n
alone n (b ∷ t) = None

abbrev of_number : (ℕ → Named) → List ℕ → Option Named
of_number f w = Some (f (digits_value 10 w))

-- one of a part with a name, and one of such a part and a number
abbrev of_part : (ℕ → Named) → (names : List (List ℕ)) → List ℕ → Option Named
of_part f names w = after (first_at w 0 names) (λ k. Some (f k))

abbrev of_two : (ℕ → ℕ → Named) → (names : List (List ℕ)) → List ℕ → Option Named
of_two f names w = after (first_at (last_cut w).0 0 names) (λ k. Some (f k (digits_value 10 (last_cut w).1)))

-- one of such a part and two numbers
abbrev of_three : (ℕ → ℕ → ℕ → Named) → (names : List (List ℕ)) → List ℕ → Option Named
of_three f names w = of_two (λ k n. f k n (digits_value 10 (last_cut w).1)) names (last_cut w).0

-- whether a place has had a word
abbrev of_place : Named → Option Named
of_place (Keeps p) = Some (Watches (HasWord p))
of_place n = None

-- the signal of a name by how the name begins
abbrev told : List (List ℕ × (List ℕ → Option Named)) → List ℕ → Option Named
told [] w = None
told (t ∷ ts) w = otherwise (after (past t.0 w) t.1) (told ts w)

module _ (m : Machine) (good : IsMachine m) where
  -- how the names of places begin
  abbrev places : List (List ℕ × (List ℕ → Option Named))
  places =
      (codes "n_ra", alone (Keeps KeptRa))
      ∷ (codes "kept_", of_part (λ k. Keeps (KeptOperand k)) (unit_names m))
      ∷ (codes "result_", of_part (λ k. Keeps (KeptPort k)) (unit_names m))
      ∷ (codes "reg_", of_two (λ k n. Keeps (KeptReg k n)) (file_names m))
      ∷ (codes "imm_", of_two (λ k n. Keeps (KeptImm k n)) (imm_names m)) ∷ []

  -- how the names of all kinds begin
  abbrev table : List (List ℕ × (List ℕ → Option Named))
  table =
      (codes "n_pc", alone Pc)
      ∷ (codes "n_word", alone Whole)
      ∷ (codes "n_halted", alone HasHalted)
      ∷ (codes "n_goal", alone Goal)
      ∷ (codes "n_ends", alone Ends)
      ∷ (codes "in_valid", alone IsOffered)
      ∷ (codes "in_data", alone Offer)
      ∷ (codes "out_ready", alone IsReady)
      ∷ (codes "reset", alone IsReset)
      ∷ (codes "n_controls", alone Controls)
      ∷ (codes "n_goal_now", alone GoalNow)
      ∷ (codes "n_ends_now", alone EndsNow)
      ∷ (codes "n_lands", alone Lands)
      ∷ (codes "n_asks", alone Asks)
      ∷ (codes "n_gives", alone Gives)
      ∷ (codes "n_goes", alone Goes)
      ∷ (codes "n_next_pc", alone NextPc)
      ∷ (codes "n_puts", alone Puts)
      ∷ (codes "n_put", alone PutWord)
      ∷ (codes "n_template", alone (Fetched TemplateOf))
      ∷ (codes "n_long", alone (Fetched LongOf))
      ∷ (codes "n_underway_", of_number (λ n. Underway n))
      ∷ (codes "shown_", of_part (λ k. Port k) (unit_names m))
      ∷ (codes "trigger_", of_part (λ k. Trigger k) (unit_names m))
      ∷ (codes "operand_", of_part (λ k. Operand k) (unit_names m))
      ∷ (codes "guard_", of_part (λ k. Fetched (GuardOf k)) (bus_names m))
      ∷ (codes "tag_", of_part (λ k. Fetched (IsShort k)) (bus_names m))
      ∷ (codes "source_", of_part (λ k. Fetched (SourceOf k)) (bus_names m))
      ∷ (codes "short_", of_part (λ k. Fetched (ShortOf k)) (bus_names m))
      ∷ (codes "dest_", of_part (λ k. Fetched (DestOf k)) (bus_names m))
      ∷ (codes "bus_", of_part (λ k. Word k) (bus_names m))
      ∷ (codes "acts_", of_part (λ k. Acts k) (bus_names m))
      ∷ (codes "due_", of_two (λ k n. IsDue k n) (unit_names m))
      ∷ (codes "coming_", of_two (λ k n. Due k n) (unit_names m))
      ∷ (codes "began_", of_two (λ k n. HasBegun k n) (unit_names m))
      ∷ (codes "raw_", of_two (λ k n. Raw k n) (unit_names m))
      ∷ (codes "inside_", of_two (λ k n. IsInside k n) (unit_names m))
      ∷ (codes "start_", of_two (λ k n. Starts k n) (unit_names m))
      ∷ (codes "n_past", alone (Watches IsPast))
      ∷ (codes "n_fault", alone (Watches FaultNow))
      ∷ (codes "has_", λ w. after (told places w) of_place)
      ∷ (codes "unset_", of_part (λ k. Watches (LacksRegister k)) (bus_names m))
      ∷ (codes "unshown_", of_part (λ k. Watches (LacksPort k)) (bus_names m))
      ∷ (codes "lacks_", of_part (λ k. Watches (LacksOperand k)) (unit_names m))
      ∷ (codes "clashes_", of_part (λ k. Watches (Clashes k)) (unit_names m))
      ∷ (codes "made_", of_two (λ k n. Boxes (Shows k n)) (unit_names m))
      ∷ (codes "from_", of_three (λ k n delay. Boxes (IsFrom k n delay)) (unit_names m)) ∷ places

  abbrev pub signal_told : List ℕ → Option Named
  signal_told w = told table w

  -- ---- names are read back

  chosen : (o other : Option Named) (n : Named) → o ≡ Some n → otherwise o other ≡ Some n
  chosen o other n is = ap (λ x. otherwise x other) is

  part_told : {A : Type 0} (name : A → List ℕ) (f : ℕ → Named) (xs : List A) (k : ℕ) → are_different bytes_eq (map name xs) ≡ true
      → nat_lt k (length xs) ≡ true → of_part f (map name xs) (name_at name xs k) ≡ Some (f k)
  part_told name f xs k differ less =
      ap (λ o. after o (λ k. Some (f k))) (found_at name xs 0 k differ (ltb-true k (length xs) less))
      ∙ ap (λ k. Some (f k)) (let e : 0 + k ≡ k = omega arith in e)

  two_told : {A : Type 0} (name : A → List ℕ) (f : ℕ → ℕ → Named) (xs : List A) (k n : ℕ) → are_different bytes_eq (map name xs) ≡ true
      → (nat_lt k (length xs) && small n) ≡ true
      → of_two f (map name xs) ((name_at name xs k ++ (95 ∷ [])) ++ decimal n) ≡ Some (f k n)
  two_told name f xs k n differ is =
      let p = and_parts (nat_lt k (length xs)) (small n) is in
      ap (λ (q : List ℕ × List ℕ). after (first_at q.0 0 (map name xs)) (λ k. Some (f k (digits_value 10 q.1))))
      (pair_is (name_at name xs k) n (ltb-true n (2 ^ 64) p.1))
      ∙ ap (λ o. after o (λ k. Some (f k (digits_value 10 (decimal n))))) (found_at name xs 0 k differ (ltb-true k (length xs) p.0))
      ∙ ap (λ k. Some (f k (digits_value 10 (decimal n)))) (let e : 0 + k ≡ k = omega arith in e)
      ∙ ap (λ n. Some (f k n)) (value_is n (ltb-true n (2 ^ 64) p.1))

  three_told : {A : Type 0} (name : A → List ℕ) (f : ℕ → ℕ → ℕ → Named) (xs : List A) (k n d : ℕ) → are_different bytes_eq (map name xs) ≡ true
      → ((nat_lt k (length xs) && small n) && small d) ≡ true
      → of_three f (map name xs) (((name_at name xs k ++ (95 ∷ [])) ++ decimal n) ++ (95 ∷ decimal d)) ≡ Some (f k n d)
  three_told name f xs k n d differ is =
      let p = and_parts (nat_lt k (length xs) && small n) (small d) is in
      let less = ltb-true d (2 ^ 64) p.1 in
      ap (λ (q : List ℕ × List ℕ). of_two (λ k n. f k n (digits_value 10 q.1)) (map name xs) q.0)
      (number_cut ((name_at name xs k ++ (95 ∷ [])) ++ decimal n) d less)
      ∙ two_told name (λ k n. f k n (digits_value 10 (decimal d))) xs k n differ p.0 ∙ ap (λ d. Some (f k n d)) (value_is d less)

  -- a place
  place_back : (p : Place) → is_named (length m.buses) (length m.files) (length m.imms) (length m.units) (Keeps p) ≡ true
      → told places (place_name m p) ≡ Some (Keeps p)
  place_back (KeptOperand k) is =
      chosen (of_part (λ k. Keeps (KeptOperand k)) (unit_names m) (name_at (λ x. x.name) m.units k)) _ _
      (part_told (λ x. x.name) (λ k. Keeps (KeptOperand k)) m.units k (units_differ m good) is)
  place_back (KeptPort k) is =
      chosen (of_part (λ k. Keeps (KeptPort k)) (unit_names m) (name_at (λ x. x.name) m.units k)) _ _
      (part_told (λ x. x.name) (λ k. Keeps (KeptPort k)) m.units k (units_differ m good) is)
  place_back (KeptReg k n) is =
      chosen (of_two (λ k n. Keeps (KeptReg k n)) (file_names m) ((name_at (λ x. x.name) m.files k ++ (95 ∷ [])) ++ decimal n)) _ _
      (two_told (λ x. x.name) (λ k n. Keeps (KeptReg k n)) m.files k n (files_differ m good) is)
  place_back (KeptImm k n) is =
      chosen (of_two (λ k n. Keeps (KeptImm k n)) (imm_names m) ((name_at (λ x. x.name) m.imms k ++ (95 ∷ [])) ++ decimal n)) _ _
      (two_told (λ x. x.name) (λ k n. Keeps (KeptImm k n)) m.imms k n (imms_differ m good) is)
  place_back KeptRa is = refl

  pub read_back : (n : Named) → is_named (length m.buses) (length m.files) (length m.imms) (length m.units) n ≡ true
      → signal_told (signal_name m n) ≡ Some n
  read_back (Underway n) is =
      ap (λ n. Some (Underway n)) (value_is n (ltb-true n (2 ^ 64) is))
  read_back (Port k) is =
      chosen (of_part (λ k. Port k) (unit_names m) (name_at (λ x. x.name) m.units k)) _ _
      (part_told (λ x. x.name) (λ k. Port k) m.units k (units_differ m good) is)
  read_back (Trigger k) is =
      chosen (of_part (λ k. Trigger k) (unit_names m) (name_at (λ x. x.name) m.units k)) _ _
      (part_told (λ x. x.name) (λ k. Trigger k) m.units k (units_differ m good) is)
  read_back (Operand k) is =
      chosen (of_part (λ k. Operand k) (unit_names m) (name_at (λ x. x.name) m.units k)) _ _
      (part_told (λ x. x.name) (λ k. Operand k) m.units k (units_differ m good) is)
  read_back (Fetched (GuardOf k)) is =
      chosen (of_part (λ k. Fetched (GuardOf k)) (bus_names m) (name_at (λ x. x.name) m.buses k)) _ _
      (part_told (λ x. x.name) (λ k. Fetched (GuardOf k)) m.buses k (buses_differ m good) is)
  read_back (Fetched (IsShort k)) is =
      chosen (of_part (λ k. Fetched (IsShort k)) (bus_names m) (name_at (λ x. x.name) m.buses k)) _ _
      (part_told (λ x. x.name) (λ k. Fetched (IsShort k)) m.buses k (buses_differ m good) is)
  read_back (Fetched (SourceOf k)) is =
      chosen (of_part (λ k. Fetched (SourceOf k)) (bus_names m) (name_at (λ x. x.name) m.buses k)) _ _
      (part_told (λ x. x.name) (λ k. Fetched (SourceOf k)) m.buses k (buses_differ m good) is)
  read_back (Fetched (ShortOf k)) is =
      chosen (of_part (λ k. Fetched (ShortOf k)) (bus_names m) (name_at (λ x. x.name) m.buses k)) _ _
      (part_told (λ x. x.name) (λ k. Fetched (ShortOf k)) m.buses k (buses_differ m good) is)
  read_back (Fetched (DestOf k)) is =
      chosen (of_part (λ k. Fetched (DestOf k)) (bus_names m) (name_at (λ x. x.name) m.buses k)) _ _
      (part_told (λ x. x.name) (λ k. Fetched (DestOf k)) m.buses k (buses_differ m good) is)
  read_back (Word k) is =
      chosen (of_part (λ k. Word k) (bus_names m) (name_at (λ x. x.name) m.buses k)) _ _
      (part_told (λ x. x.name) (λ k. Word k) m.buses k (buses_differ m good) is)
  read_back (Acts k) is =
      chosen (of_part (λ k. Acts k) (bus_names m) (name_at (λ x. x.name) m.buses k)) _ _
      (part_told (λ x. x.name) (λ k. Acts k) m.buses k (buses_differ m good) is)
  read_back (IsDue k n) is =
      chosen (of_two (λ k n. IsDue k n) (unit_names m) ((name_at (λ x. x.name) m.units k ++ (95 ∷ [])) ++ decimal n)) _ _
      (two_told (λ x. x.name) (λ k n. IsDue k n) m.units k n (units_differ m good) is)
  read_back (Due k n) is =
      chosen (of_two (λ k n. Due k n) (unit_names m) ((name_at (λ x. x.name) m.units k ++ (95 ∷ [])) ++ decimal n)) _ _
      (two_told (λ x. x.name) (λ k n. Due k n) m.units k n (units_differ m good) is)
  read_back (HasBegun k n) is =
      chosen (of_two (λ k n. HasBegun k n) (unit_names m) ((name_at (λ x. x.name) m.units k ++ (95 ∷ [])) ++ decimal n)) _ _
      (two_told (λ x. x.name) (λ k n. HasBegun k n) m.units k n (units_differ m good) is)
  read_back (Raw k n) is =
      chosen (of_two (λ k n. Raw k n) (unit_names m) ((name_at (λ x. x.name) m.units k ++ (95 ∷ [])) ++ decimal n)) _ _
      (two_told (λ x. x.name) (λ k n. Raw k n) m.units k n (units_differ m good) is)
  read_back (IsInside k n) is =
      chosen (of_two (λ k n. IsInside k n) (unit_names m) ((name_at (λ x. x.name) m.units k ++ (95 ∷ [])) ++ decimal n)) _ _
      (two_told (λ x. x.name) (λ k n. IsInside k n) m.units k n (units_differ m good) is)
  read_back (Starts k n) is =
      chosen (of_two (λ k n. Starts k n) (unit_names m) ((name_at (λ x. x.name) m.units k ++ (95 ∷ [])) ++ decimal n)) _ _
      (two_told (λ x. x.name) (λ k n. Starts k n) m.units k n (units_differ m good) is)
  read_back (Keeps (KeptReg k n)) is = place_back (KeptReg k n) is
  read_back (Keeps (KeptImm k n)) is = place_back (KeptImm k n) is
  read_back (Keeps (KeptOperand k)) is = place_back (KeptOperand k) is
  read_back (Keeps (KeptPort k)) is = place_back (KeptPort k) is
  read_back (Watches (HasWord p)) is =
      chosen (after (told places (place_name m p)) of_place) _ _ (ap (λ o. after o of_place) (place_back p is))
  read_back (Watches (LacksRegister k)) is =
      chosen (of_part (λ k. Watches (LacksRegister k)) (bus_names m) (name_at (λ x. x.name) m.buses k)) _ _
      (part_told (λ x. x.name) (λ k. Watches (LacksRegister k)) m.buses k (buses_differ m good) is)
  read_back (Watches (LacksPort k)) is =
      chosen (of_part (λ k. Watches (LacksPort k)) (bus_names m) (name_at (λ x. x.name) m.buses k)) _ _
      (part_told (λ x. x.name) (λ k. Watches (LacksPort k)) m.buses k (buses_differ m good) is)
  read_back (Watches (LacksOperand k)) is =
      chosen (of_part (λ k. Watches (LacksOperand k)) (unit_names m) (name_at (λ x. x.name) m.units k)) _ _
      (part_told (λ x. x.name) (λ k. Watches (LacksOperand k)) m.units k (units_differ m good) is)
  read_back (Watches (Clashes k)) is =
      chosen (of_part (λ k. Watches (Clashes k)) (unit_names m) (name_at (λ x. x.name) m.units k)) _ _
      (part_told (λ x. x.name) (λ k. Watches (Clashes k)) m.units k (units_differ m good) is)
  read_back (Boxes (Shows k n)) is =
      chosen (of_two (λ k n. Boxes (Shows k n)) (unit_names m) ((name_at (λ x. x.name) m.units k ++ (95 ∷ [])) ++ decimal n)) _ _
      (two_told (λ x. x.name) (λ k n. Boxes (Shows k n)) m.units k n (units_differ m good) is)
  read_back (Boxes (IsFrom k n d)) is =
      chosen (of_three (λ k n d. Boxes (IsFrom k n d)) (unit_names m)
      (((name_at (λ x. x.name) m.units k ++ (95 ∷ [])) ++ decimal n) ++ (95 ∷ decimal d))) _ _
      (three_told (λ x. x.name) (λ k n d. Boxes (IsFrom k n d)) m.units k n d (units_differ m good) is)
  read_back n is = refl

  -- So no two signals have one name.
  pub one_signal : (n k : Named) → is_named (length m.buses) (length m.files) (length m.imms) (length m.units) n ≡ true
      → is_named (length m.buses) (length m.files) (length m.imms) (length m.units) k ≡ true → signal_name m n ≡ signal_name m k → n ≡ k
  one_signal n k p q is = ap (or_else n) (sym (read_back n p) ∙ ap signal_told is ∙ read_back k q) where
    or_else : Named → Option Named → Named
    or_else n None = n
    or_else n (Some k) = k

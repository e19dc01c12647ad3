-- Machines whose parts are called alike call their signals alike.
use Rattle.std.proofs.Common.{◌≡◌, ℕ, zero, suc, List, [], ◌∷◌, ◌++◌, length, map, refl, sym, ap, ◌∙◌}
use Rattle.std.specs.Prelude.{codes, decimal}
use Rattle.std.proofs.lemmas.List.{length-map}
use Rattle.tta_arch.specs.Machine.{Machine}
use Rattle.tta_arch.specs.Effects.{Place, KeptReg, KeptImm, KeptOperand, KeptRa, KeptPort}
use Rattle.tta_disasm.specs.Canonical.{file_name, imm_name, unit_name}
use Rattle.tta_hardware.specs.Signals.{GuardOf, IsShort, SourceOf, ShortOf, DestOf, HasWord, LacksRegister, LacksPort, LacksOperand, Clashes, Shows, IsFrom, Signal as Named, Keeps, IsDue, Due, HasBegun, Raw, IsInside, Port, Fetched, Word, Acts, Starts, Trigger, Operand, Watches, Boxes}
use Rattle.tta_names.specs.Names.{bus_name, counted, place_name, signal_name, store_name, is_constant, names_of}
use Rattle.tta_told.specs.Laws.{AreCalledAlike}
use Rattle.tta_told.proofs.Lookups.{name_at}

-- the name at a place is that of the list of names
in_names : {A : Type 0} (name : A → List ℕ) (xs : List A) (k : ℕ) → name_at name xs k ≡ name_at (λ w. w) (map name xs) k
in_names name [] k = refl
in_names name (x ∷ xs) zero = refl
in_names name (x ∷ xs) (suc k) = in_names name xs k

same_name : {A : Type 0} (name : A → List ℕ) (xs ys : List A) (k : ℕ) → map name xs ≡ map name ys → name_at name xs k ≡ name_at name ys k
same_name name xs ys k is = in_names name xs k ∙ ap (λ ns. name_at (λ w. w) ns k) is ∙ sym (in_names name ys k)

pub as_many : {A : Type 0} (name : A → List ℕ) (xs ys : List A) → map name xs ≡ map name ys → length xs ≡ length ys
as_many name xs ys is = sym (length-map xs name) ∙ ap length is ∙ length-map ys name

module _ (m n : Machine) (alike : AreCalledAlike m n) where
  bus : (k : ℕ) → bus_name m k ≡ bus_name n k
  bus k = same_name (λ b. b.name) m.buses n.buses k alike.buses

  file : (k : ℕ) → file_name m k ≡ file_name n k
  file k = same_name (λ f. f.name) m.files n.files k alike.files

  imm : (k : ℕ) → imm_name m k ≡ imm_name n k
  imm k = same_name (λ i. i.name) m.imms n.imms k alike.imms

  unit : (k : ℕ) → unit_name m k ≡ unit_name n k
  unit k = same_name (λ u. u.name) m.units n.units k alike.units

  place : (p : Place) → place_name m p ≡ place_name n p
  place (KeptReg k index) = ap (λ w. counted (codes "reg_") w index) (file k)
  place (KeptImm k index) = ap (λ w. counted (codes "imm_") w index) (imm k)
  place (KeptOperand k) = ap (λ w. codes "kept_" ++ w) (unit k)
  place (KeptPort k) = ap (λ w. codes "result_" ++ w) (unit k)
  place KeptRa = refl

  signal : (s : Named) → signal_name m s ≡ signal_name n s
  signal (Keeps p) = place p
  signal (Port k) = ap (λ w. codes "shown_" ++ w) (unit k)
  signal (Trigger k) = ap (λ w. codes "trigger_" ++ w) (unit k)
  signal (Operand k) = ap (λ w. codes "operand_" ++ w) (unit k)
  signal (Fetched (GuardOf k)) = ap (λ w. codes "guard_" ++ w) (bus k)
  signal (Fetched (IsShort k)) = ap (λ w. codes "tag_" ++ w) (bus k)
  signal (Fetched (SourceOf k)) = ap (λ w. codes "source_" ++ w) (bus k)
  signal (Fetched (ShortOf k)) = ap (λ w. codes "short_" ++ w) (bus k)
  signal (Fetched (DestOf k)) = ap (λ w. codes "dest_" ++ w) (bus k)
  signal (Word k) = ap (λ w. codes "bus_" ++ w) (bus k)
  signal (Acts k) = ap (λ w. codes "acts_" ++ w) (bus k)
  signal (IsDue k i) = ap (λ w. counted (codes "due_") w i) (unit k)
  signal (Due k i) = ap (λ w. counted (codes "coming_") w i) (unit k)
  signal (HasBegun k i) = ap (λ w. counted (codes "began_") w i) (unit k)
  signal (Raw k i) = ap (λ w. counted (codes "raw_") w i) (unit k)
  signal (IsInside k i) = ap (λ w. counted (codes "inside_") w i) (unit k)
  signal (Starts k i) = ap (λ w. counted (codes "start_") w i) (unit k)
  signal (Boxes (Shows k i)) = ap (λ w. counted (codes "made_") w i) (unit k)
  signal (Boxes (IsFrom k i delay)) = ap (λ w. counted (codes "from_") w i ++ (codes "_" ++ decimal delay)) (unit k)
  signal (Watches (HasWord p)) = ap (λ w. codes "has_" ++ w) (place p)
  signal (Watches (LacksRegister k)) = ap (λ w. codes "unset_" ++ w) (bus k)
  signal (Watches (LacksPort k)) = ap (λ w. codes "unshown_" ++ w) (bus k)
  signal (Watches (LacksOperand k)) = ap (λ w. codes "lacks_" ++ w) (unit k)
  signal (Watches (Clashes k)) = ap (λ w. codes "clashes_" ++ w) (unit k)
  signal s = refl

  pub same_names : names_of m ≡ names_of n
  same_names = λ i. record {
    signal = λ s. signal s i;
    memory = store_name;
    is_constant = is_constant;
    op = λ op. codes "op_" ++ decimal op;
  }

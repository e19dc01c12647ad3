-- What a cycle writes into the places.
use Rattle.std.proofs.Common.{◌≡◌, ℕ, ◌%◌, ◌==◌, Bool, true, false, ◌&&◌, List, [], ◌∷◌, ◌++◌, Option, Some, None, refl, ap}
use Rattle.std.specs.Prelude.{if◌then◌else◌, option_map, option_and_then}
use Rattle.std.specs.Option.{option_map_or, option_or}
use Rattle.std.specs.List.{find, filter_map, cons_option}
use Rattle.std.proofs.lemmas.Bool.{and_parts, eqb-true}
use Rattle.tta_hardware.specs.Cited.{Dest, Machine, same_dest, Place, KeptReg, KeptImm, KeptOperand, KeptRa, Written, Brought, kept, write_of, target_of, Move, Instruction, is_set}
use Rattle.tta_arch.specs.declared.ends.Dest.TheVariants as dest
use Rattle.tta_arch.specs.Effects.{same_place, width_of}
use Rattle.tta_hardware.specs.Signals.{Signal as Named, Word, Acts}
use Rattle.tta_hardware.specs.Fields.{slot_at}
use Rattle.tta_hardware.specs.Laws.{carried}
use Rattle.tta_hardware.proofs.Arriving.{goes}

-- what was written later hides what was written before
pub kept_both : (xs ys : Written) (p : Place) → kept (xs ++ ys) p ≡ option_or (kept xs p) (kept ys p)
kept_both [] ys p = refl
kept_both (x ∷ xs) ys p = by (same_place x.0 p) (kept_both xs ys p) where
  by : (b : Bool) → kept (xs ++ ys) p ≡ option_or (kept xs p) (kept ys p) → (if b then Some x.1 else kept (xs ++ ys) p)
      ≡ option_or (if b then Some x.1 else kept xs p) (kept ys p)
  by true rest = refl
  by false rest = rest

-- ---- by moves

module _ (m : Machine) (back : ℕ) (env : Named → ℕ) (i : Instruction) where
  -- the words that moves write on these buses
  abbrev pub by_moves : List ℕ → Written
  by_moves ns = filter_map (write_of m back) (filter_map (carried env i) ns)

  module _ (p : Place) (dst : Dest) (word : ℕ → ℕ)
      (into : (b : ℕ) (d : Dest) (rest : Written) (found : Option ℕ) → kept rest p ≡ option_map word found
      → kept (cons_option (write_of m back (target_of d, env (Word b))) rest) p
      ≡ option_map word (if same_dest d dst then Some b else found)) where
    step : (b : ℕ) (o : Option Move) (a : Bool) (rest : List Brought) (found : Option ℕ) → kept (filter_map (write_of m back) rest) p
        ≡ option_map word found
        → kept (filter_map (write_of m back)
        (cons_option (option_and_then (λ v. if a then Some (target_of v.dst, env (Word b)) else None) o) rest)) p
        ≡ option_map word (if option_map_or (λ v. a && same_dest v.dst dst) o false then Some b else found)
    step b None a rest found is = is
    step b (Some v) false rest found is = is
    step b (Some v) true rest found is = into b v.dst (filter_map (write_of m back) rest) found is

    -- the first bus that goes to the place's destination writes it
    pub written_by : (ns : List ℕ) → kept (by_moves ns) p ≡ option_map word (find (goes env i dst) ns)
    written_by [] = refl
    written_by (b ∷ ns) = step b (slot_at i b) (is_set (env (Acts b))) (filter_map (carried env i) ns) (find (goes env i dst) ns)
        (written_by ns)

  -- a word as a file keeps it
  abbrev pub as_kept : (file word : ℕ) → ℕ
  as_kept file word = if width_of m file == 1 then word % 2 else word

  pub reg_written : (file index : ℕ) (ns : List ℕ)
      → kept (by_moves ns) (KeptReg file index) ≡ option_map (λ b. as_kept file (env (Word b))) (find (goes env i (dest.Reg file index)) ns)
  reg_written file index ns = written_by (KeptReg file index) (dest.Reg file index) (λ b. as_kept file (env (Word b))) into ns where
    at : (b g k : ℕ) (rest : Written) (found : Option ℕ) → kept rest (KeptReg file index)
        ≡ option_map (λ b. as_kept file (env (Word b))) found
        → (t : Bool) → (g == file && k == index) ≡ t
        → (if t then Some (as_kept g (env (Word b))) else kept rest (KeptReg file index))
        ≡ option_map (λ b. as_kept file (env (Word b))) (if t then Some b else found)
    at b g k rest found is true same =
        ap (λ n. Some (as_kept n (env (Word b)))) (eqb-true g file (and_parts (g == file) (k == index) same).0)
    at b g k rest found is false same = is

    into : (b : ℕ) (d : Dest) (rest : Written) (found : Option ℕ) → kept rest (KeptReg file index)
        ≡ option_map (λ b. as_kept file (env (Word b))) found
        → kept (cons_option (write_of m back (target_of d, env (Word b))) rest) (KeptReg file index)
        ≡ option_map (λ b. as_kept file (env (Word b))) (if same_dest d (dest.Reg file index) then Some b else found)
    into b (dest.Reg g k) rest found is = at b g k rest found is (g == file && k == index) refl
    into b (dest.Operand unit) rest found is = is
    into b (dest.Trigger unit op) rest found is = is
    into b dest.Jump rest found is = is
    into b dest.Call rest found is = is
    into b dest.Halt rest found is = is

  pub operand_written : (unit : ℕ) (ns : List ℕ) → kept (by_moves ns) (KeptOperand unit)
      ≡ option_map (λ b. env (Word b)) (find (goes env i (dest.Operand unit)) ns)
  operand_written unit ns = written_by (KeptOperand unit) (dest.Operand unit) (λ b. env (Word b)) into ns where
    at : (b : ℕ) (rest : Written) (found : Option ℕ) → kept rest (KeptOperand unit) ≡ option_map (λ b. env (Word b)) found → (t : Bool)
        → (if t then Some (env (Word b)) else kept rest (KeptOperand unit)) ≡ option_map (λ b. env (Word b)) (if t then Some b else found)
    at b rest found is true = refl
    at b rest found is false = is

    into : (b : ℕ) (d : Dest) (rest : Written) (found : Option ℕ) → kept rest (KeptOperand unit) ≡ option_map (λ b. env (Word b)) found
        → kept (cons_option (write_of m back (target_of d, env (Word b))) rest) (KeptOperand unit)
        ≡ option_map (λ b. env (Word b)) (if same_dest d (dest.Operand unit) then Some b else found)
    into b (dest.Reg g k) rest found is = is
    into b (dest.Operand q) rest found is = at b rest found is (q == unit)
    into b (dest.Trigger q op) rest found is = is
    into b dest.Jump rest found is = is
    into b dest.Call rest found is = is
    into b dest.Halt rest found is = is

  pub ra_written : (ns : List ℕ) → kept (by_moves ns) KeptRa ≡ option_map (λ b. back) (find (goes env i dest.Call) ns)
  ra_written ns = written_by KeptRa dest.Call (λ b. back) into ns where
    into : (b : ℕ) (d : Dest) (rest : Written) (found : Option ℕ) → kept rest KeptRa ≡ option_map (λ b. back) found
        → kept (cons_option (write_of m back (target_of d, env (Word b))) rest) KeptRa
        ≡ option_map (λ b. back) (if same_dest d dest.Call then Some b else found)
    into b (dest.Reg g k) rest found is = is
    into b (dest.Operand unit) rest found is = is
    into b (dest.Trigger unit op) rest found is = is
    into b dest.Jump rest found is = is
    into b dest.Call rest found is = refl
    into b dest.Halt rest found is = is

  -- moves write no immediate register
  pub imm_unwritten : (unit index : ℕ) (ns : List ℕ) → kept (by_moves ns) (KeptImm unit index) ≡ None
  imm_unwritten unit index [] = refl
  imm_unwritten unit index (b ∷ ns) = step' (slot_at i b) (is_set (env (Acts b))) (filter_map (carried env i) ns)
      (imm_unwritten unit index ns) where
        into : (d : Dest) (rest : Written) → kept rest (KeptImm unit index) ≡ None
            → kept (cons_option (write_of m back (target_of d, env (Word b))) rest) (KeptImm unit index) ≡ None
        into (dest.Reg g k) rest is = is
        into (dest.Operand q) rest is = is
        into (dest.Trigger q op) rest is = is
        into dest.Jump rest is = is
        into dest.Call rest is = is
        into dest.Halt rest is = is

        step' : (o : Option Move) (a : Bool) (rest : List Brought) → kept (filter_map (write_of m back) rest) (KeptImm unit index) ≡ None
            → kept (filter_map (write_of m back)
            (cons_option (option_and_then (λ v. if a then Some (target_of v.dst, env (Word b)) else None) o) rest)) (KeptImm unit index)
            ≡ None
        step' None a rest is = is
        step' (Some v) false rest is = is
        step' (Some v) true rest is = into v.dst (filter_map (write_of m back) rest) is

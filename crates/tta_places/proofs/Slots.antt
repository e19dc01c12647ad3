-- The instruction that a run comes to.
use Rattle.std.proofs.Common.{◌≡◌, ℕ, ◌<◌, ◌≤◌, Bool, true, false, ◌&&◌, List, length, Option, None, Some, IsTrue, refl, sym, ap, ◌∙◌, subst, arith}
use Rattle.std.specs.Prelude.{slice_get, if◌then◌else◌, IfSome}
use Rattle.std.specs.Option.{option_map_or}
use Rattle.std.specs.List.{AllByRecursion}
use Rattle.std.proofs.lemmas.Bool.{and_parts}
use Rattle.std.proofs.lemmas.Option.{slice_get_within}
use Rattle.tta_list.proofs.Lists.{all_one, all_weaker}
use Rattle.tta_places.specs.Cited.{Dest, Template, Machine, IsMachine, KeptImm, Code, Instruction, Move, IsLegalCode, is_legal, IsPossible, is_askable, is_possible_slot, is_readable, is_reachable, is_place}
use Rattle.tta_arch.specs.declared.ends.Dest.TheVariants as dest
use Rattle.tta_sim.proofs.Possible.{long_possible, possible}
use Rattle.tta_places.specs.Carried.{slots_of}
use Rattle.tta_places.specs.Written.{is_slot_written_to, is_written_to}

-- a destination that is there is one that can be written
dest_written : (units : ℕ) (dst : Dest) → is_reachable units dst ≡ true → is_written_to dst ≡ true
dest_written units (dest.Reg file index) is = is
dest_written units (dest.Operand unit) is = is
dest_written units (dest.Trigger unit op) is = refl
dest_written units dest.Jump is = refl
dest_written units dest.Call is = refl
dest_written units dest.Halt is = refl

-- so is that of a move that is possible
slot_written : (units : ℕ) (slot : Option Move) → is_possible_slot units slot ≡ true → is_slot_written_to slot ≡ true
slot_written units None is = refl
slot_written units (Some v) is =
    let two = and_parts (is_askable v.guard) (is_readable units v.src && is_reachable units v.dst) is in
    dest_written units v.dst (and_parts (is_readable units v.src) (is_reachable units v.dst) two.1).1

module _ (m : Machine) (rules : IsMachine m) where
  -- the register of a template is there
  pub template_at : (k : ℕ) (o : Option Template) → o ≡ slice_get m.templates k → IfSome o (λ t. IsTrue (is_place (KeptImm t.imm t.reg)))
  template_at k None at = tt
  template_at k (Some t) at =
      subst (λ (o : Option Template). option_map_or (λ t. is_place (KeptImm t.imm t.reg)) o true ≡ true) (sym at)
      (long_possible m rules (Some (record { template = k; value = 0 })))

  module _ (code : Code) (legal : IsLegalCode m code) where
    -- an instruction of the code has moves that are possible
    at_address : (pc : ℕ) (i : Instruction) → slice_get code.words pc ≡ Some i → IsPossible m i
    at_address pc i at = possible m rules i (all_one (λ i. IsTrue (is_legal m i)) code.words pc i legal.words at)

    abbrev next_at : (halted : Bool) (pc : ℕ) → Option Instruction
    next_at halted pc = if halted then None else slice_get code.words pc

    -- the moves of the instruction that comes are possible
    possible_next : (halted : Bool) (pc : ℕ) → AllByRecursion (λ slot. IsTrue (is_possible_slot (length m.units) slot)) (slots_of (next_at halted pc))
    possible_next true pc = tt
    possible_next false pc = by (slice_get code.words pc) refl where
      by : (o : Option Instruction) → slice_get code.words pc ≡ o → AllByRecursion (λ slot. IsTrue (is_possible_slot (length m.units) slot)) (slots_of o)
      by None at = tt
      by (Some i) at = (at_address pc i at).slots

    -- the same of the slots that were read, with the number of units
    pub possible_slots : (halted : Bool) (pc units : ℕ) (o : Option Instruction) (slots : List (Option Move)) → units ≡ length m.units → o ≡ next_at halted pc → slots ≡ slots_of o
        → AllByRecursion (λ slot. IsTrue (is_possible_slot units slot)) slots
    possible_slots halted pc units o slots all here are =
        subst (λ (n : ℕ). AllByRecursion (λ slot. IsTrue (is_possible_slot n slot)) slots) (sym all)
        (subst (λ (l : List (Option Move)). AllByRecursion (λ slot. IsTrue (is_possible_slot (length m.units) slot)) l) (sym (are ∙ ap slots_of here)) (possible_next halted pc))

    -- what they write is there
    pub written_next : (halted : Bool) (pc : ℕ) → IfSome (next_at halted pc) (λ i. AllByRecursion (λ slot. IsTrue (is_slot_written_to slot)) i.moves)
    written_next true pc = tt
    written_next false pc = by (slice_get code.words pc) refl where
      by : (o : Option Instruction) → slice_get code.words pc ≡ o → IfSome o (λ i. AllByRecursion (λ slot. IsTrue (is_slot_written_to slot)) i.moves)
      by None at = tt
      by (Some i) at =
          all_weaker (λ slot. IsTrue (is_possible_slot (length m.units) slot)) (λ slot. IsTrue (is_slot_written_to slot)) i.moves (slot_written (length m.units))
          (at_address pc i at).slots

    -- its address is that of an instruction
    pub within_next : (halted : Bool) (pc : ℕ) → length code.words ≤ 65536 → IfSome (next_at halted pc) (λ i. pc < 65536)
    within_next true pc reached = tt
    within_next false pc reached = by (slice_get code.words pc) refl where
      by : (o : Option Instruction) → slice_get code.words pc ≡ o → IfSome o (λ i. pc < 65536)
      by None at = tt
      by (Some i) at = omega (arith, slice_get_within code.words pc i at, reached)

-- what holds of the instruction that comes holds of one that was carried out
pub of_made : (P : Instruction → Type 0) (b : Bool) (next made : Option Instruction) → made ≡ (if b then next else None) → IfSome next P → IfSome made P
of_made P true next made is holds = subst (λ o. IfSome o P) (sym is) holds
of_made P false next made is holds = subst (λ o. IfSome o P) (sym is) tt

-- What each rule says of an instruction that a machine can carry out.
use Rattle.std.proofs.Common.{◌≡◌, ◌==◌, true, ◌&&◌, length}
use Rattle.std.specs.Option.{option_map_or}
use Rattle.std.proofs.lemmas.Bool.{and_parts}
use Rattle.tta_code.specs.Cited.{Machine, keeps_taken, is_joined, has_reads, has_writes, are_apart, can_move}
use Rattle.tta_arch.specs.Legal.{ends_of as all_ends}
use Rattle.tta_code.specs.declared.code.Instruction.{Instruction}
use Rattle.tta_code.specs.Legal.{slots_of, taken, is_long, is_instruction, is_legal}

-- the rules of a legal instruction one by one: a slot for each bus, a long immediate of the machine, and the five rules of a cycle
pub record LegalParts (m : Machine) (i : Instruction) : Type 0 where
  pub count : (length i.moves == length m.buses) ≡ true
  pub long : option_map_or (is_long m) i.long true ≡ true
  pub kept : keeps_taken (taken m i) (slots_of i) ≡ true
  pub joined : is_joined m (slots_of i) ≡ true
  pub reads : has_reads m (slots_of i) ≡ true
  pub writes : has_writes m (slots_of i) ≡ true
  pub apart : are_apart (all_ends (slots_of i)) ≡ true

-- a legal instruction fulfils each
pub legal_parts : (m : Machine) (i : Instruction) → is_legal m i ≡ true → LegalParts m i
unfolding is_legal can_move
legal_parts m i h =
    let t = taken m i in
    let s = slots_of i in
    let whole = and_parts (is_instruction m i) (can_move m t s) h in
    let form = and_parts (length i.moves == length m.buses) (option_map_or (is_long m) i.long true) whole.0 in
    let a = and_parts (keeps_taken t s && is_joined m s && has_reads m s && has_writes m s) (are_apart (all_ends s)) whole.1 in
    let b = and_parts (keeps_taken t s && is_joined m s && has_reads m s) (has_writes m s) a.0 in
    let c = and_parts (keeps_taken t s && is_joined m s) (has_reads m s) b.0 in
    let d = and_parts (keeps_taken t s) (is_joined m s) c.0 in
    record { count = form.0; long = form.1; kept = d.0; joined = d.1; reads = c.1; writes = b.1; apart = a.1 }

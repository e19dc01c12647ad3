-- Instructions are found again by what is printed of them.
use Rattle.std.proofs.Common.{◌≡◌, ℕ, ◌+◌, ◌^◌, ◌<◌, Bool, true, false, List, [], ◌∷◌, length, map, refl, arith}
use Rattle.std.specs.Prelude.{◌&&◌, nat_lt, nat_le, Option, Some, None, option_map, slice_get, is_some, Ok}
use Rattle.std.specs.Option.{option_map_or}
use Rattle.std.proofs.lemmas.Bool.{false≢true, and_parts, ltb-true}
use Rattle.std.proofs.lemmas.Bool.Decides.{nat_tests}
use Rattle.tta_list.proofs.Lists.{list_all_one}
use Rattle.tta_asm.specs.Cited.{is_name, Units, Source, Machine, is_source_on, is_dest_on, has_guard, joins, IsMachine, Ends, all_slots, Move, Long, Instruction, ends_of, is_long, is_legal}
use Rattle.tta_arch.specs.declared.parts.Template.{Template as ImmTemplate}
use Rattle.tta_arch.specs.declared.ends.Source.TheVariants as source
use Rattle.tta_code.proofs.LegalParts.{legal_parts}
use Rattle.tta_asm.specs.Forms.{SlotForm}
use Rattle.tta_asm.specs.Resolving.{fits_bus, move_of, action_of, long_of}
use Rattle.tta_asm.specs.Assembly.{moves_of, longs_of, instruction_of}
use Rattle.tta_asm.proofs.Readable.{IsReadable}
use Rattle.tta_asm.proofs.ShownNames.{template_named}
use Rattle.tta_asm.proofs.ShownScanned.{SlotFits, SlotsFit, LongFits}
use Rattle.tta_asm.proofs.ShownForms.{move_said, slot_said, long_said}
use Rattle.tta_asm.proofs.ShownEnds.{SourceBack, source_back, DestBack, dest_back, GuardBack, guard_back}

-- ---- slots

-- the bus joins the ends of a slot's move, if it has one
abbrev pub joined_at : Machine → (bus : ℕ) → Option Ends → Bool
joined_at m bus o = option_map_or (λ v. joins m bus v.src v.dst v.guard) o true

-- a slot that a text can give, and that is found again
pub record SlotBack (u : Units) (m : Machine) (line bus : ℕ) (slot : Option Move) : Type 0 where
  pub fits : SlotFits u m slot
  pub back : action_of u m [] bus (slot_said u m line slot).action ≡ Ok slot

-- a short field holds each word that it can be a source of
held_fits : (m : Machine) (bus : ℕ) (src : Source) → is_source_on m bus src ≡ true → fits_bus m bus src ≡ true
held_fits m bus (source.Reg k i) h = refl
held_fits m bus (source.Imm k i) h = refl
held_fits m bus (source.Shown k) h = refl
held_fits m bus source.Ra h = refl
held_fits m bus (source.Value word) h = h

-- a move is found again once its guard and ends are, where the bus joins them
move_back : (u : Units) (m : Machine) (bus : ℕ) (v : Move) → GuardBack m v.guard → DestBack u m v.dst → SourceBack m v.src
    → fits_bus m bus v.src ≡ true → joins m bus v.src v.dst v.guard ≡ true
    → move_of u m [] bus (move_said u m v) ≡ Ok v
unfolding move_of
move_back u m bus v g d s fits joined = rw (g.back, d.back, s.back, fits, joined) refl

-- a slot of a legal instruction is found again
slot_back : (u : Units) (m : Machine) (line bus : ℕ) (slot : Option Move) → IsMachine m → IsReadable u m
    → joined_at m bus (option_map ends_of slot) ≡ true → SlotBack u m line bus slot
slot_back u m line bus None rules stands h = record { fits = tt; back = refl }
slot_back u m line bus (Some v) rules stands h =
    let outer = and_parts (is_source_on m bus v.src && is_dest_on m bus v.dst) (has_guard m bus v.guard) h in
    let inner = and_parts (is_source_on m bus v.src) (is_dest_on m bus v.dst) outer.0 in
    let g = guard_back u m bus v.guard rules stands outer.1 in
    let s = source_back u m bus v.src rules stands inner.0 in
    let d = dest_back u m bus v.dst rules stands inner.1 in
    let move = move_back u m bus v g d s (held_fits m bus v.src inner.0) h in
    record { fits = (g.fits, s.fits, d.fits); back = rw move refl }

-- what the slots of an instruction say, on this line
abbrev pub slots_said : Units → Machine → (line : ℕ) → List (Option Move) → List SlotForm
slots_said u m line [] = []
slots_said u m line (slot ∷ slots) = slot_said u m line slot ∷ slots_said u m line slots

-- as many slots are said as there are
length-slots_said : (u : Units) (m : Machine) (line : ℕ) (slots : List (Option Move))
    → length (slots_said u m line slots) ≡ length slots
length-slots_said u m line [] = refl
length-slots_said u m line (slot ∷ slots) = rw (length-slots_said u m line slots) refl

-- slots that a text can give, and that are found again
pub record SlotsBack (u : Units) (m : Machine) (line bus : ℕ) (slots : List (Option Move)) : Type 0 where
  pub fits : SlotsFit u m slots
  pub back : moves_of u m [] bus (slots_said u m line slots) ≡ Ok slots

-- the slots of a legal instruction are found again
slots_back : (u : Units) (m : Machine) (line bus : ℕ) (slots : List (Option Move)) → IsMachine m → IsReadable u m
    → all_slots (joined_at m) bus (map (option_map ends_of) slots) ≡ true → SlotsBack u m line bus slots
slots_back u m line bus [] rules stands h = record { fits = tt; back = refl }
slots_back u m line bus (slot ∷ slots) rules stands h =
    let parts = and_parts (joined_at m bus (option_map ends_of slot)) (all_slots (joined_at m) (bus + 1) (map (option_map ends_of) slots)) h in
    let one = slot_back u m line bus slot rules stands parts.0 in
    let more = slots_back u m line (bus + 1) slots rules stands parts.1 in
    record { fits = (one.fits, more.fits); back = first slot one.back more.back } where
      first : (s : Option Move) → action_of u m [] bus (slot_said u m line s).action ≡ Ok s
          → moves_of u m [] (bus + 1) (slots_said u m line slots) ≡ Ok slots
          → moves_of u m [] bus (slot_said u m line s ∷ slots_said u m line slots) ≡ Ok (s ∷ slots)
      first None one more = rw more refl
      first (Some v) one more = rw (one, more) refl

-- ---- long immediates

-- a long immediate that a text can give, if there is one, and that is found again
pub record LongBack (m : Machine) (line : ℕ) (long : Option Long) : Type 0 where
  pub fits : LongFits m long
  pub back : longs_of m [] (long_said m line long) ≡ Ok long

-- a long immediate is found again by its template
template_back : (m : Machine) (line : ℕ) (l : Long) (t : ImmTemplate) → IsMachine m → slice_get m.templates l.template ≡ Some t
    → is_name t.name ≡ true → l.value < 2 ^ 32 → LongBack m line (Some l)
unfolding long_of
template_back m line l t rules at named small =
    record { fits = (rw at named, small); back = rw (at, template_named m l.template t rules at) refl }

-- the long immediate of a legal instruction is found again
long_back : (u : Units) (m : Machine) (line : ℕ) (long : Option Long) → IsMachine m → IsReadable u m
    → option_map_or (is_long m) long true ≡ true → LongBack m line long
long_back u m line None rules stands h = record { fits = tt; back = refl }
long_back u m line (Some l) rules stands h =
    let parts = and_parts (is_some (slice_get m.templates l.template)) (nat_lt l.value (2 ^ 32)) h in
    by (slice_get m.templates l.template) refl parts.0 (ltb-true l.value (2 ^ 32) parts.1) where
      by : (o : Option ImmTemplate) → slice_get m.templates l.template ≡ o → is_some o ≡ true → l.value < 2 ^ 32
          → LongBack m line (Some l)
      by None at some small = absurd (false≢true some)
      by (Some t) at some small =
          template_back m line l t rules at (list_all_one (λ t. is_name t.name) m.templates l.template t stands.templates at) small

-- ---- instructions

-- an instruction that a text can give, and that is found again
pub record InstructionBack (u : Units) (m : Machine) (line before : ℕ) (i : Instruction) : Type 0 where
  pub slots : SlotsFit u m i.moves
  pub long : LongFits m i.long
  pub back : instruction_of u m [] line before (slots_said u m line i.moves) (long_said m line i.long) ≡ Ok i

-- a legal instruction is found again, where an address is left for it
pub instruction_back : (u : Units) (m : Machine) (line before : ℕ) (i : Instruction) → IsMachine m → IsReadable u m
    → is_legal m i ≡ true → before < 2 ^ m.control.address → InstructionBack u m line before i
unfolding instruction_of
instruction_back u m line before i rules stands legal room =
    let f = legal_parts m i legal in
    let s = slots_back u m line 0 i.moves rules stands f.joined in
    let l = long_back u m line i.long rules stands f.long in
    let left : nat_le (2 ^ m.control.address) before ≡ false = grind (arith, nat_tests) in
    record {
      slots = s.fits;
      long = l.fits;
      back = rw (length-slots_said u m line i.moves, f.count, s.back, l.back, legal, left) refl;
    }

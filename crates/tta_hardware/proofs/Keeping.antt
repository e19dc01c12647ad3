-- What is kept in the places, from one clock to the next.
use Rattle.std.proofs.Common.{◌≡◌, ℕ, ◌+◌, ◌<◌, ◌≤◌, ◌/◌, ◌%◌, ◌^◌, ◌==◌, Bool, true, false, ◌++◌, length, map, Option, Some, None, refl, sym, ap, ◌∙◌, arith, ◌*◌}
use Rattle.std.specs.Prelude.{is_some, if◌then◌else◌, option_map}
use Rattle.std.specs.Option.{option_map_or, option_or}
use Rattle.std.specs.List.{filter_map}
use Rattle.std.proofs.lemmas.Option.{same_Some}
use Rattle.std.proofs.lemmas.Bool.{false≢true}
use Rattle.std.proofs.lemmas.List.Elements.{filter_map-append}
use Rattle.tta_hardware.specs.Cited.{Units, Machine, numbers, Place, KeptReg, KeptImm, KeptOperand, KeptRa, KeptPort, kept, write_of, bring, Instruction, State, read_source, effect_of, moves_of, long_effects, Slice, value}
use Rattle.tta_arch.specs.declared.ends.Dest.TheVariants as dest
use Rattle.tta_arch.specs.Effects.{width_of}
use Rattle.tta_circuit.specs.Circuit.{Signal as OfSignal}
use Rattle.tta_hardware.specs.Signals.{Signal as Named, Keeps, Word, Operand, Pc}
use Rattle.tta_hardware.specs.Registers.{narrowed, kept_next}
use Rattle.tta_hardware.specs.Stands.{Hardware, has_place, is_written}
use Rattle.tta_hardware.specs.Laws.{Meet, carried, written_after, WordsKeep}
use Rattle.tta_hardware.proofs.Bits.{delay_few}
use Rattle.tta_hardware.proofs.Carrying.{buses_carry}
use Rattle.tta_hardware.proofs.Bringing.{within_list}
use Rattle.tta_hardware.proofs.Arriving.{bus_of, is_reached, arrives}
use Rattle.tta_hardware.proofs.Writing.{kept_both, by_moves, as_kept, reg_written, operand_written, ra_written, imm_unwritten}
use Rattle.tta_hardware.proofs.Longs.{by_long, long_of, reg_unwritten, operand_unwritten, ra_unwritten, imm_written, long_arrives}

-- ---- words

-- a register of one bit keeps the lowest of a word
narrow : (u : Units) (m : Machine) (h : Hardware) (env : Named → ℕ) (i : Instruction) (file bus : ℕ)
    → value u h.memories env (narrowed m file (OfSignal (Word bus))) ≡ as_kept m 0 env i file (env (Word bus))
narrow u m h env i file bus = by (width_of m file == 1) where
  by : (b : Bool) → value u h.memories env (if b then Slice 0 1 (OfSignal (Word bus)) else OfSignal (Word bus))
      ≡ (if b then env (Word bus) % 2 else env (Word bus))
  by true = low (env (Word bus)) where
    low : (x : ℕ) → x / 2 ^ 0 % 2 ^ 1 ≡ x % 2
    low x = omega arith
  by false = refl

-- what was written last is what the circuit has, where a bus brings it, or the long immediate, or else what was there
module _ (word kept_word : ℕ → ℕ) (alike : (b : ℕ) → word b ≡ kept_word b) where
  decide : (o : Option ℕ) (long old : Option ℕ) (self w : ℕ) → long ≡ None → (old ≡ Some w → self ≡ w)
      → option_or (option_or (option_map kept_word o) long) old ≡ Some w → option_map_or word o self ≡ w
  decide (Some b) long old self w none had is = alike b ∙ same_Some (kept_word b) w is
  decide None long old self w none had is = had (sym (ap (λ l. option_or l old) none) ∙ is)

decide_long : (moves long old : Option ℕ) (self w : ℕ) → moves ≡ None → (old ≡ Some w → self ≡ w) → option_or (option_or moves long) old
    ≡ Some w
    → option_map_or (λ n. n) long self ≡ w
decide_long moves (Some x) old self w none had is = same_Some x w (sym (ap (λ o. option_or (option_or o (Some x)) old) none) ∙ is)
decide_long moves None old self w none had is = had (sym (ap (λ o. option_or (option_or o None) old) none) ∙ is)

-- ---- one clock

module _ (u : Units) (m : Machine) (h : Hardware) (env : Named → ℕ) (s : State) (i : Instruction) (meet : Meet u m h env s i) where
  -- what is written is what the buses and the long immediate bring
  after_is : written_after m s i ≡ (by_moves m (s.pc + 1 + m.control.delay) env i (numbers (length m.buses)) ++ by_long m s i.long)
      ++ s.written
  after_is =
      ap (λ bs. filter_map (write_of m (s.pc + 1 + m.control.delay)) bs ++ s.written)
      (filter_map-append (bring (read_source s)) (map effect_of (moves_of i)) (long_effects m i.long)
      ∙ ap (λ bs. bs ++ filter_map (bring (read_source s)) (long_effects m i.long)) (buses_carry u m h env s i meet))
      ∙ ap (λ ws. ws ++ s.written)
      (filter_map-append (write_of m (s.pc + 1 + m.control.delay)) (filter_map (carried env i) (numbers (length m.buses)))
      (filter_map (bring (read_source s)) (long_effects m i.long)))

  kept_after : (p : Place) → kept (written_after m s i) p
      ≡ option_or
      (option_or (kept (by_moves m (s.pc + 1 + m.control.delay) env i (numbers (length m.buses))) p) (kept (by_long m s i.long) p))
      (kept s.written p)
  kept_after p =
      ap (λ ws. kept ws p) after_is
      ∙ kept_both (by_moves m (s.pc + 1 + m.control.delay) env i (numbers (length m.buses)) ++ by_long m s i.long) s.written p
      ∙ ap (λ o. option_or o (kept s.written p))
      (kept_both (by_moves m (s.pc + 1 + m.control.delay) env i (numbers (length m.buses))) (by_long m s i.long) p)

  had : (p : Place) (w : ℕ) → is_written p ≡ true → has_place m p ≡ true → kept s.written p ≡ Some w → env (Keeps p) ≡ w
  had p w can there is = meet.settled.places p ∙ meet.words p w can there is

  reg_next : (file index w : ℕ) → has_place m (KeptReg file index) ≡ true → kept (written_after m s i) (KeptReg file index) ≡ Some w
      → value u h.memories env (kept_next m (KeptReg file index)) ≡ w
  reg_next file index w there is =
      arrives u m h env s i meet (dest.Reg file index) (λ bus. narrowed m file (OfSignal (Word bus)))
      (OfSignal (Keeps (KeptReg file index)))
      ∙ decide (λ b. value u h.memories env (narrowed m file (OfSignal (Word b)))) (λ b. as_kept m 0 env i file (env (Word b)))
      (narrow u m h env i file)
      (bus_of u m h env s i meet (dest.Reg file index)) (kept (by_long m s i.long) (KeptReg file index))
      (kept s.written (KeptReg file index)) (env (Keeps (KeptReg file index))) w
      (reg_unwritten m s i.long file index) (had (KeptReg file index) w refl there)
      (ap (λ o. option_or (option_or o (kept (by_long m s i.long) (KeptReg file index))) (kept s.written (KeptReg file index)))
      (sym (reg_written m (s.pc + 1 + m.control.delay) env i file index (numbers (length m.buses))))
      ∙ sym (kept_after (KeptReg file index)) ∙ is)

  pub operand_next : (unit w : ℕ) → has_place m (KeptOperand unit) ≡ true → kept (written_after m s i) (KeptOperand unit) ≡ Some w
      → env (Operand unit) ≡ w
  operand_next unit w there is =
      meet.settled.operand unit (within_list m.units unit there)
      ∙ arrives u m h env s i meet (dest.Operand unit) (λ bus. OfSignal (Word bus)) (OfSignal (Keeps (KeptOperand unit)))
      ∙ decide (λ b. env (Word b)) (λ b. env (Word b)) (λ b. refl)
      (bus_of u m h env s i meet (dest.Operand unit)) (kept (by_long m s i.long) (KeptOperand unit)) (kept s.written (KeptOperand unit))
      (env (Keeps (KeptOperand unit))) w
      (operand_unwritten m s i.long unit) (had (KeptOperand unit) w refl there)
      (ap (λ o. option_or (option_or o (kept (by_long m s i.long) (KeptOperand unit))) (kept s.written (KeptOperand unit)))
      (sym (operand_written m (s.pc + 1 + m.control.delay) env i unit (numbers (length m.buses))))
      ∙ sym (kept_after (KeptOperand unit)) ∙ is)

  imm_next : (unit index w : ℕ) → has_place m (KeptImm unit index) ≡ true → kept (written_after m s i) (KeptImm unit index) ≡ Some w
      → value u h.memories env (kept_next m (KeptImm unit index)) ≡ w
  imm_next unit index w there is =
      long_arrives u m h env s i meet unit index
      ∙ decide_long (kept (by_moves m (s.pc + 1 + m.control.delay) env i (numbers (length m.buses))) (KeptImm unit index))
      (long_of m unit index i.long) (kept s.written (KeptImm unit index))
      (env (Keeps (KeptImm unit index))) w
      (imm_unwritten m (s.pc + 1 + m.control.delay) env i unit index (numbers (length m.buses))) (had (KeptImm unit index) w refl there)
      (ap (λ o. option_or
      (option_or (kept (by_moves m (s.pc + 1 + m.control.delay) env i (numbers (length m.buses))) (KeptImm unit index)) o)
      (kept s.written (KeptImm unit index)))
      (sym (imm_written m s i.long unit index))
      ∙ sym (kept_after (KeptImm unit index)) ∙ is)

  ra_next : (w : ℕ) → h.words Pc ≡ s.pc → s.pc < 65536 → kept (written_after m s i) KeptRa ≡ Some w
      → value u h.memories env (kept_next m KeptRa) ≡ w
  ra_next w pc small is =
      ap (λ b. if b then (0 * 2 ^ m.control.address + env Pc + (1 + m.control.delay)) % 2 ^ 32 else env (Keeps KeptRa))
      (is_reached u m h env s i meet dest.Call)
      ∙ as_found (bus_of u m h env s i meet dest.Call) (env (Keeps KeptRa))
      ∙ decide (λ b. (0 * 2 ^ m.control.address + env Pc + (1 + m.control.delay)) % 2 ^ 32) (λ b. s.pc + 1 + m.control.delay) (λ b. sum)
      (bus_of u m h env s i meet dest.Call) (kept (by_long m s i.long) KeptRa) (kept s.written KeptRa) (env (Keeps KeptRa)) w
      (ra_unwritten m s i.long) (had KeptRa w refl refl)
      (ap (λ o. option_or (option_or o (kept (by_long m s i.long) KeptRa)) (kept s.written KeptRa))
      (sym (ra_written m (s.pc + 1 + m.control.delay) env i (numbers (length m.buses))))
      ∙ sym (kept_after KeptRa) ∙ is)
    where
      as_found : (o : Option ℕ) (self : ℕ)
          → (if is_some o then (0 * 2 ^ m.control.address + env Pc + (1 + m.control.delay)) % 2 ^ 32 else self)
          ≡ option_map_or (λ b. (0 * 2 ^ m.control.address + env Pc + (1 + m.control.delay)) % 2 ^ 32) o self
      as_found None self = refl
      as_found (Some b) self = refl

      most : m.control.delay ≤ 4
      most = delay_few m meet.rules

      none : (x y : ℕ) → 0 * x + y ≡ y
      none x y = omega arith

      low : (a d p : ℕ) → a ≡ p → p < 65536 → d ≤ 4 → (a + (1 + d)) % 2 ^ 32 ≡ p + 1 + d
      low a d p same less few = omega (arith, same, less, few)

      sum : (0 * 2 ^ m.control.address + env Pc + (1 + m.control.delay)) % 2 ^ 32 ≡ s.pc + 1 + m.control.delay
      sum = low (0 * 2 ^ m.control.address + env Pc) m.control.delay s.pc (none (2 ^ m.control.address) (env Pc) ∙ meet.settled.pc ∙ pc)
          small most

pub words_keep : WordsKeep
words_keep u m h env after s t i meet clocked pc small is p w can there at = clocked.places p there
    ∙ by p can there (ap (λ ws. kept ws p) (sym is) ∙ at) where
      by : (p : Place) → is_written p ≡ true → has_place m p ≡ true → kept (written_after m s i) p ≡ Some w
          → value u h.memories env (kept_next m p) ≡ w
      by (KeptReg file index) can there at = reg_next u m h env s i meet file index w there at
      by (KeptImm unit index) can there at = imm_next u m h env s i meet unit index w there at
      by (KeptOperand unit) can there at = operand_next u m h env s i meet unit w there at
      by KeptRa can there at = ra_next u m h env s i meet w pc small at
      by (KeptPort unit) can there at = absurd (false≢true can)

-- Which places have a word after a cycle: those that had one, and those that get one.
use Rattle.std.proofs.Common.{◌≡◌, ℕ, ◌+◌, ◌<◌, ◌==◌, Bool, true, false, ◌&&◌, ◌||◌, ◌++◌, length, map, filter, slice_get, Option, Some, None, refl, sym, ap, ◌∙◌, arith}
use Rattle.std.specs.Prelude.{is_some, option_map, nat_lt, ◌^◌}
use Rattle.std.specs.Option.{option_map_or, option_or}
use Rattle.std.specs.List.{find, filter_map, enumerate_from}
use Rattle.std.proofs.lemmas.Bool.{and_parts, false≢true, eq-eqb, ne_eqb, eqb-true}
use Rattle.std.proofs.lemmas.List.Elements.{filter_map-append}
use Rattle.tta_code.proofs.LegalParts.{legal_parts}
use Rattle.tta_arch.specs.declared.ends.Dest.TheVariants as dest
use Rattle.tta_circuit.specs.Circuit.{Signal as OfSignal}
use Rattle.tta_hardware.specs.Cited.{Units, Template, Dest, Machine, numbers, Place, KeptReg, KeptImm, KeptOperand, KeptRa, KeptPort, kept, write_of, bring, Long, Instruction, is_long, State, read_source, effect_of, moves_of, long_effects, template_width, Const, Equal, bit, is_set, value}
use Rattle.tta_hardware.specs.Signals.{TemplateOf, LongOf, Signal as Named, Fetched, Word, Expression}
use Rattle.tta_hardware.specs.Chains.{any_of}
use Rattle.tta_hardware.specs.Registers.{longs}
use Rattle.tta_hardware.specs.Wires.{reached}
use Rattle.tta_hardware.specs.Stands.{Hardware, is_written}
use Rattle.tta_hardware.specs.Laws.{Meet, carried, written_after}
use Rattle.tta_hardware.proofs.Bits.{template_some}
use Rattle.tta_hardware.proofs.Bringing.{within_list}
use Rattle.tta_hardware.proofs.Chained.{set_bit, some_if}
use Rattle.tta_hardware.proofs.Carrying.{buses_carry}
use Rattle.tta_hardware.proofs.Arriving.{bus_of, is_reached}
use Rattle.tta_hardware.proofs.Timed.{none_found, one_found}
use Rattle.tta_hardware.proofs.Writing.{kept_both, by_moves, as_kept, reg_written, operand_written, ra_written, imm_unwritten}
use Rattle.tta_hardware.proofs.Longs.{by_long, long_of, long_into, reg_unwritten, operand_unwritten, ra_unwritten, imm_written}
use Rattle.tta_trap.specs.Memory.{gets}
use Rattle.tta_trap.proofs.Tests.{or_none, some_or, any_set, any_made, any_finds}

-- ---- options

some_map : (f : ℕ → ℕ) (o : Option ℕ) → is_some (option_map f o) ≡ is_some o
some_map f None = refl
some_map f (Some x) = refl

module _ (u : Units) (m : Machine) (h : Hardware) (env : Named → ℕ) (s : State) (i : Instruction) (meet : Meet u m h env s i) where
  -- what moves write
  abbrev moved : Place → Option ℕ
  moved p = kept (by_moves m (s.pc + 1 + m.control.delay) env i (numbers (length m.buses))) p

  -- what is kept is what moves write, or the long immediate, or what was kept
  kept_after : (p : Place) → kept (written_after m s i) p ≡ option_or (option_or (moved p) (kept (by_long m s i.long) p)) (kept s.written p)
  kept_after p =
      ap (λ ws. kept ws p)
      (ap (λ bs. filter_map (write_of m (s.pc + 1 + m.control.delay)) bs ++ s.written)
      (filter_map-append (bring (read_source s)) (map effect_of (moves_of i)) (long_effects m i.long)
      ∙ ap (λ bs. bs ++ filter_map (bring (read_source s)) (long_effects m i.long)) (buses_carry u m h env s i meet))
      ∙ ap (λ ws. ws ++ s.written)
      (filter_map-append (write_of m (s.pc + 1 + m.control.delay)) (filter_map (carried env i) (numbers (length m.buses)))
      (filter_map (bring (read_source s)) (long_effects m i.long))))
      ∙ kept_both (by_moves m (s.pc + 1 + m.control.delay) env i (numbers (length m.buses)) ++ by_long m s i.long) s.written p
      ∙ ap (λ o. option_or o (kept s.written p))
      (kept_both (by_moves m (s.pc + 1 + m.control.delay) env i (numbers (length m.buses))) (by_long m s i.long) p)

  some_after : (p : Place) → is_some (kept (written_after m s i) p)
      ≡ ((is_some (moved p) || is_some (kept (by_long m s i.long) p)) || is_some (kept s.written p))
  some_after p =
      ap is_some (kept_after p) ∙ some_or (option_or (moved p) (kept (by_long m s i.long) p)) (kept s.written p)
      ∙ ap (λ b. b || is_some (kept s.written p)) (some_or (moved p) (kept (by_long m s i.long) p))

  -- ---- immediate registers

  module _ (unit index : ℕ) where
    abbrev writes : ℕ × Template → Bool
    writes t = t.1.imm == unit && t.1.reg == index

    abbrev has_code : ℕ → Bool
    has_code k = is_set (bit (env (Fetched TemplateOf) == k + 1))

    -- whether a template that writes the register is the instruction's
    abbrev told : Bool
    told = is_some (find (λ t. has_code t.0) (filter writes (enumerate_from 0 m.templates)))

    told_is : is_set (value u h.memories env (any_of (map (λ c. c.0) (longs m unit index)))) ≡ told
    told_is =
        any_set u h.memories env (λ (c : Expression × Expression). c.0) (longs m unit index)
        ∙ any_made (λ (c : Expression × Expression). is_set (value u h.memories env c.0))
        (λ (t : ℕ × Template). (Equal (OfSignal (Fetched TemplateOf)) (Const (template_width m) (t.0 + 1)), OfSignal (Fetched LongOf)))
        (filter writes (enumerate_from 0 m.templates))
        ∙ any_finds (λ (t : ℕ × Template). has_code t.0) (filter writes (enumerate_from 0 m.templates))

    long_told : told ≡ is_some (long_of m unit index i.long)
    long_told = by i.long refl where
      by : (o : Option Long) → i.long ≡ o → told ≡ is_some (long_of m unit index o)
      by None is =
          let zero_code : 0 < template_width m → env (Fetched TemplateOf) ≡ 0 = λ some. meet.fetched.template some
          ∙ ap (λ o. option_map_or (λ (l : Long). l.template + 1) o 0) is in
          ap is_some
          (none_found writes has_code m.templates 0 (λ k t at. set_bit (env (Fetched TemplateOf) == 0 + k + 1)
          ∙ ne_eqb (env (Fetched TemplateOf)) (0 + k + 1) (λ e.
          let z = zero_code (template_some m k (within_list m.templates k (ap is_some at))) in omega (arith, e, z))))
      by (Some l) is = of (slice_get m.templates l.template) refl exists where
        exists : is_some (slice_get m.templates l.template) ≡ true
        exists =
            (and_parts (is_some (slice_get m.templates l.template)) (nat_lt l.value (2 ^ 32))
            (sym (ap (λ o. option_map_or (is_long m) o true) is) ∙ (legal_parts m i meet.legal).long)).0

        code : env (Fetched TemplateOf) ≡ l.template + 1
        code = meet.fetched.template (template_some m l.template (within_list m.templates l.template exists))
            ∙ ap (λ o. option_map_or (λ (l : Long). l.template + 1) o 0) is

        same : (k : ℕ) (b : Bool) → (k == l.template) ≡ b → (env (Fetched TemplateOf) == k + 1) ≡ b
        same k true e = let z : k ≡ l.template = eqb-true k l.template e in
            eq-eqb (env (Fetched TemplateOf)) (k + 1) (omega (arith, code, z))
        same k false e = ne_eqb (env (Fetched TemplateOf)) (k + 1) (λ z.
            let w : k ≡ l.template = omega (arith, code, z) in absurd (false≢true (sym e ∙ eq-eqb k l.template w)))

        of : (q : Option Template) → slice_get m.templates l.template ≡ q → is_some q ≡ true
            → told ≡ is_some (long_into unit index q l.value)
        of None at some = absurd (false≢true some)
        of (Some t) at some =
            ap is_some
            (one_found writes has_code m.templates 0 l.template l.template t (omega arith) at
            (λ k x at'. set_bit (env (Fetched TemplateOf) == 0 + k + 1) ∙ same (0 + k) (0 + k == l.template) refl))
            ∙ some_if (t.imm == unit && t.reg == index) (l.template, t) ∙ sym (some_if (t.imm == unit && t.reg == index) l.value)

  -- ---- all places

  -- a place has a word after the cycle where it gets one or had one
  pub held : (p : Place) → is_written p ≡ true
      → is_some (kept (written_after m s i) p) ≡ (is_set (value u h.memories env (gets m p)) || is_some (kept s.written p))
  held p can = some_after p ∙ ap (λ b. b || is_some (kept s.written p)) (by p can) where
    by_move : (p : Place) (dst : Dest) → is_some (moved p) ≡ is_some (bus_of u m h env s i meet dst)
        → kept (by_long m s i.long) p ≡ None
        → (is_some (moved p) || is_some (kept (by_long m s i.long) p)) ≡ is_set (value u h.memories env (reached m dst))
    by_move p dst is none =
        ap (λ o. is_some (moved p) || is_some o) none ∙ or_none (is_some (moved p)) ∙ is ∙ sym (is_reached u m h env s i meet dst)

    back : ℕ
    back = s.pc + 1 + m.control.delay

    by : (p : Place) → is_written p ≡ true
        → (is_some (moved p) || is_some (kept (by_long m s i.long) p)) ≡ is_set (value u h.memories env (gets m p))
    by (KeptReg file index) can =
        by_move (KeptReg file index) (dest.Reg file index)
        (ap is_some (reg_written m back env i file index (numbers (length m.buses)))
        ∙ some_map (λ b. as_kept m back env i file (env (Word b))) (bus_of u m h env s i meet (dest.Reg file index)))
        (reg_unwritten m s i.long file index)
    by (KeptImm unit index) can =
        ap (λ o. is_some o || is_some (kept (by_long m s i.long) (KeptImm unit index)))
        (imm_unwritten m back env i unit index (numbers (length m.buses)))
        ∙ ap is_some (imm_written m s i.long unit index) ∙ sym (told_is unit index ∙ long_told unit index)
    by (KeptOperand unit) can =
        by_move (KeptOperand unit) (dest.Operand unit)
        (ap is_some (operand_written m back env i unit (numbers (length m.buses)))
        ∙ some_map (λ b. env (Word b)) (bus_of u m h env s i meet (dest.Operand unit)))
        (operand_unwritten m s i.long unit)
    by KeptRa can =
        by_move KeptRa dest.Call
        (ap is_some (ra_written m back env i (numbers (length m.buses))) ∙ some_map (λ b. back) (bus_of u m h env s i meet dest.Call))
        (ra_unwritten m s i.long)
    by (KeptPort unit) can = absurd (false≢true can)

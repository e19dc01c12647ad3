-- What the registers of a watch read, and every wire.
use Rattle.std.proofs.Common.{◌≡◌, ℕ, ◌+◌, ◌<◌, ◌≤◌, ◌==◌, Bool, true, false, ◌&&◌, length, map, filter, refl, arith}
use Rattle.std.specs.Prelude.{if◌then◌else◌, nat_lt}
use Rattle.std.specs.List.{enumerate_from}
use Rattle.std.proofs.lemmas.Bool.{and_parts, and_from, ltb-true, lt-ltb, ltb-false, false≢true}
use Rattle.tta_arch.specs.declared.parts.UnitOp.{UnitOp}
use Rattle.tta_arch.specs.declared.parts.Template.{Template}
use Rattle.tta_arch.specs.Fields.{template_width}
use Rattle.tta_arch.specs.declared.ends.Dest.TheVariants as dest
use Rattle.tta_circuit.proofs.Closed.{reads_wider}
use Rattle.tta_trap.specs.Cited.{Machine, IsMachine, Place, KeptReg, KeptImm, KeptOperand, KeptRa, KeptPort, Const, Signal, Equal, Fetched, Starts, Goes, Watch, HasWord, IsPast, LacksRegister, LacksPort, LacksOperand, Clashes, FaultNow, Watches, Expression, any_of, reached, begins, is_coming, longs, has_place, made_of, rank}
use Rattle.tta_hardware.specs.Wires.{timed}
use Rattle.tta_hardware.specs.Signals.{Signal as Named, TemplateOf, LongOf}
use Rattle.tta_hardware.proofs.Bits.{template_some}
use Rattle.tta_hardware.proofs.Bringing.{within_list}
use Rattle.tta_hardware.proofs.Ordered.{reads_lower}
use Rattle.tta_hardware.proofs.WiresFit.{all_map, kept_filter}
use Rattle.tta_hardware.proofs.RegistersFit.{numbered, weaker}
use Rattle.tta_hardware.proofs.PlainWires.{all_each}
use Rattle.tta_hardware.proofs.There.{is_there}
use Rattle.tta_hardware.proofs.OnlyThere.{begins_ok}
use Rattle.tta_hardware.proofs.WiresRead.{wire_ok}
use Rattle.tta_trap.specs.Memory.{gets, watch_next}
use Rattle.tta_trap.specs.Trap.{trap_made}
use Rattle.tta_trap.specs.Sized.{trap_rank}
use Rattle.tta_trap.proofs.Meets.{meets, any_reads}
use Rattle.tta_trap.proofs.Present.{trap_there, may, passes, ok, sig, both_ways}
use Rattle.tta_trap.proofs.WatchReads.{reached_reads, coming_reads, register_wire, port_wire, operand_wire, clashes_wire, fault_wire}

-- what stands before a rank stands before a higher one
pub later_too : (m : Machine) (j k : ℕ) → j ≤ k → (e : Expression) → ok m j e ≡ true → ok m k e ≡ true
later_too m j k le e is = reads_wider (may m j) (may m k) each e is where
  each : (n : Named) → may m j n ≡ true → may m k n ≡ true
  each n here =
      let p = and_parts (trap_there m n) (nat_lt (trap_rank n) j) here in
      and_from (trap_there m n) (nat_lt (trap_rank n) k) p.0
      (lt-ltb (trap_rank n) k (let less = ltb-true (trap_rank n) j p.1 in omega (arith, less, le)))

module _ (m : Machine) (rules : IsMachine m) where
  -- ---- registers

  -- whether an expression reads only what is there and stands before the fault
  abbrev all : Expression → Bool
  all e = ok m 6 e

  abbrev rank6 : Named → ℕ
  rank6 n = if may m 6 n then 0 else 1

  longs_read : (unit index : ℕ) → all (any_of (map (λ c. c.0) (longs m unit index))) ≡ true
  longs_read unit index =
      any_reads rank6 1 (λ (c : Expression × Expression). c.0) (longs m unit index)
      (all_map (λ (c : Expression × Expression). all c.0 ≡ true)
      (λ (t : ℕ × Template). (Equal (Signal (Fetched TemplateOf)) (Const (template_width m) (t.0 + 1)), Signal (Fetched LongOf)))
      (filter (λ t. t.1.imm == unit && t.1.reg == index) (enumerate_from 0 m.templates))
      (kept_filter (λ (t : ℕ × Template). all (Equal (Signal (Fetched TemplateOf)) (Const (template_width m) (t.0 + 1))) ≡ true)
      (λ t. t.1.imm == unit && t.1.reg == index) (enumerate_from 0 m.templates)
      (weaker (λ (t : ℕ × Template). t.0 < length m.templates)
      (λ t. all (Equal (Signal (Fetched TemplateOf)) (Const (template_width m) (t.0 + 1))) ≡ true) (enumerate_from 0 m.templates)
      (λ t less. and_from (all (Signal (Fetched TemplateOf))) true
      (sig m 6 (Fetched TemplateOf) (lt-ltb 0 (template_width m) (template_some m t.0 less)) refl) refl)
      (numbered (length m.templates) 0 m.templates (omega arith)))))

  begins_read : (unit latency : ℕ) → all (begins m unit latency) ≡ true
  begins_read unit latency =
      both_ways m 6 (begins m unit latency) (begins_ok m unit latency)
      (any_reads trap_rank 6 (λ (o : ℕ × UnitOp). Signal (Starts unit o.0)) (timed m unit latency)
      (all_each _ (timed m unit latency) (λ o. refl)))

  gets_read : (p : Place) → has_place m p ≡ true → all (gets m p) ≡ true
  gets_read (KeptReg file index) has =
      later_too m 5 6 (omega arith) (reached m (dest.Reg file index)) (reached_reads m rules (dest.Reg file index))
  gets_read (KeptImm unit index) has = longs_read unit index
  gets_read (KeptOperand unit) has =
      later_too m 5 6 (omega arith) (reached m (dest.Operand unit)) (reached_reads m rules (dest.Operand unit))
  gets_read KeptRa has = later_too m 5 6 (omega arith) (reached m dest.Call) (reached_reads m rules dest.Call)
  gets_read (KeptPort unit) has =
      and_from (all (begins m unit 1)) (all (is_coming m unit 1)) (begins_read unit 1)
      (later_too m 5 6 (omega arith) (is_coming m unit 1) (coming_reads m rules unit 1 (within_list m.units unit has) (omega arith)))

  -- what such a register becomes
  pub watch_reads : (w : Watch) → trap_there m (Watches w) ≡ true → ok m 6 (watch_next m w) ≡ true
  watch_reads (HasWord p) has =
      and_from (all (gets m p)) (all (Signal (Watches (HasWord p)))) (gets_read p has) (sig m 6 (Watches (HasWord p)) has refl)
  watch_reads IsPast has = refl
  watch_reads (LacksRegister bus) has = refl
  watch_reads (LacksPort bus) has = refl
  watch_reads (LacksOperand unit) has = refl
  watch_reads (Clashes unit) has = refl
  watch_reads FaultNow has = refl

  -- ---- wires

  -- ranks rise where a watch stands between wires
  abbrev raised : ℕ → ℕ
  raised k = if nat_lt k 6 then k else k + 1

  raises : (a b : ℕ) → a < b → raised a < raised b
  raises a b less = by (nat_lt a 6) refl (nat_lt b 6) refl where
    by : (p : Bool) → nat_lt a 6 ≡ p → (q : Bool) → nat_lt b 6 ≡ q → (if p then a else a + 1) < (if q then b else b + 1)
    by true low true high = less
    by true low false high = omega (arith, less)
    by false low true high =
        let x = ltb-false a 6 low in let y = ltb-true b 6 high in absurd (omega (arith, less, x, y))
    by false low false high = omega (arith, less)

  raised_rank : (n : Named) → is_there m n ≡ true → trap_rank n ≡ raised (rank n)
  raised_rank (Watches w) is = absurd (false≢true is)
  raised_rank n is = refl

  -- a wire that a circuit without a watch has, too
  plain_wire : (n : Named) → is_there m n ≡ true → ok m (trap_rank n) (made_of m n) ≡ true
  plain_wire n is =
      both_ways m (trap_rank n) (made_of m n) (wire_ok m rules n is)
      (meets (λ k. if is_there m k then 0 else 1) rank trap_rank 1 (rank n) (trap_rank n) each (made_of m n) (wire_ok m rules n is)
      (reads_lower m n))
    where
      each : (k : Named) → (if is_there m k then 0 else 1) < 1 → rank k < rank n → trap_rank k < trap_rank n
      each k here less =
          let a = raised_rank k (passes (is_there m k) here) in let b = raised_rank n is in
          let up = raises (rank k) (rank n) less in omega (arith, a, b, up)

  -- Each wire reads only what is there and stands before it.
  pub wire_reads : (count : ℕ) (n : Named) → trap_there m n ≡ true → ok m (trap_rank n) (trap_made m count n) ≡ true
  wire_reads count (Watches (HasWord p)) is = refl
  wire_reads count (Watches IsPast) is = refl
  wire_reads count (Watches (LacksRegister bus)) is = register_wire m rules count bus (ltb-true bus (length m.buses) is)
  wire_reads count (Watches (LacksPort bus)) is = port_wire m rules count bus (ltb-true bus (length m.buses) is)
  wire_reads count (Watches (LacksOperand unit)) is = operand_wire m rules count unit (ltb-true unit (length m.units) is)
  wire_reads count (Watches (Clashes unit)) is = clashes_wire m rules count unit (ltb-true unit (length m.units) is)
  wire_reads count (Watches FaultNow) is = fault_wire m rules count
  wire_reads count Goes is = refl
  wire_reads count n is = plain_wire n is

-- A circuit that leaves operations to modules reads only signals that it has.
use Rattle.std.proofs.Common.{◌≡◌, ℕ, Bool, true, false, List, [], ◌∷◌, map, Option, Some, None, refl, sym, ap, ◌∙◌, subst}
use Rattle.std.specs.List.{AllByRecursion}
use Rattle.std.proofs.lemmas.Bool.{and_from}
use Rattle.tta_boxed.specs.Cited.{Machine, Circuit, Register, Signal, IsClosed, Store, IsReset, Goes, Expression, never, same_signal}
use Rattle.tta_circuit.specs.Circuit.{Memory, WritePort}
use Rattle.tta_circuit.specs.Closed.{reads_only, PortReads}
use Rattle.tta_circuit.proofs.Closed.{reads_wider}
use Rattle.tta_hardware.specs.Signals.{Signal as Named}
use Rattle.tta_hardware.proofs.WiresFit.{both_lists, all_map}
use Rattle.tta_hardware.proofs.RegistersFit.{weaker}
use Rattle.tta_hardware.proofs.There.{is_there}
use Rattle.tta_trap.proofs.Meets.{select_reads}
use Rattle.tta_boxed.specs.Boxed.{from_next, boxed_register, box_registers, boxed}
use Rattle.tta_boxed.specs.Sized.{BoxedIsClosed}
use Rattle.tta_boxed.specs.Theorem.{whole}
use Rattle.tta_boxed.proofs.Early.{is_slow}
use Rattle.tta_boxed.proofs.Wholes.{RegisterEarly, IsWhole, wholes}
use Rattle.tta_boxed.proofs.Registers.{same_register, same_enable, of_boxes}
use Rattle.tta_boxed.proofs.Sound.{IsSound, sound}
use Rattle.tta_boxed.proofs.Closing.{gap, ok, has, had, has_more, sig, slow_ok, from_next_ok}

-- what holds of three lists that are made of one another
pub three_lists : {A : Type 0} (P Q R S : A → Type 0) (xs : List A) → ((x : A) → P x → Q x → R x → S x) → AllByRecursion P xs
    → AllByRecursion Q xs → AllByRecursion R xs → AllByRecursion S xs
three_lists P Q R S [] each p q r = tt
three_lists P Q R S (x ∷ xs) each p q r = (each x p.0 q.0 r.0, three_lists P Q R S xs each p.1 q.1 r.1)

module _ (m : Machine) (leaves : ℕ → Bool) (d : Circuit Named Store) (w : IsWhole m d) (s : IsSound m d) where
  abbrev Has : Named → Bool
  Has n = has m leaves d w s n

  abbrev Had : Named → Bool
  Had n = had m leaves d w s n

  abbrev Reads : Register Named Store → Type 0
  Reads r = (reads_only Has r.enable ≡ true) × (reads_only Has r.next ≡ true)

  wider : (e : Expression) → reads_only Had e ≡ true → reads_only Has e ≡ true
  wider e is = reads_wider Had Has (has_more m leaves d w s) e is

  one_reads : (r : Register Named Store) → RegisterEarly m r → (is_slow r.name ≡ true → is_there m r.name ≡ true)
      → (reads_only Had r.enable ≡ true) × (reads_only Had r.next ≡ true) → Reads (boxed_register m leaves r)
  one_reads r early is reads = by (is_slow r.name) refl where
    by : (b : Bool) → is_slow r.name ≡ b → Reads (boxed_register m leaves r)
    by true slow = (
      ap (λ (e : Expression). reads_only Has e) (same_enable m leaves r) ∙ wider r.enable reads.0,
      ap (λ (x : Register Named Store). reads_only Has (boxed_register m leaves x).next) (early.1.1 slow)
          ∙ slow_ok m leaves d w s r.name slow (is slow),
    )
    by false slow = subst Reads (sym (same_register m leaves r slow)) (wider r.enable reads.0, wider r.next reads.1)

  port_reads : (p : Option (WritePort Named Store)) → PortReads Had p → PortReads Has p
  port_reads None is = tt
  port_reads (Some p) is = (wider p.enable is.0, (wider p.address is.1.0, wider p.word is.1.1))

  pub boxed_closed : IsClosed same_signal (boxed m leaves d)
  boxed_closed = record {
    wires = weaker (λ w. reads_only Had w.word ≡ true) (λ w. reads_only Has w.word ≡ true) d.wires (λ w is. wider w.word is)
        s.closed.wires;
    registers = both_lists Reads (map (boxed_register m leaves) d.registers) (box_registers m leaves)
        (all_map Reads (boxed_register m leaves) d.registers
        (three_lists (RegisterEarly m) (λ r. is_slow r.name ≡ true → is_there m r.name ≡ true)
        (λ r. (reads_only Had r.enable ≡ true) × (reads_only Had r.next ≡ true)) (λ r. Reads (boxed_register m leaves r)) d.registers
        one_reads w.registers s.there s.closed.registers))
        (of_boxes m leaves Reads (λ unit op o at left delay. (
          and_from (ok m leaves d w s (Signal IsReset)) (ok m leaves d w s (Signal Goes)) (sig m leaves d w s IsReset refl)
              (sig m leaves d w s Goes refl),
          select_reads (gap m leaves d w s) 1 (Signal IsReset) never (from_next m leaves unit op o.latency delay)
              (sig m leaves d w s IsReset refl) refl (from_next_ok m leaves d w s unit op o at left delay),
        )));
    memories = weaker (λ (x : Memory Named Store). PortReads Had x.port) (λ x. PortReads Has x.port) d.memories
        (λ x is. port_reads x.port is) s.closed.memories;
  }

pub boxed_is_closed : BoxedIsClosed
boxed_is_closed m leaves faults code memory rules =
    boxed_closed m leaves (whole faults m code memory) (wholes m rules code memory faults) (sound m rules code memory faults)

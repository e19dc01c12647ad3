-- The circuit of a machine is plain.
use Rattle.std.proofs.Common.{ℕ, Bool, true, false, List, [], ◌∷◌, ◌-◌, map, refl, arith}
use Rattle.std.specs.Prelude.{if◌then◌else◌}
use Rattle.std.specs.List.{flat_map, enumerate_from, range_with_len, AllByRecursion}
use Rattle.std.proofs.lemmas.Bool.{ltb-true}
use Rattle.tta_arch.specs.declared.parts.Unit.{Unit as OpUnit}
use Rattle.tta_hardware.specs.Cited.{UnitOp, Stw, Stf, Machine, IsMachine, same_op, numbers, Place, KeptReg, KeptImm, KeptOperand, KeptRa, KeptPort, WritePort, IsWrittenWire, IsWrittenRegister, IsWrittenPort, IsPlain}
use Rattle.tta_code.specs.declared.code.Code.{Code as Program}
use Rattle.tta_hardware.specs.Signals.{Store, Signal as Named, Pc, HasHalted, Underway, Goal, Ends, Keeps, IsDue, Due, HasBegun, Raw, IsInside, Whole}
use Rattle.tta_hardware.specs.Wires.{is_load, longest}
use Rattle.tta_hardware.specs.Registers.{register}
use Rattle.tta_hardware.specs.Hardware.{wire_names, result_registers, load_registers, unit_registers, register_names, wire, circuit_of}
use Rattle.tta_hardware.specs.Sized.{signal_width, store_width, RegistersFit, PortFits, CircuitIsPlain}
use Rattle.tta_hardware.proofs.Bits.{word_some, address_some}
use Rattle.tta_hardware.proofs.Ordered.{in_order}
use Rattle.tta_hardware.proofs.WiresFit.{both_lists, all_map, file_bits}
use Rattle.tta_hardware.proofs.RegistersFit.{registers_fit}
use Rattle.tta_hardware.proofs.PlainWires.{all_made, every_piece, written, names_written}

module _ (m : Machine) (rules : IsMachine m) where
  -- ---- registers

  registers : RegistersFit m
  registers = registers_fit m rules

  abbrev Registered : Named → Type 0
  Registered n = IsWrittenRegister (signal_width m) (store_width m) (register m n)

  place_written : (p : Place) → Registered (Keeps p)
  place_written (KeptReg file index) = record {
    some = ltb-true 0 _ (file_bits m rules file);
    wide = refl;
    enable = written m rules _ _ (registers.enables (Keeps (KeptReg file index)));
    next = written m rules _ _ (registers.places (KeptReg file index));
  }
  place_written (KeptImm unit index) = record {
    some = omega arith;
    wide = refl;
    enable = written m rules _ _ (registers.enables (Keeps (KeptImm unit index)));
    next = written m rules _ _ (registers.places (KeptImm unit index));
  }
  place_written (KeptOperand unit) = record {
    some = omega arith;
    wide = refl;
    enable = written m rules _ _ (registers.enables (Keeps (KeptOperand unit)));
    next = written m rules _ _ (registers.places (KeptOperand unit));
  }
  place_written KeptRa = record {
    some = omega arith;
    wide = refl;
    enable = written m rules _ _ (registers.enables (Keeps KeptRa));
    next = written m rules _ _ (registers.places KeptRa);
  }
  place_written (KeptPort unit) = record {
    some = omega arith;
    wide = refl;
    enable = written m rules _ _ (registers.enables (Keeps (KeptPort unit)));
    next = written m rules _ _ (registers.places (KeptPort unit));
  }

  load_written : (unit : ℕ) (x : ℕ × UnitOp) → AllByRecursion Registered (load_registers unit x)
  load_written unit x = by (is_load x.1.op) where
    by : (b : Bool) → AllByRecursion Registered (if b then HasBegun unit x.0 ∷ Raw unit x.0 ∷ IsInside unit x.0 ∷ [] else [])
    by true = (
      record {
        some = omega arith;
        wide = refl;
        enable = written m rules _ _ (registers.enables (HasBegun unit x.0));
        next = written m rules _ _ (registers.begun unit x.0);
      },
      (
        record {
          some = omega arith;
          wide = refl;
          enable = written m rules _ _ (registers.enables (Raw unit x.0));
          next = written m rules _ _ (registers.raw unit x.0);
        },
        (
          record {
            some = omega arith;
            wide = refl;
            enable = written m rules _ _ (registers.enables (IsInside unit x.0));
            next = written m rules _ _ (registers.inside unit x.0);
          },
          tt,
        ),
      ),
    )
    by false = tt

  unit_registered : (x : ℕ × OpUnit) → AllByRecursion Registered (unit_registers m x)
  unit_registered x =
      both_lists Registered (result_registers m x.0) (flat_map (load_registers x.0) (enumerate_from 0 x.1.ops))
      (both_lists Registered (Keeps (KeptOperand x.0) ∷ Keeps (KeptPort x.0) ∷ map (IsDue x.0) (range_with_len 1 (longest m x.0 - 1)))
      (map (Due x.0) (range_with_len 1 (longest m x.0 - 1))) (
        place_written (KeptOperand x.0),
        (
          place_written (KeptPort x.0),
          all_made Registered (IsDue x.0) (range_with_len 1 (longest m x.0 - 1)) (λ delay. record {
            some = omega arith;
            wide = refl;
            enable = written m rules _ _ (registers.enables (IsDue x.0 delay));
            next = written m rules _ _ (registers.is_due x.0 delay);
          }),
        ),
      )
      (all_made Registered (Due x.0) (range_with_len 1 (longest m x.0 - 1)) (λ delay. record {
        some = omega arith;
        wide = refl;
        enable = written m rules _ _ (registers.enables (Due x.0 delay));
        next = written m rules _ _ (registers.due x.0 delay);
      })))
      (every_piece Registered (load_registers x.0) (enumerate_from 0 x.1.ops) (load_written x.0))

  alone_written : AllByRecursion Registered (Keeps KeptRa ∷ Pc ∷ Whole ∷ HasHalted ∷ Goal ∷ Ends ∷ [])
  alone_written = (
    place_written KeptRa,
    (
      record {
        some = address_some m rules;
        wide = refl;
        enable = written m rules _ _ (registers.enables Pc);
        next =
            written m rules _ _ registers.pc;
      },
      (
        record {
          some = word_some m rules;
          wide = refl;
          enable = written m rules _ _ (registers.enables Whole);
          next =
              written m rules _ _ registers.whole;
        },
        (
          record {
            some = omega arith;
            wide = refl;
            enable = written m rules _ _ (registers.enables HasHalted);
            next =
                written m rules _ _ registers.halted;
          },
          (
            record {
              some = omega arith;
              wide = refl;
              enable = written m rules _ _ (registers.enables Goal);
              next =
                  written m rules _ _ registers.goal;
            },
            (
              record {
                some = omega arith;
                wide = refl;
                enable = written m rules _ _ (registers.enables Ends);
                next =
                    written m rules _ _ registers.ends;
              },
              tt,
            ),
          ),
        ),
      ),
    ),
  )

  names_registered : AllByRecursion Registered (register_names m)
  names_registered =
      both_lists Registered _ (Keeps KeptRa ∷ Pc ∷ Whole ∷ HasHalted ∷ Goal ∷ Ends ∷ [])
      (both_lists Registered _ (map Underway (range_with_len 1 m.control.delay))
      (both_lists Registered _ (flat_map (unit_registers m) (enumerate_from 0 m.units))
      (both_lists Registered _ (flat_map (λ i. map (λ index. Keeps (KeptImm i.0 index)) (numbers i.1.size)) (enumerate_from 0 m.imms))
      (every_piece Registered (λ f. map (λ index. Keeps (KeptReg f.0 index)) (numbers f.1.size)) (enumerate_from 0 m.files)
      (λ f. all_made Registered (λ index. Keeps (KeptReg f.0 index)) (numbers f.1.size) (λ index. place_written (KeptReg f.0 index))))
      (every_piece Registered (λ i. map (λ index. Keeps (KeptImm i.0 index)) (numbers i.1.size)) (enumerate_from 0 m.imms)
      (λ i. all_made Registered (λ index. Keeps (KeptImm i.0 index)) (numbers i.1.size) (λ index. place_written (KeptImm i.0 index)))))
      (every_piece Registered (unit_registers m) (enumerate_from 0 m.units) unit_registered))
      (all_made Registered Underway (range_with_len 1 m.control.delay) (λ delay. record {
        some = omega arith;
        wide = refl;
        enable = written m rules _ _ (registers.enables (Underway delay));
        next = written m rules _ _ (registers.underway delay);
      })))
      alone_written

  -- ---- memories

  port_is : (p : WritePort Named Store) → PortFits m p → IsWrittenPort (signal_width m) (store_width m) 32 p
  port_is p f = record {
    enable = written m rules _ _ f.enable;
    address = record { plain = f.address.plain; sized = f.address.sized; wide = refl };
    word = written m rules _ _ f.word;
  }

  pub plain : (code : Program) (memory : List ℕ) → IsPlain (signal_width m) (store_width m) (circuit_of m code memory)
  plain code memory = record {
    inputs = ((omega arith, refl), ((omega arith, refl), ((omega arith, refl), ((omega arith, refl), tt))));
    wires = all_map (IsWrittenWire (signal_width m) (store_width m)) (wire m) (wire_names m) (names_written m rules);
    registers = all_map (IsWrittenRegister (signal_width m) (store_width m)) (register m) (register_names m) names_registered;
    memories = (
      record { some = word_some m rules; wide = refl; port = tt },
      (
        record { some = omega arith; wide = refl; port = port_is _ (registers.stores (same_op Stw)) },
        (record { some = omega arith; wide = refl; port = port_is _ (registers.frame_stores (same_op Stf)) }, tt),
      ),
    );
  }

pub circuit_is_plain : CircuitIsPlain
circuit_is_plain m code memory rules = (plain m rules code memory, in_order m)

-- What is known of a circuit and a state whose next cycle is no fault.
use Rattle.std.proofs.Common.{◌≡◌, ℕ, ◌≤◌, ◌<◌, ◌^◌, true, false, [], ◌∷◌, Some, None, slice_get, ap, arith}
use Rattle.std.specs.Prelude.{is_some, IsTrue}
use Rattle.std.specs.List.{list_any}
use Rattle.tta_arch.proofs.Widths.{pow_le}
use Rattle.tta_list.proofs.Lists.{all_one}
use Rattle.tta_hardware.specs.Cited.{Units, Machine, IsMachine, lacks_operand, Instruction, is_legal, IsLegalCode, State, fault_of, first_fault, effects_of, clashes, jumps_in_delay, reads_unset_register, reads_unset_port}
use Rattle.tta_arch.proofs.Facts.{address_most}
use Rattle.tta_code.specs.declared.code.Code.{Code as Program}
use Rattle.tta_hardware.specs.Signals.{Signal as Named, Pc}
use Rattle.tta_hardware.specs.Stands.{Hardware, StandsFor, IsSettled}
use Rattle.tta_hardware.specs.Laws.{Meet, Streams, brought, started_in}
use Rattle.tta_hardware.proofs.Bringing.{within_list}
use Rattle.tta_hardware.proofs.Fetching.{fetch_alike}
use Rattle.tta_hardware.proofs.Spaces.{streams_alike}
use Rattle.tta_hardware.proofs.Faultless.{no_first}

module _ (u : Units) (m : Machine) (code : Program) (h : Hardware) (env : Named → ℕ) (s : State) (rules : IsMachine m)
    (legal : IsLegalCode m code) (stands : StandsFor m code h s) (settled : IsSettled u m h env)
    (i : Instruction) (at : slice_get code.words s.pc ≡ Some i)
    (no_fault : fault_of s (effects_of m i) (brought m s i) (started_in m s i) ≡ None) where
  first : (list_any (reads_unset_register s) (effects_of m i) ≡ false)
      × (first_fault ((list_any (reads_unset_port s) (effects_of m i), 61) ∷ (list_any lacks_operand (started_in m s i), 62) ∷
      (list_any (clashes s) (started_in m s i), 63)
      ∷ (jumps_in_delay s (brought m s i), 64) ∷ []) ≡ None)
  first = no_first (list_any (reads_unset_register s) (effects_of m i)) 60
      ((list_any (reads_unset_port s) (effects_of m i), 61) ∷ (list_any lacks_operand (started_in m s i), 62) ∷
      (list_any (clashes s) (started_in m s i), 63)
      ∷ (jumps_in_delay s (brought m s i), 64) ∷ []) no_fault

  second : (list_any (reads_unset_port s) (effects_of m i) ≡ false)
      × (first_fault
      ((list_any lacks_operand (started_in m s i), 62) ∷ (list_any (clashes s) (started_in m s i), 63) ∷
      (jumps_in_delay s (brought m s i), 64) ∷ []) ≡ None)
  second = no_first (list_any (reads_unset_port s) (effects_of m i)) 61
      ((list_any lacks_operand (started_in m s i), 62) ∷ (list_any (clashes s) (started_in m s i), 63) ∷
      (jumps_in_delay s (brought m s i), 64) ∷ []) first.1

  pub third : (list_any lacks_operand (started_in m s i) ≡ false)
      × (first_fault ((list_any (clashes s) (started_in m s i), 63) ∷ (jumps_in_delay s (brought m s i), 64) ∷ []) ≡ None)
  third = no_first (list_any lacks_operand (started_in m s i)) 62
      ((list_any (clashes s) (started_in m s i), 63) ∷ (jumps_in_delay s (brought m s i), 64) ∷ []) second.1

  pub fourth : (list_any (clashes s) (started_in m s i) ≡ false) × (first_fault ((jumps_in_delay s (brought m s i), 64) ∷ []) ≡ None)
  fourth = no_first (list_any (clashes s) (started_in m s i)) 63 ((jumps_in_delay s (brought m s i), 64) ∷ []) third.1

  pub fifth : (jumps_in_delay s (brought m s i) ≡ false) × (first_fault [] ≡ None)
  fifth = no_first (jumps_in_delay s (brought m s i)) 64 [] fourth.1

  is_legal_here : is_legal m i ≡ true
  is_legal_here = all_one (λ i. IsTrue (is_legal m i)) code.words s.pc i legal.words at

  pub meet : Meet u m h env s i
  meet = record {
    rules = rules;
    legal = is_legal_here;
    settled = settled;
    words = stands.words;
    ports = stands.ports;
    fetched = (fetch_alike u m code h env s i rules settled stands.pc (stands.whole i at) legal at).0;
    lacks = (first.0, second.0);
  }

  pub pc_is : h.words Pc ≡ s.pc
  pc_is = (fetch_alike u m code h env s i rules settled stands.pc (stands.whole i at) legal at).1

  pub small : s.pc < 65536
  small =
      let inside = within_list code.words s.pc (ap is_some at) in
      let most : 2 ^ m.control.address ≤ 2 ^ 16 = pow_le m.control.address 16 (address_most m rules) in
      omega (arith, inside, legal.room, most)

  pub streams : Streams env s (started_in m s i)
  streams = streams_alike u m h env s i meet third.0

-- A decoded instruction can be carried out where its moves give no fault, and brings what they bring.
use Rattle.std.proofs.Common.{◌≡◌, ℕ, ◌≤◌, Bool, true, false, not, ◌&&◌, ◌||◌, List, [], ◌∷◌, ◌++◌, length, map, Option, Some, refl, sym, ap, ◌∙◌, arith}
use Rattle.std.specs.Prelude.{is_none, is_some, option_to_list, if◌then◌else◌}
use Rattle.std.specs.List.{list_any, filter_map, AllByRecursion}
use Rattle.std.proofs.lemmas.List.Elements.{filter_map-append}
use Rattle.std.proofs.lemmas.List.Folds.{list_any-append}
use Rattle.std.proofs.lemmas.List.{map-append}
use Rattle.tta_sim.specs.Cited.{Machine, Start, write_of, lacks_operand, first_some, is_port, has_unset, Move, Instruction, effect_of, moves_of, first_fault}
use Rattle.tta_sim.specs.declared.decoded.Line.{Line}
use Rattle.tta_sim.specs.declared.lines.Write.{Write}
use Rattle.tta_sim.specs.Results.{Results, shown_by}
use Rattle.tta_sim.specs.Moves.{Arrival, reads_of, lacks_register, arrivals_of, brought_of}
use Rattle.tta_sim.specs.Starts.{operand_with, starts_of, is_stopped, clashes_with, fault_in, acting_in, AreReachable}
use Rattle.tta_sim.specs.Writing.{long_writes, is_long_place, numbered, numbered_one}
use Rattle.tta_sim.specs.Decoded.{reading_of, write_decoded, long_decoded, has_operation, line_of}
use Rattle.tta_sim.specs.Lines.{is_unread, write_brought, start_brought, control_brought, operand_in, cannot_start, is_ready}
use Rattle.tta_sim.proofs.Faulting.{stopped_by}
use Rattle.tta_sim.proofs.Brought.{unread_moves, unread_writes, unread_starts, unread_controls, unread_parts, writes_in, long_in, long_unread, starts_in, controls_in, cannot_all, operand_same, starts_alike}
use Rattle.tta_list.proofs.Lists.{any_none as all_false}

-- ---- a whole instruction

module _ (m : Machine) (back : ℕ) (places : List (Option ℕ)) (r : Results) (i : Instruction)
    (there : AllByRecursion (λ v. has_operation m v ≡ true) (moves_of i)) (units : length m.units ≤ 32)
    (reached : AreReachable (length m.units) (arrivals_of (reads_of places (shown_by r)) i.moves)) (placed : is_long_place m i.long ≡ true) where
  -- the moves of the instruction, without the empty slots
  abbrev ms : List Move
  ms = moves_of i

  -- the words that these moves bring to their destinations
  abbrev arrivals : List Arrival
  arrivals = arrivals_of (reads_of places (shown_by r)) i.moves

  -- the instruction as it is decoded
  abbrev line : Line
  line = line_of m back i

  -- the words that the instruction brings to registers, operand ports and the return address
  abbrev brought : List Write
  brought = filter_map (write_brought places (shown_by r)) line.writes

  -- the word in the operand port of a unit once these are written
  abbrev operand : ℕ → Option ℕ
  operand = operand_in places brought

  -- whether any of the moves cannot be read
  abbrev pub all_unread : Bool
  all_unread = list_any (λ v. is_unread places (shown_by r) (reading_of v)) ms

  module _ (could : all_unread ≡ false) where
    pub brought_is : brought ≡ numbered (filter_map (write_of m back) (map brought_of arrivals) ++ long_writes m i.long)
    brought_is =
        filter_map-append (write_brought places (shown_by r)) (filter_map (write_decoded m back) ms) (option_to_list (long_decoded m i.long))
        ∙ ap (λ ws. ws ++ filter_map (write_brought places (shown_by r)) (option_to_list (long_decoded m i.long)))
        (writes_in m back places r ms (all_false (λ v. is_unread places (shown_by r) (reading_of v)) ms could))
        ∙ ap (λ ws. numbered (filter_map (write_of m back) (map brought_of arrivals)) ++ ws) (long_in m back places r i.long)
        ∙ sym (map-append numbered_one (filter_map (write_of m back) (map brought_of arrivals)) (long_writes m i.long))

    pub starts_are : filter_map (start_brought places (shown_by r) operand) line.starts ≡ starts_of m places arrivals
    starts_are =
        starts_in m back places r operand ms
        ∙ starts_alike m operand (operand_with places arrivals) (length m.units)
        (λ unit within. ap (λ ws. operand_in places ws unit) brought_is
        ∙ operand_same m back places unit (length m.units) (omega (arith, within, units)) arrivals reached i.long placed) arrivals reached

  -- ---- faults

  -- whether a register that was never written is read, guards included
  abbrev lacks : Bool
  lacks = list_any (lacks_register (reads_of places (shown_by r))) (map effect_of ms)

  -- whether a result port is read that shows no result yet
  abbrev lacks_port : Bool
  lacks_port = list_any (has_unset (reads_of places (shown_by r)) is_port) (map effect_of ms)

  -- the operations that the instruction starts
  abbrev starts : List Start
  starts = starts_of m places arrivals

  faultless : (a b c d e : Bool) → is_none (first_fault ((a, 60) ∷ (b, 61) ∷ (c, 62) ∷ (d, 63) ∷ (e, 64) ∷ [])) ≡ (not (a || b) && (not (c || d) && not e))
  faultless true b c d e = refl
  faultless false true c d e = refl
  faultless false false true d e = refl
  faultless false false false true e = refl
  faultless false false false false true = refl
  faultless false false false false false = refl

  -- no fault: all can be read, all operations start, and no control move acts in a delay
  none_is : (is_pending : Bool) → is_none (fault_in m places r is_pending i.moves)
      ≡ (not all_unread && (not (list_any (is_stopped r) starts) && not (is_some (acting_in arrivals) && is_pending)))
  none_is is_pending =
      faultless lacks lacks_port (list_any lacks_operand starts) (list_any (clashes_with r) starts) (is_some (acting_in arrivals) && is_pending)
      ∙ ap (λ b. not b && (not (list_any lacks_operand starts || list_any (clashes_with r) starts) && not (is_some (acting_in arrivals) && is_pending))) (sym (unread_moves m back places r ms))
      ∙ ap (λ b. not all_unread && (not b && not (is_some (acting_in arrivals) && is_pending))) (sym (stopped_by r starts))

  -- whether any write of the moves, to a register, an operand port or the return address, cannot be read
  abbrev w : Bool
  w = unread_writes m back places r ms

  -- whether any of the moves that goes to the trigger port of a unit cannot be read
  abbrev s : Bool
  s = unread_starts m back places r ms

  -- whether any of the moves that goes to control's trigger port cannot be read
  abbrev t : Bool
  t = unread_controls m back places r ms

  or_false : (b : Bool) → (b || false) ≡ b
  or_false true = refl
  or_false false = refl

  line_unread : list_any (λ w. is_unread places (shown_by r) w.reading) line.writes ≡ w
  line_unread =
      list_any-append (λ w. is_unread places (shown_by r) w.reading) (filter_map (write_decoded m back) ms) (option_to_list (long_decoded m i.long))
      ∙ ap (λ b. w || b) (long_unread m back places r i.long) ∙ or_false w

  ready_parts : (is_pending : Bool) → is_ready places r is_pending line
      ≡ (not w && (not (s || list_any (is_stopped r) (filter_map (start_brought places (shown_by r) operand) line.starts)) && (not t && not (is_pending && is_some (acting_in arrivals)))))
  ready_parts is_pending =
      ap (λ b. not b && (not (list_any (cannot_start places r operand) line.starts) && (not t && not (is_pending && is_some (first_some (control_brought places (shown_by r)) line.controls))))) line_unread
      ∙ ap (λ b. not w && (not b && (not t && not (is_pending && is_some (first_some (control_brought places (shown_by r)) line.controls))))) (cannot_all m back places r operand line.starts)
      ∙ ap (λ o. not w && (not (s || list_any (is_stopped r) (filter_map (start_brought places (shown_by r) operand) line.starts)) && (not t && not (is_pending && is_some o)))) (controls_in m back places r ms)

  unread_is : all_unread ≡ (w || (s || t))
  unread_is = unread_parts m back places r ms there

  -- a line is ready exactly where the instruction gives no fault
  pub ready_is : (is_pending : Bool) → is_ready places r is_pending line ≡ is_none (fault_in m places r is_pending i.moves)
  ready_is is_pending = elim all_unread as (λ b. all_unread ≡ b → is_ready places r is_pending line ≡ is_none (fault_in m places r is_pending i.moves)) [
    | true ↦ λ is.
        ready_parts is_pending
        ∙ never w s (list_any (is_stopped r) (filter_map (start_brought places (shown_by r) operand) line.starts)) t (not (is_pending && is_some (acting_in arrivals))) (sym unread_is ∙ is)
        ∙ sym (none_is is_pending ∙ ap (λ b. not b && (not (list_any (is_stopped r) starts) && not (is_some (acting_in arrivals) && is_pending))) is)
    | false ↦ λ is.
        ready_parts is_pending
        ∙ ap (λ list. not w && (not (s || list_any (is_stopped r) list) && (not t && not (is_pending && is_some (acting_in arrivals))))) (starts_are is)
        ∙ all w s (list_any (is_stopped r) starts) t is_pending (is_some (acting_in arrivals)) (sym unread_is ∙ is)
        ∙ sym (none_is is_pending ∙ ap (λ b. not b && (not (list_any (is_stopped r) starts) && not (is_some (acting_in arrivals) && is_pending))) is)
  ] refl where
    never : (w s x t p : Bool) → (w || (s || t)) ≡ true → (not w && (not (s || x) && (not t && p))) ≡ false
    never true s x t p is = refl
    never false true x t p is = refl
    never false false true t p is = refl
    never false false false true p is = refl
    never false false false false p is = cc

    all : (w s x t p q : Bool) → (w || (s || t)) ≡ false → (not w && (not (s || x) && (not t && not (p && q)))) ≡ (not false && (not x && not (q && p)))
    all true s x t p q is = cc
    all false true x t p q is = cc
    all false false x true p q is = cc
    all false false true false p q is = refl
    all false false false false true true is = refl
    all false false false false true false is = refl
    all false false false false false true is = refl
    all false false false false false false is = refl

  -- where it is ready, all can be read
  pub could_read : (is_pending : Bool) → is_ready places r is_pending line ≡ true → all_unread ≡ false
  could_read is_pending ready = first all_unread _ (sym (none_is is_pending) ∙ sym (ready_is is_pending) ∙ ready) where
    first : (a b : Bool) → (not a && b) ≡ true → a ≡ false
    first true b is = cc
    first false b is = refl

  -- ---- which fault

  module _ (is_pending : Bool) (not_ready : is_ready places r is_pending line ≡ false) where
    abbrev fault : Option ℕ
    fault = fault_in m places r is_pending i.moves

    abbrev acting : Bool
    acting = is_some (acting_in arrivals) && is_pending

    abbrev no_operand : Bool
    no_operand = list_any lacks_operand starts

    abbrev clash : Bool
    clash = list_any (clashes_with r) starts

    -- a register that was never written comes first
    pub fault_place : lacks ≡ true → Some 60 ≡ fault
    fault_place is = by lacks is where
      by : (a : Bool) → a ≡ true → Some 60 ≡ first_fault ((a, 60) ∷ (lacks_port, 61) ∷ (no_operand, 62) ∷ (clash, 63) ∷ (acting, 64) ∷ [])
      by true is = refl
      by false is = cc

    -- then a result port that shows nothing yet
    pub fault_port : lacks ≡ false → lacks_port ≡ true → Some 61 ≡ fault
    fault_port no' is = by lacks lacks_port no' is where
      by : (a b : Bool) → a ≡ false → b ≡ true → Some 61 ≡ first_fault ((a, 60) ∷ (b, 61) ∷ (no_operand, 62) ∷ (clash, 63) ∷ (acting, 64) ∷ [])
      by true b no' is = cc
      by false true no' is = refl
      by false false no' is = cc

    module _ (no_place : lacks ≡ false) (no_port : lacks_port ≡ false) where
      all_read : all_unread ≡ false
      all_read = unread_moves m back places r ms ∙ ap (λ b. b || lacks_port) no_place ∙ no_port

      pub writes_read : list_any (λ w. is_unread places (shown_by r) w.reading) line.writes ≡ false
      writes_read = line_unread ∙ first w (s || t) (sym unread_is ∙ all_read) where
        first : (a b : Bool) → (a || b) ≡ false → a ≡ false
        first true b is = cc
        first false b is = refl

      pub starts_read : filter_map (start_brought places (shown_by r) operand) line.starts ≡ starts
      starts_read = starts_are all_read

      -- what cannot start is stopped
      cannot_is : list_any (cannot_start places r operand) line.starts ≡ list_any (is_stopped r) starts
      cannot_is =
          cannot_all m back places r operand line.starts
          ∙ ap (λ b. b || list_any (is_stopped r) (filter_map (start_brought places (shown_by r) operand) line.starts)) (middle w s t (sym unread_is ∙ all_read))
          ∙ ap (list_any (is_stopped r)) starts_read
        where
          middle : (w s t : Bool) → (w || (s || t)) ≡ false → s ≡ false
          middle true s t is = cc
          middle false true t is = cc
          middle false false t is = refl

      -- then an operation that cannot start
      pub fault_start : list_any (cannot_start places r operand) line.starts ≡ true → Some (if no_operand then 62 else 63) ≡ fault
      fault_start cannot = by lacks lacks_port no_operand clash no_place no_port (sym (stopped_by r starts) ∙ sym cannot_is ∙ cannot) where
        by : (a b c d : Bool) → a ≡ false → b ≡ false → (c || d) ≡ true
            → Some (if c then 62 else 63) ≡ first_fault ((a, 60) ∷ (b, 61) ∷ (c, 62) ∷ (d, 63) ∷ (acting, 64) ∷ [])
        by true b c d no' none is = cc
        by false true c d no' none is = cc
        by false false true d no' none is = refl
        by false false false true no' none is = refl
        by false false false false no' none is = cc

      -- and last control
      pub fault_control : list_any (cannot_start places r operand) line.starts ≡ false → Some 64 ≡ fault
      fault_control can = by lacks lacks_port no_operand clash acting no_place no_port (sym (stopped_by r starts) ∙ sym cannot_is ∙ can) (sym (ready_is is_pending) ∙ not_ready) where
        by : (a b c d e : Bool) → a ≡ false → b ≡ false → (c || d) ≡ false → is_none (first_fault ((a, 60) ∷ (b, 61) ∷ (c, 62) ∷ (d, 63) ∷ (e, 64) ∷ [])) ≡ false
            → Some 64 ≡ first_fault ((a, 60) ∷ (b, 61) ∷ (c, 62) ∷ (d, 63) ∷ (e, 64) ∷ [])
        by true b c d e no' none is some = cc
        by false true c d e no' none is some = cc
        by false false true d e no' none is some = cc
        by false false false true e no' none is some = cc
        by false false false false true no' none is some = refl
        by false false false false false no' none is some = cc

-- A decoded instruction and the instruction that it was decoded from.
use Rattle.std.proofs.Common.{◌≡◌, ℕ, not, Bool, true, false, List, ◌++◌, length, map, Option, Some, None, refl, sym, ap, ◌∙◌, subst}
use Rattle.std.specs.Prelude.{is_none, if◌then◌else◌}
use Rattle.std.specs.List.{list_any, filter_map}
use Rattle.tta_sim.specs.Cited.{Machine, IsMachine, Start, write_of, first_some, lacks_operand, Instruction, moves_of, is_legal}
use Rattle.tta_sim.specs.declared.decoded.DecodedStart.{DecodedStart}
use Rattle.tta_sim.specs.declared.decoded.Line.{Line}
use Rattle.tta_sim.specs.declared.lines.Missing.{Missing}
use Rattle.tta_sim.specs.declared.lines.Missing.TheVariants as missing
use Rattle.tta_sim.specs.declared.lines.Write.{Write}
use Rattle.tta_sim.specs.Results.{Results, HasUnits, shown_by}
use Rattle.tta_sim.specs.Moves.{reads_of, effects_in, arrivals_of, brought_of}
use Rattle.tta_sim.specs.Starts.{start_by, starts_of, fault_in, acting_in, AreFitting, AreReachable}
use Rattle.tta_sim.specs.Writing.{long_writes, numbered, ArePlaces}
use Rattle.tta_sim.specs.Decoded.{line_of}
use Rattle.tta_sim.specs.Lines.{is_unread, write_brought, start_brought, control_brought, operand_in, cannot_start, is_ready}
use Rattle.tta_sim.specs.Unset.{lacks_for}
use Rattle.tta_sim.proofs.Possible.{possible, long_possible, operations_there}
use Rattle.tta_sim.proofs.Starting.{reachable, are_fitting}
use Rattle.tta_sim.proofs.Fitting.{writes_placed}
use Rattle.tta_sim.proofs.Brought.{starts_in, controls_in}
use Rattle.tta_sim.proofs.Readying.{ready_is, all_unread, could_read, brought_is, starts_are, fault_place, fault_port, fault_start, fault_control, writes_read, starts_read}

module _ (m : Machine) (rules : IsMachine m) (i : Instruction) (legal : is_legal m i ≡ true) (back : ℕ) (l : Line) (decoded : l ≡ line_of m back i)
    (places : List (Option ℕ)) (r : Results) (p : Bool) where
  reached : AreReachable (length m.units) (arrivals_of (reads_of places (shown_by r)) i.moves)
  reached = reachable (length m.units) (reads_of places (shown_by r)) i.moves (possible m rules i legal).slots

  -- it is ready exactly where the instruction gives no fault
  pub ready_same : is_ready places r p l ≡ is_none (fault_in m places r p i.moves)
  ready_same = ap (is_ready places r p) decoded ∙ ready_is m back places r i (operations_there m rules i legal) rules.limits.units reached (long_possible m rules i.long) p

  module _ (ready : Bool) (is : ready ≡ is_ready places r p l) (yes' : ready ≡ true) where
    could : all_unread m back places r i (operations_there m rules i legal) rules.limits.units reached (long_possible m rules i.long) ≡ false
    could =
        could_read m back places r i (operations_there m rules i legal) rules.limits.units reached (long_possible m rules i.long) p
        (ap (is_ready places r p) (sym decoded) ∙ sym is ∙ yes')

    pub none_found : None ≡ fault_in m places r p i.moves
    none_found = none_if (fault_in m places r p i.moves) (sym ready_same ∙ sym is ∙ yes') where
      none_if : (o : Option ℕ) → is_none o ≡ true → None ≡ o
      none_if None none = refl
      none_if (Some n) none = cc

    -- what was noted of it is what its moves write and start
    pub writes_same : (writes : List Write) → (ready ≡ true → writes ≡ filter_map (write_brought places (shown_by r)) l.writes)
        → writes ≡ numbered (filter_map (write_of m back) (map brought_of (arrivals_of (reads_of places (shown_by r)) i.moves)) ++ long_writes m i.long)
    writes_same writes are =
        are yes' ∙ ap (λ x. filter_map (write_brought places (shown_by r)) x.writes) decoded
        ∙ brought_is m back places r i (operations_there m rules i legal) rules.limits.units reached (long_possible m rules i.long) could

    -- its operations are those that its moves start
    pub starts_same : filter_map (start_brought places (shown_by r) (operand_in places (filter_map (write_brought places (shown_by r)) l.writes))) l.starts
        ≡ starts_of m places (arrivals_of (reads_of places (shown_by r)) i.moves)
    starts_same =
        ap {A = Line} (λ x. filter_map (start_brought places (shown_by r) (operand_in places (filter_map (write_brought places (shown_by r)) x.writes))) x.starts) decoded
        ∙ starts_are m back places r i (operations_there m rules i legal) rules.limits.units reached (long_possible m rules i.long) could

  -- ---- which fault

  -- whether one of the moves lacks a word of this kind
  abbrev lacks : Missing → Bool
  lacks what = list_any (lacks_for what (reads_of places (shown_by r))) (effects_in i.moves)

  module _ (not_ready : is_ready places r p l ≡ false) where
    never : is_ready places r p (line_of m back i) ≡ false
    never = ap (is_ready places r p) (sym decoded) ∙ not_ready

    pub place_fault : lacks missing.Place ≡ true → Some 60 ≡ fault_in m places r p i.moves
    place_fault = fault_place m back places r i (operations_there m rules i legal) rules.limits.units reached (long_possible m rules i.long) p never

    pub port_fault : lacks missing.Place ≡ false → lacks missing.Port ≡ true → Some 61 ≡ fault_in m places r p i.moves
    port_fault = fault_port m back places r i (operations_there m rules i legal) rules.limits.units reached (long_possible m rules i.long) p never

    module _ (no_place : lacks missing.Place ≡ false) (no_port : lacks missing.Port ≡ false) where
      pub writes_could : list_any (λ w. is_unread places (shown_by r) w.reading) l.writes ≡ false
      writes_could =
          ap {A = Line} (λ x. list_any (λ w. is_unread places (shown_by r) w.reading) x.writes) decoded
          ∙ writes_read m back places r i (operations_there m rules i legal) rules.limits.units reached (long_possible m rules i.long) p never no_place no_port

      module _ (noted : List Write) (noted_is : noted ≡ filter_map (write_brought places (shown_by r)) l.writes) (ss : List DecodedStart) (ss_is : ss ≡ l.starts)
          (can : Bool) (can_is : can ≡ not (list_any (cannot_start places r (operand_in places noted)) ss)) where
        -- the words to write, and whether one of the operations cannot start with them
        abbrev written : List Write
        written = filter_map (write_brought places (shown_by r)) (line_of m back i).writes

        noted_same : noted ≡ written
        noted_same = noted_is ∙ ap (λ x. filter_map (write_brought places (shown_by r)) x.writes) decoded

        ss_same : ss ≡ (line_of m back i).starts
        ss_same = ss_is ∙ ap (λ x. x.starts) decoded

        cannot_same : not (list_any (cannot_start places r (operand_in places written)) (line_of m back i).starts) ≡ can
        cannot_same =
            sym (can_is ∙ ap (λ ws. not (list_any (cannot_start places r (operand_in places ws)) ss)) noted_same
            ∙ ap (λ xs. not (list_any (cannot_start places r (operand_in places written)) xs)) ss_same)

        turned : (a b c : Bool) → not a ≡ b → b ≡ not c → a ≡ c
        turned true b true is it = refl
        turned false b false is it = refl
        turned true b false is it = cc
        turned false b true is it = cc

        -- an operation cannot start
        pub start_fault : can ≡ false → (starts : List Start) → starts ≡ filter_map (start_brought places (shown_by r) (operand_in places noted)) ss
            → (number : ℕ) → number ≡ (if list_any lacks_operand starts then 62 else 63) → Some number ≡ fault_in m places r p i.moves
        start_fault cannot starts starts_is number number_is =
            let same = starts_is ∙ ap (λ ws. filter_map (start_brought places (shown_by r) (operand_in places ws)) ss) noted_same
            ∙ ap (filter_map (start_brought places (shown_by r) (operand_in places written))) ss_same
            ∙ starts_read m back places r i (operations_there m rules i legal) rules.limits.units reached (long_possible m rules i.long) p never no_place no_port in
            ap (λ n. Some n) (number_is ∙ ap (λ ts. if list_any lacks_operand ts then 62 else 63) same)
            ∙ fault_start m back places r i (operations_there m rules i legal) rules.limits.units reached (long_possible m rules i.long) p never no_place no_port (turned _ can true cannot_same cannot)

        -- a control move acts in a delay
        pub control_fault : can ≡ true → Some 64 ≡ fault_in m places r p i.moves
        control_fault could =
            fault_control m back places r i (operations_there m rules i legal) rules.limits.units reached (long_possible m rules i.long) p never no_place no_port (turned _ can false cannot_same could)

  -- its control move is that of its moves
  pub acting_same : first_some (control_brought places (shown_by r)) l.controls ≡ acting_in (arrivals_of (reads_of places (shown_by r)) i.moves)
  acting_same = ap (λ x. first_some (control_brought places (shown_by r)) x.controls) decoded ∙ controls_in m back places r (moves_of i)

  -- its writes have places
  pub placed : ArePlaces (filter_map (write_of m back) (map brought_of (arrivals_of (reads_of places (shown_by r)) i.moves)) ++ long_writes m i.long)
  placed = writes_placed m back (length m.units) (arrivals_of (reads_of places (shown_by r)) i.moves) i.long reached (long_possible m rules i.long)

  -- its operations fit, whatever the operands
  pub fits_line : HasUnits r.base m r.rings → r.units ≡ length m.units → (operand : ℕ → Option ℕ) → AreFitting r (filter_map (start_brought places (shown_by r) operand) l.starts)
  fits_line has size operand =
      let given : filter_map (start_brought places (shown_by r) operand) l.starts ≡ filter_map (start_by m operand) (arrivals_of (reads_of places (shown_by r)) i.moves) =
      ap {A = Line} (λ x. filter_map (start_brought places (shown_by r) operand) x.starts) decoded ∙ starts_in m back places r operand (moves_of i) in
      subst (AreFitting r) (sym given) (are_fitting m rules r has size i legal (reads_of places (shown_by r)) operand)

-- The fault of a cycle is the same for what is held and for the state that it stands for.
use Rattle.std.proofs.Common.{◌≡◌, ℕ, ◌<◌, ◌+◌, Bool, true, false, ◌&&◌, ◌||◌, IsTrue, List, [], ◌∷◌, ◌++◌, length, map, Option, Some, None, refl, sym, ap, ◌∙◌}
use Rattle.std.specs.Prelude.{is_some, option_map, slice_get, if◌then◌else◌}
use Rattle.std.specs.Option.{option_map_or}
use Rattle.std.specs.List.{list_any, find, AllByRecursion}
use Rattle.tta_list.proofs.Tests.{or_swap}
use Rattle.tta_sim.specs.Cited.{Template, Machine, Imm, Kind, Start, Brought, has_result, lacks_operand, first_some, or_else, control_of, is_port, has_unset, Long, Instruction, State, first_fault, fault_of, clashes, reads_unset_register, reads_unset_port, effects_of, is_due}
use Rattle.tta_sim.specs.Places.{HasWritten}
use Rattle.tta_sim.specs.Results.{Results, AreResultsOf, shown_by}
use Rattle.tta_sim.specs.Moves.{is_possible_slot, reads_of, effects_in, arrivals_of, brought_of}
use Rattle.tta_sim.specs.Starts.{is_stopped, clashes_with, starts_of, fault_in, acting_in}
use Rattle.tta_sim.proofs.Agreeing.{long_brought, lacks_all, ports_all}
use Rattle.tta_arch.proofs.FirstSome.{or_none as or_else_none, first_append as first_some-append}

-- ---- control

long_controls : (m : Machine) (long : Option Long) → first_some control_of (long_brought m long) ≡ None
long_controls m None = refl
long_controls m (Some l) = by (slice_get m.templates l.template) where
  by : (o : Option Template) → first_some control_of (option_map_or (λ t. (Imm t.imm t.reg, l.value) ∷ []) o []) ≡ None
  by None = refl
  by (Some t) = refl

-- the control move of the moves and the long immediate is that of the moves
pub acting_all : (m : Machine) (bs : List Brought) (long : Option Long) → first_some control_of (bs ++ long_brought m long) ≡ first_some control_of bs
acting_all m bs long =
    first_some-append control_of bs (long_brought m long) ∙ ap (or_else (first_some control_of bs)) (long_controls m long) ∙ or_else_none (first_some control_of bs)

-- ---- results

any_find : {A : Type 0} (value : A → ℕ) (p : A → Bool) (xs : List A) → is_some (option_map value (find p xs)) ≡ list_any p xs
any_find value p [] = refl
any_find value p (x ∷ xs) = elim (p x) as (λ b. is_some (option_map value (if b then Some x else find p xs)) ≡ (b || list_any p xs)) [ true ↦ refl | false ↦ any_find value p xs ]

module _ (r : Results) (s : State) (results : AreResultsOf s.started s.cycle r) where
  clash_same : (t : Start) → t.unit < r.units → clashes_with r t ≡ clashes s t
  clash_same t there =
      ap (λ b. has_result t.does.op && b)
      (ap is_some (results.due t.unit t.does.latency there) ∙ any_find (λ q. q.value) (is_due t.unit (s.cycle + t.does.latency)) s.started)

  clashes_same : (starts : List Start) → AllByRecursion (λ t. t.unit < r.units) starts → list_any (clashes_with r) starts ≡ list_any (clashes s) starts
  clashes_same [] there = refl
  clashes_same (t ∷ starts) there =
      ap (λ b. b || list_any (clashes_with r) starts) (clash_same t there.0) ∙ ap (λ b. clashes s t || b) (clashes_same starts there.1)

-- ---- all faults

module _ (places : List (Option ℕ)) (r : Results) (s : State) (m : Machine) (i : Instruction) (written : HasWritten places s.written) (results : AreResultsOf s.started s.cycle r)
    (size : r.units ≡ length m.units) (possible : AllByRecursion (λ slot. IsTrue (is_possible_slot (length m.units) slot)) i.moves)
    (is_pending : Bool) (pending : is_pending ≡ is_some s.pending) where
  pub fault_same : (bs : List Brought) (ts : List Start)
      → bs ≡ map brought_of (arrivals_of (reads_of places (shown_by r)) i.moves) ++ long_brought m i.long
      → ts ≡ starts_of m places (arrivals_of (reads_of places (shown_by r)) i.moves)
      → AllByRecursion (λ t. t.unit < r.units) ts
      → fault_in m places r is_pending i.moves ≡ fault_of s (effects_of m i) bs ts
  fault_same bs ts brought starts fit =
      let arrivals = arrivals_of (reads_of places (shown_by r)) i.moves in
      let acting : acting_in arrivals ≡ first_some control_of bs = sym (acting_all m (map brought_of arrivals) i.long) ∙ ap (first_some control_of) (sym brought) in
      let registers = lacks_all places r s (length m.units) written results size m i possible in
      let ports = ports_all places r s (length m.units) written results size m i possible in
      let faults : Bool → Bool → List Start → (List Start → Bool) → Option (Kind × ℕ) → Bool → Option ℕ = λ one two list clash control under_way.
      first_fault ((one, 60) ∷ (two, 61) ∷ (list_any lacks_operand list, 62) ∷ (clash list, 63) ∷ (is_some control && under_way, 64) ∷ []) in
      let before = list_any (clashes_with r) in
      let after = list_any (clashes s) in
      ap (λ b. faults b (list_any (has_unset (reads_of places (shown_by r)) is_port) (effects_in i.moves)) (starts_of m places arrivals) before (acting_in arrivals) is_pending) registers
      ∙ ap (λ b. faults (list_any (reads_unset_register s) (effects_of m i)) b (starts_of m places arrivals) before (acting_in arrivals) is_pending) ports
      ∙ ap (λ list. faults (list_any (reads_unset_register s) (effects_of m i)) (list_any (reads_unset_port s) (effects_of m i)) list before (acting_in arrivals) is_pending) (sym starts)
      ∙ ap (λ b. faults (list_any (reads_unset_register s) (effects_of m i)) (list_any (reads_unset_port s) (effects_of m i)) ts (λ list. b) (acting_in arrivals) is_pending)
      (clashes_same r s results ts fit)
      ∙ ap (λ o. faults (list_any (reads_unset_register s) (effects_of m i)) (list_any (reads_unset_port s) (effects_of m i)) ts after o is_pending) acting
      ∙ ap (λ b. faults (list_any (reads_unset_register s) (effects_of m i)) (list_any (reads_unset_port s) (effects_of m i)) ts after (first_some control_of bs) b) pending

-- ---- each fault

-- operations cannot start where one lacks its operand, or a result would be due at the time of another
pub stopped_by : (r : Results) (ts : List Start) → list_any (is_stopped r) ts ≡ (list_any lacks_operand ts || list_any (clashes_with r) ts)
stopped_by r [] = refl
stopped_by r (t ∷ ts) =
    ap (λ b. is_stopped r t || b) (stopped_by r ts) ∙ or_swap (lacks_operand t) (clashes_with r t) (list_any lacks_operand ts) (list_any (clashes_with r) ts)

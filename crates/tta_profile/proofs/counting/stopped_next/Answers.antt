use Rattle.std.proofs.Common.{◌≡◌, ◌≤◌, ℕ, List, Option, Some, None, false, length, IsTrue, sym, ap, ◌∙◌, subst}
use Rattle.std.specs.Prelude.{slice_get, slice_index_or, option_and_then}
use Rattle.std.specs.Option.{option_map_or}
use Rattle.std.specs.List.{AllByRecursion}
use Rattle.tta_profile.specs.Cited.{Machine, IsMachine, Move, Instruction, IsPossible, is_possible_slot}
use Rattle.tta_arch.proofs.SetLemmas.{has_bit-empty}
use Rattle.tta_profile.specs.Counts.{is_stopped}
use Rattle.tta_profile.proofs.Guards.{possible_at}
use Rattle.tta_profile.proofs.counting.stopped_next.Given as given
use Rattle.tta_profile.proofs.counting.stopped_next.Goals.{After-as_slice}
use Rattle.tta_profile.proofs.counting.stopped_next.Goals as goal

module _ (g : given.Over) (c : After-as_slice g) where
  -- the instruction is one that a run can carry out
  possible : IsPossible c.args.basis.now.m.now c.in-Some.i.now
  possible =
      possible_at c.args.basis.now.m.now (subst IsMachine c.m.view_is c.m.invariant) c.args.basis.now.code.now c.requires.legal c.pc.result c.in-Some.i.now
      (sym c.in-Some.ensures)

pub stopped_of-requires-clause-few : goal.stopped_of-requires-clause-few
stopped_of-requires-clause-few g c = subst (λ (l : List (Option Move)). length l ≤ 16) (sym c.as_slice.ensures) (possible g c).few

pub stopped_of-requires-clause-possible : goal.stopped_of-requires-clause-possible
stopped_of-requires-clause-possible g c =
    let units : length c.args.basis.now.m.now.units ≡ c.len.result = sym (c.len.ensures ∙ ap (λ (m : Machine). length m.units) c.m.view_is) in
    subst (λ (n : ℕ). AllByRecursion (λ slot. IsTrue (is_possible_slot n slot)) c.as_slice.result.now) units
    (subst (λ (l : List (Option Move)). AllByRecursion (λ slot. IsTrue (is_possible_slot (length c.args.basis.now.m.now.units) slot)) l) (sym c.as_slice.ensures)
    (possible g c).slots)

pub returns-in-None : goal.returns-in-None
returns-in-None g c = λ s stands bus.
    let words = c.args.basis.now.code.now.words in
    let none : slice_get words s.pc ≡ None = subst (λ (n : ℕ). slice_get words n ≡ None) (c.pc.ensures ∙ stands.pc) (sym c.in-None.ensures) in
    has_bit-empty bus
    ∙ sym (ap (λ (o : Option Instruction). option_map_or (is_stopped s) (option_and_then (λ i. slice_index_or i.moves bus None) o) false) none)

pub returns-in-Some : goal.returns-in-Some
returns-in-Some g c = λ s stands bus.
    let words = c.args.basis.now.code.now.words in
    let some : slice_get words s.pc ≡ Some c.in-Some.i.now = subst (λ (n : ℕ). slice_get words n ≡ Some c.in-Some.i.now) (c.pc.ensures ∙ stands.pc) (sym c.in-Some.ensures) in
    c.stopped_of.ensures s stands bus
    ∙ ap (λ (l : List (Option Move)). option_map_or (is_stopped s) (slice_index_or l bus None) false) c.as_slice.ensures
    ∙ sym (ap (λ (o : Option Instruction). option_map_or (is_stopped s) (option_and_then (λ i. slice_index_or i.moves bus None) o) false) some)

use Rattle.std.proofs.Common.{◌≡◌, ◌+◌, Bool, [], ◌++◌, IsTrue, sym, ap, ◌∙◌, subst}
use Rattle.std.specs.Prelude.{IfSome, None, if◌then◌else◌, is_some, map}
use Rattle.std.specs.List.{AllByRecursion}
use Rattle.std.specs.Option.{option_copied, option_map_or}
use Rattle.tta_waves.specs.Cited.{stated, Instruction, is_halted, HasWritten, went_on, carried, coming, slots_of, is_slot_written_to, writes_in}
use Rattle.tta_waves.proofs.Going.{goes}
use Rattle.tta_places.proofs.Slots.{of_made, written_next}
use Rattle.tta_waves.proofs.cycling.cycle_once.Goals as goal

-- that the slots of an instruction can be written
abbrev CanWrite : Instruction → Type 0
CanWrite i = AllByRecursion (λ slot. IsTrue (is_slot_written_to slot)) i.moves

pub write_made-requires-clause-slots : goal.write_made-requires-clause-slots
write_made-requires-clause-slots g c =
    let on = c.args.basis.now in
    let now = c.args.sim.now in
    let next = written_next on.m.now c.rules.ensures on.code.now c.requires.loaded.legal (is_halted now.outcome) now.pc in
    of_made CanWrite (is_some (went_on c.cycle-step.result)) (option_copied c.coming-coming.result) (option_copied c.made_of-made.result) c.made_of-made.ensures
    (subst (λ o. IfSome o CanWrite) (sym c.coming-coming.ensures.is) next)

pub returns-clause-goes : goal.returns-clause-goes
returns-clause-goes g c = λ s stands fed had carries.
    let U = stated (λ v. (goal.OpUnit-dyn g v).unit_meaning v.1) c.args.basis.now.units.now in
    let m = c.args.basis.now.m.now in
    let code = c.args.basis.now.code.now in
    let row = c.write_made.new.row in
    goes U m code c.args.sim.now c.cycle-step.new.self (λ t. HasWritten row t.written) s stands c.cycle-step.result c.cycle-step.ensures.counted
    (c.cycle-step.ensures.next s stands fed) (c.cycle-step.ensures.answer s stands fed)
    (λ made is.
    let here : option_copied c.made_of-made.result ≡ coming code.words s =
    c.made_of-made.ensures ∙ ap (λ (b : Bool). if b then option_copied c.coming-coming.result else None) made ∙ c.coming-coming.ensures.comes s stands in
    let words = c.as_slice.ensures.value ∙ carries ∙ ap (λ o. map (carried s) (slots_of o)) (sym here) in
    let writes = ap (λ o. option_map_or (writes_in m (c.pc-pc.result + 1 + m.control.delay) s) o [] ++ s.written) here
    ∙ ap (λ n. option_map_or (writes_in m (n + 1 + m.control.delay) s) (coming code.words s) [] ++ s.written) (c.pc-pc.ensures ∙ stands.pc) in
    subst (HasWritten row) (writes ∙ sym is) (c.write_made.ensures s s.written words had))

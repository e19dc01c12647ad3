use Rattle.std.proofs.Common.{◌≡◌, ℕ, ◌+◌, ◌*◌, ◌<◌, ◌^◌, ◌==◌, Bool, ◌&&◌, true, false, List, [], ◌++◌, None, IsTrue, length, map, refl, sym, ap, ◌∙◌, subst, arith}
use Rattle.std.specs.Prelude.{if◌then◌else◌, slice_get, slice_index, IfSome}
use Rattle.std.specs.List.{AllByRecursion}
use Rattle.std.specs.Option.{option_copied, option_map_or}
use Rattle.std.proofs.lemmas.Bool.{eq-eqb}
use Rattle.tta_profile.specs.Cited.{stated, has_bit, Instruction, next, is_halted, HasWritten, carried, coming, slots_of, is_slot_written_to, writes_in}
use Rattle.tta_places.proofs.Onward.{written_on}
use Rattle.tta_places.proofs.Slots.{possible_slots, written_next}
use Rattle.tta_profile.specs.declared.outside.Space.TheVariants.{Data, Frame}
use Rattle.tta_profile.specs.Counts.{is_made, is_stopped, slot_at}
use Rattle.tta_profile.proofs.Onward.{over_halted, over_fault, over_waiting, within, at_address, strays_more}
use Rattle.tta_profile.proofs.counting.count_cycle.Goals as goal

-- that the slots of an instruction can be written
abbrev CanWrite : Instruction → Type 0
CanWrite i = AllByRecursion (λ slot. IsTrue (is_slot_written_to slot)) i.moves

pub write_made-requires-clause-slots : goal.write_made-requires-clause-slots
write_made-requires-clause-slots g c =
    let on = c.args.basis.now in
    let now = c.args.sim.now in
    subst (λ o. IfSome o CanWrite) (sym c.coming-came.ensures.is)
    (written_next on.m.now c.rules.ensures on.code.now c.requires.loaded.legal (is_halted now.outcome) now.pc)

pub count_outside-requires-clause-few : goal.count_outside-requires-clause-few
count_outside-requires-clause-few g c = c.rules.ensures.limits.units

pub count_outside-requires-clause-possible : goal.count_outside-requires-clause-possible
count_outside-requires-clause-possible g c =
    let on = c.args.basis.now in
    let now = c.args.sim.now in
    possible_slots on.m.now c.rules.ensures on.code.now c.requires.loaded.legal (is_halted now.outcome) now.pc (length on.m.now.units)
    _ c.slots_of.result.now refl c.coming-came.ensures.is c.slots_of.ensures

pub returns-in-Ran-clause-goes : goal.returns-in-Ran-clause-goes
returns-in-Ran-clause-goes g c = λ s stands fed small.
    let U = stated (λ v. (goal.OpUnit-dyn g v).unit_meaning v.1) c.args.basis.now.units.now in
    let m = c.args.basis.now.m.now in
    let code = c.args.basis.now.code.now in
    let step = next U m code in
    let after = c.in-Ran.ensures.next s stands fed in
    let answer = c.in-Ran.ensures.answer s stands fed in
    let counted = c.in-Ran.ensures.counted in
    let was = stands.cycle in
    let is = after.cycle in
    let made : is_made step s ≡ true = eq-eqb (step s).cycle (s.cycle + 1) (omega (arith, counted, was, is)) in
    let here : c.pc-pc.result ≡ s.pc = c.pc-pc.ensures ∙ stands.pc in
    let there : c.pc-pc.result < length c.args.counts.now.executed =
    omega (arith, here, c.requires.size, within U m code s answer.0 made) in
    let executed = c.add.ensures.executed there (small.executed c.pc-pc.result) in
    let passed = c.add.ensures.passed there (λ b low. small.passed c.pc-pc.result b low) in (
      record { stands = after; rest = answer.1.2; made = made },
      record {
        executed = λ a. ap (λ (l : List ℕ). slice_index l a) c.count_outside.ensures.executed ∙ executed a ∙ ap (λ (b : Bool). slice_index c.args.counts.now.executed a + (if b then 1 else 0))
            (ap (λ (n : ℕ). a == n) here ∙ sym (ap (λ (b : Bool). b && a == s.pc) made));
        passed = λ a b low.
            let stopped : (a == c.pc-pc.result && has_bit c.stopped_next-stopped.result b)
            ≡ (is_made step s && (a == s.pc && option_map_or (is_stopped s) (slot_at code.words a b) false)) =
            ap (λ (n : ℕ). a == n && has_bit c.stopped_next-stopped.result b) here
            ∙ at_address a s.pc (has_bit c.stopped_next-stopped.result b) (λ n. option_map_or (is_stopped s) (slot_at code.words n b) false)
            (c.stopped_next-stopped.ensures s stands b)
            ∙ sym (ap (λ (t : Bool). t && (a == s.pc && option_map_or (is_stopped s) (slot_at code.words a b) false)) made) in
            ap (λ (l : List ℕ). slice_index l (16 * a + b)) c.count_outside.ensures.passed ∙ passed a b low ∙ ap (λ (t : Bool). slice_index c.args.counts.now.passed (16 * a + b) + (if t then 1 else 0)) stopped;
      },
    )

pub returns-in-Ran-clause-outside : goal.returns-in-Ran-clause-outside
returns-in-Ran-clause-outside g c = λ s stands fed had carries small.
    let U = stated (λ v. (goal.OpUnit-dyn g v).unit_meaning v.1) c.args.basis.now.units.now in
    let m = c.args.basis.now.m.now in
    let code = c.args.basis.now.code.now in
    let step = next U m code in
    let row = c.write_made.new.row in
    let after = c.in-Ran.ensures.next s stands fed in
    let answer = c.in-Ran.ensures.answer s stands fed in
    let counted = c.in-Ran.ensures.counted in
    let was = stands.cycle in
    let is = after.cycle in
    let more : (step s).cycle ≡ s.cycle + 1 = omega (arith, counted, was, is) in
    let made : is_made step s ≡ true = eq-eqb (step s).cycle (s.cycle + 1) more in
    let here : c.pc-pc.result ≡ s.pc = c.pc-pc.ensures ∙ stands.pc in
    let there : c.pc-pc.result < length c.args.counts.now.executed =
    omega (arith, here, c.requires.size, within U m code s answer.0 made) in
    let comes : option_copied c.coming-came.result ≡ coming code.words s = c.coming-came.ensures.comes s stands in
    let words = c.as_slice.ensures.value ∙ carries ∙ ap (λ o. map (carried s) (slots_of o)) (sym comes) in
    let writes = ap (λ o. option_map_or (writes_in m (c.pc-pc.result + 1 + m.control.delay) s) o [] ++ s.written) comes
    ∙ ap (λ n. option_map_or (writes_in m (n + 1 + m.control.delay) s) (coming code.words s) [] ++ s.written) here in
    let kept : HasWritten row (step s).written =
    subst (HasWritten row) (writes ∙ sym (written_on U m code s answer.0 more)) (c.write_made.ensures s s.written words had) in
    let at_pc : coming code.words s ≡ slice_get code.words s.pc = ap (λ (b : Bool). if b then None else slice_get code.words s.pc) (ap is_halted answer.0) in
    let slots : c.slots_of.result.now ≡ slots_of (slice_get code.words s.pc) = c.slots_of.ensures ∙ ap slots_of (comes ∙ at_pc) in
    let brought : c.args.followed.now.carried.items ≡ map (carried s) c.slots_of.result.now = carries ∙ ap (λ o. map (carried s) (slots_of o)) (sym comes) ∙ ap (map (carried s)) (sym c.slots_of.ensures) in
    let memory : m.data_words ≡ length s.memory = sym c.requires.loaded.memory ∙ ap length stands.memory in
    let frame : m.frame_words ≡ length s.frame = sym c.requires.loaded.frame ∙ ap length stands.frame in (
      kept,
      record {
        of_data = λ a. strays_more step m code.words Data s c.pc-pc.result a c.slots_of.result.now here made slots _ _ _ c.add.ensures.outside_data
            (c.count_outside.ensures.of_data s (step s).written brought kept memory (subst (λ (n : ℕ). c.pc-pc.result < n) (sym c.add.ensures.size) there)
            (subst (λ (l : List ℕ). slice_index l c.pc-pc.result < 2 ^ 63) (sym c.add.ensures.outside_data) (small.of_data c.pc-pc.result)) a);
        of_frame = λ a. strays_more step m code.words Frame s c.pc-pc.result a c.slots_of.result.now here made slots _ _ _ c.add.ensures.outside_frame
            (c.count_outside.ensures.of_frame s (step s).written brought kept frame (subst (λ (n : ℕ). c.pc-pc.result < n) (sym c.add.ensures.size) there)
            (subst (λ (l : List ℕ). slice_index l c.pc-pc.result < 2 ^ 63) (sym c.add.ensures.outside_frame) (small.of_frame c.pc-pc.result)) a);
      },
    )

pub returns-in-Halted-clause-goes : goal.returns-in-Halted-clause-goes
returns-in-Halted-clause-goes g c = λ s stands fed small.
    let U = stated (λ v. (goal.OpUnit-dyn g v).unit_meaning v.1) c.args.basis.now.units.now in
    (over_halted U c.args.basis.now.m.now c.args.basis.now.code.now s (c.in-Halted.ensures.answer s stands fed), refl)

pub returns-in-Fault-clause-goes : goal.returns-in-Fault-clause-goes
returns-in-Fault-clause-goes g c = λ s stands fed small.
    let U = stated (λ v. (goal.OpUnit-dyn g v).unit_meaning v.1) c.args.basis.now.units.now in
    let after = c.in-Fault.ensures.next s stands fed in
    let same : (next U c.args.basis.now.m.now c.args.basis.now.code.now s).cycle ≡ s.cycle =
    omega (arith, after.cycle, stands.cycle, c.in-Fault.ensures.counted) in
    (over_fault U c.args.basis.now.m.now c.args.basis.now.code.now s _ _ (c.in-Fault.ensures.answer s stands fed) same, refl)

pub returns-in-Waiting-clause-goes : goal.returns-in-Waiting-clause-goes
returns-in-Waiting-clause-goes g c = λ s stands fed small.
    let U = stated (λ v. (goal.OpUnit-dyn g v).unit_meaning v.1) c.args.basis.now.units.now in
    let answer = c.in-Waiting.ensures.answer s stands fed in
    (over_waiting U c.args.basis.now.m.now c.args.basis.now.code.now s answer.1, refl)

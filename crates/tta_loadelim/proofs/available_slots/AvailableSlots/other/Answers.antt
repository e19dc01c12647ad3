use Rattle.std.proofs.Common.{◌≡◌, List, true, get_or, sym, refl, ap, ◌∙◌}
use Rattle.tta_arch.specs.declared.ends.Source.TheVariants as source
use Rattle.tta_loadelim.specs.Cited.{Item}
use Rattle.tta_loadelim.specs.declared.facts.Fact.{Fact}
use Rattle.tta_loadelim.specs.AvailableSlots.{fact, known, have_one}
use Rattle.tta_loadelim.specs.Facts.{is_among, are_among, Knows}
use Rattle.tta_loadelim.proofs.Among.{among_in, among_at, one_slot}
use Rattle.tta_loadelim.proofs.available_slots.AvailableSlots.other.Goals as goal

pub loop-f-preserved : goal.loop-f-preserved
loop-f-preserved c = record { asked = rw c.in-Some.is at c.loop-f.invariant.asked; found = found } where
  found : (before : List Item) → Knows c.args.on.now.machine.now before c.args.self.now → have_one (known c.args.on.now.machine.now before) c.args.src (get_or c.as_slice-f-items.result.now c.loop-f.f-index (record { slot = 0; from = source.Reg 0 0 })).from ≡ true
  found before knows =
      let all : List Fact = known c.args.on.now.machine.now before in
      let f : Fact = get_or c.as_slice-f-items.result.now c.loop-f.f-index (record { slot = 0; from = source.Reg 0 0 }) in
      let facts : are_among all c.as_slice-f-items.result.now ≡ true = rw c.as_slice-f-items.ensures.value knows.facts in
      let among : is_among all f ≡ true = among_at all c.as_slice-f-items.result.now c.loop-f.f-index _ f facts c.loop-f-test.true refl in
      let asked : is_among c.args.self.now.facts.items (fact c.in-Some.v c.args.src) ≡ true = rw c.in-Some.is at c.loop-f.invariant.asked in
      one_slot all c.in-Some.v c.args.src f.from (among_in all c.args.self.now.facts.items (fact c.in-Some.v c.args.src) knows.facts asked) (ap (λ n. is_among all (fact n f.from)) (sym c.if-f-v.false) ∙ among)

use Rattle.std.proofs.Common.{◌≡◌, ◌∙◌, ℕ, ◌<◌, List, Option, Some, None, true, false, sym, ap, subst}
use Rattle.tta_arch.specs.declared.parts.Template.{Template as Field}
use Rattle.tta_reserve.specs.Cited.{Source, Machine, IsMachine, Item, Slot, Bus, Template, in_cycle}
use Rattle.tta_moves.specs.declared.items.Item.TheVariants as item
use Rattle.tta_reserve.specs.Taken.{is_apart}
use Rattle.tta_reserve.specs.Booked.{IsLeastSlot}
use Rattle.tta_reserve.specs.Leaving.{row_takes, row_fills}
use Rattle.tta_reserve.proofs.LeastSlot.{known_row, move_some, move_none, long_some, long_none}
use Rattle.tta_reserve.proofs.table.Table.fits.Goals as goal

pub returns-in_err-bus-in-Move : goal.returns-in_err-bus-in-Move
returns-in_err-bus-in-Move c = λ placed s apart.
    let m : Machine = c.args.m.now in
    let known = known_row m c.carried.ensures.rules c.args.self.now _ _ placed c.row_at-r.result c.args.cycle c.self.view_is c.as_slice.ensures.value c.row_at-r.ensures s in
    let here : is_apart (item.Move c.in-Move.guard c.in-Move.src c.in-Move.dst) (in_cycle c.args.cycle placed) ≡ true
    = subst (λ (v : Item). is_apart v (in_cycle c.args.cycle placed) ≡ true) c.in-Move.is apart in
    subst (λ (o : Option Slot). IsLeastSlot m placed c.args.item.now c.args.cycle o) (sym c.from_residual.ensures)
    (subst (λ (v : Item). IsLeastSlot m placed v c.args.cycle None) (sym c.in-Move.is)
    (move_none m c.args.self.now placed c.row_at-r.result c.args.cycle known c.in-Move.guard c.in-Move.src c.in-Move.dst here
    (subst (λ (q : Source). (k : ℕ) → row_takes m c.row_at-r.result k q c.in-Move.dst c.in-Move.guard ≡ false) c.carried.ensures.value c.in_err-bus-in-Move.ensures.none)))

pub returns-in_ok-bus-in-Move : goal.returns-in_ok-bus-in-Move
returns-in_ok-bus-in-Move c = λ placed s apart.
    let m : Machine = c.args.m.now in
    let known = known_row m c.carried.ensures.rules c.args.self.now _ _ placed c.row_at-r.result c.args.cycle c.self.view_is c.as_slice.ensures.value c.row_at-r.ensures s in
    let here : is_apart (item.Move c.in-Move.guard c.in-Move.src c.in-Move.dst) (in_cycle c.args.cycle placed) ≡ true
    = subst (λ (v : Item). is_apart v (in_cycle c.args.cycle placed) ≡ true) c.in-Move.is apart in
    let bus : ℕ = c.in_ok-bus-in-Move.bus in
    subst (λ (v : Item). IsLeastSlot m placed v c.args.cycle (Some (Bus bus))) (sym c.in-Move.is)
    (move_some m c.args.self.now placed c.row_at-r.result c.args.cycle known c.in-Move.guard c.in-Move.src c.in-Move.dst here bus
    (subst (λ (q : Source). row_takes m c.row_at-r.result bus q c.in-Move.dst c.in-Move.guard ≡ true) c.carried.ensures.value c.in_ok-bus-in-Move.ensures.there)
    (subst (λ (q : Source). (k : ℕ) → k < bus → row_takes m c.row_at-r.result k q c.in-Move.dst c.in-Move.guard ≡ false) c.carried.ensures.value c.in_ok-bus-in-Move.ensures.least))

pub returns-in_err-t-in-Long : goal.returns-in_err-t-in-Long
returns-in_err-t-in-Long c = λ placed s apart.
    let m : Machine = c.args.m.now in
    let known = known_row m (subst IsMachine c.m.view_is c.m.invariant) c.args.self.now _ _ placed c.row_at-r.result c.args.cycle c.self.view_is c.as_slice.ensures.value c.row_at-r.ensures s in
    let templates : c.as_slice-in-Long.result.now ≡ m.templates = c.as_slice-in-Long.ensures ∙ ap (λ (x : Machine). x.templates) c.m.view_is in
    subst (λ (o : Option Slot). IsLeastSlot m placed c.args.item.now c.args.cycle o) (sym c.from_residual-in_err-t-in-Long.ensures)
    (subst (λ (v : Item). IsLeastSlot m placed v c.args.cycle None) (sym c.in-Long.is)
    (long_none m c.args.self.now placed c.row_at-r.result c.args.cycle known c.in-Long.imm c.in-Long.reg c.in-Long.value
    (subst (λ (l : List Field). (k : ℕ) → row_fills l c.row_at-r.result k c.in-Long.imm c.in-Long.reg ≡ false) templates c.in_err-t-in-Long.ensures.none)))

pub returns-in_ok-t-in-Long : goal.returns-in_ok-t-in-Long
returns-in_ok-t-in-Long c = λ placed s apart.
    let m : Machine = c.args.m.now in
    let known = known_row m (subst IsMachine c.m.view_is c.m.invariant) c.args.self.now _ _ placed c.row_at-r.result c.args.cycle c.self.view_is c.as_slice.ensures.value c.row_at-r.ensures s in
    let templates : c.as_slice-in-Long.result.now ≡ m.templates = c.as_slice-in-Long.ensures ∙ ap (λ (x : Machine). x.templates) c.m.view_is in
    let t : ℕ = c.in_ok-t-in-Long.t in
    subst (λ (v : Item). IsLeastSlot m placed v c.args.cycle (Some (Template t))) (sym c.in-Long.is)
    (long_some m c.args.self.now placed c.row_at-r.result c.args.cycle known c.in-Long.imm c.in-Long.reg c.in-Long.value t
    (subst (λ (l : List Field). row_fills l c.row_at-r.result t c.in-Long.imm c.in-Long.reg ≡ true) templates c.in_ok-t-in-Long.ensures.there)
    (subst (λ (l : List Field). (k : ℕ) → k < t → row_fills l c.row_at-r.result k c.in-Long.imm c.in-Long.reg ≡ false) templates c.in_ok-t-in-Long.ensures.least))

use Rattle.std.proofs.Common.{◌≡◌, ℕ, List, Bool, true, false, Some, get_or, refl, sym, ap, ◌∙◌}
use Rattle.std.specs.Prelude.{not, slice_get, slice_index}
use Rattle.std.specs.Option.{option_map_or}
use Rattle.tta_reorder.specs.Rows.{found, same_found, passed}
use Rattle.tta_reorder.proofs.Checked.{agree_next}
use Rattle.tta_reorder.proofs.agree.agrees.Goals as goal

pub loop-n-preserved : goal.loop-n-preserved
loop-n-preserved c =
    let n : ℕ = get_or c.args.numbers.now c.loop-n.n-index 0 in
    let there : slice_get c.args.list.now.items.now n ≡ Some c.in-Some.x = sym c.in-Some.ensures in
    let m = c.args.list.now.m.now in
    let part : c.part_at-part.result ≡ slice_index c.args.list.now.parts.now n = c.part_at-part.ensures in
    let finds : option_map_or (λ row. same_found (found m (slice_index c.args.list.now.parts.now n) c.loop-n.table c.in-Some.x) row) (slice_get c.args.rows.now n) false ≡ true =
    ap (λ p. option_map_or (λ row. same_found (found m p c.loop-n.table c.in-Some.x) row) (slice_get c.args.rows.now n) false) (sym part) ∙ sym c.finds.ensures ∙ c.if-not-finds.false in
    let free : option_map_or (λ b. not b) (slice_get c.loop-n.marks.items n) false ≡ true =
    ap (λ (l : List Bool). option_map_or (λ b. not b) (slice_get l n) false) (sym c.as_slice.ensures.value) ∙ sym c.is_free.ensures ∙ c.if-not-is_free.false in
    let passes : c.pass.new.self ≡ passed m (slice_index c.args.list.now.parts.now n) c.loop-n.table n c.in-Some.x = c.pass.ensures ∙ ap (λ p. passed m p c.loop-n.table n c.in-Some.x) part in
    agree_next m c.args.list.now.parts.now c.args.list.now.items.now c.args.rows.now c.args.numbers.now c.loop-n.table c.pass.new.self c.loop-n.marks.items c.mark.new.marks.items
    c.loop-n.n-index n c.in-Some.x c.loop-n-test.true refl there finds free passes c.mark.ensures c.loop-n.invariant

use Rattle.std.proofs.Common.{ℕ, List, sym, ap, subst, ◌∙◌}
use Rattle.std.specs.List.{list_all}
use Rattle.tta_reorder.specs.Cited.{KeptReg, Item, is_place}
use Rattle.tta_reorder.specs.Orders.{bare, picked}
use Rattle.tta_reorder.specs.Slots.{AreParts}
use Rattle.tta_reorder.specs.Rows.{none_changed, rows_from, table_after, table_by, same_ends, same_parts}
use Rattle.tta_reorder.proofs.Ordered.{Tested, order_is, ordered_meaning, ordered_no_more}
use Rattle.tta_reorder.proofs.agree.Checker.in_order.Goals as goal

tested : (c : goal.After-drop-found-2)
    → Tested c.args.on.now.machine.now c.args.b.now.live_out c.args.b.now.items c.in_ok-r.r.items c.as_slice-parts.result.now c.in_ok-rows.rows.items c.rows_of.new.table c.agrees.new.table c.args.numbers.now
tested c =
    let m = c.args.on.now.machine.now in
    let items = c.args.b.now.items in
    let fits = c.in_ok-fits.ensures.agree c.if-not-fits.false in
    let by = c.in_ok-fits.ensures.end c.if-not-fits.false in
    record {
      rules = c.rules.ensures;
      list = c.requires.list;
      front = rw (sym c.as_slice-items.ensures, sym c.settled-front.ensures) (c.count_up.ensures c.if-not-count_up.false);
      limits = ap (λ (l : List (ℕ × ℕ)). list_all (λ r. is_place (KeptReg r.0 r.1)) l) (sym c.as_slice-live.ensures) ∙ sym c.in_limits.ensures ∙ c.if-not-in_limits.false;
      rows_are = c.in_ok-rows.ensures.found ∙ ap (λ (l : List Item). rows_from m c.as_slice-parts.result.now none_changed 0 l) c.as_slice-items.ensures;
      end_is = c.in_ok-rows.ensures.end ∙ ap (λ (l : List Item). table_after m c.as_slice-parts.result.now none_changed 0 l) c.as_slice-items.ensures;
      agree = rw (sym c.as_slice-items.ensures, sym c.as_slice.ensures.value) fits;
      other_is = by ∙ ap (λ (l : List Item). table_by m c.as_slice-parts.result.now l none_changed c.args.numbers.now) c.as_slice-items.ensures;
      stores =
          ap (λ (l : List Item). same_parts m c.as_slice-parts.result.now c.agrees.new.table c.rows_of.new.table 0 l) (sym c.as_slice-items.ensures)
          ∙ c.same_parts.ensures c.if-not-same_parts.false;
      parted =
          subst (λ (l : List Item). AreParts m l c.as_slice-parts.result.now) c.as_slice-items.ensures
          (subst (λ (l : List ℕ). AreParts m c.as_slice-items.result.now l) (sym c.as_slice-parts.ensures.value) c.in_ok-found.ensures);
      ends = ap (λ (l : List (ℕ × ℕ)). same_ends l c.agrees.new.table c.rows_of.new.table) (sym c.as_slice-live.ensures) ∙ sym c.same_ends.ensures ∙ c.if-not-same_ends.false;
      picked_are = c.in_ok-r.ensures.items ∙ c.in_ok-others.ensures ∙ ap (λ (l : List Item). bare (picked l c.args.numbers.now)) c.as_slice-items.ensures;
      other_list = sym c.is_list.ensures ∙ c.if-not-is_list.false;
    }

pub returns-clause-order : goal.returns-clause-order
returns-clause-order c = order_is c.args.on.now.machine.now c.args.b.now.live_out c.args.b.now.items c.in_ok-r.r.items c.as_slice-parts.result.now c.in_ok-rows.rows.items c.rows_of.new.table c.agrees.new.table c.args.numbers.now (tested c)

pub returns-clause-meaning : goal.returns-clause-meaning
returns-clause-meaning c = ordered_meaning c.args.on.now.machine.now c.args.b.now.live_out c.args.b.now.items c.in_ok-r.r.items c.as_slice-parts.result.now c.in_ok-rows.rows.items c.rows_of.new.table c.agrees.new.table c.args.numbers.now (tested c)

pub returns-clause-no_more : goal.returns-clause-no_more
returns-clause-no_more c = ordered_no_more c.args.on.now.machine.now c.args.b.now.live_out c.args.b.now.items c.in_ok-r.r.items c.as_slice-parts.result.now c.in_ok-rows.rows.items c.rows_of.new.table c.agrees.new.table c.args.numbers.now (tested c)

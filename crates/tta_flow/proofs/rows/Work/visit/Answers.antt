use Rattle.std.proofs.Common.{length, refl, sym, ◌∙◌, ap, arith}
use Rattle.std.specs.Prelude.{◌&&◌, ◌||◌, ◌==◌, not}
use Rattle.std.proofs.lemmas.Option.{slice_get_read}
use Rattle.tta_flow.specs.Bits.{has}
use Rattle.tta_flow.specs.Rows.{wanted}
use Rattle.tta_flow.specs.Search.{is_found}
use Rattle.tta_flow.proofs.VisitLemmas.{filled_visits}
use Rattle.tta_flow.proofs.RowLemmas.{no}
use Rattle.tta_flow.proofs.rows.Work.visit.Goals as goal

pub returns-then-grown : goal.returns-then-grown
returns-then-grown c =
    filled_visits c.args.steps.now c.args.vars c.args.at c.index-steps-at.result c.absorb-grown.result c.index_mut-row.result.now c.absorb-grown.new.self
    c.args.self.now _ (record {
      work = c.requires.work;
      below = c.requires.there;
      there = slice_get_read c.args.steps.now (length c.args.steps.now) c.args.at c.index-steps-at.result refl c.requires.there c.index-steps-at.is;
      is = c.index_mut-row.ensures.value;
      set = refl;
      wants = λ x small. c.gather.ensures.bits x small ∙ ap (λ l. wanted l c.index-steps-at.result c.args.at x) c.as_slice.ensures.value;
      room = c.gather.ensures.room;
      bits = c.absorb-grown.ensures.bits;
      grows = c.absorb-grown.ensures.grows;
      flags = c.due_all.ensures.room ∙ c.unset.ensures.room;
      calm = λ g. no (sym c.if-grown.true ∙ g);
      due = λ g i below.
          c.due_all.ensures.bits i (let f = c.requires.work.flags in let r = c.unset.ensures.room in omega arith)
          ∙ ap (λ b. b || is_found c.at.result.now i) (c.unset.ensures.bits i)
          ∙ ap (λ b. (has c.args.self.now.due i && not (c.args.at == i)) || b) (c.at.ensures i ∙ c.requires.before.all c.args.at i c.requires.there);
    })

pub returns-else-grown : goal.returns-else-grown
returns-else-grown c =
    filled_visits c.args.steps.now c.args.vars c.args.at c.index-steps-at.result c.absorb-grown.result c.index_mut-row.result.now c.absorb-grown.new.self
    c.args.self.now _ (record {
      work = c.requires.work;
      below = c.requires.there;
      there = slice_get_read c.args.steps.now (length c.args.steps.now) c.args.at c.index-steps-at.result refl c.requires.there c.index-steps-at.is;
      is = c.index_mut-row.ensures.value;
      set = refl;
      wants = λ x small. c.gather.ensures.bits x small ∙ ap (λ l. wanted l c.index-steps-at.result c.args.at x) c.as_slice.ensures.value;
      room = c.gather.ensures.room;
      bits = c.absorb-grown.ensures.bits;
      grows = c.absorb-grown.ensures.grows;
      flags = c.unset.ensures.room;
      calm = λ g. c.unset.ensures.bits;
      due = λ g. no (sym g ∙ c.if-grown.false);
    })

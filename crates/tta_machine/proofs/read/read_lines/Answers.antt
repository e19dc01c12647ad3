use Rattle.std.proofs.Common.{◌≡◌, ◌+◌, ◌∷◌, List, Ok, length, map, refl, sym, subst, ◌∙◌, arith}
use Rattle.tta_machine.specs.Cited.{Word, plain, stated}
use Rattle.std.specs.List.{AllByRecursion}
use Rattle.tta_parse.proofs.TextNames.{LineNames, text_names}
use Rattle.tta_machine.specs.Text.{take_line}
use Rattle.tta_machine.specs.Kept.{IsDraft}
use Rattle.tta_machine.proofs.Whole.{lines_taken}
use Rattle.tta_machine.proofs.TakenLines.{take_line-keeps, nothing-kept}
use Rattle.tta_machine.proofs.read.read_lines.Goals as goal

-- before the first line, all lines of the text are left
pub loop-words-init : goal.loop-words-init
loop-words-init g c =
    record {
      rest = rw (c.requires.empty, c.new-lines.ensures.lines) refl;
      kept = subst IsDraft (sym c.requires.empty) nothing-kept;
      names = subst (AllByRecursion LineNames) (sym c.new-lines.ensures.lines) (text_names c.args.text.now);
      room = omega (arith, c.new-lines.ensures.few);
    }

-- the first of the lines that are left was taken
pub loop-words-preserved : goal.loop-words-preserved
loop-words-preserved g c =
    let U = stated (λ v. (goal.OpUnit-dyn g v).unit_meaning v.1) c.args.units.now in
    let line = c.loop-words.line + 1 in
    let words = map plain c.next_line.new.words.items in
    let rest = c.next_line.new.self in
    let next = c.take_line.new.self in
    let Taken : List Word → Type 0 = λ ws. take_line U line c.loop-words.draft (map plain ws) ≡ Ok next in
    let taken : take_line U line c.loop-words.draft words ≡ Ok next = subst Taken c.as_slice.ensures.value c.in-Ok.ensures in
    let split : c.loop-words.lines ≡ words ∷ rest = c.in_ok-next_line.ensures.more c.if-branch.true in
    let counted : length c.loop-words.lines ≡ length rest + 1 = c.in_ok-next_line.ensures.counted c.if-branch.true in
    let names : AllByRecursion LineNames (words ∷ rest) = subst (AllByRecursion LineNames) split c.loop-words.invariant.names in
    record {
      rest = sym (lines_taken U line c.loop-words.draft next words c.loop-words.lines rest split taken) ∙ c.loop-words.invariant.rest;
      kept = take_line-keeps U line c.loop-words.draft next words c.loop-words.invariant.kept names.0 taken;
      names = names.1;
      room = omega (arith, c.loop-words.invariant.room, counted);
    }

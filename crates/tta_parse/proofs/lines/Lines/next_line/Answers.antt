use Rattle.std.proofs.Common.{◌≡◌, true, false}
use Rattle.tta_parse.proofs.lines.Lines.next_line.Goals as goal

-- where a line is answered, none is not answered
told : {A : Type 0} → true ≡ false → A
told e = cc

pub returns-then-is_line_end-clause-none : goal.returns-then-is_line_end-clause-none
returns-then-is_line_end-clause-none c = told

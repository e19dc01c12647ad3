use Rattle.tta_tac.proofs.Described.{program_said, said_program}
use Rattle.tta_tac.proofs.Over.{program_over}
use Rattle.tta_tac.proofs.Programs.{program_rules}
use Rattle.tta_tac.proofs.laws.texts_are_programs.Goals as goal

pub returns : goal.returns
returns c = record { program = program_rules; grammar = program_said; exact = said_program; over = program_over }

use Rattle.tta_trap.proofs.Staying.{trap_words_stay}
use Rattle.tta_trap.proofs.laws.trap_words_stay.Goals as goal

pub returns : goal.returns
returns c = trap_words_stay

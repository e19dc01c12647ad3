use Rattle.std.proofs.Common.{◌≡◌, drop}
use Rattle.tta_asm.proofs.pieces.Pieces.skip.Given as goal

-- so many pieces are passed over
abbrev pub invariant-loop : goal.invariant-loop
invariant-loop l = l.self ≡ drop l.counter l.initial.self

use Rattle.std.proofs.Common.{◌≡◌, drop}
use Rattle.std.specs.Prelude.{max}
use Rattle.tta_depend.specs.Rows.{against}
use Rattle.tta_depend.proofs.rows.against_shown.Given as goal

abbrev pub invariant-loop-t : goal.invariant-loop-t
invariant-loop-t l = max l.least (against (λ r. r.shown) l.round l.rows (drop l.t-index l.touches)) ≡ against (λ r. r.shown) l.round l.rows l.touches

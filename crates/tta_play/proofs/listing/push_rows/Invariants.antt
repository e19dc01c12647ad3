use Rattle.std.proofs.Common.{◌≡◌, ◌++◌, drop, map}
use Rattle.std.specs.List.{enumerate_from}
use Rattle.tta_play.specs.Cited.{stated, fitting}
use Rattle.tta_play.specs.Statement.{row_text, rows_text}
use Rattle.tta_play.proofs.listing.push_rows.Given as goal

abbrev pub invariant-loop-address : goal.invariant-loop-address
invariant-loop-address g l =
    let U = stated (λ v. (goal.OpUnit-dyn g v).unit_meaning v.1) l.units in
    l.out.items ++ fitting l.room (map (λ e. row_text U l.m e.0 e.1) (enumerate_from l.address (drop l.address l.words)))
    ≡ l.initial.out.items ++ rows_text U l.m l.words

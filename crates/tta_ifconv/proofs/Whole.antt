-- What a converted program is to the program, put together.
use Rattle.tta_ifconv.specs.Statement.{Converts}
use Rattle.tta_ifconv.proofs.Runs.{run_alike}
use Rattle.tta_ifconv.proofs.Unique.{one_conversion, no_triangle_left, stands_over}
use Rattle.tta_ifconv.proofs.Kept.{program_kept}
use Rattle.tta_ifconv.proofs.Listed.{no_greater}

pub converts_holds : Converts
converts_holds p q is = record {
  runs = λ u memory input. run_alike u p q is memory input;
  whole = no_triangle_left p q is;
  one = λ rules other made. one_conversion p other q rules made is;
  rules = program_kept p q is;
  over = λ u over. stands_over u p q is over;
  size = no_greater p q is;
}

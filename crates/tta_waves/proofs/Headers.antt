-- What stands before the first cycle.
use Rattle.std.proofs.Common.{◌≡◌, ℕ, List, ◌++◌, ap, ◌∙◌}
use Rattle.std.specs.Prelude.{codes}
use Rattle.tta_list.proofs.Lists.{then_more}
use Rattle.tta_waves.specs.Cited.{Machine}
use Rattle.tta_waves.specs.declared.signal.Signal.{Signal}
use Rattle.tta_waves.specs.Dump.{declarations_text, header_text}
use Rattle.tta_waves.specs.Signals.{signals_of}

-- the declarations of the machine's signals, between two texts
pub header_is : (m : Machine) (signals : List Signal) (old one two new : List ℕ) → signals ≡ signals_of m
    → one ≡ old ++ codes "$version tta waves $end\n$timescale 1 ns $end\n$scope module tta_core $end\n" → two ≡ one ++ declarations_text m signals
    → new ≡ two ++ codes "$upscope $end\n$enddefinitions $end\n" → new ≡ old ++ header_text m
unfolding header_text
header_is m signals old one two new all first second third =
    let last = codes "$upscope $end\n$enddefinitions $end\n" in
    then_more old one new (codes "$version tta waves $end\n$timescale 1 ns $end\n$scope module tta_core $end\n") (declarations_text m (signals_of m) ++ last) first
    (then_more one two new (declarations_text m (signals_of m)) last (second ∙ ap (λ l. one ++ declarations_text m l) all) third)

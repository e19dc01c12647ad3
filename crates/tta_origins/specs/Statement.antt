-- What is told of where the code of a program comes from.
use Rattle.std.specs.Prelude.{ℕ, List, map}
use Rattle.std.specs.List.{enumerate_from}
use Rattle.tta_origins.specs.Cited.{Machine, Program, starts_from, fitting, homes_in, Stages}
use Rattle.tta_origins.specs.Origins.{origin_text}

-- the blocks of code, which begins at these addresses: as many of them, from the first on, as have 512 KiB at most
unfoldable pub origins_from : Machine → Program → Stages → (starts : List ℕ) → List ℕ
origins_from m p s starts =
    fitting 524288 (map (λ x. origin_text m (homes_in s.choice) p s.lowered starts s.planned.placed.items x.0 x.1) (enumerate_from 0 s.lowered.parts.items))

-- the same, by the addresses at which the code of the blocks begins
abbrev pub origins_text : Machine → Program → Stages → List ℕ
origins_text m p s = origins_from m p s (starts_from 0 s.planned.placed.items)

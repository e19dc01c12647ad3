-- A list that waits does nothing more.
use Rattle.std.proofs.Common.{◌≡◌, ℕ, true, List, [], ◌∷◌, refl}
use Rattle.tta_moves.specs.Cited.{Units, Machine, Effect}
use Rattle.tta_moves.specs.Meaning.{Held, is_waiting, does, does_all}

pub stuck_all : (u : Units) (m : Machine) (back : ℕ) (h : Held) (es : List Effect) → is_waiting h.exit ≡ true → does_all u m back h es ≡ h
unfolding does
stuck_all u m back h [] waits = refl
stuck_all u m back h (e ∷ es) waits = rw waits (stuck_all u m back h es waits)

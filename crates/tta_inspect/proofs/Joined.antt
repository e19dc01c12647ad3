-- Cores of files, and what is put of their circuits.
use Rattle.std.proofs.Common.{◌≡◌, ℕ, suc, List, [], ◌∷◌, length, Option, Some, refl, subst, inr}
use Rattle.std.specs.Prelude.{slice_get}
use Rattle.tta_inspect.specs.Cited.{World, Output, Units, Core, CanLoad, Status, IsTaken, no_memory, TextEnds, AreLinks, cores_in, TakesCores, AreSound}
use Rattle.tta_ports.proofs.Worlds.{same_world}
use Rattle.tta_inspect.specs.Depths.{depths_in}
use Rattle.tta_inspect.specs.Joining.{IsNetText, ShowsCores, ShowsNet}

-- cores that can be loaded can stand in a text
pub sound : (cores : List Core) (memories : List (List ℕ))
    → ((k : ℕ) (core : Core) (memory : List ℕ) → slice_get cores k ≡ Some core → slice_get memories k ≡ Some memory → CanLoad core memory)
    → AreSound cores memories
sound [] memories each = tt
sound (c ∷ cs) [] each = tt
sound (c ∷ cs) (m ∷ ms) each =
    let first = each 0 c m refl refl in
    (record { legal = first.legal; size = first.size }, sound cs ms (λ k core memory at there. each (suc k) core memory at there))

-- cores that were taken, and what is put of them
pub cores_shown : (u : Units) (depths : List ℕ) (names : List (List ℕ)) (feeds : List (Option ℕ)) (cores : List Core) (memories : List (List ℕ))
    (before after : World) (old new : Output) (s : Status) → TakesCores u names (cores_in (length names)) cores memories before after
    → TextEnds (IsNetText u cores memories feeds (depths_in (cores_in (length names)) depths)) no_memory old new s
    → ShowsCores u depths names feeds before after old new s
cores_shown u depths names feeds cores memories before after old new s takes ends =
    inr (record { cores = cores; memories = memories; many = takes.many; are = takes.are }, takes.untouched, ends)

-- links that were taken, and what became of all that follows
pub links_shown : (u : Units) (depths LINKS : List ℕ) (names : List (List ℕ)) (feeds : List (Option ℕ)) (before between after : World) (old new : Output) (s : Status)
    → IsTaken (AreLinks (cores_in (length names))) LINKS feeds before between → ShowsCores u depths names feeds between after old new s
    → ShowsNet u depths LINKS names before after old new s
links_shown u depths LINKS names feeds before between after old new s taken ends =
    inr (
      record { value = feeds; held = taken.held },
      subst (λ w. ShowsCores u depths names feeds w after old new s) (same_world before between taken.untouched) ends,
    )

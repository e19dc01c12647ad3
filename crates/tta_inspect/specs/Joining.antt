-- What `rtl net` does, and why it does not.
use Rattle.std.specs.Prelude.{◌≡◌, ◌⊎◌, ℕ, List, length, Option}
use Rattle.tta_inspect.specs.Cited.{World, IsUntouched, Output, NothingOutput, Units, Core, Status, FileFails, no_memory, TextEnds, AreLinks, RefusesLinks, cores_in, HasCores, CoresFail, net_text}
use Rattle.tta_load.specs.Held.{Held}
use Rattle.tta_inspect.specs.Depths.{depths_in}

-- a text is that of the circuits of cores that are joined by queues, whose data spaces begin with these words
abbrev pub IsNetText : Units → List Core → (memories : List (List ℕ)) → (feeds : List (Option ℕ)) → (depths : List ℕ) → (text : List ℕ) → Type 0
IsNetText u cores memories feeds depths text = text ≡ net_text u cores memories feeds depths

-- Where this core feeds each, how the command ends: a core is not taken, and nothing is put; or no file is touched, and the text of the
-- cores is put, with queues of as many words as a word says.
abbrev pub ShowsCores : Units → (depths : List ℕ) → (names : List (List ℕ)) → (feeds : List (Option ℕ)) → (before after : World) → (old new : Output) → Status → Type 0
ShowsCores u depths names feeds before after old new s =
    let count = cores_in (length names) in
    (CoresFail u names count before after s × NothingOutput old new)
    ⊎ ((has : HasCores u before.contents names count)
    × IsUntouched before after × TextEnds (IsNetText u has.cores has.memories feeds (depths_in count depths)) no_memory old new s)

-- How `rtl net DEPTHS LINKS` with three names for each core ends: the links are not taken, and nothing is put; or the cores are shown. Its
-- words are counted from `net` on, as those of `net` are.
abbrev pub ShowsNet : Units → (depths LINKS : List ℕ) → (names : List (List ℕ)) → (before after : World) → (old new : Output) → Status → Type 0
ShowsNet u depths LINKS names before after old new s =
    let count = cores_in (length names) in
    (FileFails (RefusesLinks count) LINKS 2 before after s × NothingOutput old new)
    ⊎ ((links : Held (AreLinks count) before.contents LINKS) × ShowsCores u depths names links.value before after old new s)

-- What holds where the command `rtl net` ends with a status, for each status.
use Rattle.std.specs.Prelude.{◌≡◌, ◌↔◌, ℕ, List, length, Option, Err}
use Rattle.tta_exit_laws.specs.Cited.{Store, World, IsUntouched, Output, NothingOutput, IsPut, IsCut, Units, links_of, Status, HasText, Held, ReadFailed, AreLinks, cores_in, IsNetText, ShowsNet}
use Rattle.tta_inspect.specs.Depths.{depths_in}
use Rattle.tta_load.specs.declared.status.Status.TheVariants as status
use Rattle.tta_load.specs.Held.{IsTooLong}
use Rattle.tta_exit_laws.specs.NetEndings.{OfNet, OfCore, CoreRefused, NetFault}

-- files hold the links of a net and all of its cores, and something is true of the text of their circuits, with queues of as many words as
-- a word says
abbrev pub HasNetText : Units → (files : Option Store) → (depths LINKS : List ℕ) → (names : List (List ℕ)) → (Is : List ℕ → Type 0) → Type 0
HasNetText u files depths LINKS names Is =
    OfNet u files LINKS names (λ feeds cores memories.
    (text : List ℕ) × IsNetText u cores memories feeds (depths_in (cores_in (length names)) depths) text × Is text)

-- what holds where `rtl net DEPTHS LINKS` with three names for each core ends with a status; its words are counted from `net` on
abbrev pub NetTextEndings : Units → (depths LINKS : List ℕ) → (names : List (List ℕ)) → (before after : World) → (old new : Output) → Status → Type 0
NetTextEndings u depths LINKS names before after old new status.Ok =
    IsUntouched before after × HasNetText u before.contents depths LINKS names (λ text. IsPut text old new)
NetTextEndings u depths LINKS names before after old new status.WriteFault =
    IsUntouched before after × HasNetText u before.contents depths LINKS names (λ text. IsCut text old new)
NetTextEndings u depths LINKS names before after old new (status.BadLinks line code) =
    IsUntouched before after × NothingOutput old new
    × HasText before.contents LINKS (λ bytes. links_of (cores_in (length names)) bytes ≡ Err (line, code))
NetTextEndings u depths LINKS names before after old new (status.BadCore word code) =
    let count = cores_in (length names) in
    IsUntouched before after × NothingOutput old new × Held (AreLinks count) before.contents LINKS
    × OfCore u before.contents names count (CoreRefused u before.contents names word code)
NetTextEndings u depths LINKS names before after old new (status.ReadFault word) =
    NothingOutput old new × NetFault u before.contents LINKS names (λ name. ReadFailed name before after) word
NetTextEndings u depths LINKS names before after old new (status.TooLong word) =
    NothingOutput old new × NetFault u before.contents LINKS names (λ name. IsTooLong name before after) word
NetTextEndings u depths LINKS names before after old new status.NoMemory = IsUntouched before after × NothingOutput old new
NetTextEndings u depths LINKS names before after old new s = ⊥

-- the clause of `rtl net` says this of each status
abbrev pub NetTextByStatus : Type 0
NetTextByStatus =
    (u : Units) (depths LINKS : List ℕ) (names : List (List ℕ)) (before after : World) (old new : Output) (s : Status)
    → ShowsNet u depths LINKS names before after old new s ↔ NetTextEndings u depths LINKS names before after old new s

-- What the words ask for that follow the two files of `rtl`.
use Rattle.std.specs.Prelude.{ℕ, List, [], ◌∷◌, true, false, not, ◌&&◌, Option, Some, None, codes, if◌then◌else◌, option_map, option_and_then}
use Rattle.std.specs.Str.{bytes_eq}
use Rattle.tta_inspect.specs.Cited.{Features}
use Rattle.tta_inspect.specs.declared.view.CircuitView.{CircuitView}
use Rattle.tta_inspect.specs.declared.view.CircuitView.TheVariants.{Module, CodeFile}
use Rattle.tta_rtl.specs.declared.rom.Rom.TheVariants as rom

-- With no such word: a module with the words of the code in it, which only carries its code out.
abbrev pub plain_module : CircuitView
plain_module = Module rom.Text (record { faults = false; modules = false })

-- what a module does with one word more, which no word said before
abbrev pub with_feature : Features → (mark : List ℕ) → Option Features
with_feature features mark =
    if bytes_eq mark (codes "faults") && not features.faults then Some (record features { faults = true })
    else if bytes_eq mark (codes "modules") && not features.modules then Some (record features { modules = true })
    else None

-- A text with one word more: what the module does comes before where its code is, and the file of the code is asked for by its word alone.
abbrev pub with_mark : CircuitView → (mark : List ℕ) → Option CircuitView
with_mark (Module rom.Text features) mark =
    if bytes_eq mark (codes "rom=file") then Some (Module rom.File features)
    else if bytes_eq mark (codes "rom=words") && (not features.faults && not features.modules) then Some CodeFile
    else option_map (λ it. Module rom.Text it) (with_feature features mark)
with_mark (Module rom.File features) mark = None
with_mark CodeFile mark = None

-- a text with these words more, one after another
abbrev pub marked : CircuitView → List (List ℕ) → Option CircuitView
marked view [] = Some view
marked view (mark ∷ marks) = option_and_then (λ it. marked it marks) (with_mark view mark)

-- What a text of links says.
use Rattle.std.specs.Prelude.{◌≡◌, ℕ, ◌+◌, List, [], ◌∷◌, replicate, None, Result, Ok, Err}
use Rattle.tta_parse.specs.Lines.{Line, lines_of}
use Rattle.tta_topology.specs.declared.error.LinksError.{LinksError}
use Rattle.tta_topology.specs.declared.error.LinksError.TheVariants.{Refused, NoMemory}
use Rattle.tta_topology.specs.Refusals.{code_of}
use Rattle.tta_topology.specs.declared.error.Refusal.{Refusal}
use Rattle.tta_topology.specs.Links.{Feeds, taken}

-- the first line that is refused, and the number of its refusal
abbrev pub Cause : Type 0
Cause = ℕ × ℕ

-- goes on after a line, or stops at its refusal
abbrev pub after_line : (line : ℕ) → Result Feeds Refusal → (Feeds → Result Feeds Cause) → Result Feeds Cause
after_line line (Ok feeds) rest = rest feeds
after_line line (Err refusal) rest = Err (line, code_of refusal)

-- the links of lines, the first of which has this number
abbrev pub links_from : (line : ℕ) → Feeds → List Line → Result Feeds Cause
links_from line feeds [] = Ok feeds
links_from line feeds (ws ∷ lines) = after_line line (taken feeds ws) (λ next. links_from (line + 1) next lines)

-- the links of a text, of so many cores
abbrev pub links_of : (cores : ℕ) → List ℕ → Result Feeds Cause
links_of cores text = links_from 1 (replicate cores None) (lines_of text)

-- why no links were read: the first refusal, or there was no memory
abbrev pub HasCause : (cores : ℕ) → List ℕ → LinksError → Type 0
HasCause cores text (Refused line code) = links_of cores text ≡ Err (line, code)
HasCause cores text NoMemory = Unit {0}

-- Abstract states: what may hold of the walks that stand at one place, as it is kept. What no walk has written is left out.
use Rattle.std.specs.Prelude.{ℕ, Bool, true, false, not, ◌||◌, nat_le, nat_lt, if◌then◌else◌, List, [], ◌∷◌, slice_get}
use Rattle.std.specs.Option.{option_map_or}
use Rattle.tta_check.specs.Cited.{has_bit, Place, KeptReg, KeptImm, KeptOperand, KeptRa}
use Rattle.tta_arch.specs.Effects.{same_place}
use Rattle.tta_check.specs.declared.values.ValueSet.{ValueSet}
use Rattle.tta_check.specs.declared.values.ValueSet.TheVariants.{Nothing, One, Two}
use Rattle.tta_check.specs.declared.location.Location.{Location}
use Rattle.tta_check.specs.declared.location.Location.TheVariants as location
use Rattle.tta_check.specs.declared.state.Cell.{Cell}
use Rattle.tta_check.specs.declared.state.Kept.{Kept}
use Rattle.tta_check.specs.declared.state.Port.{Port}
use Rattle.tta_check.specs.declared.state.AbstractState.{AbstractState}
use Rattle.tta_check.specs.Walks.{Word}
use Rattle.tta_check.specs.Facts.{Fact, Here, Unset, Holds, Early, Late, same_word}

-- the place that a location is
abbrev pub place_of : Location → Place
place_of (location.Reg file index) = KeptReg file index
place_of (location.Imm unit index) = KeptImm unit index
place_of (location.Operand unit) = KeptOperand unit
place_of location.Ra = KeptRa

-- ---- words

-- whether a word is told
abbrev pub tells_word : ValueSet → Word → Bool
tells_word Nothing x = false
tells_word (One a) x = same_word x a
tells_word (Two a b) x = same_word x a || same_word x b

-- whether a word is admitted: beside two there may be more
abbrev pub covers_word : ValueSet → Word → Bool
covers_word Nothing x = false
covers_word (One a) x = same_word x a
covers_word (Two a b) x = true

-- words with one more
abbrev pub with_word : ValueSet → Word → ValueSet
with_word Nothing x = One x
with_word (One a) x = if same_word a x then One a else Two a x
with_word (Two a b) x = Two a b

-- words with two more, which differ
abbrev pub with_two : ValueSet → (a b : Word) → ValueSet
with_two Nothing a b = Two a b
with_two (One c) a b = if same_word c a then Two a b else Two c a
with_two (Two c d) a b = Two c d

-- the words of both
abbrev pub join_words : ValueSet → ValueSet → ValueSet
join_words h Nothing = h
join_words h (One a) = with_word h a
join_words h (Two a b) = with_two h a b

-- two words that are told differ
abbrev pub is_proper : ValueSet → Bool
is_proper Nothing = true
is_proper (One a) = true
is_proper (Two a b) = not (same_word a b)

-- ---- cells and ports

-- what is kept of a place that no walk has written
abbrev pub unwritten : Cell
unwritten = record { unset = true; values = Nothing }

-- what is kept of a place
abbrev pub cell_of : List Kept → Place → Cell
cell_of [] p = unwritten
cell_of (k ∷ ks) p = if same_place (place_of k.at) p then k.cell else cell_of ks p

-- what is kept of both
abbrev pub join_cells : Cell → Cell → Cell
join_cells a b = record { unset = a.unset || b.unset; values = join_words a.values b.values }

-- what is kept of the results of a unit that has started none
abbrev pub idle : Port
idle = record { early = 16; late = 0 }

abbrev pub port_of : List Port → ℕ → Port
port_of ports unit = option_map_or (λ p. p) (slice_get ports unit) idle

-- whether no result may be due by so many cycles from now; 16 stands for never
abbrev pub is_early : Port → ℕ → Bool
is_early p wait = nat_le 16 p.early || nat_lt wait p.early

-- ---- facts of an abstract state

-- the facts that are told, each of which has a walk
abbrev pub tells : AbstractState → Fact → Bool
tells r Here = true
tells r (Unset p) = (cell_of r.cells.items p).unset
tells r (Holds p x) = tells_word (cell_of r.cells.items p).values x
tells r (Early unit wait) = is_early (port_of r.ports.items unit) wait
tells r (Late unit wait) = has_bit (port_of r.ports.items unit).late wait

-- the facts that are admitted
abbrev pub covers : AbstractState → Fact → Bool
covers r Here = true
covers r (Unset p) = (cell_of r.cells.items p).unset
covers r (Holds p x) = covers_word (cell_of r.cells.items p).values x
covers r (Early unit wait) = is_early (port_of r.ports.items unit) wait
covers r (Late unit wait) = has_bit (port_of r.ports.items unit).late wait

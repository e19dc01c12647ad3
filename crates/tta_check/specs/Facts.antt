-- What may hold of a walk at one moment, fact by fact, and the one fact before a cycle that each fact after it comes from.
use Rattle.std.specs.Prelude.{ℕ, ◌+◌, ◌==◌, Bool, true, false, not, ◌&&◌, nat_le, if◌then◌else◌, List, Option, Some, None, is_none}
use Rattle.std.specs.Option.{option_map_or}
use Rattle.std.specs.List.{list_any}
use Rattle.tta_check.specs.Cited.{Source, Machine, Jumps, Calls, Halts, Target, Trigger, Control, Effect, Place, KeptReg, KeptImm, KeptOperand, KeptRa, width_of, has_result, op_at, first_some}
use Rattle.tta_arch.specs.declared.ends.Source.TheVariants as source
use Rattle.tta_arch.specs.Effects.{Reg, Imm, Operand}
use Rattle.tta_arch.specs.Effects.{same_place}
use Rattle.tta_check.specs.Walks.{Choice, Word, Walk, held_at, is_chosen}

-- a fact of a walk: that it is here; that a place was never written; that a place keeps this word; that no result of a unit is due by so
-- many cycles from now; that a result of a unit is due in so many cycles
pub data Fact : Type 0 where
  Here : Fact
  Unset : Place → Fact
  Holds : Place → Word → Fact
  Early : (unit wait : ℕ) → Fact
  Late : (unit wait : ℕ) → Fact

-- whether two words are one
abbrev pub same_word : Word → Word → Bool
same_word None None = true
same_word (Some a) (Some b) = a == b
same_word a b = false

-- whether a fact holds of a walk
abbrev pub is_fact : Walk → Fact → Bool
is_fact w Here = true
is_fact w (Unset p) = is_none (held_at w.values p)
is_fact w (Holds p x) = option_map_or (same_word x) (held_at w.values p) false
is_fact w (Early unit wait) = not (list_any (λ d. d.unit == unit && nat_le d.time (w.cycle + wait)) w.dues)
is_fact w (Late unit wait) = list_any (λ d. d.unit == unit && d.time == w.cycle + wait) w.dues

-- ---- effects under a choice

-- whether a choice lets an effect act
abbrev pub lets : Choice → Effect → Bool
lets choice e =
    option_map_or (λ g. if g.inverted then not (is_chosen choice g.file g.index) else is_chosen choice g.file g.index) e.guard true

-- the place that a target writes
abbrev pub place_in : Target → Option Place
place_in (Reg file index) = Some (KeptReg file index)
place_in (Imm unit index) = Some (KeptImm unit index)
place_in (Operand unit) = Some (KeptOperand unit)
place_in (Trigger unit op) = None
place_in (Control Jumps) = None
place_in (Control Calls) = Some KeptRa
place_in (Control Halts) = None

-- whether a target writes a place
abbrev pub goes_into : Place → Target → Bool
goes_into p t = option_map_or (λ q. same_place q p) (place_in t) false

-- where a word that is written comes from: it is always the same, or it is the word of a place
pub data Origin : Type 0 where
  Fixed : Word → Origin
  From : Place → Origin

-- where the word of a source comes from
abbrev pub origin_of : Source → Origin
origin_of (source.Reg file index) = From (KeptReg file index)
origin_of (source.Imm unit index) = From (KeptImm unit index)
origin_of (source.Shown unit) = Fixed None
origin_of source.Ra = From KeptRa
origin_of (source.Value word) = Fixed (Some word)

-- where the word comes from that a target keeps
abbrev pub origin_in : Machine → (back : ℕ) → Source → Target → Origin
origin_in m back src (Reg file index) = if width_of m file == 1 then Fixed None else origin_of src
origin_in m back src (Imm unit index) = origin_of src
origin_in m back src (Operand unit) = Fixed None
origin_in m back src (Trigger unit op) = Fixed None
origin_in m back src (Control Jumps) = Fixed None
origin_in m back src (Control Calls) = Fixed (Some back)
origin_in m back src (Control Halts) = Fixed None

-- the fact before a cycle by which an origin gives this word, if it can
abbrev pub gives : Origin → Word → Option Fact
gives (Fixed y) x = if same_word x y then Some Here else None
gives (From q) x = Some (Holds q x)

-- the latency of the operation with a result that a target starts on a unit
abbrev pub starts_on : Machine → ℕ → Target → Option ℕ
starts_on m unit (Trigger u op) =
    if u == unit then option_map_or (λ o. if has_result o.op then Some o.latency else None) (op_at m u op) None else None
starts_on m unit (Reg file index) = None
starts_on m unit (Imm u index) = None
starts_on m unit (Operand u) = None
starts_on m unit (Control kind) = None

-- ---- facts across a cycle

-- the effect that acts and writes a place
abbrev pub writer : Choice → Place → List Effect → Option Effect
writer choice p es = first_some (λ e. if lets choice e && goes_into p e.target then Some e else None) es

-- whether an effect acts that starts a result on a unit whose latency passes a test
abbrev pub starts_where : Machine → Choice → ℕ → (ℕ → Bool) → List Effect → Bool
starts_where m choice unit test es = list_any (λ e. lets choice e && option_map_or test (starts_on m unit e.target) false) es

-- The fact before a cycle from which a fact after it comes, under a choice; none where the fact cannot be.
abbrev pub before : Machine → (back : ℕ) → Choice → List Effect → Fact → Option Fact
before m back choice es Here = Some Here
before m back choice es (Unset p) = option_map_or (λ e. None) (writer choice p es) (Some (Unset p))
before m back choice es (Holds p x) =
    option_map_or (λ e. gives (origin_in m back e.src e.target) x) (writer choice p es) (Some (Holds p x))
before m back choice es (Early unit wait) =
    if starts_where m choice unit (λ l. nat_le l (wait + 1)) es then None else Some (Early unit (wait + 1))
before m back choice es (Late unit wait) =
    if starts_where m choice unit (λ l. l == wait + 1) es then Some Here else Some (Late unit (wait + 1))

-- whether a fact that comes from another is one of a walk
abbrev pub comes : Walk → Option Fact → Bool
comes w o = option_map_or (is_fact w) o false

-- What `build` answers: code that does what the program does, or why there is none.
use Rattle.std.specs.Prelude.{◌≡◌, ℕ, ◌<◌, ◌≤◌, ◌^◌, Bool, true, false, Option, Some, None, is_some, option_map, slice_index, length}
use Rattle.std.specs.Option.{option_map_or}
use Rattle.tta_build.specs.Cited.{Units, Op, Machine, first_some, hub_of, offered_by, is_usable_at, failed_rule, Step, Proc, Program, frame_need, Whole, IsLegalWhole, Agrees, need_of, first_failing, is_direct, room_on, IsPacked, IsLength}
use Rattle.tta_build.specs.Compiled.{CompilesTo}
use Rattle.tta_build.specs.Value.{IsMadeOf}
use Rattle.tta_build.specs.declared.error.BuildError.{BuildError}
use Rattle.tta_build.specs.declared.error.BuildError.TheVariants.{NotCovered, NoUnit, FrameFull, CodeFull, NoMemory}

-- ---- what the machine has to offer

-- whether a usable unit offers an operation
abbrev pub has_offer : Machine → Op → Bool
has_offer m op = option_map_or (λ hub. is_some (offered_by m (is_usable_at m hub) op)) (hub_of m) false

-- whether a usable unit offers what a step needs, if it needs an operation
abbrev pub is_supplied : Units → Machine → Step → Bool
is_supplied u m step = option_map_or (has_offer m) (need_of u step) true

-- the line of the first step of a procedure whose need no usable unit offers, if there is one
abbrev pub unsupplied_in : Units → Machine → Proc → Option ℕ
unsupplied_in u m q = option_map (slice_index q.lines) (first_failing (is_supplied u m) 0 q.steps)

-- the line of the first such step of a program, procedures and steps in the order of the text
abbrev pub unsupplied : Units → Machine → Program → Option ℕ
unsupplied u m p = first_some (unsupplied_in u m) p.procs

-- A pair of which nothing more is asked than that the code has room: a direct pair, or a machine that keeps all rules of
-- coverage, whose usable units offer what the program needs, and whose frame space has the words that the program needs.
pub data IsAccepted (u : Units) (m : Machine) (p : Program) : Type 0 where
  Direct : is_direct m p ≡ true → IsAccepted u m p
  Covered : is_direct m p ≡ false → failed_rule m ≡ None → unsupplied u m p ≡ None → frame_need p ≤ m.frame_words → IsAccepted u m p

-- ---- the answers

-- code with data that does what the program does, from every memory, for every input and for every bound; the machine can
-- carry it out, its data lie in the data space, it is packed, it has no more instructions than the pair's room, it has those
-- that are compiled of the pair, and it is the code of what the compiler makes of the pair
pub record IsBuilt (u : Units) (m : Machine) (p : Program) (whole : Whole) : Type 0 where
  pub accepted : IsAccepted u m p
  pub agrees : Agrees u m p whole
  pub legal : IsLegalWhole m whole
  pub packed : IsPacked u m p whole.code
  pub room : length whole.code.words ≤ room_on m p
  pub compiled : CompilesTo u m p (length whole.code.words)
  pub made : IsMadeOf u m p whole.code

-- the machine breaks a rule of coverage, and keeps those before it; and the pair is not direct
pub record BreaksRule (m : Machine) (p : Program) (rule : ℕ) : Type 0 where
  pub other : is_direct m p ≡ false
  pub first : failed_rule m ≡ Some rule

-- the first step whose need no usable unit offers stands in this line; the machine keeps all rules
pub record LacksUnit (u : Units) (m : Machine) (p : Program) (line : ℕ) : Type 0 where
  pub other : is_direct m p ≡ false
  pub covered : failed_rule m ≡ None
  pub first : unsupplied u m p ≡ Some line

-- the program needs more frame words than the machine has, which keeps all rules and offers all that is needed
pub record LacksFrames (u : Units) (m : Machine) (p : Program) (need have : ℕ) : Type 0 where
  pub other : is_direct m p ≡ false
  pub covered : failed_rule m ≡ None
  pub supplied : unsupplied u m p ≡ None
  pub words : need ≡ frame_need p
  pub there : have ≡ m.frame_words
  pub more : have < need

-- What is compiled of a pair that is accepted takes more instructions than the machine has addresses. Packed code has as
-- many; and they are no more than the pair's room.
pub record LacksRoom (u : Units) (m : Machine) (p : Program) (words have : ℕ) : Type 0 where
  pub accepted : IsAccepted u m p
  pub addresses : have ≡ 2 ^ m.control.address
  pub more : have < words
  pub room : words ≤ room_on m p
  pub length : IsLength u m p words
  pub compiled : CompilesTo u m p words

-- why there is no code; being out of memory needs no cause
abbrev pub HasCause : Units → Machine → Program → BuildError → Type 0
HasCause u m p (NotCovered rule) = BreaksRule m p rule
HasCause u m p (NoUnit line) = LacksUnit u m p line
HasCause u m p (FrameFull need have) = LacksFrames u m p need have
HasCause u m p (CodeFull words have) = LacksRoom u m p words have
HasCause u m p NoMemory = Unit {0}

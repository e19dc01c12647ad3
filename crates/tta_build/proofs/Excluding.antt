-- The causes of two errors contradict each other, and code contradicts all that are not about room or memory.
use Rattle.std.proofs.Common.{◌≡◌, ◌<◌, ◌≤◌, ◌^◌, ℕ, List, Bool, true, false, refl, ap, arith, length}
use Rattle.std.specs.Prelude.{◌==◌, Option, Some}
use Rattle.std.proofs.lemmas.Bool.{eq-eqb, and_from}
use Rattle.tta_build.specs.Cited.{Units, Machine, Program, Placed, total_length}
use Rattle.tta_build.specs.declared.error.BuildError.{BuildError}
use Rattle.tta_build.specs.declared.error.BuildError.TheVariants.{NotCovered, NoUnit, FrameFull, CodeFull, NoMemory}
use Rattle.tta_build.specs.Statement.{IsAccepted, Direct, Covered, BreaksRule, LacksUnit, LacksFrames}
use Rattle.tta_build.specs.Converted.{IsBuiltWith, HasCauseWith}
use Rattle.tta_build.specs.Excludes.{go_together, is_beside_code, CausesExclude, CodeExcludes, FullExcludes}

-- ---- what the causes say alike, with the converted program and without

-- of full code it matters that the pair is accepted, and how many addresses there are
pub record IsFull (u : Units) (m : Machine) (p : Program) (have : ℕ) : Type 0 where
  pub accepted : IsAccepted u m p
  pub addresses : have ≡ 2 ^ m.control.address

abbrev pub Excludes : Units → Machine → Program → BuildError → Type 0
Excludes u m p (NotCovered rule) = BreaksRule m p rule
Excludes u m p (NoUnit line) = LacksUnit u m p line
Excludes u m p (FrameFull need have) = LacksFrames u m p need have
Excludes u m p (CodeFull words have) = IsFull u m p have
Excludes u m p NoMemory = Unit {0}

pub of_cause : (converts : Bool) (u : Units) (m : Machine) (p : Program) (e : BuildError) → HasCauseWith converts u m p e
    → Excludes u m p e
of_cause false u m p (NotCovered rule) c = c
of_cause true u m p (NotCovered rule) c = c
of_cause false u m p (NoUnit line) c = c
of_cause true u m p (NoUnit line) c = c
of_cause false u m p (FrameFull need have) c = c
of_cause true u m p (FrameFull need have) c = c
of_cause false u m p (CodeFull words have) c = record { accepted = c.accepted; addresses = c.addresses }
of_cause true u m p (CodeFull words have) c = record { accepted = c.accepted; addresses = c.addresses }
of_cause converts u m p NoMemory c = tt

-- ---- code and an error

-- a pair that is accepted has none of the causes but those of room and memory
pub accepted_excludes : (u : Units) (m : Machine) (p : Program) (e : BuildError) → IsAccepted u m p → Excludes u m p e → is_beside_code e ≡ true
accepted_excludes u m p NoMemory accepted c = refl
accepted_excludes u m p (CodeFull words have) accepted c = refl
accepted_excludes u m p (NotCovered rule) (Direct is) c = let other = c.other in absurd cc
accepted_excludes u m p (NotCovered rule) (Covered other kept supplied fits) c = let first = c.first in absurd cc
accepted_excludes u m p (NoUnit line) (Direct is) c = let other = c.other in absurd cc
accepted_excludes u m p (NoUnit line) (Covered other kept supplied fits) c = let first = c.first in absurd cc
accepted_excludes u m p (FrameFull need have) (Direct is) c = let other = c.other in absurd cc
accepted_excludes u m p (FrameFull need have) (Covered other kept supplied fits) c =
    let words = c.words in let there = c.there in let more = c.more in absurd (omega arith)

pub code_excludes : CodeExcludes
code_excludes converts u m p whole e built c = accepted_excludes u m p e (accepted converts built) (of_cause converts u m p e c) where
  accepted : (x : Bool) → IsBuiltWith x u m p whole → IsAccepted u m p
  accepted false built = built.accepted
  accepted true built = built.accepted

-- ---- two errors

-- errors with one number are one
one_number : {a b : ℕ} {o : Option ℕ} → o ≡ Some a → o ≡ Some b → (a == b) ≡ true
one_number {a = a} {b = b} is js = eq-eqb a b cc

same_numbers : {a b n : ℕ} → a ≡ n → b ≡ n → (a == b) ≡ true
same_numbers {a = a} {b = b} is js = eq-eqb a b cc

-- two errors, by cases
exclude : (u : Units) (m : Machine) (p : Program) (e f : BuildError) → Excludes u m p e → Excludes u m p f → go_together e f ≡ true
exclude u m p NoMemory f c d = refl
exclude u m p (NotCovered a) (NotCovered b) c d = one_number c.first d.first
exclude u m p (NotCovered a) (NoUnit b) c d = let first = c.first in let kept = d.covered in absurd cc
exclude u m p (NotCovered a) (FrameFull need have) c d = let first = c.first in let kept = d.covered in absurd cc
exclude u m p (NotCovered a) (CodeFull words have) c d = let no = accepted_excludes u m p (NotCovered a) d.accepted c in absurd cc
exclude u m p (NotCovered a) NoMemory c d = refl
exclude u m p (NoUnit a) (NotCovered b) c d = let first = d.first in let kept = c.covered in absurd cc
exclude u m p (NoUnit a) (NoUnit b) c d = one_number c.first d.first
exclude u m p (NoUnit a) (FrameFull need have) c d = let first = c.first in let supplied = d.supplied in absurd cc
exclude u m p (NoUnit a) (CodeFull words have) c d = let no = accepted_excludes u m p (NoUnit a) d.accepted c in absurd cc
exclude u m p (NoUnit a) NoMemory c d = refl
exclude u m p (FrameFull need have) (NotCovered b) c d = let first = d.first in let kept = c.covered in absurd cc
exclude u m p (FrameFull need have) (NoUnit b) c d = let first = d.first in let supplied = c.supplied in absurd cc
exclude u m p (FrameFull need have) (FrameFull need' have') c d =
    and_from (need == need') (have == have') (same_numbers c.words d.words) (same_numbers c.there d.there)
exclude u m p (FrameFull need have) (CodeFull words have') c d = let no = accepted_excludes u m p (FrameFull need have) d.accepted c in absurd cc
exclude u m p (FrameFull need have) NoMemory c d = refl
exclude u m p (CodeFull words have) (NotCovered b) c d = let no = accepted_excludes u m p (NotCovered b) c.accepted d in absurd cc
exclude u m p (CodeFull words have) (NoUnit b) c d = let no = accepted_excludes u m p (NoUnit b) c.accepted d in absurd cc
exclude u m p (CodeFull words have) (FrameFull need have') c d = let no = accepted_excludes u m p (FrameFull need have') c.accepted d in absurd cc
exclude u m p (CodeFull words have) (CodeFull words' have') c d = same_numbers c.addresses d.addresses
exclude u m p (CodeFull words have) NoMemory c d = refl

pub causes_exclude : CausesExclude
causes_exclude converts u m p e f c d = exclude u m p e f (of_cause converts u m p e c) (of_cause converts u m p f d)

-- ---- code and full code

-- lists that take words that fit do not take more than there are addresses
fit_or_not : (m : Machine) (ps qs : List Placed) (n words have : ℕ) → n ≤ 2 ^ m.control.address → n ≡ total_length ps
    → have ≡ 2 ^ m.control.address → have < words → words ≡ total_length qs → ps ≡ qs → ⊥
fit_or_not m ps qs n words have fits takes there more long same =
    let alike = ap total_length same in absurd (omega (arith, fits, takes, there, more, long, alike))

pub full_excludes : FullExcludes
full_excludes false u m p whole words have built full same =
    fit_or_not m built.compiled.placements full.compiled.placements (length whole.code.words) words have built.legal.code.room
    built.compiled.takes full.addresses full.more full.compiled.takes same
full_excludes true u m p whole words have built full same =
    fit_or_not m built.compiled.placements full.compiled.placements (length whole.code.words) words have built.legal.code.room
    built.compiled.takes full.addresses full.more full.compiled.takes same

-- Each cause but that of memory contradicts what is asked of a pair that is accepted and has room, or whose plain code fits.
use Rattle.std.proofs.Common.{◌≡◌, Bool, true, false, ℕ, refl, arith}
use Rattle.tta_build.specs.Cited.{Units, Machine, Program}
use Rattle.tta_build.specs.declared.error.BuildError.{BuildError}
use Rattle.tta_build.specs.declared.error.BuildError.TheVariants.{NotCovered, NoUnit, FrameFull, CodeFull, NoMemory}
use Rattle.tta_build.specs.Statement.{IsAccepted}
use Rattle.tta_build.specs.Converted.{LacksRoomWith, HasCauseWith}
use Rattle.tta_build.specs.Completes.{IsRoomy, PlainFitsWith, BuildCompletes, BuildCompletesPlainly}
use Rattle.tta_build.specs.Excludes.{is_beside_code}
use Rattle.tta_build.proofs.NoLonger.{compiled_is_short}
use Rattle.tta_build.proofs.Excluding.{of_cause, accepted_excludes}

-- no code is too long
abbrev IsNeverFull : (converts : Bool) → Units → Machine → Program → Type 0
IsNeverFull converts u m p = (words have : ℕ) → LacksRoomWith converts u m p words have → ⊥

-- none is where there is room
not_full : (converts : Bool) (u : Units) (m : Machine) (p : Program) → IsRoomy u m p → IsNeverFull converts u m p
not_full false u m p roomy words have c =
    let room = roomy.room in let more = c.more in let most = c.room in let there = c.addresses in absurd (omega arith)
not_full true u m p roomy words have c =
    let room = roomy.room in let more = c.more in let most = c.room in let there = c.addresses in absurd (omega arith)

-- and none where the plain code fits
plainly_not_full : (converts : Bool) (u : Units) (m : Machine) (p : Program) → PlainFitsWith converts u m p → IsNeverFull converts u m p
plainly_not_full false u m p is words have c =
    let short = compiled_is_short u m p words c.compiled in
    let room = is.fits short.plain short.is in
    let more = c.more in let most = short.within in let there = c.addresses in absurd (omega (arith, room, more, most, there))
plainly_not_full true u m p is words have c =
    let short = compiled_is_short u m c.converted words c.compiled in
    let room = is.fits c.converted short.plain c.is short.is in
    let more = c.more in let most = short.within in let there = c.addresses in absurd (omega (arith, room, more, most, there))

-- full code lacks room
pub full_lacks : (converts : Bool) (u : Units) (m : Machine) (p : Program) (words have : ℕ) → HasCauseWith converts u m p (CodeFull words have)
    → LacksRoomWith converts u m p words have
full_lacks false u m p words have c = c
full_lacks true u m p words have c = c

-- the other causes are those that no pair has that is accepted
not_refused : (converts : Bool) (u : Units) (m : Machine) (p : Program) (e : BuildError) → IsAccepted u m p → IsNeverFull converts u m p
    → HasCauseWith converts u m p e → e ≡ NoMemory
not_refused converts u m p e accepted never c = by e c (accepted_excludes u m p e accepted (of_cause converts u m p e c)) where
  by : (e : BuildError) → HasCauseWith converts u m p e → is_beside_code e ≡ true → e ≡ NoMemory
  by NoMemory c beside = refl
  by (CodeFull words have) c beside = absurd (never words have (full_lacks converts u m p words have c))
  by (NotCovered rule) c beside = absurd cc
  by (NoUnit line) c beside = absurd cc
  by (FrameFull need have) c beside = absurd cc

pub completes : BuildCompletes
completes converts u m p e roomy c = not_refused converts u m p e roomy.accepted (not_full converts u m p roomy) c

pub completes_plainly : BuildCompletesPlainly
completes_plainly converts u m p e is c = not_refused converts u m p e (accepted converts is) (plainly_not_full converts u m p is) c where
  accepted : (x : Bool) → PlainFitsWith x u m p → IsAccepted u m p
  accepted false is = is.accepted
  accepted true is = is.accepted

-- Procedures that are there.
use Rattle.std.proofs.Common.{◌≡◌, ◌<◌, ℕ, Option, Some, None, length, slice_get, is_some, refl, sym, ap, ◌∙◌, arith}
use Rattle.std.proofs.lemmas.Bool.{false≢true}
use Rattle.tta_list.proofs.Lists.{some_within}
use Rattle.tta_lower.specs.Cited.{Proc, Program}
use Rattle.tta_lower.specs.Layout.{vars_of}

-- a procedure that is there
pub record ProcOf (p : Program) (owner : ℕ) : Type 0 where
  pub proc : Proc
  pub is : slice_get p.procs owner ≡ Some proc

-- a procedure below their number
pub proc-below : (p : Program) (owner : ℕ) → owner < length p.procs → ProcOf p owner
proc-below p owner lt = by (slice_get p.procs owner) refl where
  by : (t : Option Proc) → slice_get p.procs owner ≡ t → ProcOf p owner
  by None is = absurd (false≢true (sym (ap is_some is) ∙ some_within p.procs owner lt))
  by (Some q) is = record { proc = q; is = is }

-- a procedure that has a variable
pub proc-by-var : (p : Program) (owner x : ℕ) → x < vars_of p owner → ProcOf p owner
proc-by-var p owner x lt = by (slice_get p.procs owner) refl where
  none : slice_get p.procs owner ≡ None → vars_of p owner ≡ 0
  none is = rw is refl

  by : (t : Option Proc) → slice_get p.procs owner ≡ t → ProcOf p owner
  by None is = absurd (omega (arith, lt, none is))
  by (Some q) is = record { proc = q; is = is }

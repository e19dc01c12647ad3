-- What is kept of walks, by where they stand: an entry for each address, and for each cycle since the control move that is under way.
use Rattle.std.specs.Prelude.{◌≡◌, ◌≢◌, ℕ, ◌+◌, ◌*◌, ◌-◌, ◌≤◌, ◌==◌, Bool, true, false, ◌&&◌, is_none, if◌then◌else◌}
use Rattle.std.specs.Prelude.{List, [], ◌∷◌, ◌++◌, length, Option, Some, None, slice_get, slice_set, option_and_then}
use Rattle.std.specs.Option.{option_map_or}
use Rattle.tta_check.specs.Cited.{Kind, Jumps, Calls, Halts}
use Rattle.tta_check.specs.declared.state.AbstractState.{AbstractState}
use Rattle.tta_check.specs.declared.entries.EntryTable.{EntryTable}
use Rattle.tta_check.specs.declared.verdict.Verdict.{Verdict}
use Rattle.tta_check.specs.declared.verdict.Verdict.TheVariants.{Unsafe}
use Rattle.tta_check.specs.declared.visit.Successor.{Successor}
use Rattle.tta_check.specs.ProgramPoints.{Under, ProgramPoint}
use Rattle.tta_check.specs.Going.{point_as}
use Rattle.tta_check.specs.Joins.{IsJoined}
use Rattle.tta_check.specs.Measures.{measure, greatest_measure}

-- whether two kinds are one
abbrev pub same_kind : Kind → Kind → Bool
same_kind Jumps Jumps = true
same_kind Calls Calls = true
same_kind Halts Halts = true
same_kind a b = false

-- whether the same control move is under way
abbrev pub same_under : Option Under → Option Under → Bool
same_under None v = is_none v
same_under (Some u) None = false
same_under (Some u) (Some v) = u.left == v.left && (same_kind u.kind v.kind && u.word == v.word)

-- whether walks stand at the same
abbrev pub same_point : ProgramPoint → ProgramPoint → Bool
same_point j k = j.address == k.address && same_under j.under k.under

-- how many cycles ago the control move under way was made; 0 where there is none
abbrev pub ago : (delay : ℕ) → Option Under → ℕ
ago delay u = option_map_or (λ v. delay - v.left) u 0

-- the place of an entry
abbrev pub place_at : (delay : ℕ) → ProgramPoint → ℕ
place_at delay k = k.address * (delay + 1) + ago delay k.under

-- the abstract state of an entry, if it is kept for this program point
abbrev pub state_in : ProgramPoint → Option Successor → Option AbstractState
state_in k o = option_and_then (λ e. if same_point (point_as e.point) k then Some e.state else None) o

-- what is kept at a program point
abbrev pub state_at : (delay : ℕ) → List (Option Successor) → ProgramPoint → Option AbstractState
state_at delay entries k = option_and_then (state_in k) (slice_get entries (place_at delay k))

-- an entry at the place of where walks go on, or that there is none
abbrev pub IsAt : (delay : ℕ) → Successor → EntryTable → Option Successor → Type 0
IsAt delay o t e = slice_get t.entries.items (place_at delay (point_as o.point)) ≡ Some e

-- an entry is put at a place, which waits
pub record Sets (place : ℕ) (o : Successor) (old new : EntryTable) : Type 0 where
  pub entries : new.entries.items ≡ slice_set old.entries.items place (Some o)
  pub worklist : new.worklist.items ≡ old.worklist.items ++ (place ∷ [])

-- an abstract state has no greater measure than an abstract state of its places can
abbrev pub IsWeighed : AbstractState → Type 0
IsWeighed r = measure r ≤ greatest_measure (length r.cells.items)

-- an entry is joined with what is put to it: it is of the same program point
pub record Joins (o e both : Successor) : Type 0 where
  pub same : same_point (point_as e.point) (point_as o.point) ≡ true
  pub point : both.point ≡ o.point
  pub join : IsJoined e.state o.state both.state
  pub most : IsWeighed both.state

-- where walks go on is put into a table: there was no entry, or it has grown and waits, or it is as it was
pub data Puts (delay : ℕ) (o : Successor) (old new : EntryTable) : Type 0 where
  Fresh : IsAt delay o old None → Sets (place_at delay (point_as o.point)) o old new → Puts delay o old new
  Grown : (e both : Successor) → IsAt delay o old (Some e) → Joins o e both → measure both.state ≢ measure e.state
      → Sets (place_at delay (point_as o.point)) both old new → Puts delay o old new
  Calm : (e both : Successor) → IsAt delay o old (Some e) → Joins o e both → measure both.state ≡ measure e.state → new ≡ old → Puts delay o old new

-- a verdict where walks go on: they leave the code, or another control move is under way there
pub data PutEnds (delay len : ℕ) (o : Successor) (old : EntryTable) : Verdict → Type 0 where
  Leaves : len ≤ o.point.address → PutEnds delay len o old (Unsafe 65 o.point.address)
  Differs : (e : Successor) → IsAt delay o old (Some e) → same_point (point_as e.point) (point_as o.point) ≡ false
      → PutEnds delay len o old (Unsafe 80 (o.point.address - ago delay (point_as o.point).under))

-- what comes of putting
abbrev pub PutTo : (delay len : ℕ) → Successor → (old new : EntryTable) → Option Verdict → Type 0
PutTo delay len o old new None = Puts delay o old new
PutTo delay len o old new (Some v) = PutEnds delay len o old v

-- an abstract state joined with another, where it grows by that
abbrev pub Grows : (r s : AbstractState) → Option AbstractState → Type 0
Grows r s None = (both : AbstractState) × IsJoined r s both × IsWeighed both × (measure both ≡ measure r)
Grows r s (Some both) = IsJoined r s both × IsWeighed both × (measure both ≢ measure r)

-- a table for code of this length whose abstract states are as long as what is put there
pub record Fits (delay len : ℕ) (o : Successor) (t : EntryTable) : Type 0 where
  pub count : length t.entries.items ≡ len * (delay + 1)
  pub few : length o.state.ports.items ≤ 256
  pub cells : (p : ℕ) (e : Successor) → slice_get t.entries.items p ≡ Some (Some e)
      → length e.state.cells.items ≡ length o.state.cells.items
  pub ports : (p : ℕ) (e : Successor) → slice_get t.entries.items p ≡ Some (Some e)
      → length e.state.ports.items ≡ length o.state.ports.items

-- the same where there is something
abbrev pub FitsSome : (delay len : ℕ) → Option Successor → EntryTable → Type 0
FitsSome delay len None t = Unit {0}
FitsSome delay len (Some o) t = Fits delay len o t

abbrev pub PutSome : (delay len : ℕ) → Option Successor → (old new : EntryTable) → Option Verdict → Type 0
PutSome delay len None old new v = (new ≡ old) × (v ≡ None)
PutSome delay len (Some o) old new v = PutTo delay len o old new v

-- two that are put one after the other: each fits, and their abstract states are as long
pub record FitsBoth (delay len : ℕ) (acts stays : Option Successor) (t : EntryTable) : Type 0 where
  pub one : FitsSome delay len acts t
  pub other : FitsSome delay len stays t
  pub cells : (x y : Successor) → acts ≡ Some x → stays ≡ Some y → length x.state.cells.items ≡ length y.state.cells.items
  pub ports : (x y : Successor) → acts ≡ Some x → stays ≡ Some y → length x.state.ports.items ≡ length y.state.ports.items

-- what comes of putting both: a verdict at the first, or what comes of the second
pub data PutBoth (delay len : ℕ) (acts stays : Option Successor) (old new : EntryTable) : Option Verdict → Type 0 where
  First : (mid : EntryTable) (v : Verdict) → PutSome delay len acts old mid (Some v) → PutBoth delay len acts stays old new (Some v)
  Then : (mid : EntryTable) (v : Option Verdict) → PutSome delay len acts old mid None → PutSome delay len stays mid new v
      → PutBoth delay len acts stays old new v

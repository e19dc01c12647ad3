-- Moves that go to a destination, and lists that are searched for them.
use Rattle.std.proofs.Common.{◌≡◌, ℕ, zero, suc, ◌+◌, ◌==◌, Bool, true, false, ◌&&◌, List, [], ◌∷◌, ◌++◌, slice_get, Option, Some, None, refl, sym, ap, ◌∙◌, arith}
use Rattle.std.specs.Prelude.{if◌then◌else◌}
use Rattle.std.specs.Option.{option_map_or}
use Rattle.std.specs.List.{find, list_any, enumerate_from}
use Rattle.std.proofs.lemmas.Option.{none-some, same_Some}
use Rattle.std.proofs.lemmas.Bool.{and_parts, or_parts, or_left, or_right, false≢true, eq-eqb}
use Rattle.tta_hardware.specs.Cited.{Units, UnitOp, Dest, Machine, same_dest, Move, Instruction, is_set, value}
use Rattle.tta_arch.specs.declared.ends.Dest.TheVariants as dest
use Rattle.tta_image.proofs.EndsLemmas.{same_dest_true}
use Rattle.tta_hardware.specs.Signals.{Signal as Named, Acts, Expression}
use Rattle.tta_hardware.specs.Chains.{first_of}
use Rattle.tta_hardware.specs.Fields.{slot_at}
use Rattle.tta_hardware.specs.Stands.{Hardware}
use Rattle.tta_hardware.proofs.Arriving.{goes}

-- ---- what goes to a destination

-- a move that acts and goes there
pub record Going (env : Named → ℕ) (i : Instruction) (dst : Dest) (bus : ℕ) : Type 0 where
  pub move : Move
  pub at : slot_at i bus ≡ Some move
  pub acts : is_set (env (Acts bus)) ≡ true
  pub to : move.dst ≡ dst

pub going : (env : Named → ℕ) (i : Instruction) (dst : Dest) (bus : ℕ) → goes env i dst bus ≡ true → Going env i dst bus
going env i dst bus is = by (slot_at i bus) refl is where
  by : (o : Option Move) → slot_at i bus ≡ o → option_map_or (λ v. is_set (env (Acts bus)) && same_dest v.dst dst) o false ≡ true
      → Going env i dst bus
  by None at is = absurd (false≢true is)
  by (Some v) at is =
      let parts = and_parts (is_set (env (Acts bus))) (same_dest v.dst dst) is in
      record { move = v; at = at; acts = parts.0; to = same_dest_true v.dst dst parts.1 }

-- a move that acts and goes to a unit's trigger
pub record Triggering (env : Named → ℕ) (i : Instruction) (unit bus : ℕ) : Type 0 where
  pub move : Move
  pub op : ℕ
  pub at : slot_at i bus ≡ Some move
  pub acts : is_set (env (Acts bus)) ≡ true
  pub to : move.dst ≡ dest.Trigger unit op

-- ---- lists

-- the first of some choices and then of others
pub first_append : (u : Units) (m : Machine) (h : Hardware) (env : Named → ℕ) (xs ys : List (Expression × Expression)) (other : Expression)
    → value u h.memories env (first_of (xs ++ ys) other) ≡ value u h.memories env (first_of xs (first_of ys other))
first_append u m h env [] ys other = refl
first_append u m h env (x ∷ xs) ys other =
    ap (λ n. if is_set (value u h.memories env x.0) then value u h.memories env x.1 else n) (first_append u m h env xs ys other)

-- an operation that is there has its number in the list
pub any_code : (ops : List UnitOp) (j k op : ℕ) (o : UnitOp) → j + k ≡ op → slice_get ops k ≡ Some o
    → list_any (λ o. o.0 == op) (enumerate_from j ops) ≡ true
any_code [] j k op o e at = absurd (none-some o at)
any_code (x ∷ ops) j zero op o e at = or_left (j == op) (list_any (λ o. o.0 == op) (enumerate_from (j + 1) ops))
    (eq-eqb j op (omega (arith, e)))
any_code (x ∷ ops) j (suc k) op o e at = or_right (j == op) (list_any (λ o. o.0 == op) (enumerate_from (j + 1) ops))
    (any_code ops (j + 1) k op o (omega (arith, e)) at)

-- one that is found passes no test that none passes
pub found_not : {A : Type 0} (p q : A → Bool) (xs : List A) (x : A) → find p xs ≡ Some x → list_any q xs ≡ false → q x ≡ false
found_not p q [] x is none = absurd (none-some x is)
found_not p q (y ∷ xs) x is none =
    let parts = or_parts (q y) (list_any q xs) none in
    by (p y) is parts.0 (λ then_is. found_not p q xs x then_is parts.1)
  where
    by : (b : Bool) → (if b then Some y else find p xs) ≡ Some x → q y ≡ false → (find p xs ≡ Some x → q x ≡ false) → q x ≡ false
    by true is here rest = ap q (sym (same_Some y x is)) ∙ here
    by false is here rest = rest is

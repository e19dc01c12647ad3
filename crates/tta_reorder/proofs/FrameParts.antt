-- The same operation on parts of the frame space that are the same.
use Rattle.std.proofs.Common.{◌≡◌, ℕ, zero, suc, true, false, List, [], ◌∷◌, Option, Some, None, refl, sym, ap}
use Rattle.std.specs.Prelude.{fold, slice_get, slice_set, slice_index, option_map}
use Rattle.std.specs.Option.{option_map_or, option_to_list}
use Rattle.tta_reorder.specs.Cited.{UnitOp, Op, Ldw, Stw, Ldf, Stf, Out, Take, Set, Machine, Target, Reg, Imm, Operand, Trigger, Control, Written, op_at, Start, start_of, operand_of, operand_word, store_frame, does}
use Rattle.tta_reorder.specs.Channels.{Division, starts, loads_frame, uses_frame}
use Rattle.tta_reorder.proofs.Carried.{SamePart}
use Rattle.tta_moves.proofs.Steps.{starting}

pub index_by : (xs ys : List ℕ) (k : ℕ) → slice_get ys k ≡ slice_get xs k → slice_index ys k ≡ slice_index xs k
index_by [] [] k e = refl
index_by [] (y ∷ ys) zero e = absurd cc
index_by [] (y ∷ ys) (suc k) e = index_by [] ys k e
index_by (x ∷ xs) [] zero e = absurd cc
index_by (x ∷ xs) [] (suc k) e = index_by xs [] k e
index_by (x ∷ xs) (y ∷ ys) zero e = let same : y ≡ x = cc in same
index_by (x ∷ xs) (y ∷ ys) (suc k) e = index_by xs ys k e

none_set : (xs : List ℕ) (a v k : ℕ) → slice_get xs k ≡ None → slice_get (slice_set xs a v) k ≡ None
none_set [] a v k e = e
none_set (x ∷ xs) zero v zero e = absurd cc
none_set (x ∷ xs) zero v (suc k) e = e
none_set (x ∷ xs) (suc a) v zero e = absurd cc
none_set (x ∷ xs) (suc a) v (suc k) e = none_set xs a v k e

set_same : (xs ys : List ℕ) (a v k : ℕ) → slice_get ys k ≡ slice_get xs k → slice_get (slice_set ys a v) k ≡ slice_get (slice_set xs a v) k
set_same [] ys a v k e = none_set ys a v k e
set_same (x ∷ xs) [] a v k e = sym (none_set (x ∷ xs) a v k (sym e))
set_same (x ∷ xs) (y ∷ ys) zero v zero e = refl
set_same (x ∷ xs) (y ∷ ys) zero v (suc k) e = e
set_same (x ∷ xs) (y ∷ ys) (suc a) v zero e = e
set_same (x ∷ xs) (y ∷ ys) (suc a) v (suc k) e = set_same xs ys a v k e

-- the same operation leaves the same in a part
store_same : (d : Division) (part : ℕ) (xs ys : List ℕ) (s : Start) → SamePart d part xs ys → SamePart d part (store_frame xs s) (store_frame ys s)
store_same d part xs ys s same slot at = on s.does.op refl where
  on : (o : Op) → s.does.op ≡ o → slice_get (store_frame ys s) slot ≡ slice_get (store_frame xs s) slot
  on Ldw is = rw is (same slot at)
  on Stw is = rw is (same slot at)
  on Ldf is = rw is (same slot at)
  on Out is = rw is (same slot at)
  on Take is = rw is (same slot at)
  on (Set id) is = rw is (same slot at)
  on Stf is = rw is (set_same xs ys (operand_word s) s.word slot (same slot at))

pub frame_same : (d : Division) (part : ℕ) (xs ys : List ℕ) (o : Option Start) → SamePart d part xs ys → SamePart d part (fold store_frame xs (option_to_list o)) (fold store_frame ys (option_to_list o))
frame_same d part xs ys None same = same
frame_same d part xs ys (Some s) same = store_same d part xs ys s same

pub loads_uses : (o : Op) → loads_frame o ≡ true → uses_frame o ≡ true
loads_uses Ldw e = absurd cc
loads_uses Stw e = absurd cc
loads_uses Ldf e = refl
loads_uses Stf e = absurd cc
loads_uses Out e = absurd cc
loads_uses Take e = absurd cc
loads_uses (Set id) e = absurd cc

load_is : (o : Op) → loads_frame o ≡ true → o ≡ Ldf
load_is Ldw e = absurd cc
load_is Stw e = absurd cc
load_is Ldf e = refl
load_is Stf e = absurd cc
load_is Out e = absurd cc
load_is Take e = absurd cc
load_is (Set id) e = absurd cc

-- a load that is started
pub record IsLoad (m : Machine) (ws : Written) (t : Target) (w : ℕ) : Type 0 where
  pub start : Start
  pub is : start_of m ws (t, w) ≡ Some start
  pub loads : start.does.op ≡ Ldf
  pub word : start.word ≡ w

pub there_is : (m : Machine) (ws : Written) (t : Target) (w : ℕ) → starts m loads_frame t ≡ true → IsLoad m ws t w
there_is m ws (Reg f i) w e = absurd cc
there_is m ws (Imm f i) w e = absurd cc
there_is m ws (Operand unit) w e = absurd cc
there_is m ws (Control kind) w e = absurd cc
there_is m ws (Trigger unit op) w e = on (op_at m unit op) refl e where
  on : (o : Option UnitOp) → op_at m unit op ≡ o → option_map_or loads_frame (option_map (λ o. o.op) o) false ≡ true
      → IsLoad m ws (Trigger unit op) w
  on None is e = absurd cc
  on (Some o) is e = record {
    start = record { unit = unit; does = o; operand = operand_of ws unit o; word = w };
    is = ap (λ (q : Option UnitOp). option_map_or (λ o. starting ws unit w o) q None) is;
    loads = load_is o.op e;
    word = refl;
  }

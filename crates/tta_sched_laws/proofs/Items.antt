-- Placed items as effects in their cycles.
use Rattle.std.proofs.Common.{◌≡◌, ℕ, zero, suc, ◌+◌, ◌<◌, ◌≤◌, Bool, true, false, List, [], ◌∷◌, ◌++◌, Option, Some, None, refl, ap, arith, length, take, get_or}
use Rattle.std.specs.Option.{option_map_or}
use Rattle.std.specs.Prelude.{max, map, ◌&&◌, if◌then◌else◌}
use Rattle.tta_sched_laws.specs.Cited.{GuardRef, Machine, Jumps, Calls, Halts, Target, Reg, Imm, Operand, Trigger, Control, KeptReg, KeptImm, KeptOperand, KeptRa, KeptPort, or_else, linked, effect_of, Item, ItemSource, Port, Address, Bus, PlacedItem, place_of, place_of_source, source_of, target_of_item, controls, Spot, At, Started, same_spot, Touch, due_after, operand_read, written_at, from_moment, behind, bound, least}
use Rattle.tta_arch.specs.declared.ends.Source.TheVariants as source
use Rattle.tta_moves.specs.declared.items.Item.TheVariants.{Move}
use Rattle.tta_arch.specs.declared.ends.Dest.TheVariants as dest
use Rattle.tta_moves.specs.Touches.{is_control as is_control_item}
use Rattle.tta_moves.specs.Bounds.{reads_by as item_reads}
use Rattle.tta_sched_laws.proofs.Total.{Timed, reads_by, is_control}
use Rattle.tta_sched_laws.proofs.Steps.{offset_of}
use Rattle.tta_sched_laws.proofs.Placing.{idle}
use Rattle.tta_moves.proofs.BoundLaws.{spot_is, spot_self}

pub from_is : (x : Spot) (moment b : ℕ) (own : List Touch) → offset_of x own ≡ Some b → moment ≤ from_moment x moment own + b
from_is x moment b [] e = absurd cc
from_is x moment b (o ∷ own) e = on (same_spot o.0 x) refl e (λ q. from_is x moment b own q) where
  on : (c : Bool) → same_spot o.0 x ≡ c → or_else (if c then Some o.1 else None) (offset_of x own) ≡ Some b → (offset_of x own ≡ Some b → moment ≤ from_moment x moment own + b) → moment ≤ from_moment x moment (o ∷ own) + b
  on true q e ih =
      let s = spot_is o.0 x q in
      let t : same_spot x o.0 ≡ true = rw s (spot_self x) in
      let l : o.1 ≡ b = cc in
      rw t (omega arith)
  on false q e ih = let r = ih e in omega arith

pub behind_is : (x : Spot) (gap cycle a b : ℕ) (earlier own : List Touch) → offset_of x earlier ≡ Some a → offset_of x own ≡ Some b → cycle + a + gap ≤ behind gap cycle earlier own + b
behind_is x gap cycle a b [] own e g = absurd cc
behind_is x gap cycle a b (t ∷ earlier) own e g = on (same_spot t.0 x) refl e (λ q. behind_is x gap cycle a b earlier own q g) where
  on : (c : Bool) → same_spot t.0 x ≡ c → or_else (if c then Some t.1 else None) (offset_of x earlier) ≡ Some a → (offset_of x earlier ≡ Some a → cycle + a + gap ≤ behind gap cycle earlier own + b)
      → cycle + a + gap ≤ behind gap cycle (t ∷ earlier) own + b
  on true q e ih =
      let s = spot_is t.0 x q in
      let l : t.1 ≡ a = cc in
      let r = from_is x (cycle + t.1 + gap) b own g in
      let r' : cycle + t.1 + gap ≤ from_moment t.0 (cycle + t.1 + gap) own + b = rw s r in
      omega arith
  on false q e ih = let r = ih e in omega arith

abbrev pub nth : List Timed → ℕ → Timed
nth ps k = get_or ps k idle

pub and_parts : (a b : Bool) → (a && b) ≡ true → (a ≡ true) × (b ≡ true)
and_parts true b e = (refl, e)
and_parts false b e = absurd cc

-- ---- how long an item lasts

pub max_first : (a b : ℕ) → a ≤ max a b
max_first a b = omega arith

pub one_lasts : (x : Spot) (y : Spot) (a d : ℕ) → offset_of x ((y, 1) ∷ []) ≡ Some a → a ≤ max 1 d
one_lasts x y a d e = on (same_spot y x) e where
  on : (c : Bool) → or_else (if c then Some 1 else None) None ≡ Some a → a ≤ max 1 d
  on true e = let l : 1 ≡ a = cc in omega arith
  on false e = absurd cc

pub two_last : (x y z : Spot) (a d : ℕ) → offset_of x ((y, 1) ∷ (z, d) ∷ []) ≡ Some a → a ≤ max 1 d
two_last x y z a d e = on (same_spot y x) (same_spot z x) e where
  on : (c c' : Bool) → or_else (if c then Some 1 else None) (or_else (if c' then Some d else None) None) ≡ Some a → a ≤ max 1 d
  on true c' e = let l : 1 ≡ a = cc in omega arith
  on false true e = let l : d ≡ a = cc in omega arith
  on false false e = absurd cc

pub lasts_is : (m : Machine) (t : Target) (x : Spot) (a : ℕ) → offset_of x (written_at m t) ≡ Some a → a ≤ max 1 (option_map_or (λ (due : ℕ). due) (due_after m t) 0)
lasts_is m (Reg f i) x a e = one_lasts x (At (KeptReg f i)) a 0 e
lasts_is m (Imm f i) x a e = one_lasts x (At (KeptImm f i)) a 0 e
lasts_is m (Operand q) x a e = one_lasts x (At (KeptOperand q)) a 0 e
lasts_is m (Trigger q k) x a e = on (due_after m (Trigger q k)) e where
  on : (o : Option ℕ) → offset_of x ((Started q, 1) ∷ option_map_or (λ due. (At (KeptPort q), due) ∷ []) o []) ≡ Some a → a ≤ max 1 (option_map_or (λ (due : ℕ). due) o 0)
  on None e = one_lasts x (Started q) a 0 e
  on (Some d) e = two_last x (Started q) (At (KeptPort q)) a d e
lasts_is m (Control Jumps) x a e = absurd cc
lasts_is m (Control Calls) x a e = one_lasts x (At KeptRa) a 0 e
lasts_is m (Control Halts) x a e = absurd cc

-- ---- placed items

abbrev pub idle_item : PlacedItem
idle_item = record { item = Move None (Port (source.Value 0)) dest.Halt; cycle = 0; slot = Bus 0 }

abbrev pub item_at : List PlacedItem → ℕ → PlacedItem
item_at ps k = get_or ps k idle_item

-- a placed item as an effect in its cycle
abbrev pub time : (addr : List ℕ) → PlacedItem → Timed
time addr x = record { does = effect_of addr x.item; cycle = x.cycle }

abbrev pub timed : (addr : List ℕ) → List PlacedItem → List Timed
timed addr ps = map (time addr) ps

pub nth_timed : (addr : List ℕ) (ps : List PlacedItem) (k : ℕ) → nth (timed addr ps) k ≡ time addr (item_at ps k)
nth_timed addr [] k = refl
nth_timed addr (p ∷ ps) zero = refl
nth_timed addr (p ∷ ps) (suc k) = nth_timed addr ps k

pub length_timed : (addr : List ℕ) (ps : List PlacedItem) → length (timed addr ps) ≡ length ps
length_timed addr [] = refl
length_timed addr (p ∷ ps) = ap suc (length_timed addr ps)

pub reads_linked : (addr : List ℕ) (x : Item) → reads_by (effect_of addr x) ≡ item_reads x
reads_linked addr x = on (source_of x) where
  rest : List Touch
  rest = option_map_or (λ (g : GuardRef). (At (KeptReg g.file g.index), 0) ∷ []) (effect_of addr x).guard [] ++ operand_read (target_of_item x)

  on : (s : ItemSource) → option_map_or (λ p. (At p, 0) ∷ []) (place_of (linked addr s)) [] ++ rest ≡ option_map_or (λ p. (At p, 0) ∷ []) (place_of_source s) [] ++ rest
  on (Port p) = refl
  on (Address b) = refl

pub control_linked : (addr : List ℕ) (x : Item) → is_control (effect_of addr x).target ≡ is_control_item x
control_linked addr x = on (target_of_item x) where
  on : (t : Target) → is_control t ≡ controls t
  on (Reg f i) = refl
  on (Imm f i) = refl
  on (Operand q) = refl
  on (Trigger q k) = refl
  on (Control kind) = refl

pub least_is : (m : Machine) (ps : List PlacedItem) (v : Item) (i k : ℕ) → i < k → k ≤ length ps → bound m v (item_at ps i) ≤ least m (take k ps) v
least_is m ps v i zero lt le = absurd (omega arith)
least_is m [] v i (suc k) lt le = absurd (omega arith)
least_is m (p ∷ ps) v zero (suc k) lt le = omega arith
least_is m (p ∷ ps) v (suc i) (suc k) lt le = let r = least_is m ps v i k (omega arith) (omega arith) in omega arith

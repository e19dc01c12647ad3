-- The counts of a block's list.
use Rattle.std.proofs.Common.{◌≡◌, ◌<◌, ◌≤◌, ◌+◌, ℕ, suc, Bool, true, false, List, [], ◌∷◌, Option, Some, None, refl, arith, length, get_or}
use Rattle.std.specs.Prelude.{if◌then◌else◌, ◌==◌, ◌&&◌}
use Rattle.std.specs.List.{list_all, list_any, sum_by}
use Rattle.std.proofs.lemmas.Bool.Decides.{nat_tests}
use Rattle.tta_select.specs.Cited.{Units, GuardRef, Dest, Machine, Target, Imm, KeptReg, same_place, target_of, Choice, ItemSource, LongValue, Item, Move, source_of_long, target_of_item, joined, RSrc, RStep, Copy, Apply, Load, Store, Put, When, SaveRa, RBlock, assigns_place, assigns_rstep, assigns_block}
use Rattle.tta_arch.specs.declared.parts.Template.{Template as Field}
use Rattle.tta_arch.specs.Effects.{Reg}
use Rattle.tta_moves.proofs.Places.{either}
use Rattle.tta_lir.specs.declared.code.Place.{Place as RPlace}
use Rattle.tta_lir.specs.declared.code.Place.TheVariants as place
use Rattle.tta_lir.specs.declared.code.RSrc.TheVariants as rsrc
use Rattle.tta_lir.specs.declared.code.RStep.TheVariants.{Take}
use Rattle.tta_lir.specs.declared.code.Exit.{Exit as RExit}
use Rattle.tta_lir.specs.declared.code.Exit.TheVariants as rexit
use Rattle.tta_select.specs.Select.{goes, hub_at, from_hub, home_at, long_for, through_hub, long_hub, long_way, constant, carry, items_of_block}
use Rattle.tta_select.specs.Ground.{IsGround}
use Rattle.tta_select.specs.Counts.{targets, is_home}
use Rattle.tta_select.proofs.Matching.{guard_apart}
use Rattle.tta_select.proofs.Counting.{step_cost, exit_cost, src_cost, result_cost, block_counts}

-- ---- items whose target passes a test

-- one, where a target passes
abbrev pub counted : (Target → Bool) → Target → ℕ
counted test t = if test t then 1 else 0

abbrev pub counted_item : (Target → Bool) → Item → ℕ
counted_item test x = counted test (target_of_item x)

abbrev pub counted_dest : (Target → Bool) → Dest → ℕ
counted_dest test dst = counted test (target_of dst)

module _ (m : Machine) (c : Choice) (test : Target → Bool) (no_hub : test (Reg c.hub 0) ≡ false) (no_imm : (i k : ℕ) → test (Imm i k) ≡ false) where
  hub_none : counted test (Reg c.hub 0) ≡ 0
  hub_none = rw no_hub refl

  imm_none : (i k : ℕ) → counted test (Imm i k) ≡ 0
  imm_none i k = let e = no_imm i k in rw e refl

  one : (guard : Option GuardRef) (src : ItemSource) (dst : Dest) → sum_by (counted_item test) (Move guard src dst ∷ []) ≤ 0 + counted_dest test dst
  one guard src dst = omega arith

  by_hub : (guard : Option GuardRef) (src : ItemSource) (dst : Dest) → sum_by (counted_item test) (through_hub m c guard src dst) ≤ 0 + counted_dest test dst
  by_hub guard src dst = omega (arith, hub_none)

  long_hub_counts : (guard : Option GuardRef) (v : LongValue) (dst : Dest) (o : Option Field) → sum_by (counted_item test) (long_hub m c guard v dst o) ≤ 0 + counted_dest test dst
  long_hub_counts guard v dst None = one guard (source_of_long v) dst
  long_hub_counts guard v dst (Some t) = let z = imm_none t.imm t.reg in omega (arith, hub_none, z)

  long_counts : (guard : Option GuardRef) (v : LongValue) (dst : Dest) (o : Option Field) → sum_by (counted_item test) (long_way m c guard v dst o) ≤ 0 + counted_dest test dst
  long_counts guard v dst None = long_hub_counts guard v dst (long_for m c (hub_at m c 0) None)
  long_counts guard v dst (Some t) = let z = imm_none t.imm t.reg in omega (arith, z)

  pub constant_counts : (guard : Option GuardRef) (v : LongValue) (dst : Dest) → sum_by (counted_item test) (constant m c guard v dst) ≤ 0 + counted_dest test dst
  constant_counts guard v dst = on (joined m (source_of_long v) dst guard) (joined m (from_hub m c 0) dst guard && joined m (source_of_long v) (hub_at m c 0) None) where
    on : (a b : Bool) → sum_by (counted_item test) (if a then Move guard (source_of_long v) dst ∷ [] else if b then through_hub m c guard (source_of_long v) dst else long_way m c guard v dst (long_for m c dst guard)) ≤ 0 + counted_dest test dst
    on true b = one guard (source_of_long v) dst
    on false true = by_hub guard (source_of_long v) dst
    on false false = long_counts guard v dst (long_for m c dst guard)

  pub carry_counts : (guard : Option GuardRef) (src : ItemSource) (dst : Dest) → sum_by (counted_item test) (carry m c guard src dst) ≤ 0 + counted_dest test dst
  carry_counts guard src dst = on (joined m src dst guard) where
    on : (a : Bool) → sum_by (counted_item test) (if a then Move guard src dst ∷ [] else through_hub m c guard src dst) ≤ 0 + counted_dest test dst
    on true = one guard src dst
    on false = by_hub guard src dst

  pub move_counts : (src : ItemSource) (dst : Dest) → counted_item test (goes src dst) ≤ 0 + counted_dest test dst
  move_counts src dst = omega arith

-- ---- home registers

no_home : (file index : ℕ) (homes : List (ℕ × ℕ)) → ((k : ℕ) → k < length homes → same_place (KeptReg file index) (KeptReg (get_or homes k (0, 0)).0 (get_or homes k (0, 0)).1) ≡ false)
    → list_any (λ h. h.0 == file && h.1 == index) homes ≡ false
no_home file index [] away = refl
no_home file index (h ∷ homes) away =
    let first : same_place (KeptReg file index) (KeptReg h.0 h.1) ≡ false = away 0 (omega arith) in
    let here : (h.0 == file && h.1 == index) ≡ false = turn file index h.0 h.1 first in
    let ih = no_home file index homes (λ k low. away (suc k) (omega (arith, low))) in
    rw (here, ih) refl where
      turn : (a b d e : ℕ) → (a == d && b == e) ≡ false → (d == a && e == b) ≡ false
      turn a b d e f = either (d == a) (λ x. either (e == b) (λ y. let p : a ≡ d = grind (arith, nat_tests) in let q : b ≡ e = grind (arith, nat_tests) in absurd (no_way p q)) (λ y. rw (x, y) refl)) (λ x. rw x refl) where
        no_way : a ≡ d → b ≡ e → ⊥
        no_way p q = let x : (a == d) ≡ true = grind (arith, nat_tests) in let y : (b == e) ≡ true = grind (arith, nat_tests) in let z : true ≡ false = rw (x, y) at f in cc

module _ (u : Units) (m : Machine) (c : Choice) (g : IsGround m c) where
  hub_away : (i : ℕ) → i < 2 → is_home c (Reg c.hub i) ≡ false
  hub_away i less = no_home c.hub i c.homes (λ k low. g.free i k less low)

  guard_away : is_home c (Reg c.guard_file c.guard_index) ≡ false
  guard_away = no_home c.guard_file c.guard_index c.homes (λ k low. guard_apart m c [] g k low)

  none : 0 + 0 ≤ 0
  none = omega arith

  hub_zero : counted (is_home c) (Reg c.hub 1) ≡ 0
  hub_zero = let e = hub_away 1 (omega arith) in rw e refl

  guard_zero : counted (is_home c) (Reg c.guard_file c.guard_index) ≡ 0
  guard_zero = rw guard_away refl

  at_most_one : (t : Target) → counted (is_home c) t ≤ 1
  at_most_one t = on (is_home c t) where
    on : (b : Bool) → (if b then 1 else 0) ≤ 1
    on true = omega arith
    on false = omega arith

  home_cost : RStep → ℕ
  home_cost r = step_cost m c u (counted_dest (is_home c)) 0 0 0 r

  src_none : (o : RSrc) → src_cost m c u (counted_dest (is_home c)) 0 0 0 o ≡ 0
  src_none (rsrc.Word w) = refl
  src_none (rsrc.At (place.Reg k)) = refl
  src_none (rsrc.At (place.Frame f)) = refl

  result_one : (d : RPlace) → result_cost m c u (counted_dest (is_home c)) 0 0 0 d ≤ assigns_place d
  result_one (place.Reg k) = let a = at_most_one (target_of (home_at m c k)) in omega (arith, a)
  result_one (place.Frame f) = omega arith

  home_less : (r : RStep) → step_cost m c u (counted_dest (is_home c)) 0 0 0 r ≤ assigns_rstep r
  home_less (Copy (place.Reg k) s) = let a = at_most_one (target_of (home_at m c k)) in let z = src_none s in omega (arith, a, z)
  home_less (Copy (place.Frame f) s) = let z = src_none s in omega (arith, z)
  home_less (Apply d op a b) = let x = src_none a in let y = src_none b in let z = result_one d in omega (arith, x, y, z)
  home_less (Load d a) = let x = src_none a in let z = result_one d in omega (arith, x, z)
  home_less (Take d) = let z = result_one d in omega (arith, z)
  home_less (Store a v) = let x = src_none a in let y = src_none v in omega (arith, x, y)
  home_less (Put v) = let x = src_none v in omega (arith, x)
  home_less (When rel a b (place.Reg k) s) =
      let x = src_none a in let y = src_none b in let w = src_none s in let z = at_most_one (target_of (home_at m c k)) in omega (arith, x, y, w, z, hub_zero, guard_zero)
  home_less (When rel a b (place.Frame f) s) = let x = src_none a in let y = src_none b in let w = src_none s in omega (arith, x, y, w, hub_zero, guard_zero)
  home_less (SaveRa slot) = omega arith

  home_exit : (e : RExit) → exit_cost m c u (counted_dest (is_home c)) 0 0 0 e ≤ 0
  home_exit rexit.Next = omega arith
  home_exit (rexit.Goto to) = omega arith
  home_exit (rexit.If rel a b to) = let x = src_none a in let y = src_none b in omega (arith, x, y, guard_zero)
  home_exit (rexit.Invoke to) = omega arith
  home_exit (rexit.Back slot) = omega arith
  home_exit rexit.Halt = omega arith

  all_fit : (rs : List RStep) → list_all (λ r. true) rs ≡ true
  all_fit [] = refl
  all_fit (r ∷ rs) = all_fit rs

  pub homes_counted : (b : RBlock) → targets (is_home c) (items_of_block m c u b) ≤ assigns_block b
  homes_counted b =
      let no_hub = hub_away 0 (omega arith) in
      let a = block_counts m c u (counted_dest (is_home c)) 0 0 0 (counted_item (is_home c)) (constant_counts m c (is_home c) no_hub (λ i k. refl)) (carry_counts m c (is_home c) no_hub (λ i k. refl))
      (move_counts m c (is_home c) no_hub (λ i k. refl)) (λ r. true) assigns_rstep 0 (λ r e. home_less r) b (all_fit b.steps) (home_exit b.exit) in
      omega (arith, a)

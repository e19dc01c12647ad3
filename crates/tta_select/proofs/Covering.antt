-- What a choice is where all rules hold.
use Rattle.std.proofs.Common.{◌≡◌, ◌<◌, ◌+◌, ◌-◌, ℕ, Bool, true, false, [], ◌++◌, Option, Some, None, refl, sym, ap, subst, arith, ◌∙◌, slice_get}
use Rattle.std.specs.Prelude.{if◌then◌else◌, ◌==◌, ◌&&◌, nat_le}
use Rattle.std.specs.Option.{option_map_or}
use Rattle.std.specs.List.{range_with_len}
use Rattle.std.proofs.lemmas.Bool.Decides.{nat_tests}
use Rattle.tta_select.specs.Cited.{File, Machine, KeptReg, same_place, width_of, Choice, first_by, some_bus, from, into, is_hub, hub_of, guard_in, can_guard, guard_register, registers_from, homes_from, IsChoice}
use Rattle.tta_arch.specs.declared.ends.Dest.TheVariants as dest
use Rattle.tta_moves.proofs.Places.{either}
use Rattle.tta_select.specs.Select.{home_pair}
use Rattle.tta_select.specs.Ground.{IsGround}
use Rattle.tta_select.proofs.Firsts.{first_there}
use Rattle.tta_select.proofs.Offers.{three, if_true}
use Rattle.tta_select.proofs.HomeLists.{Each, Once, each_append, once_append, registers_each, registers_once, Other, wide, width_at, each_weaker, files_from}
use Rattle.tta_list.proofs.Tests.{some_same as some_nat}

differ : (f i h j : ℕ) → (f ≡ h → i ≡ j → ⊥) → same_place (KeptReg f i) (KeptReg h j) ≡ false
differ f i h j no_way = either (same_place (KeptReg f i) (KeptReg h j)) (λ e. absurd (both e)) (λ e. e) where
  both : same_place (KeptReg f i) (KeptReg h j) ≡ true → ⊥
  both e = let a : f ≡ h = grind (arith, nat_tests) in let b : i ≡ j = grind (arith, nat_tests) in no_way a b

first_of : (a b d : Bool) → (a && b && d) ≡ true → (a ≡ true) × (b ≡ true)
first_of true true d e = (refl, refl)
first_of true false d e = absurd cc
first_of false b d e = absurd cc

pub some_pair : {i j f g : ℕ} → ◌≡◌ {A = Option (ℕ × ℕ)} (Some (i, f)) (Some (j, g)) → i ≡ j
some_pair {i} {j} {f} {g} e = let pair : ◌≡◌ {A = ℕ × ℕ} (i, f) (j, g) = cc in ap (λ p. p.0) pair

-- the hub
pub record Hub (m : Machine) (hub : ℕ) : Type 0 where
  pub file : File
  pub there : slice_get m.files hub ≡ Some file
  pub wide : (file.width == 32) ≡ true
  pub big : nat_le 3 file.size ≡ true
  pub self : some_bus m (from hub) (into hub) None ≡ true

pub hub_there : (m : Machine) (hub : ℕ) → hub_of m ≡ Some hub → Hub m hub
hub_there m hub e =
    let a = first_there (λ file f. if is_hub m file f then Some file else None) m.files hub e in
    let b = if_true_nat (is_hub m a.at a.item) a.at hub a.answers in
    let t = three _ _ _ b.0 in
    record { file = a.item; there = ap (λ i. slice_get m.files i) (sym b.1) ∙ a.there; wide = t.0; big = t.1; self = subst (λ h. some_bus m (from h) (into h) None ≡ true) b.1 t.2 } where
      if_true_nat : (b : Bool) (i j : ℕ) → (if b then Some i else None) ≡ Some j → (b ≡ true) × (i ≡ j)
      if_true_nat true i j e = (refl, some_nat e)
      if_true_nat false i j e = absurd cc

-- the guard register
pub record Guarding (m : Machine) (hub file index : ℕ) : Type 0 where
  pub narrow : (width_of m file == 1) ≡ true
  pub can : can_guard m hub file index ≡ true
  pub jump : some_bus m (from hub) dest.Jump None ≡ true

pub guard_there : (m : Machine) (hub file index : ℕ) → guard_register m hub ≡ Some (file, index) → Guarding m hub file index
guard_there m hub file index e =
    let one = if_true (some_bus m (from hub) dest.Jump None) (first_by (guard_in m hub) 0 m.files) (file, index) e in
    let a = first_there (guard_in m hub) m.files (file, index) one.1 in
    let two = if_true (a.item.width == 1) _ (file, index) a.answers in
    let b = first_there (λ k i. if can_guard m hub a.at i then Some (a.at, i) else None) (range_with_len 0 a.item.size) (file, index) two.1 in
    let three = if_true (can_guard m hub a.at b.item) (Some (a.at, b.item)) (file, index) b.answers in
    let same : ◌≡◌ {A = ℕ × ℕ} (a.at, b.item) (file, index) = pair_same three.1 in
    record {
      narrow = subst (λ p. (width_of m p.0 == 1) ≡ true) same (ap (λ n. n == 1) (width_at m hub a.at a.item a.there) ∙ two.0);
      can = subst (λ p. can_guard m hub p.0 p.1 ≡ true) same three.0;
      jump = one.0;
    } where
      pair_same : {p q : ℕ × ℕ} → ◌≡◌ {A = Option (ℕ × ℕ)} (Some p) (Some q) → p ≡ q
      pair_same e = cc

pairs : (p q : ℕ × ℕ) → p.0 ≡ q.0 → p.1 ≡ q.1 → p ≡ q
pairs p q a b = ap (λ i. (i, p.1)) a ∙ ap (λ i. (q.0, i)) b

unequal : (j k : ℕ) → (j == k) ≡ false → j ≡ k → ⊥
unequal j k e same = let t : (j == k) ≡ true = grind (arith, nat_tests) in let f : true ≡ false = sym t ∙ e in cc

pub grounds : (m : Machine) (c : Choice) → IsChoice m c → IsGround m c
grounds m c choice = on (hub_there m c.hub choice.hub) where
  Good : ℕ × ℕ → Type 0
  Good p = ((width_of m p.0 == 1) ≡ false) × ((i : ℕ) → i < 2 → same_place (KeptReg c.hub i) (KeptReg p.0 p.1) ≡ false)

  on : Hub m c.hub → IsGround m c
  on h =
      let f = h.file in
      let xs = registers_from c.hub 3 (f.size - 3) in
      let ys = homes_from m c.hub 0 m.files in
      let others = files_from m c.hub m.files 0 (λ i q e. let same : 0 + i ≡ i = omega arith in ap (λ j. slice_get m.files j) same ∙ e) in
      let eq : c.homes ≡ xs ++ ys = choice.homes ∙ ap (λ o. option_map_or (λ f. registers_from c.hub 3 (f.size - 3)) o [] ++ ys) h.there in
      let hub_wide : (width_of m c.hub == 1) ≡ false = ap (λ n. n == 1) (width_at m c.hub c.hub f h.there) ∙ wide m c.hub f.width h.wide in
      let each : Each Good (xs ++ ys) = each_append Good xs ys
      (registers_each Good c.hub 3 (f.size - 3) (λ i low. (hub_wide, λ j less. differ c.hub j c.hub i (λ a b. omega (arith, low, less, b)))))
      (each_weaker m c.hub (Other m c.hub 0) Good ys (λ p a. (a.2, λ j less. differ c.hub j p.0 p.1 (λ e d. a.1 (sym e)))) others.each) in
      let once : Once (xs ++ ys) = once_append xs ys (λ p. p.0 ≡ c.hub) (registers_once c.hub 3 (f.size - 3)) others.once
      (registers_each (λ p. p.0 ≡ c.hub) c.hub 3 (f.size - 3) (λ i low. refl)) (each_weaker m c.hub (Other m c.hub 0) (λ p. p.0 ≡ c.hub → ⊥) ys (λ p a. a.1) others.each) in
      made hub_wide (subst (λ zs. Each Good zs) (sym eq) each) (subst (λ zs. Once zs) (sym eq) once)
    where
      made : (width_of m c.hub == 1) ≡ false → Each Good c.homes → Once c.homes → IsGround m c
      made hub_wide each once = record {
        hub = hub_wide;
        guard = (guard_there m c.hub c.guard_file c.guard_index choice.guard).narrow;
        homes = λ k low. (each k low).0;
        apart = λ j k lj lk e. differ (home_pair m c j).0 (home_pair m c j).1 (home_pair m c k).0 (home_pair m c k).1 (λ a b. unequal j k e (once j k lj lk (pairs (home_pair m c j) (home_pair m c k) a b)));
        free = λ i k less low. (each k low).1 i less;
      }

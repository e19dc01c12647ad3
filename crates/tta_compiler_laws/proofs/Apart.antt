-- Trigger ports and home registers are no scratch registers.
use Rattle.std.proofs.Common.{◌≡◌, ◌≤◌, ◌+◌, ◌-◌, ℕ, suc, Bool, true, false, List, [], ◌∷◌, ◌++◌, Option, Some, None, refl, sym, ap, subst, ◌∙◌, arith, slice_get}
use Rattle.std.specs.Prelude.{◌==◌, ◌&&◌, if◌then◌else◌, nat_lt, count_by, option_map}
use Rattle.std.specs.Option.{option_map_or}
use Rattle.std.specs.List.{list_any, sum_by}
use Rattle.std.proofs.lemmas.Bool.{and_parts}
use Rattle.std.proofs.lemmas.List.Sums.{sum_by-cons}
use Rattle.std.proofs.lemmas.Bool.Decides.{nat_tests}
use Rattle.tta_compiler_laws.specs.Cited.{Op, Ldw, Stw, Ldf, Stf, Out, Set, UnitOp, Machine, Target, Imm, Operand, Trigger, Control, op_at, same_op, is_frame_op, Item, target_of_item, Choice, IsChoice, registers_from, homes_from, Aim, ToReg, ToImm, ToOperand, ToStart, ToControl, aim_of, is_scratch, targets, is_trigger_of, is_start_of, is_frame_trigger, is_home}
use Rattle.tta_arch.specs.declared.parts.Op.TheVariants.{Take as TakeIn}
use Rattle.tta_arch.specs.Effects.{Reg}
use Rattle.tta_moves.proofs.Places.{either}
use Rattle.tta_select.proofs.HomeLists.{Each, each_append, each_weaker, registers_each, Other, files_from}
use Rattle.tta_select.proofs.Covering.{hub_there}

-- what a target is, by the tests that count
abbrev pub starts_aim : Op → Aim → Bool
starts_aim does (ToReg file index) = false
starts_aim does (ToImm unit index) = false
starts_aim does ToOperand = false
starts_aim does (ToStart o) = option_map_or (λ q. same_op q does) o false
starts_aim does (ToControl kind) = false

abbrev pub frame_aim : Aim → Bool
frame_aim (ToReg file index) = false
frame_aim (ToImm unit index) = false
frame_aim ToOperand = false
frame_aim (ToStart o) = option_map_or (λ q. is_frame_op q) o false
frame_aim (ToControl kind) = false

abbrev pub home_aim : Choice → Aim → Bool
home_aim c (ToReg file index) = list_any (λ h. h.0 == file && h.1 == index) c.homes
home_aim c (ToImm unit index) = false
home_aim c ToOperand = false
home_aim c (ToStart o) = false
home_aim c (ToControl kind) = false

pub start_aim : (m : Machine) (does : Op) (t : Target) → starts_aim does (aim_of m t) ≡ is_start_of m does t
start_aim m does (Reg file index) = refl
start_aim m does (Imm i index) = refl
start_aim m does (Operand i) = refl
start_aim m does (Control kind) = refl
start_aim m does (Trigger i k) = on (op_at m i k) where
  on : (o : Option UnitOp) → option_map_or (λ q. same_op q does) (option_map (λ o. o.op) o) false ≡ option_map_or (λ o. same_op o.op does) o false
  on None = refl
  on (Some o) = refl

pub frame_aimed : (m : Machine) (t : Target) → frame_aim (aim_of m t) ≡ is_frame_trigger m t
frame_aimed m (Reg file index) = refl
frame_aimed m (Imm i index) = refl
frame_aimed m (Operand i) = refl
frame_aimed m (Control kind) = refl
frame_aimed m (Trigger i k) = on (op_at m i k) where
  on : (o : Option UnitOp) → option_map_or (λ q. is_frame_op q) (option_map (λ o. o.op) o) false ≡ option_map_or (λ o. is_frame_op o.op) o false
  on None = refl
  on (Some o) = refl

pub home_aimed : (m : Machine) (c : Choice) (t : Target) → home_aim c (aim_of m t) ≡ is_home c t
home_aimed m c (Reg file index) = refl
home_aimed m c (Imm i index) = refl
home_aimed m c (Operand i) = refl
home_aimed m c (Trigger i k) = refl
home_aimed m c (Control kind) = refl

-- a start of an operation is no register
pub start_apart : (m : Machine) (does : Op) (t : Target) → is_scratch m t ≡ true → starts_aim does (aim_of m t) ≡ false
start_apart m does (Reg file index) e = refl
start_apart m does (Imm i index) e = refl
start_apart m does (Operand i) e = refl
start_apart m does (Trigger i k) e = absurd cc
start_apart m does (Control kind) e = refl

-- nor is a trigger of the frame space
pub frame_apart : (m : Machine) (t : Target) → is_scratch m t ≡ true → frame_aim (aim_of m t) ≡ false
frame_apart m (Reg file index) e = refl
frame_apart m (Imm i index) e = refl
frame_apart m (Operand i) e = refl
frame_apart m (Trigger i k) e = absurd cc
frame_apart m (Control kind) e = refl

-- ---- counts by what targets are

-- items are counted by a test of their targets as by the same of what these are
pub counted_aims : (m : Machine) (p : Aim → Bool) (test : Target → Bool) → ((t : Target) → p (aim_of m t) ≡ test t) → (items : List Item)
    → count_by (λ x. p (aim_of m (target_of_item x))) items ≡ targets test items
counted_aims m p test same [] = refl
counted_aims m p test same (x ∷ items) =
    let f : Item → ℕ = λ y. if p (aim_of m (target_of_item y)) then 1 else 0 in
    let g : Item → ℕ = λ y. if test (target_of_item y) then 1 else 0 in
    sum_by-cons f x items ∙ ap (λ (b : Bool). (if b then 1 else 0) + sum_by f items) (same (target_of_item x))
    ∙ ap (λ (n : ℕ). g x + n) (counted_aims m p test same items) ∙ sym (sum_by-cons g x items)

-- a test that passes less counts less
counted_less : (less more : Target → Bool) → ((t : Target) → less t ≡ true → more t ≡ true) → (items : List Item) → targets less items ≤ targets more items
counted_less less more h [] = omega arith
counted_less less more h (x ∷ items) =
    let rest = counted_less less more h items in
    let a = sum_by-cons (λ (y : Item). if less (target_of_item y) then 1 else 0) x items in
    let b = sum_by-cons (λ (y : Item). if more (target_of_item y) then 1 else 0) x items in
    let one = here (less (target_of_item x)) (more (target_of_item x)) (h (target_of_item x)) in
    omega (arith, rest, a, b, one) where
      here : (a b : Bool) → (a ≡ true → b ≡ true) → (if a then 1 else 0) ≤ (if b then 1 else 0)
      here false b h = omega arith
      here true b h = rw (h refl) (omega arith)

-- a trigger of an operation of a unit starts the operation
start_of_trigger : (m : Machine) (unit k : ℕ) (o : UnitOp) → op_at m unit k ≡ Some o → (t : Target) → is_trigger_of unit k t ≡ true → is_start_of m o.op t ≡ true
start_of_trigger m unit k o there (Reg file index) e = absurd cc
start_of_trigger m unit k o there (Imm i index) e = absurd cc
start_of_trigger m unit k o there (Operand i) e = absurd cc
start_of_trigger m unit k o there (Control kind) e = absurd cc
start_of_trigger m unit k o there (Trigger i j) e =
    let two = and_parts (i == unit) (j == k) e in
    let same_unit : unit ≡ i = grind (arith, nat_tests, two.0) in
    let same_k : k ≡ j = grind (arith, nat_tests, two.1) in
    let here : op_at m i j ≡ Some o = subst (λ (n : ℕ). op_at m n j ≡ Some o) same_unit (subst (λ (n : ℕ). op_at m unit n ≡ Some o) same_k there) in
    rw here (itself o.op) where
      itself : (op : Op) → same_op op op ≡ true
      itself Ldw = refl
      itself Stw = refl
      itself Ldf = refl
      itself Stf = refl
      itself Out = refl
      itself TakeIn = refl
      itself (Set id) = grind (arith, nat_tests)

-- so it is triggered no more often than the operation is started on all units together
pub one_of_all : (m : Machine) (unit k : ℕ) (o : UnitOp) → op_at m unit k ≡ Some o → (items : List Item)
    → targets (is_trigger_of unit k) items ≤ targets (is_start_of m o.op) items
one_of_all m unit k o there items = counted_less (is_trigger_of unit k) (is_start_of m o.op) (start_of_trigger m unit k o there) items

module _ (m : Machine) (c : Choice) (choice : IsChoice m c) where
  -- a register that is none of the first three of the hub
  abbrev Kept : ℕ × ℕ → Type 0
  Kept r = (c.hub == r.0 && nat_lt r.1 3) ≡ false

  of_hub : (k : ℕ) → 3 ≤ k → Kept (c.hub, k)
  of_hub k low = let past : nat_lt k 3 ≡ false = grind (arith, nat_tests) in rw past (no (c.hub == c.hub)) where
    no : (b : Bool) → (b && false) ≡ false
    no true = refl
    no false = refl

  of_other : (r : ℕ × ℕ) → Other m c.hub 0 r → Kept r
  of_other r a =
      let apart : (c.hub == r.0) ≡ false =
      either (c.hub == r.0) (λ e. let same : c.hub ≡ r.0 = grind (arith, nat_tests) in absurd (a.1 (sym same))) (λ e. e) in
      rw apart refl

  homes_kept : Each Kept c.homes
  homes_kept =
      let h = hub_there m c.hub choice.hub in
      let near = registers_from c.hub 3 (h.file.size - 3) in
      let far = homes_from m c.hub 0 m.files in
      let files = files_from m c.hub m.files 0 (λ i q e. let same : 0 + i ≡ i = omega arith in ap (λ j. slice_get m.files j) same ∙ e) in
      let are : c.homes ≡ near ++ far = choice.homes ∙ ap (λ o. option_map_or (λ f. registers_from c.hub 3 (f.size - 3)) o [] ++ far) h.there in
      subst (λ (xs : List (ℕ × ℕ)). Each Kept xs) (sym are)
      (each_append Kept near far (registers_each Kept c.hub 3 (h.file.size - 3) of_hub)
      (each_weaker m c.hub (Other m c.hub 0) Kept far of_other files.each))

  none_is : (file index : ℕ) (xs : List (ℕ × ℕ)) → (c.hub == file && nat_lt index 3) ≡ true → Each Kept xs → list_any (λ h. h.0 == file && h.1 == index) xs ≡ false
  none_is file index [] e each = refl
  none_is file index (x ∷ xs) e each =
      let rest = none_is file index xs e (λ k low. each (suc k) (omega (arith, low))) in
      let here : Kept x = each 0 (omega arith) in
      let apart : (x.0 == file && x.1 == index) ≡ false = either (x.0 == file && x.1 == index) (λ s. absurd (clash s here)) (λ s. s) in
      rw (apart, rest) refl where
        clash : (x.0 == file && x.1 == index) ≡ true → Kept x → ⊥
        clash s here =
            let a : x.0 ≡ file = grind (arith, nat_tests) in
            let b : x.1 ≡ index = grind (arith, nat_tests) in
            let no : (c.hub == file && nat_lt index 3) ≡ false = rw (a, b) at here in
            let z : true ≡ false = sym e ∙ no in cc

  -- nor is a home register one of the first three of the hub
  pub home_apart : (t : Target) → is_scratch m t ≡ true → home_aim c (aim_of m t) ≡ false
  home_apart (Reg file index) e =
      let at : (c.hub == file && nat_lt index 3) ≡ true = sym (ap (λ (o : Option ℕ). option_map_or (λ h. h == file && nat_lt index 3) o false) choice.hub) ∙ e in
      none_is file index c.homes at homes_kept
  home_apart (Imm i index) e = refl
  home_apart (Operand i) e = refl
  home_apart (Trigger i k) e = refl
  home_apart (Control kind) e = refl

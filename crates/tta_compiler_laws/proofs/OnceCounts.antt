-- However home registers are chosen, the parts of a program name as many slots, ask for as much and assign as often.
use Rattle.std.proofs.Common.{◌≡◌, ◌<◌, ◌⊎◌, inl, inr, ℕ, zero, suc, ◌+◌, ◌-◌, Bool, true, false, List, [], ◌∷◌, Option, Some, None, refl, sym, ap, ◌∙◌, arith, slice_get, if◌then◌else◌}
use Rattle.std.specs.Prelude.{◌↔◌, ◌||◌, nat_lt, is_none}
use Rattle.std.specs.Option.{option_map_or}
use Rattle.std.specs.List.{sum_by}
use Rattle.std.proofs.lemmas.Bool.Decides.{nat_tests}
use Rattle.std.proofs.lemmas.List.Sums.{sum_by-cons}
use Rattle.tta_compiler_laws.specs.Cited.{Units, Src, Var, Step, Return, End, Proc, Program, step_at, Need, Home, Slot, Homes, home_of, SlotsAsScanned, params_of, vars_of, Part, Entry, Steps, Returned, home_by, reg_of, in_slot, slot_src, traffic_step, over_steps, over_live, fetched, traffic, asks_step, asks_part, assigns_step, assigns_part}
use Rattle.tta_program.specs.declared.operand.Src.TheVariants.{Word}
use Rattle.tta_program.specs.declared.step.Step.TheVariants.{Copy, Apply, Load, Take, Store, Put, If, Goto, When, Invoke, Halt}
use Rattle.tta_alloc.specs.declared.home.Home.TheVariants.{Reg}
use Rattle.tta_lower.specs.Liveness.{Homes as Registers}
use Rattle.tta_compiler_laws.specs.Once.{OneCounts}
use Rattle.tta_compiler_laws.proofs.Once.{one_slots}

-- ---- counts by homes that have the same slots

module _ (p : Program) (home other : Registers) (alike : (owner x : ℕ) → is_none (home owner x) ≡ is_none (other owner x)) where
  same_slot : (owner x : ℕ) → in_slot p home owner x ≡ in_slot p other owner x
  same_slot owner x = ap (λ b. if b then 1 else 0) (alike owner x)

  same_src : (owner : ℕ) (s : Src) → slot_src p home owner s ≡ slot_src p other owner s
  same_src owner (Var x) = same_slot owner x
  same_src owner (Word w) = refl

  same_args : (owner : ℕ) (args : List Src) → sum_by (slot_src p home owner) args ≡ sum_by (slot_src p other owner) args
  same_args owner [] = refl
  same_args owner (s ∷ args) =
      let a = sum_by-cons (slot_src p home owner) s args in
      let b = sum_by-cons (slot_src p other owner) s args in
      let e = same_src owner s in
      let r = same_args owner args in omega (arith, a, b, e, r)

  same_step : (owner : ℕ) (s : Step) → traffic_step p home owner s ≡ traffic_step p other owner s
  same_step owner (Copy d s) = let a = same_slot owner d in let b = same_src owner s in omega (arith, a, b)
  same_step owner (Apply d op x y) = let a = same_slot owner d in let b = same_src owner x in let c = same_src owner y in omega (arith, a, b, c)
  same_step owner (Load d x) = let a = same_slot owner d in let b = same_src owner x in omega (arith, a, b)
  same_step owner (Take d) = same_slot owner d
  same_step owner (Store x v) = let a = same_src owner x in let b = same_src owner v in omega (arith, a, b)
  same_step owner (Put v) = same_src owner v
  same_step owner (If rel x y to) = let a = same_src owner x in let b = same_src owner y in omega (arith, a, b)
  same_step owner (Goto to) = refl
  same_step owner (When rel x y d s) =
      let a = same_src owner x in let b = same_src owner y in let c = same_slot owner d in let e = same_src owner s in omega (arith, a, b, c, e)
  same_step owner (Invoke d callee args) = let a = same_args owner args in omega (arith, a)
  same_step owner (Return (Some s)) = let a = same_src owner s in omega (arith, a)
  same_step owner (Return None) = refl
  same_step owner Halt = refl
  same_step owner End = refl

  over_same : (f g : Step → ℕ) → ((s : Step) → f s ≡ g s) → (owner at n : ℕ) → over_steps p home f owner at n ≡ over_steps p other g owner at n
  over_same f g same owner at zero = refl
  over_same f g same owner at (suc n) =
      let a = here (step_at p owner at) in let b = over_same f g same owner (at + 1) n in omega (arith, a, b) where
        here : (o : Option Step) → option_map_or f o 0 ≡ option_map_or g o 0
        here None = refl
        here (Some s) = same s

  live_same : (live : ℕ → Bool) (f g : ℕ → ℕ) → ((x : ℕ) → f x ≡ g x) → (x n : ℕ) → over_live p home live f x n ≡ over_live p other live g x n
  live_same live f g same x zero = refl
  live_same live f g same x (suc n) =
      let a = ap (λ (m : ℕ). if live x then m else 0) (same x) in let b = live_same live f g same (x + 1) n in omega (arith, a, b)

  same_fetched : (owner x : ℕ) → fetched p home owner x ≡ fetched p other owner x
  same_fetched owner x = ap (λ b. if nat_lt x (params_of p owner) || b then 1 else 0) (alike owner x)

  same_traffic : (first : (owner x : ℕ) → Bool) (x : Part) → traffic p home first x ≡ traffic p other first x
  same_traffic first (Entry owner) =
      let a = live_same (first owner) (fetched p home owner) (fetched p other owner) (same_fetched owner) 0 (vars_of p owner) in omega (arith, a)
  same_traffic first (Steps b) = over_same (traffic_step p home b.owner) (traffic_step p other b.owner) (same_step b.owner) b.owner b.first (b.last + 1 - b.first)
  same_traffic first (Returned b d callee) = refl

  same_asks : (u : Units) (wanted : Need → Bool) (x : Part) → asks_part u wanted p home x ≡ asks_part u wanted p other x
  same_asks u wanted (Entry owner) = refl
  same_asks u wanted (Steps b) = over_same (asks_step u wanted) (asks_step u wanted) (λ s. refl) b.owner b.first (b.last + 1 - b.first)
  same_asks u wanted (Returned b d callee) = refl

  same_assigns : (first : (owner x : ℕ) → Bool) (x : Part) → assigns_part p home first x ≡ assigns_part p other first x
  same_assigns first (Entry owner) = live_same (first owner) (λ x. 1) (λ x. 1) (λ x. refl) 0 (vars_of p owner)
  same_assigns first (Steps b) = over_same assigns_step assigns_step (λ s. refl) b.owner b.first (b.last + 1 - b.first)
  same_assigns first (Returned b d callee) = refl

-- ---- homes of a program

-- a home that may be the variable's slot or a register
same_none : (x : ℕ) (a b : Home) → (a ≡ Slot x) ⊎ ((k : ℕ) × (a ≡ Reg k)) → (b ≡ Slot x) ⊎ ((k : ℕ) × (b ≡ Reg k)) → (a ≡ Slot x) ↔ (b ≡ Slot x)
    → is_none (reg_of a) ≡ is_none (reg_of b)
same_none x a b (inl s) t both = ap (λ h. is_none (reg_of h)) (s ∙ sym (both.0 s))
same_none x a b (inr k) (inl t) both = ap (λ h. is_none (reg_of h)) (both.1 t ∙ sym t)
same_none x a b (inr k) (inr j) both = ap (λ h. is_none (reg_of h)) k.1 ∙ sym (ap (λ h. is_none (reg_of h)) j.1)

-- what a home can be
can_be : (p : Program) (homes : ℕ) (h : Homes) (owner x : ℕ) (q : Proc) → SlotsAsScanned p homes h → slice_get p.procs owner ≡ Some q → x < q.vars
    → (home_of h owner x ≡ Slot x) ⊎ ((k : ℕ) × (home_of h owner x ≡ Reg k))
can_be p homes h owner x q is there small =
    let s = is.allotted owner q there in
    elim (s.1.0.law.range x (home_of h owner x) (s.1.1 x small)) [
      | inl e ↦ inl e
      | inr k ↦ inr (k.0, k.1.1)
    ]

same_regs : (p : Program) (homes : ℕ) (h other : Homes) → SlotsAsScanned p homes h → SlotsAsScanned p homes other → (owner x : ℕ)
    → is_none (home_by p h owner x) ≡ is_none (home_by p other owner x)
same_regs p homes h other is as_well owner x = on (slice_get p.procs owner) refl where
  on : (o : Option Proc) → slice_get p.procs owner ≡ o → is_none (home_by p h owner x) ≡ is_none (home_by p other owner x)
  on None there = out (vars_of p owner) (ap (λ (o : Option Proc). option_map_or (λ q. q.vars) o 0) there) where
    out : (n : ℕ) → vars_of p owner ≡ 0 → is_none (home_by p h owner x) ≡ is_none (home_by p other owner x)
    out n e = let f : nat_lt x (vars_of p owner) ≡ false = grind (arith, nat_tests, e) in rw f refl
  on (Some q) there = by (nat_lt x (vars_of p owner)) refl where
    by : (b : Bool) → nat_lt x (vars_of p owner) ≡ b
        → is_none (if b then reg_of (home_of h owner x) else None) ≡ is_none (if b then reg_of (home_of other owner x) else None)
    by false e = refl
    by true e =
        let vars : vars_of p owner ≡ q.vars = ap (λ (o : Option Proc). option_map_or (λ q. q.vars) o 0) there in
        let small : x < q.vars = grind (arith, nat_tests, e, vars) in
        same_none x (home_of h owner x) (home_of other owner x) (can_be p homes h owner x q is there small) (can_be p homes other owner x q as_well there small)
        (one_slots p homes h other is as_well owner x q there small)

pub one_counts : OneCounts
one_counts p homes h other is as_well first x = record {
  slots = same_traffic p (home_by p h) (home_by p other) (same_regs p homes h other is as_well) first x;
  asked = λ u wanted. same_asks p (home_by p h) (home_by p other) (same_regs p homes h other is as_well) u wanted x;
  assigned = same_assigns p (home_by p h) (home_by p other) (same_regs p homes h other is as_well) first x;
}

-- Blocks of register code ask for no more than the parts that they stand for.
use Rattle.std.proofs.Common.{◌≡◌, ◌≤◌, ◌+◌, ◌==◌, ◌&&◌, ◌∷◌, [], ℕ, zero, suc, Bool, List, Option, Some, None, true, false, length, nat_lt, is_none, refl, arith}
use Rattle.std.specs.Prelude.{if◌then◌else◌, ⊤}
use Rattle.std.specs.List.{sum_by}
use Rattle.std.proofs.lemmas.List.Sums.{sum_by-cons, sum_by-append}
use Rattle.tta_lower.specs.Cited.{Units, Src, Var, Step, Load, Take, Store, When, End, Program, Place, RSrc, RBlock, names_place, names_src, names_exit, names, Need, asks_rstep, asks_exit, asks, assigns_place, assigns_rstep, assigns_block}
use Rattle.tta_program.specs.declared.operand.Src.TheVariants.{Word}
use Rattle.tta_program.specs.declared.step.Step.TheVariants.{Copy, Apply, Put, If, Goto, Invoke, Return, Halt}
use Rattle.tta_lir.specs.declared.code.Place.TheVariants.{Reg, Frame}
use Rattle.tta_lir.specs.declared.code.RSrc.TheVariants as rsrc
use Rattle.tta_lir.specs.declared.code.RStep.TheVariants as rstep
use Rattle.tta_lower.specs.Liveness.{LoweringInput, Has, Homes, IsFlow}
use Rattle.tta_lower.specs.Layout
use Rattle.tta_lower.specs.Layout.{vars_of, params_of, place, place_by, source, passes, gives, steps_for, exit_for, keeps_ra, first_value, sets, sets_from}
use Rattle.tta_lower.specs.Lower.{Part, Entry, Steps, Returned, number_of, entry_number, block_of}
use Rattle.tta_lir.specs.Counts.{names_step}
use Rattle.tta_lower.specs.Counts.{in_slot, slot_src, leaving, traffic_step, over_live, fetched, traffic, asks_step, asks_part, assigns_step, assigns_part}
use Rattle.tta_lower.proofs.StepSums.{block-sum, entry-sum}

module _ (p : Program) (home : Homes) where
  -- ---- slots

  -- the slots that a place names
  place-names : (owner x : ℕ) → names_place (place p home owner x) ≡ in_slot p home owner x
  place-names owner x = by (home owner x) where
    by : (o : Option ℕ) → names_place (place_by p home owner x o) ≡ (if is_none o then 1 else 0)
    by None = refl
    by (Some k) = refl

  -- the slots that an operand names
  src-names : (owner : ℕ) (s : Src) → names_src (source p home owner s) ≡ slot_src p home owner s
  src-names owner (Var x) = place-names owner x
  src-names owner (Word w) = refl

  -- the slots that the passing of arguments names
  pass-names : (owner callee x : ℕ) (args : List Src) → sum_by names_step (passes p home owner callee x args) ≡ sum_by (slot_src p home owner) args + length args
  pass-names owner callee x [] = refl
  pass-names owner callee x (s ∷ args) =
      let rest = pass-names owner callee (x + 1) args in
      rw (sum_by-cons names_step (rstep.Copy (Frame _) (source p home owner s)) (passes p home owner callee (x + 1) args), sum_by-cons (slot_src p home owner) s args)
      (omega (arith, rest, src-names owner s))

  module _ (live_first : (owner x : ℕ) → Bool) (number : ℕ → ℕ → ℕ) (entry : ℕ → ℕ) where
    gives-names : (owner : ℕ) (s : RSrc) → sum_by names_step (gives p home owner s) + names_exit (Layout.back p home number entry owner) ≤ leaving p home owner + names_src s
    gives-names owner s = by (owner == p.main) refl where
      by : (b : Bool) → (owner == p.main) ≡ b → sum_by names_step (gives p home owner s) + names_exit (Layout.back p home number entry owner) ≤ leaving p home owner + names_src s
      by true is = rw is (omega arith)
      by false is = rw is (omega arith)

    -- a step with the exit of a block that it ends
    step-names : (owner : ℕ) (st : Step) → sum_by names_step (steps_for p home owner st) + names_exit (exit_for p home number entry owner st) ≤ traffic_step p home owner st
    step-names owner (Copy d s) = omega (arith, place-names owner d, src-names owner s)
    step-names owner (Apply d op a b) = omega (arith, place-names owner d, src-names owner a, src-names owner b)
    step-names owner (Load d a) = omega (arith, place-names owner d, src-names owner a)
    step-names owner (Take d) = omega (arith, place-names owner d)
    step-names owner (Store a v) = omega (arith, src-names owner a, src-names owner v)
    step-names owner (Put v) = omega (arith, src-names owner v)
    step-names owner (If rel a b to) = omega (arith, src-names owner a, src-names owner b)
    step-names owner (Goto to) = omega arith
    step-names owner (When rel a b d s) = omega (arith, place-names owner d, src-names owner a, src-names owner b, src-names owner s)
    step-names owner (Invoke d callee args) = omega (arith, pass-names owner callee 0 args)
    step-names owner (Return (Some s)) = omega (arith, gives-names owner (source p home owner s), src-names owner s)
    step-names owner (Return None) = omega (arith, gives-names owner (rsrc.Word 0))
    step-names owner Halt = omega arith
    step-names owner End = omega (arith, gives-names owner (rsrc.Word 0))

    sets-names : (owner x : ℕ) → sum_by names_step (sets p home owner x) ≤ fetched p home owner x
    sets-names owner x = by (nat_lt x (params_of p owner)) refl (home owner x) refl where
      by : (b : Bool) → nat_lt x (params_of p owner) ≡ b → (o : Option ℕ) → home owner x ≡ o → sum_by names_step (sets p home owner x) ≤ fetched p home owner x
      by true is None at = rw (is, at) (omega arith)
      by true is (Some k) at = rw (is, at) (omega arith)
      by false is None at = rw (is, at) (omega arith)
      by false is (Some k) at = rw (is, at) (omega arith)

    keeps-names : (owner : ℕ) → sum_by names_step (keeps_ra p home owner) ≤ (if owner == p.main then 0 else 1)
    keeps-names owner = by (owner == p.main) where
      by : (b : Bool) → sum_by names_step (if b then [] else rstep.SaveRa (Layout.back_slot p owner) ∷ []) ≤ (if b then 0 else 1)
      by true = omega arith
      by false = omega arith

  -- ---- operations

  module _ (u : Units) (wanted : Need → Bool) (number : ℕ → ℕ → ℕ) (entry : ℕ → ℕ) where
    pass-asks : (owner callee x : ℕ) (args : List Src) → sum_by (asks_rstep u wanted) (passes p home owner callee x args) ≡ 0
    pass-asks owner callee x [] = refl
    pass-asks owner callee x (s ∷ args) = pass-asks owner callee (x + 1) args

    gives-asks : (owner : ℕ) (s : RSrc) → sum_by (asks_rstep u wanted) (gives p home owner s) + asks_exit u wanted (Layout.back p home number entry owner) ≡ 0
    gives-asks owner s = by (owner == p.main) refl where
      by : (b : Bool) → (owner == p.main) ≡ b → sum_by (asks_rstep u wanted) (gives p home owner s) + asks_exit u wanted (Layout.back p home number entry owner) ≡ 0
      by true is = rw is refl
      by false is = rw is refl

    step-asks : (owner : ℕ) (st : Step) → sum_by (asks_rstep u wanted) (steps_for p home owner st) + asks_exit u wanted (exit_for p home number entry owner st) ≤ asks_step u wanted st
    step-asks owner (Copy d s) = omega arith
    step-asks owner (Apply d op a b) = omega arith
    step-asks owner (Load d a) = omega arith
    step-asks owner (Take d) = omega arith
    step-asks owner (Store a v) = omega arith
    step-asks owner (Put v) = omega arith
    step-asks owner (If rel a b to) = omega arith
    step-asks owner (Goto to) = omega arith
    step-asks owner (When rel a b d s) = omega arith
    step-asks owner (Invoke d callee args) = omega (arith, pass-asks owner callee 0 args)
    step-asks owner (Return (Some s)) = omega (arith, gives-asks owner (source p home owner s))
    step-asks owner (Return None) = omega (arith, gives-asks owner (rsrc.Word 0))
    step-asks owner Halt = omega arith
    step-asks owner End = omega (arith, gives-asks owner (rsrc.Word 0))

    sets-asks : (owner x : ℕ) → sum_by (asks_rstep u wanted) (sets p home owner x) ≤ 0
    sets-asks owner x = by (nat_lt x (params_of p owner) && is_none (home owner x)) where
      by : (b : Bool) → sum_by (asks_rstep u wanted) (if b then [] else rstep.Copy (place p home owner x) (first_value p home owner x) ∷ []) ≤ 0
      by true = omega arith
      by false = omega arith

    keeps-asks : (owner : ℕ) → sum_by (asks_rstep u wanted) (keeps_ra p home owner) ≤ 0
    keeps-asks owner = by (owner == p.main) where
      by : (b : Bool) → sum_by (asks_rstep u wanted) (if b then [] else rstep.SaveRa (Layout.back_slot p owner) ∷ []) ≤ 0
      by true = omega arith
      by false = omega arith

  -- ---- assignments

  -- a place assigns at most once
  at-most-one : (pl : Place) → assigns_place pl ≤ 1
  at-most-one (Reg k) = omega arith
  at-most-one (Frame f) = omega arith

  -- the passing of arguments assigns no home register
  pass-assigns : (owner callee x : ℕ) (args : List Src) → sum_by assigns_rstep (passes p home owner callee x args) ≡ 0
  pass-assigns owner callee x [] = refl
  pass-assigns owner callee x (s ∷ args) = pass-assigns owner callee (x + 1) args

  -- the giving of a value assigns no home register
  gives-assigns : (owner : ℕ) (s : RSrc) → sum_by assigns_rstep (gives p home owner s) ≡ 0
  gives-assigns owner s = by (owner == p.main) where
    by : (b : Bool) → sum_by assigns_rstep (if b then [] else rstep.Copy (Frame (Layout.value_slot p owner)) s ∷ []) ≡ 0
    by true = refl
    by false = refl

  -- a step assigns at most as often as it says
  step-assigns : (owner : ℕ) (st : Step) → sum_by assigns_rstep (steps_for p home owner st) ≤ assigns_step st
  step-assigns owner (Copy d s) = omega (arith, at-most-one (place p home owner d))
  step-assigns owner (Apply d op a b) = omega (arith, at-most-one (place p home owner d))
  step-assigns owner (Load d a) = omega (arith, at-most-one (place p home owner d))
  step-assigns owner (Take d) = omega (arith, at-most-one (place p home owner d))
  step-assigns owner (Store a v) = omega arith
  step-assigns owner (Put v) = omega arith
  step-assigns owner (If rel a b to) = omega arith
  step-assigns owner (Goto to) = omega arith
  step-assigns owner (When rel a b d s) = omega (arith, at-most-one (place p home owner d))
  step-assigns owner (Invoke d callee args) = omega (arith, pass-assigns owner callee 0 args)
  step-assigns owner (Return (Some s)) = omega (arith, gives-assigns owner (source p home owner s))
  step-assigns owner (Return None) = omega (arith, gives-assigns owner (rsrc.Word 0))
  step-assigns owner Halt = omega arith
  step-assigns owner End = omega (arith, gives-assigns owner (rsrc.Word 0))

  -- what sets variables assigns at most once for each
  sets-assigns : (owner x : ℕ) → sum_by assigns_rstep (sets p home owner x) ≤ 1
  sets-assigns owner x = by (nat_lt x (params_of p owner) && is_none (home owner x)) where
    by : (b : Bool) → sum_by assigns_rstep (if b then [] else rstep.Copy (place p home owner x) (first_value p home owner x) ∷ []) ≤ 1
    by true = omega arith
    by false = omega (arith, at-most-one (place p home owner x))

  -- the keeping of a return address assigns nothing
  keeps-assigns : (owner : ℕ) → sum_by assigns_rstep (keeps_ra p home owner) ≤ 0
  keeps-assigns owner = by (owner == p.main) where
    by : (b : Bool) → sum_by assigns_rstep (if b then [] else rstep.SaveRa (Layout.back_slot p owner) ∷ []) ≤ 0
    by true = omega arith
    by false = omega arith

  -- nothing over nothing
  pub over-zero : (live : ℕ → Bool) (x n : ℕ) → over_live p home live (λ y. 0) x n ≡ 0
  over-zero live x zero = refl
  over-zero live x (suc n) =
      let rest = over-zero live (x + 1) n in
      let one = by (live x) in
      omega (arith, rest, one) where
        by : (b : Bool) → ◌≡◌ {A = ℕ} (if b then 0 else 0) 0
        by true = refl
        by false = refl

-- ---- whole blocks

module _ (p : Program) (known : LoweringInput) (homes : ℕ) (flow : IsFlow p known.blocks) where
  abbrev number : ℕ → ℕ → ℕ
  number = number_of p known.blocks known.first

  -- the number of an entry block
  abbrev entry : ℕ → ℕ
  entry = entry_number p known.blocks known.first

  -- the block of a part
  abbrev block : Part → RBlock
  block = block_of p known homes

  -- a part of the program: its steps are a block
  abbrev pub IsPart : Part → Type 0
  IsPart (Steps b) = Has known.blocks b
  IsPart x = ⊤

  -- each block of register code names slots at most as often as its frame traffic
  pub names-few : (x : Part) → IsPart x → names (block x) ≤ traffic p known.home known.first x
  names-few (Entry owner) is =
      let ra = keeps-names p known.home known.first number entry owner in
      let live = entry-sum p known.home names_step (fetched p known.home owner) (known.first owner) owner 0 (vars_of p owner) (sets-names p known.home known.first number entry owner) in
      rw (sum_by-append names_step (keeps_ra p known.home owner) (sets_from p known.home (known.first owner) owner 0 (vars_of p owner))) (omega (arith, ra, live))
  names-few (Steps b) is =
      let last = flow.last b is in
      let all = block-sum p known.home names_step (traffic_step p known.home b.owner) (names_exit (exit_for p known.home number entry b.owner last.st)) b last.st (flow.rises b is) last.there
      (λ s. let one = step-names p known.home known.first number entry b.owner s in omega (arith, one)) (step-names p known.home known.first number entry b.owner last.st) in
      rw (last.there) all
  names-few (Returned b d callee) is = one (place p known.home b.owner d) where
    one : (pl : Place) → 0 + (names_place pl + 1) + 0 ≤ 2
    one (Reg k) = omega arith
    one (Frame f) = omega arith

  -- it asks for operations at most as often
  pub asks-few : (u : Units) (wanted : Need → Bool) (x : Part) → IsPart x → asks u wanted (block x) ≤ asks_part u wanted p known.home x
  asks-few u wanted (Entry owner) is =
      let ra = keeps-asks p known.home u wanted number entry owner in
      let live = entry-sum p known.home (asks_rstep u wanted) (λ y. 0) (known.first owner) owner 0 (vars_of p owner) (sets-asks p known.home u wanted number entry owner) in
      let none = over-zero p known.home (known.first owner) 0 (vars_of p owner) in
      rw (sum_by-append (asks_rstep u wanted) (keeps_ra p known.home owner) (sets_from p known.home (known.first owner) owner 0 (vars_of p owner))) (omega (arith, ra, live, none))
  asks-few u wanted (Steps b) is =
      let last = flow.last b is in
      let all = block-sum p known.home (asks_rstep u wanted) (asks_step u wanted) (asks_exit u wanted (exit_for p known.home number entry b.owner last.st)) b last.st (flow.rises b is) last.there
      (λ s. let one = step-asks p known.home u wanted number entry b.owner s in omega (arith, one)) (step-asks p known.home u wanted number entry b.owner last.st) in
      rw (last.there) all
  asks-few u wanted (Returned b d callee) is = omega arith

  -- and assigns at most as often
  pub assigns-few : (x : Part) → IsPart x → assigns_block (block x) ≤ assigns_part p known.home known.first x
  assigns-few (Entry owner) is =
      let ra = keeps-assigns p known.home owner in
      let live = entry-sum p known.home assigns_rstep (λ y. 1) (known.first owner) owner 0 (vars_of p owner) (sets-assigns p known.home owner) in
      rw (sum_by-append assigns_rstep (keeps_ra p known.home owner) (sets_from p known.home (known.first owner) owner 0 (vars_of p owner))) (omega (arith, ra, live))
  assigns-few (Steps b) is =
      let last = flow.last b is in
      let one = step-assigns p known.home b.owner last.st in
      let all = block-sum p known.home assigns_rstep assigns_step 0 b last.st (flow.rises b is) last.there (step-assigns p known.home b.owner) (omega (arith, one)) in
      omega (arith, all)
  assigns-few (Returned b d callee) is = omega (arith, at-most-one p known.home (place p known.home b.owner d))

-- How many blocks there are, and what they weigh.
use Rattle.std.proofs.Common.{◌≡◌, ◌<◌, ◌≤◌, ◌+◌, ◌-◌, ◌*◌, ◌==◌, ◌&&◌, ◌++◌, ◌∷◌, [], ℕ, zero, suc, Bool, List, Option, Some, None, true, false, length, slice_get, nat_lt, is_none, is_some, refl, sym, ap, ◌∙◌, subst, arith, inl, inr, add-zero, append_assoc, length-append}
use Rattle.std.specs.Prelude.{if◌then◌else◌}
use Rattle.std.specs.Option.{option_map_or}
use Rattle.std.specs.List.{flat_map, sum_by}
use Rattle.std.proofs.lemmas.Bool.{eqb-true, false≢true}
use Rattle.std.proofs.lemmas.List.Sums.{sum_by-cons, sum_by-append}
use Rattle.tta_list.proofs.Lists.{slice_get-back, some_within, sum_by-map as sum-mapped, length_ones as length-sum}
use Rattle.tta_lower.specs.Cited.{Src, Step, Load, Take, Store, When, End, Proc, Program, step_count, IsProgram, step_at, RSrc, RBlock, weight_step, weight_exit, weight_block, weight, args_in, arg_count, var_count}
use Rattle.tta_program.specs.declared.step.Step.TheVariants.{Copy, Apply, Put, If, Goto, Invoke, Return, Halt}
use Rattle.tta_lir.specs.declared.code.RSrc.TheVariants as rsrc
use Rattle.tta_lir.specs.declared.code.RStep.TheVariants as rstep
use Rattle.tta_lir.specs.declared.code.Place.TheVariants.{Frame}
use Rattle.tta_lower.specs.Liveness.{LoweringInput, Block, Has, Homes, IsFlow}
use Rattle.tta_lower.specs.Layout
use Rattle.tta_lower.specs.Layout.{vars_of, params_of, place, source, passes, gives, steps_for, exit_for, keeps_ra, first_value, sets, sets_from}
use Rattle.tta_lower.specs.Lower.{code_order, spans_of, Part, Entry, Steps, return_after, span_parts, has_entry, entry_parts, proc_parts, parts, number_of, entry_number, block_of, lowered, InOrder, Answers}
use Rattle.tta_lower.specs.Counts.{over_steps, over_live}
use Rattle.tta_lower.proofs.Lists.{In, in-has, filter-in, begins-behind}
use Rattle.tta_lower.proofs.Sums.{sum-flat_map, code-order-sum}
use Rattle.tta_lower.proofs.Placed.{main-below, span-rises, span-below, steps_of_proc}
use Rattle.tta_lower.proofs.StepSums.{over-more, block-sum, entry-sum}

-- a list's length as a sum

module _ (p : Program) (home : Homes) (g : Step → ℕ) where
  over-add : (owner at n m : ℕ) → over_steps p home g owner at (n + m) ≡ over_steps p home g owner at n + over_steps p home g owner (at + n) m
  over-add owner at zero m =
      let e : zero + m ≡ m = omega arith in
      ap (λ k. over_steps p home g owner at k) e ∙ ap (λ k. over_steps p home g owner k m) (sym (add-zero at)) ∙ omega arith
  over-add owner at (suc n) m =
      let e : suc n + m ≡ suc (n + m) = omega arith in
      let l : at + 1 + n ≡ at + suc n = omega arith in
      let rest = over-add owner (at + 1) n m in
      let moved = ap (λ k. over_steps p home g owner k m) l in
      ap (λ k. over_steps p home g owner at k) e ∙ omega (arith, rest, moved)

  -- all steps of a procedure
  over-list : (owner : ℕ) (q : Proc) → slice_get p.procs owner ≡ Some q → (prefix rest : List Step) → q.steps ≡ prefix ++ rest
      → over_steps p home g owner (length prefix) (length rest) ≡ sum_by g rest
  over-list owner q is prefix [] split = refl
  over-list owner q is prefix (s ∷ rest) split =
      let at : step_at p owner (length prefix) ≡ Some s =
      (rw is refl) ∙ ap (λ l. slice_get l (length prefix)) split
      ∙ ap (slice_get (prefix ++ s ∷ rest)) (sym (add-zero (length prefix))) ∙ slice_get-back prefix (s ∷ rest) 0 in
      let longer : length (prefix ++ s ∷ []) ≡ length prefix + 1 = length-append prefix (s ∷ []) in
      let more = over-list owner q is (prefix ++ s ∷ []) rest (split ∙ sym (append_assoc prefix (s ∷ []) rest)) in
      let moved = ap (λ k. over_steps p home g owner k (length rest)) longer in
      rw (at, sum_by-cons g s rest) (omega (arith, more, moved))

  -- blocks in order take no more than all steps between two
  spans-over : (owner : ℕ) (f : Block → ℕ) (bs : List Block) (low high : ℕ) → InOrder bs → ((c : Block) → In c bs → c.first ≤ c.last) → ((c : Block) → In c bs → c.last < high)
      → ((c : Block) → In c bs → low ≤ c.first) → ((c : Block) → In c bs → f c ≤ over_steps p home g owner c.first (c.last + 1 - c.first))
      → low ≤ high → sum_by f bs ≤ over_steps p home g owner low (high - low)
  spans-over owner f [] low high order rises below above le within = omega arith
  spans-over owner f (b ∷ bs) low high order rises below above le within =
      let rest = spans-over owner f bs (b.last + 1) high order.1 (λ c is. rises c (inr is)) (λ c is. below c (inr is)) (λ c is. begins-behind b bs c order.0 is) (λ c is. le c (inr is)) (omega (arith, below b (inl refl))) in
      let one = le b (inl refl) in
      let size = b.last + 1 - b.first in
      let gap = b.first - low in
      let tail = high - (b.last + 1) in
      let whole : high - low ≡ gap + (size + tail) = omega (arith, rises b (inl refl), above b (inl refl), below b (inl refl)) in
      let first = over-add owner low gap (size + tail) in
      let second = over-add owner (low + gap) size tail in
      let here : low + gap ≡ b.first = omega (arith, above b (inl refl)) in
      let after_it : b.first + size ≡ b.last + 1 = omega (arith, rises b (inl refl)) in
      let moved = ap (λ k. over_steps p home g owner k size) here in
      let moved_on = ap (λ k. over_steps p home g owner (k + size) tail) here ∙ ap (λ k. over_steps p home g owner k tail) after_it in
      let all = ap (λ k. over_steps p home g owner low k) whole in
      rw (sum_by-cons f b bs) (omega (arith, rest, one, first, second, moved, moved_on, all))

module _ (p : Program) (known : LoweringInput) (homes : ℕ)
    (sound : IsProgram p) (flow : IsFlow p known.blocks) (answers : Answers p known homes) where
  abbrev block : Part → RBlock
  block = block_of p known homes

  -- ---- a sum over all parts

  -- each entry takes at most so much, and each block with what stands after it at most what its steps allow
  parts-sum : (f : Part → ℕ) (e : ℕ → ℕ) (h : Proc → ℕ) (g : Step → ℕ) → ((o : ℕ) → f (Entry o) ≤ e (vars_of p o))
      → ((b : Block) → Has known.blocks b → sum_by f (span_parts p b) ≤ over_steps p known.home g b.owner b.first (b.last + 1 - b.first))
      → ((q : Proc) → e q.vars + sum_by g q.steps ≤ h q)
      → sum_by f (parts p known.blocks known.first) ≤ sum_by h p.procs
  parts-sum f e h g entries within all =
      let total = code-order-sum p h (λ o. sum_by f (proc_parts p known.blocks known.first o)) (main-below p known homes sound flow answers) proc-sum in
      let flat = sum-flat_map f (proc_parts p known.blocks known.first) (code_order p) in
      omega (arith, total, flat) where
        one-entry : (o : ℕ) (b : Bool) → sum_by f (if b then Entry o ∷ [] else []) ≤ e (vars_of p o)
        one-entry o true = omega (arith, entries o)
        one-entry o false = omega arith

        by : (o : ℕ) (t : Option Proc) → o < length p.procs → slice_get p.procs o ≡ t → sum_by f (proc_parts p known.blocks known.first o) ≤ option_map_or h t 0
        by o None lt is = absurd (false≢true (sym (ap is_some is) ∙ some_within p.procs o lt))
        by o (Some q) lt is =
            let spans = spans_of known.blocks o in
            let n : steps_of_proc p known homes sound flow answers o ≡ length q.steps = rw is refl in
            let entry = one-entry o (has_entry p known.blocks known.first o) in
            let rest = spans-over p known.home g o (λ c. sum_by f (span_parts p c)) spans 0 (length q.steps) (answers.order o)
            (span-rises p known homes sound flow answers o)
            (λ c has. omega (arith, n, span-below p known homes sound flow answers o c has))
            (λ c has. omega arith)
            (λ c has.
            let both = filter-in (λ c. c.owner == o) known.blocks c has in
            subst (λ x. sum_by f (span_parts p c) ≤ over_steps p known.home g x c.first (c.last + 1 - c.first)) (eqb-true c.owner o both.1) (within c (in-has known.blocks c both.0)))
            (omega arith) in
            let steps : over_steps p known.home g o 0 (length q.steps) ≡ sum_by g q.steps = over-list p known.home g o q is [] q.steps refl in
            let less : length q.steps - 0 ≡ length q.steps = omega arith in
            let same = ap (λ n. over_steps p known.home g o 0 n) less in
            let goal : option_map_or h (Some q) 0 ≡ h q = refl in
            rw (sum_by-append f (entry_parts p known.blocks known.first o) (flat_map (span_parts p) spans), sum-flat_map f (span_parts p) spans)
            (omega (arith, entry, rest, steps, same, goal, all q, vars_is o q is)) where
              vars_is : (o : ℕ) (q : Proc) → slice_get p.procs o ≡ Some q → e (vars_of p o) ≡ e q.vars
              vars_is o q is = ap e (rw is refl)

        proc-sum : (o : ℕ) → o < length p.procs → sum_by f (proc_parts p known.blocks known.first o) ≤ option_map_or h (slice_get p.procs o) 0
        proc-sum o lt = by o (slice_get p.procs o) lt refl

  -- ---- how many blocks there are

  -- a block becomes at most two parts
  span-length : (b : Block) → length (span_parts p b) ≤ 2
  span-length b = by (step_at p b.owner b.last) where
    by : (o : Option Step) → suc (length (return_after b o)) ≤ 2
    by (Some (Invoke (Some d) callee args)) = omega arith
    by (Some (Invoke None callee args)) = omega arith
    by o = omega arith

  -- there is a procedure
  procs-one : (qs : List Proc) → sum_by (λ q. 1 + sum_by (λ s. 2) q.steps) qs ≡ length qs + 2 * sum_by (λ q. length q.steps) qs
  procs-one [] = refl
  procs-one (q ∷ qs) =
      let rest = procs-one qs in
      let two = twos q.steps in
      rw (sum_by-cons (λ q. 1 + sum_by (λ s. 2) q.steps) q qs, sum_by-cons (λ q. length q.steps) q qs) (omega (arith, rest, two)) where
        twos : (steps : List Step) → sum_by (λ s. 2) steps ≡ 2 * length steps
        twos [] = refl
        twos (s ∷ steps) =
            let rest = twos steps in
            rw (sum_by-cons (λ s. 2) s steps) (omega (arith, rest))

  -- at most two for each step, and one for each procedure
  pub few-blocks : length (parts p known.blocks known.first) ≤ 2 * step_count p + length p.procs
  few-blocks =
      let all = parts-sum (λ x. 1) (λ v. 1) (λ q. 1 + sum_by (λ s. 2) q.steps) (λ s. 2) (λ o. omega arith)
      (λ b has.
      let last = flow.last b has in
      let n = b.last - b.first in
      let e : b.last + 1 - b.first ≡ suc n = omega (arith, flow.rises b has) in
      let l : b.first + n ≡ b.last = omega (arith, flow.rises b has) in
      let more = over-more p known.home (λ s. 2) b.owner b.first n last.st (ap (step_at p b.owner) l ∙ last.there) in
      let same = ap (λ k. over_steps p known.home (λ s. 2) b.owner b.first k) e in
      let size = length-sum (span_parts p b) in
      omega (arith, more, same, size, span-length b))
      (λ q. omega arith) in
      let sum = length-sum (parts p known.blocks known.first) in
      let procs = procs-one p.procs in
      omega (arith, all, sum, procs)

  -- ---- weight

  -- the number of the block that holds a step
  abbrev number : ℕ → ℕ → ℕ
  number = number_of p known.blocks known.first

  -- the number of an entry block
  abbrev entry : ℕ → ℕ
  entry = entry_number p known.blocks known.first

  -- what a step allows
  abbrev step_weight : Step → ℕ
  step_weight st = 32 + 8 * args_in st

  -- the weight of passing arguments
  pass-weight : (owner callee x : ℕ) (args : List Src) → sum_by weight_step (passes p known.home owner callee x args) ≡ 8 * length args
  pass-weight owner callee x [] = refl
  pass-weight owner callee x (s ∷ args) =
      let rest = pass-weight owner callee (x + 1) args in
      rw (sum_by-cons weight_step (rstep.Copy (Frame (Layout.var_slot p callee x)) (source p known.home owner s)) (passes p known.home owner callee (x + 1) args)) (omega (arith, rest))

  -- the weight of giving a value
  gives-weight : (owner : ℕ) (s : RSrc) → sum_by weight_step (gives p known.home owner s) + weight_exit (Layout.back p known.home number entry owner) ≤ 24
  gives-weight owner s = by (owner == p.main) refl where
    by : (b : Bool) → (owner == p.main) ≡ b → sum_by weight_step (gives p known.home owner s) + weight_exit (Layout.back p known.home number entry owner) ≤ 24
    by true is = rw is (omega arith)
    by false is = rw is (omega arith)

  -- the weight of a return block
  return-weight : (b : Block) (o : Option Step) → sum_by (λ x. weight_block (block x)) (return_after b o) ≤ 8
  return-weight b (Some (Invoke (Some d) callee args)) = omega arith
  return-weight b (Some (Invoke None callee args)) = omega arith
  return-weight b o = omega arith

  -- a block's last step with its exit, and what stands after it
  step-fits : (b : Block) (owner : ℕ) (st : Step) → sum_by weight_step (steps_for p known.home owner st) + (weight_exit (exit_for p known.home number entry owner st) + sum_by (λ x. weight_block (block x)) (return_after b (Some st))) ≤ step_weight st
  step-fits b owner (Copy d s) = omega arith
  step-fits b owner (Apply d op a c) = omega arith
  step-fits b owner (Load d a) = omega arith
  step-fits b owner (Take d) = omega arith
  step-fits b owner (Store a v) = omega arith
  step-fits b owner (Put v) = omega arith
  step-fits b owner (If rel a c to) = omega arith
  step-fits b owner (Goto to) = omega arith
  step-fits b owner (When rel a c d s) = omega arith
  step-fits b owner (Invoke (Some d) callee args) = omega (arith, pass-weight owner callee 0 args)
  step-fits b owner (Invoke None callee args) = omega (arith, pass-weight owner callee 0 args)
  step-fits b owner (Return (Some s)) = omega (arith, gives-weight owner (source p known.home owner s))
  step-fits b owner (Return None) = omega (arith, gives-weight owner (rsrc.Word 0))
  step-fits b owner Halt = omega arith
  step-fits b owner End = omega (arith, gives-weight owner (rsrc.Word 0))

  -- the weight of setting variables
  sets-weight : (owner x : ℕ) → sum_by weight_step (sets p known.home owner x) ≤ 8
  sets-weight owner x = by (nat_lt x (params_of p owner) && is_none (known.home owner x)) where
    by : (b : Bool) → sum_by weight_step (if b then [] else rstep.Copy (place p known.home owner x) (first_value p known.home owner x) ∷ []) ≤ 8
    by true = omega arith
    by false = omega arith

  -- the weight of what an entry sets
  live-weight : (live : ℕ → Bool) (x n : ℕ) → over_live p known.home live (λ y. 8) x n ≤ 8 * n
  live-weight live x zero = omega arith
  live-weight live x (suc n) =
      let rest = live-weight live (x + 1) n in
      let one = by (live x) in
      omega (arith, rest, one) where
        by : (b : Bool) → (if b then 8 else 0) ≤ 8
        by true = omega arith
        by false = omega arith

  -- the weight of an entry block
  entry-weight : (owner : ℕ) → weight_block (block (Entry owner)) ≤ 8 + 8 * vars_of p owner
  entry-weight owner =
      let live = entry-sum p known.home weight_step (λ y. 8) (known.first owner) owner 0 (vars_of p owner) (sets-weight owner) in
      let few = live-weight (known.first owner) 0 (vars_of p owner) in
      let ra = by (owner == p.main) in
      rw (sum_by-append weight_step (keeps_ra p known.home owner) (sets_from p known.home (known.first owner) owner 0 (vars_of p owner))) (omega (arith, live, few, ra)) where
        by : (b : Bool) → sum_by weight_step (if b then [] else rstep.SaveRa (Layout.back_slot p owner) ∷ []) ≤ 8
        by true = omega arith
        by false = omega arith

  -- the weight of all procedures
  procs-weight : (qs : List Proc) → sum_by (λ q. 8 + 8 * q.vars + sum_by step_weight q.steps) qs
      ≡ 8 * length qs + 8 * sum_by (λ q. q.vars) qs + 32 * sum_by (λ q. length q.steps) qs + 8 * sum_by (λ q. sum_by args_in q.steps) qs
  procs-weight [] = refl
  procs-weight (q ∷ qs) =
      let rest = procs-weight qs in
      let one = steps q.steps in
      rw (sum_by-cons (λ q. 8 + 8 * q.vars + sum_by step_weight q.steps) q qs, sum_by-cons (λ q. length q.steps) q qs, sum_by-cons (λ q. q.vars) q qs, sum_by-cons (λ q. sum_by args_in q.steps) q qs)
      (omega (arith, rest, one)) where
        steps : (ss : List Step) → sum_by step_weight ss ≡ 32 * length ss + 8 * sum_by args_in ss
        steps [] = refl
        steps (s ∷ ss) =
            let rest = steps ss in
            rw (sum_by-cons step_weight s ss, sum_by-cons args_in s ss) (omega (arith, rest))

  -- the weight is within its bound
  pub weight-fits : weight (lowered p known homes) ≤ 32 * step_count p + 8 * (arg_count p + var_count p) + 16 * length p.procs
  weight-fits =
      let all = parts-sum (λ x. weight_block (block x)) (λ v. 8 + 8 * v) (λ q. 8 + 8 * q.vars + sum_by step_weight q.steps) step_weight (λ o. entry-weight o)
      (λ b has.
      let last = flow.last b has in
      let st = last.st in
      let after_it = sum_by (λ x. weight_block (block x)) (return_after b (Some st)) in
      let fits = block-sum p known.home weight_step step_weight (weight_exit (exit_for p known.home number entry b.owner st) + after_it) b st (flow.rises b has) last.there
      (λ s. let one = step-fits b b.owner s in omega (arith, one)) (step-fits b b.owner st) in
      let cut = sum_by-cons (λ x. weight_block (block x)) (Steps b) (return_after b (step_at p b.owner b.last)) in
      let same = ap (λ o. sum_by (λ x. weight_block (block x)) (return_after b o)) last.there in
      let whole = steps-weight b st last.there after_it fits in
      omega (arith, cut, same, whole))
      (λ q. omega arith) in
      let mapped = sum-mapped weight_block block (parts p known.blocks known.first) in
      let procs = procs-weight p.procs in
      omega (arith, all, mapped, procs) where
        steps-weight : (b : Block) (st : Step) → step_at p b.owner b.last ≡ Some st → (after_it : ℕ)
            → sum_by weight_step (Layout.code_from p known.home b.owner b.first (b.last + 1 - b.first)) + (weight_exit (exit_for p known.home number entry b.owner st) + after_it) ≤ over_steps p known.home step_weight b.owner b.first (b.last + 1 - b.first)
            → weight_block (block (Steps b)) + after_it ≤ over_steps p known.home step_weight b.owner b.first (b.last + 1 - b.first)
        steps-weight b st there after_it le = rw there (omega (arith, le))

-- The register code of a program is closed: whole blocks.
use Rattle.std.proofs.Common.{◌≡◌, ◌≢◌, ◌<◌, ◌≤◌, ◌+◌, ◌-◌, ◌*◌, ◌==◌, ◌&&◌, not, ◌++◌, ◌∷◌, [], ℕ, zero, suc, Bool, List, Option, Some, None, true, false, length, map, slice_get, nat_lt, refl, sym, ◌∙◌, subst, arith, ◌⊎◌, inl, inr}
use Rattle.std.specs.Prelude.{if◌then◌else◌}
use Rattle.std.specs.List.{flat_map, sum_by, list_all}
use Rattle.std.proofs.lemmas.Bool.{eq-eqb, and_from, and_parts, ltb-true}
use Rattle.std.proofs.lemmas.List.Sums.{sum_by-cons}
use Rattle.std.proofs.lemmas.List.Folds.{list_all-append}
use Rattle.std.proofs.lemmas.Option.{slice_get_within}
use Rattle.tta_lower.specs.Cited.{Src, Step, Proc, Program, IsProgram, is_src, step_at, Place, RBlock, frame_need, step_passes, block_passes}
use Rattle.tta_program.specs.declared.step.Step.TheVariants.{Invoke}
use Rattle.tta_program.specs.Rules
use Rattle.tta_lir.specs.declared.code.Place.TheVariants.{Frame}
use Rattle.tta_lower.specs.Liveness.{LoweringInput, Block, Has, IsFlow}
use Rattle.tta_lower.specs.Layout.{vars_of, base, slots_before, var_slot, value_slot, back_slot, size, place, keeps_ra, sets_from, code_from}
use Rattle.tta_lower.specs.Lower.{numbers, code_order, spans_of, Part, Entry, Steps, Returned, return_after, span_parts, has_entry, entry_parts, proc_parts, parts, number_of, entry_number, block_of, lowered, Answers}
use Rattle.tta_lower.proofs.Steps.{step_of}
use Rattle.tta_lower.proofs.Callers.{called, vars-are}
use Rattle.tta_lower.proofs.Slots.{frames-rise}
use Rattle.tta_lower.proofs.Lists.{In, in-has, filter-in, numbers-below}
use Rattle.tta_lower.proofs.Placed.{main-below}
use Rattle.tta_lower.proofs.Closing.{exit-ok, code-ok, sets-ok, keeps-ok}

-- ---- the need of frame words

-- the slots of some procedures, with two for main where it is among them
abbrev pub main_among : Program → (from : ℕ) → List Proc → ℕ
main_among p from [] = 0
main_among p from (q ∷ qs) = (if from == p.main then 2 else 0) + main_among p (from + 1) qs

-- all slots, with two for main
pub all-slots : (p : Program) (from : ℕ) (qs : List Proc) → slots_before p from (length qs) qs + main_among p from qs ≡ 2 * length qs + sum_by (λ q. q.vars) qs
all-slots p from [] = refl
all-slots p from (q ∷ qs) =
    let rest = all-slots p (from + 1) qs in
    let one = by (from == p.main) in
    rw (sum_by-cons (λ q. q.vars) q qs) (omega (arith, rest, one)) where
      by : (b : Bool) → (if b then 0 else 2) + (if b then 2 else 0) ≡ 2
      by true = refl
      by false = refl

-- main is among the procedures
pub main-there : (p : Program) (from k : ℕ) (qs : List Proc) → k < length qs → from + k ≡ p.main → 2 ≤ main_among p from qs
main-there p from k [] lt is = absurd (omega (arith, lt))
main-there p from zero (q ∷ qs) lt is =
    let same : from ≡ p.main = omega (arith, is) in
    rw (eq-eqb from p.main same) (omega arith)
main-there p from (suc k) (q ∷ qs) lt is =
    let rest = main-there p (from + 1) k qs (omega (arith, lt)) (omega (arith, is)) in
    omega (arith, rest)

-- each frame ends within the need
pub frame-within : (p : Program) (owner : ℕ) (q : Proc) → p.main < length p.procs → slice_get p.procs owner ≡ Some q → base p owner + size p owner ≤ frame_need p
unfolding base
frame-within p owner q main is =
    let lt = slice_get_within p.procs owner q is in
    let end = frames-rise p owner (length p.procs) q lt is in
    let last : base p (length p.procs) ≡ slots_before p 0 (length p.procs) p.procs = refl in
    let all = all-slots p 0 p.procs in
    let two = main-there p 0 p.main p.procs main (omega arith) in
    omega (arith, end, last, all, two)

-- ---- parts

-- a value of two lists
pub in-append : {A : Type 0} (xs ys : List A) (x : A) → In x (xs ++ ys) → In x xs ⊎ In x ys
in-append [] ys x is = inr is
in-append (z ∷ xs) ys x (inl e) = inl (inl e)
in-append (z ∷ xs) ys x (inr more) = by (in-append xs ys x more) where
  by : In x xs ⊎ In x ys → In x (z ∷ xs) ⊎ In x ys
  by (inl a) = inl (inr a)
  by (inr b) = inr b

-- where a value of a flat list comes from
pub record FlatPart {A B : Type 0} (f : A → List B) (xs : List A) (x : B) : Type 0 where
  from : A
  is : In from xs
  there : In x (f from)

-- a value of a flat list comes from one
pub in-flat_map : {A B : Type 0} (f : A → List B) (xs : List A) (x : B) → In x (flat_map f xs) → FlatPart f xs x
in-flat_map f [] x is = absurd is
in-flat_map f (y ∷ ys) x is = by (in-append (f y) (flat_map f ys) x is) (in-flat_map f ys x) where
  by : In x (f y) ⊎ In x (flat_map f ys) → (In x (flat_map f ys) → FlatPart f ys x) → FlatPart f (y ∷ ys) x
  by (inl here) more = record { from = y; is = inl refl; there = here }
  by (inr there) more = record { from = (more there).from; is = inr (more there).is; there = (more there).there }

-- what a function makes of values passes
pub all-mapped : {A B : Type 0} (t : B → Bool) (f : A → B) (xs : List A) → ((x : A) → In x xs → t (f x) ≡ true) → list_all t (map f xs) ≡ true
all-mapped t f [] all = refl
all-mapped t f (x ∷ xs) all = and_from (t (f x)) _ (all x (inl refl)) (all-mapped t f xs (λ y is. all y (inr is)))

-- all values pass
pub all-in : {A : Type 0} (t : A → Bool) (xs : List A) → ((x : A) → In x xs → t x ≡ true) → list_all t xs ≡ true
all-in t [] all = refl
all-in t (x ∷ xs) all = and_from (t x) _ (all x (inl refl)) (all-in t xs (λ y is. all y (inr is)))

-- what is known of a part
pub record IsReturn (p : Program) (blocks : List Block) (b : Block) (d callee : ℕ) : Type 0 where
  pub has : Has blocks b
  pub args : List Src
  pub call : step_at p b.owner b.last ≡ Some (Invoke (Some d) callee args)

-- what a part names is the program's
abbrev pub IsPartOf : Program → List Block → Part → Type 0
IsPartOf p blocks (Entry owner) = owner < length p.procs
IsPartOf p blocks (Steps b) = Has blocks b
IsPartOf p blocks (Returned b d callee) = IsReturn p blocks b d callee

module _ (p : Program) (known : LoweringInput) (homes : ℕ)
    (sound : IsProgram p) (flow : IsFlow p known.blocks) (answers : Answers p known homes) where
  pub main-in : p.main < length p.procs
  main-in = main-below p known homes sound flow answers

  -- the code has procedures that are there
  pub order-below : (owner : ℕ) → In owner (code_order p) → owner < length p.procs
  order-below owner (inl e) = omega (arith, e, main-in)
  order-below owner (inr more) =
      let both = filter-in (λ o. not (o == p.main)) (numbers 0 (length p.procs)) owner more in
      omega (arith, numbers-below 0 (length p.procs) owner both.0)

  -- the part after a block
  return-is : (b : Block) → Has known.blocks b → (o : Option Step) → step_at p b.owner b.last ≡ o → (x : Part) → In x (return_after b o) → IsPartOf p known.blocks x
  return-is b has (Some (Invoke (Some d) callee args)) there x (inl e) = subst (IsPartOf p known.blocks) (sym e) (record { has = has; args = args; call = there })
  return-is b has (Some (Invoke (Some d) callee args)) there x (inr none) = absurd none
  return-is b has (Some (Invoke None callee args)) there x is = absurd is
  return-is b has o there x is = absurd is

  -- each part is one of the program
  pub parts-are : (x : Part) → In x (parts p known.blocks known.first) → IsPartOf p known.blocks x
  parts-are x is = by (in-append (entry_parts p known.blocks known.first of.from) (flat_map (span_parts p) (spans_of known.blocks of.from)) x of.there) where
    of : FlatPart (proc_parts p known.blocks known.first) (code_order p) x
    of = in-flat_map (proc_parts p known.blocks known.first) (code_order p) x is

    entry-is : (b : Bool) → In x (if b then Entry of.from ∷ [] else []) → IsPartOf p known.blocks x
    entry-is true (inl e) = subst (IsPartOf p known.blocks) (sym e) (order-below of.from of.is)
    entry-is true (inr none) = absurd none
    entry-is false none = absurd none

    span-is : FlatPart (span_parts p) (spans_of known.blocks of.from) x → IsPartOf p known.blocks x
    span-is s = within s.there where
      has : Has known.blocks s.from
      has = in-has known.blocks s.from (filter-in (λ c. c.owner == of.from) known.blocks s.from s.is).0

      within : In x (span_parts p s.from) → IsPartOf p known.blocks x
      within (inl e) = subst (IsPartOf p known.blocks) (sym e) has
      within (inr more) = return-is s.from has (step_at p (s.from).owner (s.from).last) refl x more

    by : In x (entry_parts p known.blocks known.first of.from) ⊎ In x (flat_map (span_parts p) (spans_of known.blocks of.from)) → IsPartOf p known.blocks x
    by (inl e) = entry-is (has_entry p known.blocks known.first of.from) e
    by (inr s) = span-is (in-flat_map (span_parts p) (spans_of known.blocks of.from) x s)

  -- the block of a part
  abbrev block : Part → RBlock
  block = block_of p known homes

  -- ---- places and slots that pass in every block

  module _ (test : Place → Bool) (slot : ℕ → Bool)
      (place_ok : (owner x : ℕ) → x < vars_of p owner → test (place p known.home owner x) ≡ true)
      (var_ok : (owner x : ℕ) → x < vars_of p owner → test (Frame (var_slot p owner x)) ≡ true)
      (value_ok : (owner : ℕ) → owner < length p.procs → owner ≢ p.main → test (Frame (value_slot p owner)) ≡ true)
      (slot_ok : (owner : ℕ) → owner < length p.procs → owner ≢ p.main → slot (back_slot p owner) ≡ true) where
    pub part-passes : (x : Part) → IsPartOf p known.blocks x → block_passes test slot (block x) ≡ true
    part-passes (Entry owner) lt =
        and_from (list_all (step_passes test slot) (keeps_ra p known.home owner ++ sets_from p known.home (known.first owner) owner 0 (vars_of p owner))) true
        (list_all-append (step_passes test slot) (keeps_ra p known.home owner) (sets_from p known.home (known.first owner) owner 0 (vars_of p owner))
        ∙ and_from _ _ (keeps-ok p known.home sound test slot place_ok var_ok value_ok slot_ok owner lt)
        (sets-ok p known.home sound test slot place_ok var_ok value_ok slot_ok (known.first owner) owner 0 (vars_of p owner) (omega arith)))
        refl
    part-passes (Steps b) has =
        let last = flow.last b has in
        let exit = exit-ok p known.home sound test slot place_ok var_ok value_ok slot_ok (number_of p known.blocks known.first) (entry_number p known.blocks known.first) b.owner b.last last.st last.there in
        and_from (list_all (step_passes test slot) (code_from p known.home b.owner b.first (b.last + 1 - b.first))) _
        (code-ok p known.home sound test slot place_ok var_ok value_ok slot_ok b.owner b.first (b.last + 1 - b.first))
        (rw (last.there) exit)
    part-passes (Returned b d callee) r =
        let of_call = called p sound b.owner b.last callee (Some d) r.args r.call in
        let of_step = step_of p sound b.owner b.last (Invoke (Some d) callee r.args) r.call in
        let vars = vars-are p b.owner of_step.proc of_step.is in
        let d_test : nat_lt d (of_step.proc).vars ≡ true = (and_parts (nat_lt d (of_step.proc).vars) (list_all (is_src (of_step.proc).vars) r.args) (and_parts _ (Rules.is_call p callee r.args) of_step.rules).0).0 in
        and_from (test (place p known.home b.owner d) && test (Frame (value_slot p callee)) && true) true
        (and_from (test (place p known.home b.owner d) && test (Frame (value_slot p callee))) true
        (and_from (test (place p known.home b.owner d)) _ (place_ok b.owner d (omega (arith, vars, ltb-true d (of_step.proc).vars d_test)))
        (value_ok callee (slice_get_within p.procs callee of_call.proc of_call.is) of_call.other))
        refl)
        refl

    pub all-pass : list_all (block_passes test slot) (lowered p known homes).blocks ≡ true
    all-pass = all-mapped (block_passes test slot) block (parts p known.blocks known.first) (λ x is. part-passes x (parts-are x is))

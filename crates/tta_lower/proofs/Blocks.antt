-- A leg from its first block on.
use Rattle.std.proofs.Common.{◌≡◌, ◌≤◌, ◌+◌, ◌-◌, ◌++◌, ◌∷◌, [], ℕ, suc, List, Option, Some, length, drop, slice_get, refl, sym, ap, ◌∙◌, subst, ap₂, arith}
use Rattle.tta_lower.specs.Cited.{Units, Step, Program, IsProgram, Running, Waiting, step_at, RBlock, Rir, Kept, steps_of, walk}
use Rattle.tta_program.specs.Sequential as program
use Rattle.tta_program.specs.Sequential.{Frame}
use Rattle.tta_lir.specs.Meaning.{State}
use Rattle.tta_lower.specs.Liveness.{LoweringInput, Block, Has, IsFlow, IsHomes}
use Rattle.tta_lower.specs.Layout.{vars_of, steps_for, code_from}
use Rattle.tta_lower.specs.Shape.{Counts, BlockFor, IsLowered}
use Rattle.tta_lower.specs.Relation.{running, going, HeldBefore, KeepsBack, Callers, AtBlock}
use Rattle.tta_lower.proofs.Steps.{step_of}
use Rattle.tta_lower.proofs.Callers.{outside, callers-stay}
use Rattle.tta_lower.proofs.Runs.{plain-run, PlainRun, AllMade, OneWaits}
use Rattle.tta_lower.proofs.Exits.{code_from-more, wait}
use Rattle.tta_lower.proofs.Frames.{frame-by-vars, back-own}
use Rattle.tta_lower.proofs.Walks.{Walked, Over, walked-after, WalkFrom}
use Rattle.tta_lower.proofs.Legs.{last-step}
use Rattle.tta_list.proofs.Lists.{drop-there}

module _ (u : Units) (p : Program) (known : LoweringInput) (r : Rir) (number : ℕ → ℕ → ℕ) (entry : ℕ → ℕ) (before : Counts)
    (flow : IsFlow p known.blocks) (homes : IsHomes p known.home) (sound : IsProgram p) (lowered : IsLowered p known r number entry before) where
  -- what is claimed of the blocks from one on
  abbrev From : List RBlock → Type 0
  From bs = WalkFrom u p known r number entry before bs

  -- what is known of a walk from a block
  abbrev Goes : program.State → State → ℕ → Type 0
  Goes s t low = Walked u p known r number entry before s t low

  -- ---- a block of steps

  module _ (b : Block) (has : Has known.blocks b) (st : Step) (there : step_at p b.owner b.last ≡ Some st)
      (bf : BlockFor p known r number entry before b st)
      (bs : List RBlock) (ih : From bs) (rests : drop (number b.owner b.first + 1) r.blocks ≡ bs) (rest : List Frame)
      (vars : List ℕ) (regs : List (ℕ × ℕ)) (frame : List (ℕ × Kept)) (ra : Option ℕ) (k : ℕ) (memory input output : List ℕ)
      (size : length vars ≡ vars_of p b.owner) (held : HeldBefore p known.home (record { proc = b.owner; at = b.first; vars = vars }) regs frame b.first)
      (kept : KeepsBack p known.blocks number frame b.owner rest) (callers : Callers p known.blocks number frame b.owner rest) where
    abbrev here : ℕ
    here = number b.owner b.first

    -- how many steps come before the last
    abbrev plain_ones : ℕ
    plain_ones = b.last - b.first

    abbrev f : Frame
    f = record { proc = b.owner; at = b.first; vars = vars }

    abbrev s : program.State
    s = running k (f ∷ rest) memory input output Running

    abbrev t : State
    t = going here regs frame ra memory input output Running

    counted : before here + plain_ones + 1 ≤ before (here + 1)
    counted = omega (arith, lowered.counts b has, flow.rises b has)

    all-code : (bf.code).steps ≡ code_from p known.home b.owner b.first plain_ones ++ (steps_for p known.home b.owner st ++ [])
    all-code =
        let e : b.last + 1 - b.first ≡ suc plain_ones = omega (arith, flow.rises b has) in
        let l : b.first + plain_ones ≡ b.last = omega (arith, flow.rises b has) in
        bf.steps ∙ ap (code_from p known.home b.owner b.first) e ∙ code_from-more p known.home b.owner b.first plain_ones st (ap (step_at p b.owner) l ∙ there)

    by : PlainRun u p known.home homes sound plain_ones k f rest here regs frame ra memory input output → Goes s (walk u (bf.code ∷ bs) t) (before here)
    by (OneWaits a) = Over (record {
      made = a.made;
      some = a.some;
      few = omega (arith, a.few, counted, lowered.all_counted (here + 1));
      steps = a.steps;
      stack = a.stack;
      at = here;
      regs = a.regs_new;
      frame = a.frame_new;
      ra = ra;
      memory = a.memory_new;
      input = a.input_new;
      output = a.output_new;
      outcome = Waiting;
      ended = refl;
      program = a.program;
      code = wait u bf.code bs here a.regs_new a.frame_new ra a.memory_new a.input_new a.output_new t
          (ap (λ l. steps_of u l t) all-code ∙ a.code (steps_for p known.home b.owner st ++ []));
    })
    by (AllMade a) =
        let e : a.to ≡ b.last = a.come ∙ omega (arith, flow.rises b has) in
        let of_step = step_of p sound b.owner b.last st there in
        walked-after u p known r number entry before plain_ones s
        (running a.steps (record { proc = b.owner; at = b.last; vars = a.vars } ∷ rest) a.memory_new a.input_new a.output_new Running) _
        (before here) (before here + plain_ones)
        (a.program ∙ ap (λ i. running a.steps (record { proc = b.owner; at = i; vars = a.vars } ∷ rest) a.memory_new a.input_new a.output_new Running) e)
        (omega arith)
        (last-step u p known r number entry before flow homes sound lowered b has st there bf bs ih rests rest t a.vars a.regs_new a.frame_new ra a.steps
        a.memory_new a.input_new a.output_new (a.size ∙ size)
        (subst (λ i. HeldBefore p known.home (record { proc = b.owner; at = i; vars = a.vars }) a.regs_new a.frame_new i) e a.held)
        (back-own p sound known.blocks number frame a.frame_new b.owner rest callers a.untouched kept)
        (callers-stay p sound known.blocks number b.owner of_step.proc of_step.is frame a.frame_new (frame-by-vars p b.owner frame a.frame_new a.untouched)
        b.owner rest (outside p sound known.blocks number frame b.owner rest callers) callers)
        (before here + plain_ones) counted
        (ap (λ l. steps_of u l t) all-code ∙ a.code (steps_for p known.home b.owner st ++ []))
        st refl)

    pub block-walk : Goes s (walk u (bf.code ∷ bs) t) (before here)
    block-walk =
        by (plain-run u p known.home homes sound plain_ones k f rest here regs frame ra memory input output
        (λ i lo hi. flow.plain b has i lo (omega (arith, hi)))
        (λ i lo hi. flow.reached b has i lo (omega (arith, hi)))
        size held)

  -- the rest of a list whose first part is known
  same-rest : (at : ℕ) (c : RBlock) (bs : List RBlock) (x : RBlock) → drop at r.blocks ≡ c ∷ bs → slice_get r.blocks at ≡ Some x → (x ≡ c) × (drop (at + 1) r.blocks ≡ bs)
  same-rest at c bs x dropped is =
      let e : x ∷ drop (at + 1) r.blocks ≡ c ∷ bs = sym (drop-there r.blocks at x is) ∙ dropped in
      (head-same e, tail-same e) where
        head-same : {x y : RBlock} {xs ys : List RBlock} → x ∷ xs ≡ y ∷ ys → x ≡ y
        head-same e = cc

        tail-same : {x y : RBlock} {xs ys : List RBlock} → x ∷ xs ≡ y ∷ ys → xs ≡ ys
        tail-same e = cc

  -- after the last block there is none
  no-rest : (at : ℕ) (x : RBlock) → drop at r.blocks ≡ [] → slice_get r.blocks at ≡ Some x → ⊥
  no-rest at x dropped is =
      let e : x ∷ drop (at + 1) r.blocks ≡ [] = sym (drop-there r.blocks at x is) ∙ dropped in
      cc

  -- where a block stands
  place-of : (f : Frame) (rest : List Frame) (at : ℕ) (regs : List (ℕ × ℕ)) (frame : List (ℕ × Kept)) → (a : AtBlock p known r number entry before f rest at regs frame)
      → at ≡ number (a.block).owner (a.block).first
  place-of f rest at regs frame a = a.here ∙ sym (ap₂ number a.owned a.first)

  -- from any block on
  pub walk-from : (bs : List RBlock) → From bs
  walk-from [] f rest at regs frame ra k memory input output a dropped =
      let last = flow.last a.block a.has in
      let bf = lowered.block a.block a.has last.st last.there in
      absurd (no-rest at bf.code dropped (ap (slice_get r.blocks) (place-of f rest at regs frame a) ∙ bf.there))
  walk-from (c ∷ bs) f rest at regs frame ra k memory input output a dropped =
      let b = a.block in
      let last = flow.last b a.has in
      let bf = lowered.block b a.has last.st last.there in
      let is = place-of f rest at regs frame a in
      let both = same-rest at c bs bf.code dropped (ap (slice_get r.blocks) is ∙ bf.there) in
      let same_frame : record { proc = b.owner; at = b.first; vars = f.vars } ≡ f = ap₂ (λ o i. record { proc = o; at = i; vars = f.vars }) a.owned a.first in
      subst (λ n. Goes (running k (f ∷ rest) memory input output Running) (walk u (c ∷ bs) (going n regs frame ra memory input output Running)) (before n)) (sym is)
      (subst (λ x. Goes (running k (f ∷ rest) memory input output Running) (walk u (x ∷ bs) (going (number b.owner b.first) regs frame ra memory input output Running)) (before (number b.owner b.first))) both.0
      (subst (λ g. Goes (running k (g ∷ rest) memory input output Running) (walk u (bf.code ∷ bs) (going (number b.owner b.first) regs frame ra memory input output Running)) (before (number b.owner b.first))) same_frame
      (block-walk b a.has last.st last.there bf bs (walk-from bs) (ap (λ n. drop (n + 1) r.blocks) (sym is) ∙ both.1) rest f.vars regs frame ra k memory input output
      (a.size ∙ ap (vars_of p) (sym a.owned))
      (subst (λ g. HeldBefore p known.home g regs frame b.first) (sym same_frame) (subst (λ i. HeldBefore p known.home f regs frame i) (sym a.first) a.held))
      (subst (λ o. KeepsBack p known.blocks number frame o rest) (sym a.owned) a.back)
      (subst (λ o. Callers p known.blocks number frame o rest) (sym a.owned) a.callers))))

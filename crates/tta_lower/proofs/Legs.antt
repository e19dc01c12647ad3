-- A leg of the register code, and the steps of the program that it stands for.
use Rattle.std.proofs.Common.{◌≡◌, ◌<◌, ◌≤◌, ◌+◌, ◌==◌, ◌++◌, ◌∷◌, [], ℕ, Bool, List, Option, Some, None, true, false, length, map, drop, refl, sym, ap, ◌∙◌, subst, arith}
use Rattle.std.specs.Prelude.{if◌then◌else◌}
use Rattle.std.proofs.lemmas.Bool.{eq-eqb, or_left, or_right}
use Rattle.std.proofs.lemmas.List.{length-map}
use Rattle.tta_list.proofs.Lists.{all_one}
use Rattle.tta_lower.specs.Cited.{Units, Src, Rel, Step, Load, Take, Store, When, End, Program, IsProgram, IsProc, Running, Halted, Waiting, step_at, holds, enter, next, goes_through, RSrc, RStep, RBlock, Rir, Kept, found, plain, word, steps_of, walk, stay}
use Rattle.tta_program.specs.declared.step.Step.TheVariants.{Copy, Apply, Put, If, Goto, Invoke, Return, Halt}
use Rattle.tta_program.specs.Sequential as program
use Rattle.tta_program.specs.Sequential.{Frame, returns}
use Rattle.tta_lir.specs.declared.code.RSrc.TheVariants as rsrc
use Rattle.tta_lir.specs.Meaning as code
use Rattle.tta_lir.specs.Meaning.{State}
use Rattle.tta_lower.specs.Liveness.{LoweringInput, Reads, After, Reached, Block, Has, IsFlow, IsHomes, is_plain, is_var, reads, assigned, leads}
use Rattle.tta_lower.specs.Layout.{vars_of, params_of, var_slot, place_by, source, gives, steps_for, exit_for, InFrame, back as back_exit}
use Rattle.tta_lower.specs.Shape.{Counts, BlockFor, IsLowered, may_fall, is_call}
use Rattle.tta_lower.specs.Relation.{running, going, one_more, HeldBefore, HeldAfter, IsCaller, KeepsBack, Callers, AtBlock, BlockNext, EntryNext}
use Rattle.tta_lower.proofs.Lookups.{found-stay}
use Rattle.tta_lower.proofs.Slots.{one-frame}
use Rattle.tta_lower.proofs.Plain.{PlainStep, GoesOn, Waits, plain-step, operand-set, live-before, held-kept, next-is}
use Rattle.tta_lower.proofs.Steps.{step_of}
use Rattle.tta_lower.proofs.Callers.{called, outside, callers-stay, live-below, vars-are}
use Rattle.tta_lower.proofs.Exits.{fall, fall-if, jump-if, jump, call, halt, wait}
use Rattle.tta_lower.proofs.Passing.{pass}
use Rattle.tta_lower.proofs.Frames.{var-in, frame-by-vars, back-own, enter-length, enter-arg, enter-zero}
use Rattle.tta_lower.proofs.Falling.{falls-leads, IsPlainExit, plain-exit}
use Rattle.tta_lower.proofs.Returning.{last-return}
use Rattle.tta_lower.proofs.Walks.{Walked, walked-after, walked-code, comes-now, ends-now, WalkFrom}

module _ (u : Units) (p : Program) (known : LoweringInput) (r : Rir) (number : ℕ → ℕ → ℕ) (entry : ℕ → ℕ) (before : Counts) where
  -- ---- the last step of a block

  module _ (flow : IsFlow p known.blocks) (homes : IsHomes p known.home) (sound : IsProgram p) (lowered : IsLowered p known r number entry before)
      (b : Block) (has : Has known.blocks b) (st : Step) (there : step_at p b.owner b.last ≡ Some st)
      (bf : BlockFor p known r number entry before b st)
      (bs : List RBlock) (ih : WalkFrom u p known r number entry before bs) (rests : drop (number b.owner b.first + 1) r.blocks ≡ bs) (rest : List Frame) where
    abbrev here : ℕ
    here = number b.owner b.first

    -- the procedure at a step
    abbrev at_step : ℕ → List ℕ → Frame
    at_step i vars = record { proc = b.owner; at = i; vars = vars }

    reached : Reached p b.owner b.last
    reached = flow.reached b has b.last (flow.rises b has) (omega arith)

    -- what is live after the last step is still there after the block
    stays : (vars : List ℕ) (regs : List (ℕ × ℕ)) (frame : List (ℕ × Kept)) → is_call st ≡ false → HeldAfter p known.home (at_step b.last vars) regs frame b.last
        → HeldAfter p known.home (at_step b.last vars) (stay (bf.code).live_out regs) frame b.last
    stays vars regs frame no_call held x alive = by (known.home b.owner x) refl ∙ held x alive where
      by : (o : Option ℕ) → known.home b.owner x ≡ o → word (stay (bf.code).live_out regs) frame (place_by p known.home b.owner x o) ≡ word regs frame (place_by p known.home b.owner x o)
      by None is = refl
      by (Some j) is = found-stay j (bf.code).live_out regs (bf.kept x j no_call alive is)

    -- a block to which the last step leads
    arrives : (to at : ℕ) (vars : List ℕ) (regs : List (ℕ × ℕ)) (frame : List (ℕ × Kept)) → leads st b.last to ≡ true → at ≡ number b.owner to → is_call st ≡ false
        → length vars ≡ vars_of p b.owner → HeldAfter p known.home (at_step b.last vars) regs frame b.last
        → KeepsBack p known.blocks number frame b.owner rest → Callers p known.blocks number frame b.owner rest
        → AtBlock p known r number entry before (at_step to vars) rest at (stay (bf.code).live_out regs) frame
    arrives to at vars regs frame goes is no_call size held kept callers =
        let begins = flow.onward b has st to there goes in
        record {
          block = begins.block;
          has = begins.has;
          owned = begins.owned;
          first = begins.from;
          here = is;
          size = size;
          held = λ x alive. stays vars regs frame no_call held x (After to st there goes alive);
          back = kept;
          callers = callers;
        }

    -- ---- from a state before the last step

    module _ (first_state : State) (vars : List ℕ) (regs : List (ℕ × ℕ)) (frame : List (ℕ × Kept)) (ra : Option ℕ) (k : ℕ) (memory input output : List ℕ)
        (size : length vars ≡ vars_of p b.owner) (held : HeldBefore p known.home (at_step b.last vars) regs frame b.last)
        (kept : KeepsBack p known.blocks number frame b.owner rest) (callers : Callers p known.blocks number frame b.owner rest)
        (low : ℕ) (counted : low + 1 ≤ before (here + 1))
        (row : steps_of u (bf.code).steps first_state ≡ steps_of u (steps_for p known.home b.owner st ++ []) (going here regs frame ra memory input output Running)) where
      abbrev f : Frame
      f = at_step b.last vars

      abbrev now : State
      now = going here regs frame ra memory input output Running

      abbrev program_now : program.State
      program_now = running k (f ∷ rest) memory input output Running

      abbrev Claim : Type 0
      Claim = Walked u p known r number entry before program_now (walk u (bf.code ∷ bs) first_state) low

      moves : (s : Step) → st ≡ s → next u p program_now ≡ goes_through u p program_now f rest s
      moves s is = next-is u p known.home homes sound f regs frame st there reached size held k rest memory input output ∙ ap (goes_through u p program_now f rest) is

      row-of : (s : Step) → st ≡ s → steps_of u (bf.code).steps first_state ≡ steps_of u (steps_for p known.home b.owner s ++ []) now
      row-of s is = row ∙ ap (λ x. steps_of u (steps_for p known.home b.owner x ++ []) now) is

      exit-of : (s : Step) → st ≡ s → (bf.code).exit ≡ exit_for p known.home number entry b.owner s
      exit-of s is = bf.exit ∙ ap (exit_for p known.home number entry b.owner) is

      set : (s : Src) → ((x : ℕ) → is_var x s ≡ true → reads st x ≡ true) → code.operand now (source p known.home b.owner s) ≡ Some (program.operand vars s)
      set s is_read = operand-set u p known.home homes sound f regs frame st there reached size held s here ra memory input output is_read

      unassigned : assigned st ≡ None → HeldAfter p known.home f regs frame b.last
      unassigned none = held-kept u p known.home homes sound f regs frame st there reached size held none

      -- the next block follows
      fall-on : may_fall st ≡ true → is_call st ≡ false → (k_new : ℕ) (vars_new : List ℕ) (regs_new : List (ℕ × ℕ)) (frame_new : List (ℕ × Kept)) (memory_new input_new output_new : List ℕ)
          → next u p program_now ≡ running k_new (at_step (b.last + 1) vars_new ∷ rest) memory_new input_new output_new Running
          → walk u (bf.code ∷ bs) first_state ≡ walk u bs (going (here + 1) (stay (bf.code).live_out regs_new) frame_new ra memory_new input_new output_new Running)
          → length vars_new ≡ vars_of p b.owner → HeldAfter p known.home (at_step b.last vars_new) regs_new frame_new b.last
          → KeepsBack p known.blocks number frame_new b.owner rest → Callers p known.blocks number frame_new b.owner rest → Claim
      fall-on may no_call k_new vars_new regs_new frame_new memory_new input_new output_new by_program by_code size_new held_new kept_new callers_new =
          walked-code u p known r number entry before program_now _ _ low by_code
          (walked-after u p known r number entry before 1 program_now _ _ low (before (here + 1)) by_program counted
          (ih (at_step (b.last + 1) vars_new) rest (here + 1) (stay (bf.code).live_out regs_new) frame_new ra k_new memory_new input_new output_new
          (arrives (b.last + 1) (here + 1) vars_new regs_new frame_new (falls-leads st b.last may) (sym (lowered.falls_through b has st there may)) no_call size_new held_new kept_new callers_new)
          rests))

      -- a jump to a block
      jump-on : (to : ℕ) → leads st b.last to ≡ true → is_call st ≡ false → assigned st ≡ None
          → next u p program_now ≡ running (k + 1) (at_step to vars ∷ rest) memory input output Running
          → walk u (bf.code ∷ bs) first_state ≡ going (number b.owner to) (stay (bf.code).live_out regs) frame ra memory input output Running → Claim
      jump-on to goes no_call none by_program by_code =
          comes-now u p known r number entry before program_now _ low (before (here + 1)) (k + 1) (at_step to vars) rest (number b.owner to) (stay (bf.code).live_out regs) frame ra memory input output
          counted (lowered.all_counted (here + 1)) by_program by_code
          (BlockNext (arrives to (number b.owner to) vars regs frame goes refl no_call size (unassigned none) kept callers))

      last-goto : (to : ℕ) → st ≡ Goto to → Claim
      last-goto to is =
          jump-on to (ap (λ s. leads s b.last to) is ∙ eq-eqb to to refl) (ap is_call is) (ap assigned is) (moves (Goto to) is)
          (jump u bf.code bs here regs frame ra memory input output first_state (number b.owner to) (row-of (Goto to) is) (exit-of (Goto to) is))

      last-if : (rel : Rel) (a c : Src) (to : ℕ) → st ≡ If rel a c to → Claim
      last-if rel a c to is = by (holds u rel (program.operand vars a) (program.operand vars c)) refl where
        set_a : code.operand now (source p known.home b.owner a) ≡ Some (program.operand vars a)
        set_a = set a (λ x e. ap (λ s. reads s x) is ∙ or_left (is_var x a) _ e)

        set_c : code.operand now (source p known.home b.owner c) ≡ Some (program.operand vars c)
        set_c = set c (λ x e. ap (λ s. reads s x) is ∙ or_right (is_var x a) _ e)

        by : (t : Bool) → holds u rel (program.operand vars a) (program.operand vars c) ≡ t → Claim
        by true test =
            jump-on to (ap (λ s. leads s b.last to) is ∙ or_left (to == to) _ (eq-eqb to to refl)) (ap is_call is) (ap assigned is)
            (moves (If rel a c to) is ∙ rw test refl)
            (jump-if u bf.code bs here regs frame ra memory input output first_state rel (source p known.home b.owner a) (source p known.home b.owner c) (number b.owner to)
            (program.operand vars a) (program.operand vars c) (row-of (If rel a c to) is) (exit-of (If rel a c to) is) set_a set_c test)
        by false test =
            fall-on (ap may_fall is) (ap is_call is) (k + 1) vars regs frame memory input output
            (moves (If rel a c to) is ∙ rw test refl)
            (fall-if u bf.code bs here regs frame ra memory input output first_state rel (source p known.home b.owner a) (source p known.home b.owner c) (number b.owner to)
            (program.operand vars a) (program.operand vars c) (row-of (If rel a c to) is) (exit-of (If rel a c to) is) set_a set_c test)
            size (unassigned (ap assigned is)) kept callers

      last-plain : is_plain st ≡ true → Claim
      last-plain plain = by (plain-step u p known.home homes sound f regs frame reached size held k rest here ra memory input output st there plain) where
        ways : IsPlainExit p known.home number entry b.owner st
        ways = plain-exit p known.home number entry b.owner st plain

        one-step : (x : RStep) (s : State) → steps_for p known.home b.owner st ≡ x ∷ [] → code.step u now x ≡ s → steps_of u (bf.code).steps first_state ≡ (if code.goes_on s then s else s)
        one-step x s one e = row ∙ rw (one, e) refl

        by : PlainStep u p known.home homes sound k f rest here regs frame ra memory input output (steps_for p known.home b.owner st) → Claim
        by (GoesOn x one w) =
            let of_step = step_of p sound b.owner b.last st there in
            fall-on ways.falls_through ways.no_call (k + 1) w.vars w.regs_new w.frame_new w.memory_new w.input_new w.output_new w.program
            (fall u bf.code bs here w.regs_new w.frame_new ra w.memory_new w.input_new w.output_new first_state (one-step x _ one w.code) (bf.exit ∙ ways.next))
            (w.size ∙ size) w.held
            (back-own p sound known.blocks number frame w.frame_new b.owner rest callers w.untouched kept)
            (callers-stay p sound known.blocks number b.owner of_step.proc of_step.is frame w.frame_new (frame-by-vars p b.owner frame w.frame_new w.untouched)
            b.owner rest (outside p sound known.blocks number frame b.owner rest callers) callers)
        by (Waits x one w) =
            ends-now u p known r number entry before program_now _ low (before (here + 1)) k (f ∷ rest) here regs frame ra memory input output Waiting
            counted (lowered.all_counted (here + 1)) refl w.program
            (wait u bf.code bs here regs frame ra memory input output first_state (one-step x _ one w.code))

      last-halt : st ≡ Halt → Claim
      last-halt is =
          ends-now u p known r number entry before program_now _ low (before (here + 1)) (k + 1) (f ∷ rest) here (stay (bf.code).live_out regs) frame ra memory input output Halted
          counted (lowered.all_counted (here + 1)) refl (moves Halt is)
          (halt u bf.code bs here regs frame ra memory input output first_state (row-of Halt is) (exit-of Halt is))

      -- ---- a call

      module _ (d : Option ℕ) (callee : ℕ) (args : List Src) (is : st ≡ Invoke d callee args) where
        the_call : step_at p b.owner b.last ≡ Some (Invoke d callee args)
        the_call = there ∙ ap Some is

        old_caller : IsCaller p known.blocks number frame callee f
        old_caller = record {
          block = b;
          has = has;
          owned = refl;
          last = refl;
          d = d;
          args = args;
          call = the_call;
          size = size;
          saved = λ x alive ne.
              let in_slot = homes.saved b.owner b.last callee x d args reached the_call alive ne in
              sym (ap (λ o. word regs frame (place_by p known.home b.owner x o)) in_slot)
              ∙ held x (live-before u p known.home homes sound f regs frame st there reached size held x alive (λ e. ne (sym (ap assigned is) ∙ e)));
        }

        last-invoke : Claim
        last-invoke =
            let of_call = called p sound b.owner b.last callee d args the_call in
            let q = of_call.proc in
            let words = map (program.operand vars) args in
            let many : length words ≡ q.params = length-map args (program.operand vars) ∙ of_call.count in
            let among = (all_one (IsProc p) p.procs callee q sound.procs of_call.is).among in
            let vars_are = vars-are p callee q of_call.is in
            let old_callers : Callers p known.blocks number frame callee (f ∷ rest) = (old_caller, kept, callers) in
            let out = outside p sound known.blocks number frame callee (f ∷ rest) old_callers in
            let of_step = step_of p sound b.owner b.last st there in
            let passed = pass u p known.home b.owner callee here regs vars
            (λ x y lx ly e. out.0 (one-frame p b.owner callee (var_slot p b.owner x) of_step.proc q of_step.is of_call.is (var-in p b.owner x lx)
            (subst (InFrame p callee) (sym e) (var-in p callee y ly))))
            ra memory input output args frame 0 (omega (arith, of_call.count, among, vars_are))
            (λ y any. (live-below p sound b.owner y b.last (Reads b.last st there (ap (λ s. reads s y) is ∙ any)), held y (Reads b.last st there (ap (λ s. reads s y) is ∙ any)))) in
            comes-now u p known r number entry before program_now _ low (before (here + 1)) (k + 1) (enter p callee words) (f ∷ rest) (entry callee) (stay (bf.code).live_out regs) passed.frame_new (Some (here + 1))
            memory input output counted (lowered.all_counted (here + 1)) (moves (Invoke d callee args) is)
            (call u bf.code bs here regs passed.frame_new ra memory input output first_state (entry callee)
            (row-of (Invoke d callee args) is ∙ passed.code []) (exit-of (Invoke d callee args) is))
            (EntryNext (record {
              entry_block = lowered.entries callee q of_call.is of_call.other;
              proc = q;
              is = of_call.is;
              first = refl;
              here = refl;
              size = enter-length p callee words q of_call.is (omega (arith, many, among));
              params = λ x lt.
                  let few : params_of p callee ≡ q.params = rw (of_call.is) refl in
                  let below : x < length args = omega (arith, lt, few, of_call.count) in
                  ap (λ n. plain (found (var_slot p callee n) passed.frame_new)) (omega arith)
                  ∙ passed.there x below
                  ∙ ap Some (sym (enter-arg p callee words q of_call.is (omega (arith, many, among)) x (omega (arith, lt, few, many))));
              zeros = λ x le.
                  let few : params_of p callee ≡ q.params = rw (of_call.is) refl in
                  enter-zero p callee words q of_call.is (omega (arith, many, among)) x (omega (arith, le, few, many));
              address = ap (λ n. Some (n + 1)) (sym (lowered.same b has));
              callers = callers-stay p sound known.blocks number callee q of_call.is frame passed.frame_new
                  (λ slot notin. passed.same slot (λ j lt e. notin (subst (InFrame p callee) (sym e) (var-in p callee (0 + j) (omega (arith, lt, of_call.count, among, vars_are))))))
                  callee (f ∷ rest) out old_callers;
            }))

      -- ---- a return

      returning : (v : ℕ) (src : RSrc) → code.operand now src ≡ Some v
          → steps_of u (bf.code).steps first_state ≡ steps_of u (gives p known.home b.owner src ++ []) now
          → (bf.code).exit ≡ back_exit p known.home number entry b.owner → next u p program_now ≡ returns p (one_more program_now) rest v → Claim
      returning v src given by_steps by_exit by_program =
          last-return u p known r number entry before flow homes sound lowered b has st there bf bs rest first_state vars regs frame ra k memory input output
          kept callers low counted v src given by_steps by_exit by_program rest refl

      -- ---- any step

      pub last-step : (s : Step) → st ≡ s → Claim
      last-step (If rel a c to) is = last-if rel a c to is
      last-step (Goto to) is = last-goto to is
      last-step (Invoke d callee args) is = last-invoke d callee args is
      last-step (Return (Some v)) is =
          returning (program.operand vars v) (source p known.home b.owner v) (set v (λ x e. ap (λ s. reads s x) is ∙ e))
          (row-of (Return (Some v)) is) (exit-of (Return (Some v)) is) (moves (Return (Some v)) is)
      last-step (Return None) is = returning 0 (rsrc.Word 0) refl (row-of (Return None) is) (exit-of (Return None) is) (moves (Return None) is)
      last-step Halt is = last-halt is
      last-step End is = returning 0 (rsrc.Word 0) refl (row-of End is) (exit-of End is) (moves End is)
      last-step (Copy d v) is = last-plain (ap is_plain is)
      last-step (Apply d op a c) is = last-plain (ap is_plain is)
      last-step (Load d a) is = last-plain (ap is_plain is)
      last-step (Take d) is = last-plain (ap is_plain is)
      last-step (Store a v) is = last-plain (ap is_plain is)
      last-step (Put v) is = last-plain (ap is_plain is)
      last-step (When rel a c d v) is = last-plain (ap is_plain is)

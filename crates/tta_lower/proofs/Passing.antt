-- The arguments of a call go to the callee's slots.
use Rattle.std.proofs.Common.{◌≡◌, ◌≢◌, ◌<◌, ◌≤◌, ◌+◌, ◌++◌, ◌∷◌, [], ℕ, zero, suc, List, Option, Some, None, true, length, map, slice_index, refl, sym, ap, ◌∙◌, arith}
use Rattle.std.specs.List.{list_any}
use Rattle.std.proofs.lemmas.Bool.{eq-eqb, or_left, or_right}
use Rattle.tta_lower.specs.Cited.{Units, Src, Var, Program, Running, Place, RSrc, RStep, Kept, Plain, found, plain, word, put_reg, put_slot, step, steps_of}
use Rattle.tta_program.specs.declared.operand.Src.TheVariants.{Word}
use Rattle.tta_program.specs.Sequential as program
use Rattle.tta_lir.specs.declared.code.Place.TheVariants as places
use Rattle.tta_lir.specs.declared.code.RStep.TheVariants as rstep
use Rattle.tta_lir.specs.Meaning as code
use Rattle.tta_lower.specs.Liveness.{Homes, is_var}
use Rattle.tta_lower.specs.Layout.{vars_of, var_slot, place, place_by, source, passes}
use Rattle.tta_lower.specs.Relation.{going}
use Rattle.tta_lower.proofs.Lookups.{found-same, found-other}

-- a word goes to a place
pub copy-place : (u : Units) (at : ℕ) (regs : List (ℕ × ℕ)) (frame : List (ℕ × Kept)) (ra : Option ℕ) (memory input output : List ℕ)
    (d : Place) (s : RSrc) (w : ℕ) → code.operand (going at regs frame ra memory input output Running) s ≡ Some w
    → step u (going at regs frame ra memory input output Running) (rstep.Copy d s)
    ≡ going at (put_reg d w regs) (put_slot d w frame) ra memory input output Running
unfolding step
copy-place u at regs frame ra memory input output d s w set = rw set refl

-- a word goes to a slot
pub copy-slot : (u : Units) (at : ℕ) (regs : List (ℕ × ℕ)) (frame : List (ℕ × Kept)) (ra : Option ℕ) (memory input output : List ℕ)
    (slot : ℕ) (s : RSrc) (w : ℕ) → code.operand (going at regs frame ra memory input output Running) s ≡ Some w
    → step u (going at regs frame ra memory input output Running) (rstep.Copy (places.Frame slot) s)
    ≡ going at regs ((slot, Plain w) ∷ frame) ra memory input output Running
unfolding step
copy-slot u at regs frame ra memory input output slot s w set = rw set refl

module _ (u : Units) (p : Program) (home : Homes) (owner callee at : ℕ) (regs : List (ℕ × ℕ)) (vars : List ℕ)
    (apart : (x y : ℕ) → x < vars_of p owner → y < vars_of p callee → var_slot p owner x ≢ var_slot p callee y)
    (ra : Option ℕ) (memory input output : List ℕ) where
  -- the arguments are in the slots of the callee's variables from x on, and no other slot has changed
  pub record Passed (frame : List (ℕ × Kept)) (x : ℕ) (args : List Src) : Type 0 where
    pub frame_new : List (ℕ × Kept)
    pub code : (tail : List RStep) → steps_of u (passes p home owner callee x args ++ tail) (going at regs frame ra memory input output Running)
        ≡ steps_of u tail (going at regs frame_new ra memory input output Running)
    pub there : (j : ℕ) → j < length args → plain (found (var_slot p callee (x + j)) frame_new) ≡ Some (slice_index (map (program.operand vars) args) j)
    pub same : (slot : ℕ) → ((j : ℕ) → j < length args → slot ≢ var_slot p callee (x + j)) → found slot frame_new ≡ found slot frame

  -- each variable among the arguments has its word in its home
  abbrev pub ArgsHeld : List (ℕ × Kept) → List Src → Type 0
  ArgsHeld frame args = (y : ℕ) → list_any (is_var y) args ≡ true → (y < vars_of p owner) × (word regs frame (place p home owner y) ≡ Some (slice_index vars y))

  -- an argument is set
  arg-set : (frame : List (ℕ × Kept)) (s : Src) (args : List Src) → ArgsHeld frame (s ∷ args)
      → code.operand (going at regs frame ra memory input output Running) (source p home owner s) ≡ Some (program.operand vars s)
  arg-set frame (Var y) args held = (held y (or_left (is_var y (Var y)) _ (eq-eqb y y refl))).1
  arg-set frame (Word w) args held = refl

  -- a slot of the callee is none of the caller's
  held-on : (frame : List (ℕ × Kept)) (x w : ℕ) (s : Src) (args : List Src) → x < vars_of p callee → ArgsHeld frame (s ∷ args)
      → ArgsHeld ((var_slot p callee x, Plain w) ∷ frame) args
  held-on frame x w s args within held y any =
      let h = held y (or_right (is_var y s) _ any) in
      (h.0, by (home owner y) ∙ h.1) where
        by : (o : Option ℕ) → word regs ((var_slot p callee x, Plain w) ∷ frame) (place_by p home owner y o) ≡ word regs frame (place_by p home owner y o)
        by (Some k) = refl
        by None = ap plain (found-other (var_slot p callee x) (var_slot p owner y) (Plain w) frame
            (λ e. apart y x (held y (or_right (is_var y s) _ any)).0 within (sym e)))

  -- the arguments are passed
  pub pass : (args : List Src) (frame : List (ℕ × Kept)) (x : ℕ) → x + length args ≤ vars_of p callee → ArgsHeld frame args → Passed frame x args
  pass [] frame x room held = record {
    frame_new = frame;
    code = λ tail. refl;
    there = λ j lt. absurd (omega (arith, lt));
    same = λ slot ne. refl;
  }
  pass (s ∷ args) frame x room held =
      let w = program.operand vars s in
      let more = pass args ((var_slot p callee x, Plain w) ∷ frame) (x + 1) (omega (arith, room)) (held-on frame x w s args (omega (arith, room)) held) in
      record {
        frame_new = more.frame_new;
        code = λ tail. first tail ∙ more.code tail;
        there = there-by more;
        same = λ slot ne.
            more.same slot (λ j lt e. ne (suc j) (omega (arith, lt)) (e ∙ ap (var_slot p callee) (omega arith)))
            ∙ found-other (var_slot p callee x) slot (Plain w) frame (λ e. ne 0 (omega arith) (sym e ∙ ap (var_slot p callee) (omega arith)));
      } where
        first : (tail : List RStep) → steps_of u (passes p home owner callee x (s ∷ args) ++ tail) (going at regs frame ra memory input output Running)
            ≡ steps_of u (passes p home owner callee (x + 1) args ++ tail)
            (going at regs ((var_slot p callee x, Plain (program.operand vars s)) ∷ frame) ra memory input output Running)
        first tail = rw (made (arg-set frame s args held)) refl where
          made : code.operand (going at regs frame ra memory input output Running) (source p home owner s) ≡ Some (program.operand vars s)
              → step u (going at regs frame ra memory input output Running) (rstep.Copy (places.Frame (var_slot p callee x)) (source p home owner s))
              ≡ going at regs ((var_slot p callee x, Plain (program.operand vars s)) ∷ frame) ra memory input output Running
          made set = copy-slot u at regs frame ra memory input output (var_slot p callee x) (source p home owner s) (program.operand vars s) set

        there-by : (more : Passed ((var_slot p callee x, Plain (program.operand vars s)) ∷ frame) (x + 1) args) (j : ℕ) → j < suc (length args)
            → plain (found (var_slot p callee (x + j)) more.frame_new) ≡ Some (slice_index (map (program.operand vars) (s ∷ args)) j)
        there-by more zero lt =
            let e : x + 0 ≡ x = omega arith in
            rw e (ap plain (more.same (var_slot p callee x) (λ j le e. apart-self j e) ∙ found-same (var_slot p callee x) (Plain (program.operand vars s)) frame)) where
              apart-self : (j : ℕ) → var_slot p callee x ≡ var_slot p callee (x + 1 + j) → ⊥
              apart-self j e = omega (arith, e)
        there-by more (suc j) lt =
            let e : x + suc j ≡ x + 1 + j = omega arith in
            rw e (more.there j (omega (arith, lt)))

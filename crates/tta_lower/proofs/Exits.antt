-- How a block ends, exit by exit.
use Rattle.std.proofs.Common.{◌≡◌, ◌+◌, ◌++◌, ◌∷◌, [], ℕ, zero, suc, List, Option, Some, true, false, refl, sym, ap, ◌∙◌, arith, add-zero, append_assoc}
use Rattle.std.specs.Option.{option_map_or}
use Rattle.tta_lower.specs.Cited.{Units, Rel, Step, Program, Running, Halted, Waiting, step_at, holds, RSrc, RBlock, Next, Back, Kept, found, operand, steps_of, walk, stay}
use Rattle.tta_lir.specs.declared.code.Exit.TheVariants.{Goto, If, Invoke, Halt}
use Rattle.tta_lir.specs.Meaning.{State, Return}
use Rattle.tta_lower.specs.Liveness.{Homes}
use Rattle.tta_lower.specs.Layout.{steps_for, code_from}
use Rattle.tta_lower.specs.Relation.{going}

-- the code of one step more
pub code_from-more : (p : Program) (home : Homes) (owner at n : ℕ) (st : Step) → step_at p owner (at + n) ≡ Some st
    → code_from p home owner at (suc n) ≡ code_from p home owner at n ++ (steps_for p home owner st ++ [])
code_from-more p home owner at zero st there =
    let here : step_at p owner at ≡ Some st = ap (step_at p owner) (sym (add-zero at)) ∙ there in
    rw here refl
code_from-more p home owner at (suc n) st there =
    let later : step_at p owner (at + 1 + n) ≡ Some st = ap (step_at p owner) (omega arith) ∙ there in
    ap (λ l. option_map_or (steps_for p home owner) (step_at p owner at) [] ++ l) (code_from-more p home owner (at + 1) n st later)
    ∙ sym (append_assoc (option_map_or (steps_for p home owner) (step_at p owner at) []) (code_from p home owner (at + 1) n) (steps_for p home owner st ++ []))

module _ (u : Units) (c : RBlock) (bs : List RBlock) (at : ℕ) (regs : List (ℕ × ℕ)) (frame : List (ℕ × Kept)) (ra : Option ℕ) (memory input output : List ℕ) where
  -- the state before the exit
  abbrev pub now : State
  now = going at regs frame ra memory input output Running

  -- what comes where the block falls through
  abbrev pub onward : State
  onward = going (at + 1) (stay c.live_out regs) frame ra memory input output Running

  -- a block without a transfer
  pub fall : (s : State) → steps_of u c.steps s ≡ now → c.exit ≡ Next → walk u (c ∷ bs) s ≡ walk u bs onward
  fall s steps is = rw (steps, is) refl

  -- a branch that is not taken
  pub fall-if : (s : State) (rel : Rel) (a b : RSrc) (to v w : ℕ) → steps_of u c.steps s ≡ now → c.exit ≡ If rel a b to
      → operand now a ≡ Some v → operand now b ≡ Some w → holds u rel v w ≡ false → walk u (c ∷ bs) s ≡ walk u bs onward
  fall-if s rel a b to v w steps is set_a set_b test = rw (steps, is, set_a, set_b, test) refl

  -- a branch that is taken
  pub jump-if : (s : State) (rel : Rel) (a b : RSrc) (to v w : ℕ) → steps_of u c.steps s ≡ now → c.exit ≡ If rel a b to
      → operand now a ≡ Some v → operand now b ≡ Some w → holds u rel v w ≡ true
      → walk u (c ∷ bs) s ≡ going to (stay c.live_out regs) frame ra memory input output Running
  jump-if s rel a b to v w steps is set_a set_b test = rw (steps, is, set_a, set_b, test) refl

  -- a jump
  pub jump : (s : State) (to : ℕ) → steps_of u c.steps s ≡ now → c.exit ≡ Goto to
      → walk u (c ∷ bs) s ≡ going to (stay c.live_out regs) frame ra memory input output Running
  jump s to steps is = rw (steps, is) refl

  -- a call
  pub call : (s : State) (to : ℕ) → steps_of u c.steps s ≡ now → c.exit ≡ Invoke to
      → walk u (c ∷ bs) s ≡ going to (stay c.live_out regs) frame (Some (at + 1)) memory input output Running
  call s to steps is = rw (steps, is) refl

  -- a return
  pub back : (s : State) (slot to : ℕ) → steps_of u c.steps s ≡ now → c.exit ≡ Back slot → found slot frame ≡ Some (Return to)
      → walk u (c ∷ bs) s ≡ going to (stay c.live_out regs) frame ra memory input output Running
  back s slot to steps is kept = rw (steps, is, kept) refl

  -- a halt
  pub halt : (s : State) → steps_of u c.steps s ≡ now → c.exit ≡ Halt
      → walk u (c ∷ bs) s ≡ going at (stay c.live_out regs) frame ra memory input output Halted
  halt s steps is = rw (steps, is) refl

  -- a wait for input
  pub wait : (s : State) → steps_of u c.steps s ≡ going at regs frame ra memory input output Waiting
      → walk u (c ∷ bs) s ≡ going at regs frame ra memory input output Waiting
  wait s steps = rw steps refl

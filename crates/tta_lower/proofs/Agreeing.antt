-- The block of a part, with numbers as they are held and with numbers as they are defined.
use Rattle.std.proofs.Common.{◌≡◌, ◌≢◌, ◌<◌, ◌+◌, ◌-◌, ◌∷◌, [], ℕ, true, List, Option, Some, None, length, map, slice_get, slice_index, refl, sym, ap, ap₂, ◌∙◌, arith, add-zero, inl, inr}
use Rattle.std.proofs.lemmas.Bool.{eq-eqb, ne_eqb}
use Rattle.std.proofs.lemmas.Option.{slice_get_within}
use Rattle.std.specs.Option.{option_map_or}
use Rattle.tta_lower.specs.Cited.{Step, Load, Take, Store, When, End, Program, step_at, RBlock, Src, Proc, IsProgram, Exit}
use Rattle.tta_program.specs.declared.step.Step.TheVariants.{Copy, Apply, Put, If, Goto, Invoke, Return, Halt}
use Rattle.tta_lower.specs.declared.numbers.Numbers.{Numbers}
use Rattle.tta_lower.specs.Liveness.{LoweringInput, Block, Has, Homes, IsFlow, leads}
use Rattle.tta_lower.specs.Lower.{Part, Entry, Steps, Returned, parts, proc_parts, number_of, entry_number, block_of, live_past, Answers}
use Rattle.tta_lower.specs.Members.{In}
use Rattle.tta_lower.specs.Tables.{HasNumbers, number_in}
use Rattle.tta_lower.specs.Laid.{block_by, stays_after, test_of}
use Rattle.tta_lower.specs.Layout.{vars_of, source, exit_for, code_from}
use Rattle.tta_lir.specs.declared.code.Exit.TheVariants as exit
use Rattle.tta_lower.proofs.Steps.{step_of}
use Rattle.tta_lower.proofs.Callers.{called}
use Rattle.tta_lower.proofs.Placed.{span-there, proc-there}
use Rattle.tta_lower.proofs.Shutting.{IsPartOf}

module _ (p : Program) (known : LoweringInput) (homes : ℕ) where
  stays : (b : Block) (st : Step) → stays_after known.home (vars_of p b.owner) homes b.owner (known.after b.owner b.last) st ≡ live_past p known homes b st
  stays b (Copy d s) = refl
  stays b (Apply d op x y) = refl
  stays b (Load d x) = refl
  stays b (Take d) = refl
  stays b (Store x v) = refl
  stays b (Put v) = refl
  stays b (If rel x y to) = refl
  stays b (Goto to) = refl
  stays b (When rel x y d s) = refl
  stays b (Invoke d callee args) = refl
  stays b (Return s) = refl
  stays b Halt = refl
  stays b End = refl

  -- with the defined numbers it is the block that stands in the register code
  pub block-by-is : (x : Part) → block_by p known.home (number_of p known.blocks known.first) (entry_number p known.blocks known.first) homes (test_of known.first known.after x) x
      ≡ block_of p known homes x
  block-by-is (Entry owner) = refl
  block-by-is (Returned b d callee) = refl
  block-by-is (Steps b) = by (step_at p b.owner b.last) where
    shape : Step → List ℕ → RBlock
    shape st l = record {
      steps = code_from p known.home b.owner b.first (b.last + 1 - b.first);
      exit = exit_for p known.home (number_of p known.blocks known.first) (entry_number p known.blocks known.first) b.owner st;
      live_out = l;
    }

    by : (st : Option Step)
        → ◌≡◌ {A = RBlock} (record {
          steps = code_from p known.home b.owner b.first (b.last + 1 - b.first);
          exit = option_map_or (exit_for p known.home (number_of p known.blocks known.first) (entry_number p known.blocks known.first) b.owner) st exit.Halt;
          live_out = option_map_or (stays_after known.home (vars_of p b.owner) homes b.owner (known.after b.owner b.last)) st [];
        }) (record {
          steps = code_from p known.home b.owner b.first (b.last + 1 - b.first);
          exit = option_map_or (exit_for p known.home (number_of p known.blocks known.first) (entry_number p known.blocks known.first) b.owner) st exit.Halt;
          live_out = option_map_or (live_past p known homes b) st [];
        })
    by None = refl
    by (Some st) = ap (shape st) (stays b st)

-- exits with numbers that are the same where the exit leads
pub exit-same : (p : Program) (home : Homes) (f g : ℕ → ℕ → ℕ) (e h : ℕ → ℕ) (owner at : ℕ) (st : Step) → ((to : ℕ) → leads st at to ≡ true → f owner to ≡ g owner to)
    → ((d : Option ℕ) (callee : ℕ) (args : List Src) → st ≡ Invoke d callee args → e callee ≡ h callee)
    → exit_for p home f e owner st ≡ exit_for p home g h owner st
exit-same p home f g e h owner at (Copy d s) step entry = refl
exit-same p home f g e h owner at (Apply d op x y) step entry = refl
exit-same p home f g e h owner at (Load d x) step entry = refl
exit-same p home f g e h owner at (Take d) step entry = refl
exit-same p home f g e h owner at (Store x v) step entry = refl
exit-same p home f g e h owner at (Put v) step entry = refl
exit-same p home f g e h owner at (If rel x y to) step entry =
    ap (λ n. exit.If rel (source p home owner x) (source p home owner y) n) (step to (rw (eq-eqb to to refl) refl))
exit-same p home f g e h owner at (Goto to) step entry = ap exit.Goto (step to (eq-eqb to to refl))
exit-same p home f g e h owner at (When rel x y d s) step entry = refl
exit-same p home f g e h owner at (Invoke d callee args) step entry = ap exit.Invoke (entry d callee args refl)
exit-same p home f g e h owner at (Return s) step entry = refl
exit-same p home f g e h owner at Halt step entry = refl
exit-same p home f g e h owner at End step entry = refl

module _ (p : Program) (known : LoweringInput) (homes : ℕ)
    (sound : IsProgram p) (flow : IsFlow p known.blocks) (answers : Answers p known homes)
    (n : Numbers) (has : HasNumbers p (parts p known.blocks known.first) n (length (parts p known.blocks known.first))) where
  -- the number of a block of steps
  step-number : (c : Block) → Has known.blocks c → number_in n.rows.items c.owner c.first ≡ number_of p known.blocks known.first c.owner c.first
  step-number c is =
      let there = span-there p known homes sound flow answers c is 0 (Steps c) refl in
      let last = flow.last c is in
      let of = step_of p sound c.owner c.last last.st last.there in
      let steps : slice_get (of.proc).steps c.last ≡ Some last.st = sym (step-is c.owner c.last of.proc of.is) ∙ last.there in
      let within = slice_get_within (of.proc).steps c.last last.st steps in
      let rises = flow.rises c is in
      has.steps (number_of p known.blocks known.first c.owner c.first + 0) c of.proc
      (slice_get_within (parts p known.blocks known.first) (number_of p known.blocks known.first c.owner c.first + 0) (Steps c) there) there of.is (omega (arith, within, rises))
      ∙ add-zero (number_of p known.blocks known.first c.owner c.first) where
        step-is : (owner at : ℕ) (q : Proc) → slice_get p.procs owner ≡ Some q → step_at p owner at ≡ slice_get q.steps at
        step-is owner at q is = rw is refl

  -- the number of the entry of a procedure other than main
  entry-is : (o : ℕ) → o < length p.procs → o ≢ p.main → slice_index n.entries.items o ≡ entry_number p known.blocks known.first o
  entry-is o lt other =
      let here : slice_get (proc_parts p known.blocks known.first o) 0 ≡ Some (Entry o) = rw (ne_eqb o p.main other) refl in
      let there = proc-there p known homes sound flow answers o 0 (Entry o) lt here in
      has.entries (entry_number p known.blocks known.first o + 0) o
      (slice_get_within (parts p known.blocks known.first) (entry_number p known.blocks known.first o + 0) (Entry o) there) there lt
      ∙ add-zero (entry_number p known.blocks known.first o)

  -- the exit of a block, with the numbers as they are held
  exits-agree : (b : Block) → Has known.blocks b → (st : Step) → step_at p b.owner b.last ≡ Some st
      → exit_for p known.home (number_in n.rows.items) (slice_index n.entries.items) b.owner st ≡ exit_for p known.home (number_of p known.blocks known.first) (entry_number p known.blocks known.first) b.owner st
  exits-agree b is st there = exit-same p known.home (number_in n.rows.items) (number_of p known.blocks known.first) (slice_index n.entries.items) (entry_number p known.blocks known.first) b.owner b.last st
      (λ to goes.
      let next = flow.onward b is st to there goes in
      ap₂ (number_in n.rows.items) (sym next.owned) (sym next.from) ∙ step-number next.block next.has ∙ ap₂ (number_of p known.blocks known.first) next.owned next.from)
      (λ d callee args same.
      let of_call = called p sound b.owner b.last callee d args (there ∙ ap Some same) in
      entry-is callee (slice_get_within p.procs callee of_call.proc of_call.is) of_call.other)

  -- the block of a part, with the numbers as they are held
  pub block-agrees : (x : Part) → IsPartOf p known.blocks x
      → block_by p known.home (number_in n.rows.items) (slice_index n.entries.items) homes (test_of known.first known.after x) x ≡ block_of p known homes x
  block-agrees (Entry owner) is = block-by-is p known homes (Entry owner)
  block-agrees (Returned b d callee) is = block-by-is p known homes (Returned b d callee)
  block-agrees (Steps b) is =
      let last = flow.last b is in
      same last.st last.there ∙ block-by-is p known homes (Steps b) where
        shape : Exit → RBlock
        shape e = record {
          steps = code_from p known.home b.owner b.first (b.last + 1 - b.first);
          exit = e;
          live_out = option_map_or (stays_after known.home (vars_of p b.owner) homes b.owner (known.after b.owner b.last)) (step_at p b.owner b.last) [];
        }

        same : (st : Step) → step_at p b.owner b.last ≡ Some st
            → block_by p known.home (number_in n.rows.items) (slice_index n.entries.items) homes (test_of known.first known.after (Steps b)) (Steps b)
            ≡ block_by p known.home (number_of p known.blocks known.first) (entry_number p known.blocks known.first) homes (test_of known.first known.after (Steps b)) (Steps b)
        same st there =
            ap (λ (o : Option Step). shape (option_map_or (exit_for p known.home (number_in n.rows.items) (slice_index n.entries.items) b.owner) o exit.Halt)) there
            ∙ ap shape (exits-agree b is st there)
            ∙ sym (ap (λ (o : Option Step). shape (option_map_or (exit_for p known.home (number_of p known.blocks known.first) (entry_number p known.blocks known.first) b.owner) o exit.Halt)) there)

  -- so all blocks are those of the register code
  pub blocks-agree : (xs : List Part) → ((x : Part) → In x xs → IsPartOf p known.blocks x)
      → map (λ x. block_by p known.home (number_in n.rows.items) (slice_index n.entries.items) homes (test_of known.first known.after x) x) xs
      ≡ map (block_of p known homes) xs
  blocks-agree [] are = refl
  blocks-agree (x ∷ xs) are = ap₂ (λ (y : RBlock) (l : List RBlock). y ∷ l) (block-agrees x (are x (inl refl))) (blocks-agree xs (λ y is. are y (inr is)))

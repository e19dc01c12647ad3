-- A run that goes on, at an address within its code.
use Rattle.std.proofs.Common.{◌≡◌, ℕ, ◌<◌, ◌^◌, List, length, get_or, Option, Some, sym, ap, ◌∙◌, subst, arith}
use Rattle.tta_sim.specs.Cited.{Units, Machine, IsMachine, Code, State, carry_out, Rings, IsFed}
use Rattle.tta_code.specs.Cycle.{next as next_state}
use Rattle.tta_sim.specs.declared.cycle_step.CycleStep.{CycleStep}
use Rattle.tta_sim.specs.declared.control.Control.{Control}
use Rattle.tta_sim.specs.declared.control.Phase.TheVariants as phase
use Rattle.tta_sim.specs.declared.decoded.Line.{Line}
use Rattle.tta_sim.specs.declared.results.Part.{Part}
use Rattle.tta_sim.specs.declared.store.Store.{Store}
use Rattle.tta_sim.specs.Results.{HasUnits, results_at, units_of}
use Rattle.tta_sim.specs.Held.{HeldState, StandsWith, GoesWith, IsAnswer, IsStateOf}
use Rattle.tta_sim.specs.Kept.{held_of, kept_as, IsAtLine, IsCarried, IsCycle}
use Rattle.tta_sim.proofs.Going.{Here, line_here, goes_stands, goes_answer}
use Rattle.tta_sim.proofs.Owning.{units_there}

-- A run that goes on is at an address within its code, this is the line there, and the machine has these units of the region.
pub record Reached (m : Machine) (code : Code) (h : HeldState) (base : ℕ) (region : Rings) (part : Part) (lines : List Line) (store : Store) (control : Control)
    (delay : ℕ) (line : Line) : Type 0 where
  pub rules : IsMachine m
  pub run : IsStateOf m code h
  pub has : HasUnits base m region
  pub part_is : part ≡ record { base = base; count = length m.units }
  pub view : held_of lines store control ≡ h
  pub running : control.phase ≡ phase.Running
  pub within : control.pc < length code.words
  pub delay_is : delay ≡ m.control.delay
  pub line_is : line ≡ get_or lines control.pc line

module _ {m : Machine} {code : Code} {h : HeldState} {base : ℕ} {region : Rings} {part : Part} {lines : List Line} {store : Store} {control : Control} {delay : ℕ} {line : Line}
    (r : Reached m code h base region part lines store control delay line) where
  size : part.count ≡ length m.units
  size = ap (λ p. p.count) r.part_is

  has_part : HasUnits part.base m region
  has_part = subst (λ p. HasUnits p.base m region) (sym r.part_is) r.has

  -- the instruction there
  here : Here m code control.pc delay store (results_at part region) line
  here =
      line_here m code h r.rules r.run control.pc delay lines store (results_at part region) line r.within r.delay_is (ap (λ k. k.lines) r.view) r.line_is has_part size

  -- its line can be carried out
  pub at_line : h.cycle < 2 ^ 62 → IsAtLine part line (kept_as store control region)
  at_line few = record {
    running = r.running;
    units = units_there part m region has_part size;
    there = here.there;
    fitting = here.fits;
    few = omega (arith, few, ap (λ k. k.cycle) r.view);
    within = omega (arith, r.within, r.run.reached);
  }

  module _ (u : Units) (next : Option ℕ) (store' : Store) (control' : Control) (region' : Rings) (answer : CycleStep)
      (made : IsCycle u part delay line next (kept_as store control region) (kept_as store' control' region') answer) where
    -- the code stays
    pub code_stays : IsStateOf m code (held_of lines store' control')
    code_stays = record {
      legal = r.run.legal;
      reached = r.run.reached;
      decoded = ap (λ k. k.lines) r.view ∙ r.run.decoded;
      memory = made.memory ∙ ap (λ k. length k.memory) r.view ∙ r.run.memory;
      frame = made.frame ∙ ap (λ k. length k.frame) r.view ∙ r.run.frame;
    }

    module _ (s : State) (same : StandsWith (units_of base m region) h s) (fed : IsFed s.rest next) where
      held : StandsWith (results_at part region) (held_of lines store control) s
      held = subst (λ p. StandsWith (results_at p region) (held_of lines store control) s) (sym r.part_is) (subst (λ k. StandsWith (units_of base m region) k s) (sym r.view) same)

      carried : IsCarried (results_at part region') (held_of lines store' control') s (carry_out u m s (Some here.item)) answer
      carried = made.carried m here.item lines s here.decoded size r.delay_is held fed

      -- the run goes where the meaning goes
      pub goes : GoesWith (units_of base m region') (held_of lines store' control') s (next_state u m code s) answer
      goes =
          subst (λ p. GoesWith (results_at p region') (held_of lines store' control') s (next_state u m code s) answer) r.part_is
          (goes_stands u m code lines store (results_at part region) control s held r.running here.item (results_at part region') (held_of lines store' control') answer here.at carried)

      -- and the answer tells what became of it
      pub answers : IsAnswer u m code s answer
      answers =
          goes_answer u m code lines store (results_at part region) control s held r.running here.item (results_at part region') (held_of lines store' control') answer here.at carried

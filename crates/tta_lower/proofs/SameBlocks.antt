-- The blocks of a program are what lowering takes them for.
use Rattle.std.proofs.Common.{◌≡◌, ◌<◌, ◌+◌, ℕ, Bool, true, false, List, Some, refl, sym, ap, subst, ◌∙◌, slice_get, length}
use Rattle.std.specs.Prelude.{◌==◌, not}
use Rattle.std.specs.Option.{option_map_or}
use Rattle.std.proofs.lemmas.Option.{slice_get_within}
use Rattle.tta_list.proofs.Lists.{all_one}
use Rattle.tta_lower.specs.Cited.{Step, Proc, Program, IsProgram, IsProc}
use Rattle.tta_flow.specs.declared.flow.Block.{Block}
use Rattle.tta_flow.specs.Steps as steps
use Rattle.tta_flow.specs.Paths as paths
use Rattle.tta_flow.specs.Blocks as flow
use Rattle.tta_flow.proofs.BlockLemmas.{closed_of}
use Rattle.tta_lower.specs.Liveness.{is_plain}
use Rattle.tta_lower.specs.FlowFacts as lower
use Rattle.tta_lower.proofs.SameSteps.{same_cuts, same_names}
use Rattle.tta_lower.proofs.SamePaths.{passing, passes_at, reached_to, reached_from}

-- a step that cuts is not plain
plain_not : (st : Step) → steps.cuts st ≡ true → is_plain st ≡ false
plain_not st e = on (is_plain st) (sym (same_cuts st) ∙ e) where
  on : (b : Bool) → not b ≡ true → b ≡ false
  on true f = cc
  on false f = refl

module _ (p : Program) (rules : IsProgram p) where
  -- the steps of a procedure are closed
  pub closed : (owner : ℕ) (q : Proc) → slice_get p.procs owner ≡ Some q → paths.IsClosed q.steps
  closed owner q is = closed_of p q (all_one (IsProc p) p.procs owner q rules.procs is)

  -- steps that are reached are there
  pub within : (owner i : ℕ) (q : Proc) → slice_get p.procs owner ≡ Some q → paths.Reached q.steps i → i < length q.steps
  within owner i q is r = by i r where
    by : (i : ℕ) → paths.Reached q.steps i → i < length q.steps
    by _ paths.Begin = (closed owner q is).some
    by _ (paths.Onward i j r e) = (closed owner q is).within i j e

  module _ (owner : ℕ) (q : Proc) (is : slice_get p.procs owner ≡ Some q) where
    first_to : (i : ℕ) → flow.IsFirst q.steps i → lower.IsFirst p owner i
    first_to _ flow.AtBegin = lower.AtBegin 0 refl
    first_to _ (flow.Named from to r e) =
        let s = passing p owner q is (λ st. option_map_or (λ t. t == to) (steps.target st) false) from e in
        lower.Named from to s.st (reached_to p owner q is from r) s.there (sym (same_names s.st to) ∙ s.passes)
    first_to _ (flow.After i e) =
        let s = passing p owner q is steps.cuts i e in
        lower.AfterStep i (i + 1) s.st s.there (plain_not s.st s.passes) refl

    first_from : (i : ℕ) → lower.IsFirst p owner i → flow.IsFirst q.steps i
    first_from i (lower.AtBegin at e) = subst (λ (n : ℕ). flow.IsFirst q.steps n) (sym e) flow.AtBegin
    first_from i (lower.Named from to st r there e) =
        flow.Named from to (reached_from p owner q is from r)
        (passes_at p owner q is (λ s. option_map_or (λ t. t == to) (steps.target s) false) from st there true (same_names st to ∙ e))
    first_from i (lower.AfterStep j at st there e next) =
        subst (λ (n : ℕ). flow.IsFirst q.steps n) (sym next)
        (flow.After j (passes_at p owner q is steps.cuts j st there true (same_cuts st ∙ ap not e)))

    run : (first last : ℕ) → flow.IsBlock q.steps first last → lower.IsRun p owner first last
    run first last h = record {
      within = h.within;
      reached = λ i low high. reached_to p owner q is i (h.reached i low high);
      begins = first_to first h.begins;
      only = λ i low high f. h.only i low high (first_from i f);
      ends = λ r. first_to (last + 1) (h.ends (reached_from p owner q is (last + 1) r));
    }

  pub are_blocks : (blocks : List Block) → flow.IsFlow p blocks → lower.AreBlocks p blocks
  are_blocks blocks h = record {
    sound = λ b has. let s = h.sound has.0 b has.1 in run b.owner s.proc s.is b.first b.last s.block;
    rising = h.rising;
    covers = λ owner i q is r.
        let c = h.covers owner i q is (reached_from p owner q is i r) in
        record { block = c.block; has = (c.at, c.is); mine = c.mine; low = c.low; high = c.high };
    there = λ owner i r q is. within owner i q is (reached_from p owner q is i r);
    owned = λ b has. let s = h.sound has.0 b has.1 in slice_get_within p.procs b.owner s.proc s.is;
  }

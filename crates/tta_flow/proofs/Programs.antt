-- A procedure of a program that is handed in, as a loop over its procedures sees it.
use Rattle.std.proofs.Common.{◌≡◌, ℕ, ◌+◌, ◌<◌, ◌≤◌, List, ◌++◌, length, get_or, Some, refl, sym, ◌∙◌, ap, subst, arith}
use Rattle.std.specs.Prelude.{slice_get}
use Rattle.std.proofs.lemmas.Option.{slice_get_read}
use Rattle.tta_flow.specs.Cited.{Step, Proc, Program, IsProgram, IsProc}
use Rattle.tta_flow.specs.declared.flow.Block.{Block}
use Rattle.tta_flow.specs.Paths.{IsClosed}
use Rattle.tta_flow.specs.Blocks.{AreBlocks}
use Rattle.tta_flow.proofs.BlockLemmas.{IsFlowTo, flow_more, closed_of, proc_of}

module _ (inside p : Program) (procs : List Proc) (view : inside ≡ p) (read : procs ≡ inside.procs) where
  pub procs_are : procs ≡ p.procs
  procs_are = read ∙ ap (λ (x : Program). x.procs) view

  module _ (owner : ℕ) (q : Proc) (below : owner < length procs) (is : q ≡ get_or procs owner q) where
    pub proc_is : slice_get p.procs owner ≡ Some q
    proc_is = ap (λ l. slice_get l owner) (sym procs_are) ∙ slice_get_read procs (length procs) owner q refl below is

    pub proc_keeps : IsProgram inside → IsProc p q
    proc_keeps rules =
        let e = ap length procs_are in
        proc_of p owner q (subst IsProgram view rules) (omega arith) (is ∙ ap (λ l. get_or l owner q) procs_are)

    pub steps_are : (steps : List Step) → steps ≡ (get_or procs owner q).steps → steps ≡ q.steps
    steps_are steps e = e ∙ ap (λ (x : Proc). x.steps) (sym is)

pub steps_closed : (inside p : Program) (procs : List Proc) (owner : ℕ) (q : Proc) (steps : List Step) → inside ≡ p → IsProgram inside
    → procs ≡ inside.procs → owner < length procs → q ≡ get_or procs owner q → steps ≡ (get_or procs owner q).steps → IsClosed steps
steps_closed inside p procs owner q steps view rules read below is at =
    subst IsClosed (sym (steps_are inside p procs view read owner q below is steps at))
    (closed_of p q (proc_keeps inside p procs view read owner q below is rules))

pub blocks_more : (inside p : Program) (procs : List Proc) (owner : ℕ) (q : Proc) (steps : List Step) (blocks more new : List Block) → inside ≡ p
    → procs ≡ inside.procs → owner < length procs → q ≡ get_or procs owner q → steps ≡ (get_or procs owner q).steps → IsFlowTo p owner blocks
    → AreBlocks owner steps more → new ≡ blocks ++ more → IsFlowTo p (owner + 1) new
blocks_more inside p procs owner q steps blocks more new view read below is at h m all =
    subst (λ l. IsFlowTo p (owner + 1) l) (sym all)
    (flow_more p owner q blocks more (proc_is inside p procs view read owner q below is) h
    (subst (λ (ss : List Step). AreBlocks owner ss more) (steps_are inside p procs view read owner q below is steps at) m))

pub all_procs : (inside p : Program) (procs : List Proc) (n : ℕ) → inside ≡ p → procs ≡ inside.procs → length procs ≤ n → length p.procs ≤ n
all_procs inside p procs n view read all = let e = ap length (procs_are inside p procs view read) in omega arith

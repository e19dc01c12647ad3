-- Code that agrees with the converted program agrees with the program.
use Rattle.std.proofs.Common.{◌≡◌, ◌≤◌, ◌+◌, ◌*◌, ℕ, map, true, List, sym, ap, ◌∙◌, subst, arith}
use Rattle.std.proofs.Math.Nat.{mul-le-mul_right}
use Rattle.tta_list.proofs.Prefixes.{prefix_chain as prefix-more}
use Rattle.tta_build.specs.Cited.{IsPrefixOf, Units, Machine, over, Program, step_count, data_of, datum_of, seq, start, Whole, Agrees, AgreesAt, program_at, Converted, has_ended, RunAlike, IsAlike}
use Rattle.tta_program.proofs.Growing.{later_output}
use Rattle.tta_ifconv.proofs.Runs.{run_alike}
use Rattle.tta_ifconv.proofs.Listed.{no_greater}
use Rattle.tta_ifconv.proofs.Ended.{later-end}
use Rattle.tta_build.specs.Converted.{ConvertedAgrees}

module _ (u : Units) (m : Machine) (p q : Program) (whole : Whole) (is : Converted p q) (agrees : Agrees u m q whole) where
  -- the data are the same
  at_same : (memory input : List ℕ) (n : ℕ) → seq u q (over (data_of p) memory) input n ≡ program_at u q memory input n
  at_same memory input n = ap (λ init. seq u q (over init memory) input n) (ap (λ init. map datum_of init) (sym is.init))

  -- both runs
  alike : (memory input : List ℕ) → RunAlike u p q (over (data_of p) memory) input
  alike memory input = run_alike u p q is (over (data_of p) memory) input

  -- twice the steps of the converted program are no more than twice those of the program
  steps_fit : (n : ℕ) → 2 * (step_count q * (n + 1)) ≤ 2 * step_count p * (n + 1)
  steps_fit n =
      let fewer = (no_greater p q is).steps in
      let more = mul-le-mul_right (n + 1) fewer in
      omega (arith, more)

  -- where the converted program has ended, the program has after so many steps
  ended : (memory input : List ℕ) (n : ℕ) → has_ended (program_at u q memory input (step_count q * (n + 1))).outcome ≡ true
      → IsAlike (program_at u q memory input (step_count q * (n + 1))) (program_at u p memory input (2 * step_count p * (n + 1)))
  ended memory input n e =
      let same = at_same memory input (step_count q * (n + 1)) in
      let first = (alike memory input).ends_only (step_count q * (n + 1)) (ap (λ s. has_ended s.outcome) same ∙ e) in
      let over_p = over (data_of p) memory in
      let there = ap has_ended first.outcome ∙ ap (λ s. has_ended s.outcome) same ∙ e in
      let later = later-end u p (2 * (step_count q * (n + 1))) (2 * step_count p * (n + 1)) (start p over_p input) (steps_fit n) there in
      record {
        outcome = ap (λ s. s.outcome) later ∙ first.outcome ∙ ap (λ s. s.outcome) same;
        memory = ap (λ s. s.memory) later ∙ first.memory ∙ ap (λ s. s.memory) same;
        output = ap (λ s. s.output) later ∙ first.output ∙ ap (λ s. s.output) same;
        rest = ap (λ s. s.rest) later ∙ first.rest ∙ ap (λ s. s.rest) same;
      }

  -- where the program has ended, the converted program has
  ends : (memory input : List ℕ) (n : ℕ) → has_ended (program_at u p memory input n).outcome ≡ true → IsAlike (program_at u p memory input n) (program_at u q memory input n)
  ends memory input n e =
      let first = (alike memory input).ends n e in
      let same = at_same memory input n in
      record {
        outcome = sym (ap (λ s. s.outcome) same) ∙ first.outcome;
        memory = sym (ap (λ s. s.memory) same) ∙ first.memory;
        output = sym (ap (λ s. s.output) same) ∙ first.output;
        rest = sym (ap (λ s. s.rest) same) ∙ first.rest;
      }

  agrees_at : AgreesAt u m p (2 * step_count p) whole
  agrees_at = record {
    no_fault = agrees.no_fault;
    halts = λ memory input n given halted.
        let e = ends memory input n (ap has_ended halted) in
        let h = agrees.halts memory input n given (e.outcome ∙ halted) in
        record { program = halted; code = h.code; memory = h.memory ∙ e.memory; output = h.output ∙ e.output; rest = h.rest ∙ e.rest };
    waits = λ memory input n given waits.
        let e = ends memory input n (ap has_ended waits) in
        let h = agrees.waits memory input n given (e.outcome ∙ waits) in
        record { program = waits; code = h.code; output = h.output ∙ e.output; rest = h.rest ∙ e.rest };
    halts_only = λ memory input n given halted.
        let h = agrees.halts_only memory input n given halted in
        let e = ended memory input n (ap has_ended h.program) in
        record { program = e.outcome ∙ h.program; code = h.code; memory = h.memory ∙ sym e.memory; output = h.output ∙ sym e.output; rest = h.rest ∙ sym e.rest };
    waits_only = λ memory input n given waits.
        let h = agrees.waits_only memory input n given waits in
        let e = ended memory input n (ap has_ended h.program) in
        record { program = e.outcome ∙ h.program; code = h.code; output = h.output ∙ sym e.output; rest = h.rest ∙ sym e.rest };
    output = λ memory input n given.
        prefix-more _ _ _ (subst (λ s. IsPrefixOf (program_at u p memory input n).output s.output) (at_same memory input n) ((alike memory input).output n))
        (agrees.output memory input n given);
    output_only = λ memory input n given.
        prefix-more _ _ _ (agrees.output_only memory input n given)
        (prefix-more _ _ _ (subst (λ s. IsPrefixOf s.output (program_at u p memory input (2 * (step_count q * (n + 1)))).output) (at_same memory input (step_count q * (n + 1))) ((alike memory input).output_only (step_count q * (n + 1))))
        (later_output u p (2 * (step_count q * (n + 1))) (2 * step_count p * (n + 1)) (start p (over (data_of p) memory) input) (steps_fit n)));
  }

pub converted_agrees_holds : ConvertedAgrees
converted_agrees_holds u m p q whole is agrees = agrees_at u m p q whole is agrees

-- The runs of a program and of the converted one.
use Rattle.std.proofs.Common.{◌≡◌, ◌≤◌, ◌+◌, ◌*◌, ℕ, zero, suc, List, [], ◌∷◌, refl, sym, ap, ◌∙◌, subst, arith}
use Rattle.tta_ifconv.specs.Cited.{IsPrefixOf, Units, Program, seq, start, next, enter}
use Rattle.tta_program.proofs.Growing.{later_output}
use Rattle.tta_ifconv.specs.Converted.{Converted}
use Rattle.tta_ifconv.specs.Statement.{has_ended, RunAlike}
use Rattle.tta_ifconv.proofs.Moved.{moved, Stands, enter_moved}
use Rattle.tta_ifconv.proofs.Follows.{follows}
use Rattle.tta_ifconv.proofs.Ended.{later-end}
use Rattle.tta_list.proofs.Iterated.{iterate-add}

module _ (u : Units) (p q : Program) (is : Converted p q) (memory input : List ℕ) where
  -- the converted program after n steps is where the program is after n to 2 n
  pub record Meets (n : ℕ) : Type 0 where
    pub at : ℕ
    pub least : n ≤ at
    pub most : at ≤ 2 * n
    pub steps : ℕ
    pub same : seq u q memory input n ≡ moved p (seq u p memory input at) steps
    pub stands : Stands p (seq u p memory input at).stack

  start_moved : start q memory input ≡ moved p (start p memory input) 0
  start_moved =
      ap (λ main. record { stack = enter q main [] ∷ []; memory = memory; rest = input; output = []; steps = 0; outcome = (start p memory input).outcome }) is.main
      ∙ ap (λ f. record { stack = f ∷ []; memory = memory; rest = input; output = []; steps = 0; outcome = (start p memory input).outcome }) (enter_moved u p q is p.main [])

  pub meets : (n : ℕ) → Meets n
  meets zero = record { at = 0; least = omega arith; most = omega arith; steps = 0; same = start_moved; stands = (refl, tt) }
  meets (suc n) = by (meets n) where
    by : Meets n → Meets (suc n)
    by m =
        let f = follows u p q is (seq u p memory input m.at) m.steps m.stands in
        let there = iterate-add m.at f.by (next u p) (start p memory input) in
        record {
          at = m.at + f.by;
          least = omega (arith, m.least, f.least);
          most = omega (arith, m.most, f.most);
          steps = f.steps;
          same = ap (next u q) m.same ∙ f.same ∙ ap (λ s. moved p s f.steps) (sym there);
          stands = subst (λ s. Stands p s.stack) (sym there) f.stands;
        }

  pub run_alike : RunAlike u p q memory input
  run_alike = record {
    ends = λ n ended.
        let m = meets n in
        let same = m.same ∙ ap (λ s. moved p s m.steps) (later-end u p n m.at (start p memory input) m.least ended) in
        record { outcome = ap (λ s. s.outcome) same; memory = ap (λ s. s.memory) same; output = ap (λ s. s.output) same; rest = ap (λ s. s.rest) same };
    ends_only = λ n ended.
        let m = meets n in
        let there = sym (ap (λ s. has_ended s.outcome) m.same) ∙ ended in
        let later = later-end u p m.at (2 * n) (start p memory input) m.most there in
        record {
          outcome = ap (λ s. s.outcome) later ∙ sym (ap (λ s. s.outcome) m.same);
          memory = ap (λ s. s.memory) later ∙ sym (ap (λ s. s.memory) m.same);
          output = ap (λ s. s.output) later ∙ sym (ap (λ s. s.output) m.same);
          rest = ap (λ s. s.rest) later ∙ sym (ap (λ s. s.rest) m.same);
        };
    output = λ n.
        let m = meets n in
        subst (λ xs. IsPrefixOf (seq u p memory input n).output xs) (sym (ap (λ s. s.output) m.same)) (later_output u p n m.at (start p memory input) m.least);
    output_only = λ n.
        let m = meets n in
        subst (λ xs. IsPrefixOf xs (seq u p memory input (2 * n)).output) (sym (ap (λ s. s.output) m.same)) (later_output u p m.at (2 * n) (start p memory input) m.most);
  }

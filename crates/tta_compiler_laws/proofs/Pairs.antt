-- What a direct pair gives.
use Rattle.std.proofs.Common.{◌≡◌, ◌≤◌, ℕ, zero, suc, true, false, List, [], ◌∷◌, refl, ap, subst, arith, ◌∙◌, length, slice_get}
use Rattle.std.specs.Prelude.{◌==◌}
use Rattle.std.specs.Option.{option_map_or}
use Rattle.std.specs.List.{list_all}
use Rattle.std.proofs.lemmas.Bool.{and_parts}
use Rattle.std.proofs.lemmas.Bool.Decides.{nat_tests}
use Rattle.tta_compiler_laws.specs.Cited.{Machine, Var, Step, Return, End, Proc, Program, IsProgram, only_constants, puts, alone, brings}
use Rattle.tta_program.specs.declared.operand.Src.TheVariants.{Word}
use Rattle.tta_program.specs.declared.step.Step.TheVariants.{Copy, Apply, Load, Take, Store, Put, If, Goto, When, Invoke, Halt}
use Rattle.tta_compiler_laws.specs.Direct.{is_brought, is_direct_proc, is_direct, constants_of}

-- ---- the constants of a run

-- the constants that a run outputs are brought to the output, and are no more than the steps
pub record AreBrought (m : Machine) (steps : List Step) : Type 0 where
  pub all : list_all (brings m) (puts steps) ≡ true
  pub few : length (puts steps) ≤ length steps

pub are_brought : (m : Machine) (steps : List Step) → list_all (is_brought m) steps ≡ true → AreBrought m steps
are_brought m [] h = record { all = refl; few = omega arith }
are_brought m (st ∷ steps) h =
    let two = and_parts (is_brought m st) (list_all (is_brought m) steps) h in
    on st two.0 (are_brought m steps two.1) where
      on : (st : Step) → is_brought m st ≡ true → AreBrought m steps → AreBrought m (st ∷ steps)
      on (Put (Word w)) b r = let few = r.few in record { all = rw (b, r.all) refl; few = omega (arith, few) }
      on (Put (Var x)) b r = record { all = refl; few = omega arith }
      on (Copy d s) b r = record { all = refl; few = omega arith }
      on (Apply d op a c) b r = record { all = refl; few = omega arith }
      on (Load d a) b r = record { all = refl; few = omega arith }
      on (Take d) b r = record { all = refl; few = omega arith }
      on (Store a v) b r = record { all = refl; few = omega arith }
      on (If rel a c to) b r = record { all = refl; few = omega arith }
      on (Goto to) b r = record { all = refl; few = omega arith }
      on (When rel a c d s) b r = record { all = refl; few = omega arith }
      on (Invoke d callee args) b r = record { all = refl; few = omega arith }
      on (Return s) b r = record { all = refl; few = omega arith }
      on Halt b r = record { all = refl; few = omega arith }
      on End b r = record { all = refl; few = omega arith }

-- ---- the program

-- the program is main alone, and only outputs constants that are brought to the output
pub record IsAlone (m : Machine) (p : Program) : Type 0 where
  pub proc : Proc
  pub is : p ≡ alone proc p.init
  pub only : only_constants proc.steps ≡ true
  pub brought : AreBrought m proc.steps
  pub constants : constants_of p ≡ puts proc.steps
  pub steps : length (puts proc.steps) ≤ 65536

pub is_alone : (m : Machine) (p : Program) → IsProgram p → is_direct m p ≡ true → IsAlone m p
is_alone m p rules direct =
    let two = and_parts (length p.procs == 1) (list_all (is_direct_proc m) p.procs) direct in
    on p.procs refl two.0 two.1 rules.main where
      by : (q : Proc) → p.procs ≡ q ∷ [] → (k : ℕ) → p.main ≡ k → option_map_or (λ (r : Proc). r.params == 0) (slice_get (q ∷ []) k) false ≡ true → is_direct_proc m q ≡ true → IsAlone m p
      by q e (suc k) same main direct = absurd cc
      by q e zero same main direct =
          let h = and_parts (only_constants q.steps) (list_all (is_brought m) q.steps) direct in
          let b = are_brought m q.steps h.1 in
          let is : p ≡ alone q p.init =
          ap (λ (l : List Proc). record p { procs = l }) e ∙ ap (λ (k : ℕ). record p { procs = q ∷ []; main = k }) same in
          record {
            proc = q;
            is = is;
            only = h.0;
            brought = b;
            constants = ap (λ (r : Program). constants_of r) is;
            steps = few q is b.few;
          } where
            few : (q : Proc) → p ≡ alone q p.init → length (puts q.steps) ≤ length q.steps → length (puts q.steps) ≤ 65536
            few q is le = let lines = (subst IsProgram is rules).lines in omega (arith, lines, le)

      on : (qs : List Proc) → p.procs ≡ qs → (length qs == 1) ≡ true → list_all (is_direct_proc m) qs ≡ true → option_map_or (λ (r : Proc). r.params == 0) (slice_get qs p.main) false ≡ true → IsAlone m p
      on [] e one all main = absurd cc
      on (q ∷ []) e one all main = by q e p.main refl main (and_parts (is_direct_proc m q) true all).0
      on (q ∷ r ∷ qs) e one all main = absurd (grind (arith, nat_tests))

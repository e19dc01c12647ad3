-- What the rules of a program say of a call that is under way.
use Rattle.std.proofs.Common.{◌≡◌, ◌<◌, ◌≤◌, ◌==◌, ℕ, zero, suc, true, false, not, eqb, inl, inr, List, [], ◌∷◌, length, map, get_or, slice_get, Option, Some, None, refl, subst, sym, arith}
use Rattle.std.specs.Option.{option_map_or}
use Rattle.std.specs.List.{list_any, AllByRecursion}
use Rattle.std.proofs.lemmas.Bool.Decides.{eqb_tells}
use Rattle.std.proofs.lemmas.Map.Keys.{any_passes_from_place}
use Rattle.tta_list.proofs.Tests.{and_left, and_right}
use Rattle.tta_list.proofs.Lists.{all_one, list_all_one}
use Rattle.tta_tacrun.specs.Cited.{Src, Step, Invoke, Proc, Program, IsProgram, IsProc, Reaches, ByCall, ByMore, is_step, is_call, calls_proc, Frame, step_at}
use Rattle.tta_tacrun.specs.Run.{is_called, is_path}
use Rattle.tta_tacrun.proofs.First.{within_if}

-- ---- lists and tests

same_number : (n : ℕ) → eqb n n ≡ true
same_number n = elim (eqb_tells n n) [ inl same ↦ same.0 | inr different ↦ absurd (different.1 refl) ]

-- how many variables a procedure has
pub size_at : (procs : List Proc) (i : ℕ) → get_or (map (λ q. q.vars) procs) i 0 ≡ option_map_or (λ q. q.vars) (slice_get procs i) 0
size_at [] i = refl
size_at (q ∷ qs) zero = refl
size_at (q ∷ qs) (suc i) = size_at qs i

-- ---- calls

-- a step that calls a procedure makes its own procedure one that calls it
calls_of_step : (callee at : ℕ) (proc : Option Proc)
    → option_map_or (calls_proc callee) (option_map_or (λ q. slice_get q.steps at) proc None) false ≡ true
    → option_map_or (λ q. list_any (calls_proc callee) q.steps) proc false ≡ true
calls_of_step callee at None passes = cc
calls_of_step callee at (Some q) passes = by (slice_get q.steps at) refl passes where
  by : (step : Option Step) → slice_get q.steps at ≡ step → option_map_or (calls_proc callee) step false ≡ true → list_any (calls_proc callee) q.steps ≡ true
  by None here passes = cc
  by (Some step) here passes = any_passes_from_place (calls_proc callee) q.steps at step here passes

-- a procedure that leads to another is not that one
other_proc : (p : Program) → IsProgram p → (from callee : ℕ) → Reaches p from callee → eqb callee from ≡ false
other_proc p rules from callee reaches = elim (eqb_tells callee from) [
  | inl same ↦ absurd (rules.acyclic callee (subst (λ start. Reaches p start callee) (sym same.1) reaches))
  | inr different ↦ different.0
]

-- on a path of calls that leads to a procedure, the procedure itself is not
fresh_path : (p : Program) → IsProgram p → (callee : ℕ) (f : Frame) (rest : List Frame) → is_path p (f ∷ rest) ≡ true
    → Reaches p f.proc callee → AllByRecursion (λ proc. eqb callee proc ≡ false) (map (λ g. g.proc) (f ∷ rest))
fresh_path p rules callee f [] path reaches = (other_proc p rules f.proc callee reaches, tt)
fresh_path p rules callee f (g ∷ rest) path reaches =
    let called = and_left (is_called p f.proc (g ∷ rest)) (is_path p (g ∷ rest)) path in
    let call = calls_of_step f.proc g.at (slice_get p.procs g.proc) called in (
      other_proc p rules f.proc callee reaches,
      fresh_path p rules callee g rest (and_right (is_called p f.proc (g ∷ rest)) (is_path p (g ∷ rest)) path) (ByMore g.proc f.proc callee call reaches),
    )

-- what a call finds: the procedure is there, not under way, and has a variable for each argument
pub record IsMet (p : Program) (callee : ℕ) (args : List Src) (f : Frame) (rest : List Frame) : Type 0 where
  pub there : callee < length p.procs
  pub fresh : AllByRecursion (λ proc. eqb callee proc ≡ false) (map (λ g. g.proc) (f ∷ rest))
  pub fit : length args ≤ get_or (map (λ q. q.vars) p.procs) callee 0

-- the callee has a variable for each argument
fit_of : (p : Program) → IsProgram p → (callee : ℕ) (args : List Src) → is_call p callee args ≡ true
    → length args ≤ get_or (map (λ q. q.vars) p.procs) callee 0
fit_of p rules callee args call =
    rw (size_at p.procs callee) (by (slice_get p.procs callee) refl (and_right (not (callee == p.main)) _ call)) where
      by : (q : Option Proc) → slice_get p.procs callee ≡ q → option_map_or (λ q. length args == q.params) q false ≡ true
          → length args ≤ option_map_or (λ q. q.vars) q 0
      by None here passes = cc
      by (Some q) here passes =
          let many : length args ≡ q.params = elim (eqb_tells (length args) q.params) [ inl same ↦ same.1 | inr different ↦ cc (different.0, passes) ] in
          let proc = all_one (IsProc p) p.procs callee q rules.procs here in
          omega (arith, many, proc.among)

-- the rules of a call
pub call_of : (p : Program) → IsProgram p → (proc at : ℕ) (d : Option ℕ) (callee : ℕ) (args : List Src)
    → step_at p proc at ≡ Some (Invoke d callee args) → is_call p callee args ≡ true
call_of p rules proc at d callee args here = by (slice_get p.procs proc) refl here where
  by : (q : Option Proc) → slice_get p.procs proc ≡ q → option_map_or (λ q. slice_get q.steps at) q None ≡ Some (Invoke d callee args)
      → is_call p callee args ≡ true
  by None there here = cc
  by (Some q) there here =
      let proc = all_one (IsProc p) p.procs proc q rules.procs there in
      and_right _ (is_call p callee args) (list_all_one (is_step p q) q.steps at (Invoke d callee args) proc.steps here)

pub met : (p : Program) → IsProgram p → (d : Option ℕ) (callee : ℕ) (args : List Src) (f : Frame) (rest : List Frame)
    → is_path p (f ∷ rest) ≡ true → step_at p f.proc f.at ≡ Some (Invoke d callee args) → IsMet p callee args f rest
met p rules d callee args f rest path here =
    let call = call_of p rules f.proc f.at d callee args here in
    let calling : option_map_or (calls_proc callee) (step_at p f.proc f.at) false ≡ true = rw here (same_number callee) in
    record {
      there = within_if (λ q. length args == q.params) p.procs callee (and_right (not (callee == p.main)) _ call);
      fresh = fresh_path p rules callee f rest path (ByCall f.proc callee (calls_of_step callee f.at (slice_get p.procs f.proc) calling));
      fit = fit_of p rules callee args call;
    }

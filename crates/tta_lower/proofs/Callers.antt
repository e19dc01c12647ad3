-- Calls that are under way stay as they are while another procedure's slots change.
use Rattle.std.proofs.Common.{◌≡◌, ◌≢◌, ◌<◌, ◌==◌, ◌&&◌, ◌||◌, not, ◌∷◌, [], ℕ, zero, suc, List, Option, Some, None, true, false, length, slice_get, refl, sym, ap, ◌∙◌, subst, arith, inl, inr, nat_lt}
use Rattle.std.specs.Prelude.{⊤}
use Rattle.std.specs.Option.{option_map_or}
use Rattle.std.specs.List.{list_all, list_any}
use Rattle.std.proofs.lemmas.Bool.{eq-eqb, ne_eqb, eqb-true, and_parts, or_cases, or_right, not-true, ltb-true, false≢true}
use Rattle.tta_lower.specs.Cited.{Src, Var, Step, Load, Take, Store, When, End, Proc, Program, IsProgram, is_step, is_src, Reaches, ByCall, ByMore, calls, calls_proc, step_at, Kept, found, plain}
use Rattle.tta_program.specs.declared.operand.Src.TheVariants.{Word}
use Rattle.tta_program.specs.declared.step.Step.TheVariants.{Copy, Apply, Put, If, Goto, Invoke, Return, Halt}
use Rattle.tta_program.specs.Rules as rules
use Rattle.tta_program.specs.Sequential.{Frame}
use Rattle.tta_lir.specs.Meaning.{Return}
use Rattle.tta_lower.specs.Liveness.{LiveBefore, Reads, Leads, LiveAfter, After, Block, is_var, reads}
use Rattle.tta_lower.specs.Layout.{vars_of, var_slot, back_slot, own, InFrame}
use Rattle.tta_lower.specs.Relation.{IsCaller, KeepsBack, Callers, UntouchedFrame}
use Rattle.tta_lower.proofs.Slots.{one-frame}
use Rattle.tta_lower.proofs.Steps.{step_of}

-- ---- what is read is a variable of the procedure

-- a variable that an operand names is there
var-below : (vars x : ℕ) (s : Src) → is_src vars s ≡ true → is_var x s ≡ true → x < vars
var-below vars x (Var y) is var =
    let same = eqb-true y x var in
    omega (arith, same, ltb-true y vars is)
var-below vars x (Word w) is var = cc

-- the same for two operands
either : (vars x : ℕ) (a b : Src) → is_src vars a ≡ true → is_src vars b ≡ true → (is_var x a || is_var x b) ≡ true → x < vars
either vars x a b is_a is_b var = elim (or_cases (is_var x a) (is_var x b) var) as (λ c. x < vars) [
  | inl e ↦ var-below vars x a is_a e
  | inr e ↦ var-below vars x b is_b e
]

-- the same for the arguments of a call
args-below : (vars x : ℕ) (args : List Src) → list_all (is_src vars) args ≡ true → list_any (is_var x) args ≡ true → x < vars
args-below vars x [] all any = cc
args-below vars x (a ∷ args) all any = elim (or_cases (is_var x a) (list_any (is_var x) args) any) as (λ c. x < vars) [
  | inl e ↦ var-below vars x a (and_parts (is_src vars a) _ all).0 e
  | inr e ↦ args-below vars x args (and_parts (is_src vars a) _ all).1 e
]

-- the same for all that a step reads
reads-below : (p : Program) (q : Proc) (st : Step) (x : ℕ) → is_step p q st ≡ true → reads st x ≡ true → x < q.vars
reads-below p q (Copy d s) x is var = var-below q.vars x s (and_parts (nat_lt d q.vars) _ is).1 var
reads-below p q (Apply d op a b) x is var =
    let parts = and_parts (nat_lt d q.vars && is_src q.vars a) (is_src q.vars b) is in
    either q.vars x a b (and_parts (nat_lt d q.vars) _ parts.0).1 parts.1 var
reads-below p q (Load d a) x is var = var-below q.vars x a (and_parts (nat_lt d q.vars) _ is).1 var
reads-below p q (Take d) x is var = cc
reads-below p q (Store a v) x is var =
    let parts = and_parts (is_src q.vars a) (is_src q.vars v) is in
    either q.vars x a v parts.0 parts.1 var
reads-below p q (Put v) x is var = var-below q.vars x v is var
reads-below p q (If rel a b to) x is var =
    let parts = and_parts (is_src q.vars a) (is_src q.vars b) (and_parts (is_src q.vars a && is_src q.vars b) _ is).0 in
    either q.vars x a b parts.0 parts.1 var
reads-below p q (Goto to) x is var = cc
reads-below p q (When rel a b d s) x is var =
    let whole = and_parts (is_src q.vars a && is_src q.vars b && nat_lt d q.vars) (is_src q.vars s) is in
    let prefix = and_parts (is_src q.vars a && is_src q.vars b) (nat_lt d q.vars) whole.0 in
    let first = and_parts (is_src q.vars a) (is_src q.vars b) prefix.0 in
    elim (or_cases (is_var x a) _ var) as (λ c. x < q.vars) [
      | inl e ↦ var-below q.vars x a first.0 e
      | inr e ↦ elim (or_cases (is_var x b) _ e) as (λ c. x < q.vars) [
        | inl e ↦ var-below q.vars x b first.1 e
        | inr e ↦ elim (or_cases (d == x) _ e) as (λ c. x < q.vars) [
          | inl e ↦ below-same d x q.vars (ltb-true d q.vars prefix.1) (eqb-true d x e)
          | inr e ↦ var-below q.vars x s whole.1 e
        ]
      ]
    ] where
      below-same : (d x n : ℕ) → d < n → d ≡ x → x < n
      below-same d x n lt e = omega arith
reads-below p q (Invoke d callee args) x is var =
    args-below q.vars x args (and_parts (option_map_or (λ x. nat_lt x q.vars) d true) _ (and_parts (option_map_or (λ x. nat_lt x q.vars) d true && list_all (is_src q.vars) args) _ is).0).1 var
reads-below p q (Return None) x is var = cc
reads-below p q (Return (Some s)) x is var = var-below q.vars x s is var
reads-below p q Halt x is var = cc
reads-below p q End x is var = cc

-- the variables of a procedure that is there
pub vars-are : (p : Program) (owner : ℕ) (q : Proc) → slice_get p.procs owner ≡ Some q → vars_of p owner ≡ q.vars
vars-are p owner q is = rw is refl

module _ (p : Program) (sound : IsProgram p) where
  pub live-below : (owner x at : ℕ) → LiveBefore p owner x at → x < vars_of p owner
  live-below owner x from (Reads at st there read) =
      let of_step = step_of p sound owner at st there in
      rw (vars-are p owner of_step.proc of_step.is) (reads-below p of_step.proc st x of_step.rules read)
  live-below owner x from (Leads at to st there ne goes live) = live-below owner x to live

  -- a variable that is live after a step is there
  pub live-after-below : (owner x at : ℕ) → LiveAfter p owner x at → x < vars_of p owner
  live-after-below owner x at (After to st there goes live) = live-below owner x to live

  -- ---- who is called

  -- what is known of a call: the callee is there, has that many parameters, and is not main
  pub record Called (callee : ℕ) (args : List Src) : Type 0 where
    pub proc : Proc
    pub is : slice_get p.procs callee ≡ Some proc
    pub count : length args ≡ proc.params
    pub other : callee ≢ p.main

  -- what is known of the callee of a call
  pub called : (owner at callee : ℕ) (d : Option ℕ) (args : List Src) → step_at p owner at ≡ Some (Invoke d callee args) → Called callee args
  called owner at callee d args there =
      let of_step = step_of p sound owner at (Invoke d callee args) there in
      let q = of_step.proc in
      let is_call = (and_parts (option_map_or (λ x. nat_lt x q.vars) d true && list_all (is_src q.vars) args) (rules.is_call p callee args) of_step.rules).1 in
      let parts = and_parts (not (callee == p.main)) _ is_call in
      by (slice_get p.procs callee) refl parts.1 (λ e. false≢true (sym (not-true (callee == p.main) parts.0) ∙ eq-eqb callee p.main e)) where
        by : (t : Option Proc) → slice_get p.procs callee ≡ t → option_map_or (λ q. length args == q.params) t false ≡ true → callee ≢ p.main → Called callee args
        by None is count other = cc
        by (Some t) is count other = record { proc = t; is = is; count = eqb-true (length args) t.params count; other = other }

  -- ---- a procedure is on the stack once

  -- each of some calls leads to a procedure
  abbrev pub AllReach : ℕ → List Frame → Type 0
  AllReach above [] = ⊤
  AllReach above (g ∷ rest) = Reaches p g.proc above × AllReach above rest

  -- none of some calls is of a procedure
  abbrev pub Outside : ℕ → List Frame → Type 0
  Outside owner [] = ⊤
  Outside owner (g ∷ rest) = (g.proc ≢ owner) × Outside owner rest

  -- a procedure that leads to a caller leads to the callee
  reaches-more : (from via to : ℕ) → Reaches p from via → calls p via to ≡ true → Reaches p from to
  reaches-more a b to (ByCall from via call) last = ByMore from via to call (ByCall via to last)
  reaches-more a b to (ByMore from next via call more) last = ByMore from next to call (reaches-more next via to more last)

  -- a fact of all values holds of one more
  all-more : (via to : ℕ) (rest : List Frame) → AllReach via rest → calls p via to ≡ true → AllReach to rest
  all-more via to [] all call = tt
  all-more via to (g ∷ rest) all call = (reaches-more g.proc via to all.0 call, all-more via to rest all.1 call)

  -- a value that passes is there
  any-at : (steps : List Step) (at callee : ℕ) (d : Option ℕ) (args : List Src) → slice_get steps at ≡ Some (Invoke d callee args)
      → list_any (calls_proc callee) steps ≡ true
  any-at [] at callee d args is = cc
  any-at (s ∷ steps) zero callee d args is =
      let same : s ≡ Invoke d callee args = cc in
      rw (same, eq-eqb callee callee refl) refl
  any-at (s ∷ steps) (suc at) callee d args is = or_right (calls_proc callee s) _ (any-at steps at callee d args is)

  -- a call that is there calls its procedure
  pub calls-there : (owner at callee : ℕ) (d : Option ℕ) (args : List Src) → step_at p owner at ≡ Some (Invoke d callee args) → calls p owner callee ≡ true
  calls-there owner at callee d args there = by (slice_get p.procs owner) there where
    by : (q : Option Proc) → option_map_or (λ q. slice_get q.steps at) q None ≡ Some (Invoke d callee args)
        → option_map_or (λ q. list_any (calls_proc callee) q.steps) q false ≡ true
    by None is = cc
    by (Some q) is = any-at q.steps at callee d args is

  module _ (blocks : List Block) (number : ℕ → ℕ → ℕ) where
    all-reach : (frame : List (ℕ × Kept)) (above : ℕ) (rest : List Frame) → Callers p blocks number frame above rest → AllReach above rest
    all-reach frame above [] callers = tt
    all-reach frame above (g ∷ rest) callers =
        let call = calls-there g.proc g.at above callers.0.d callers.0.args callers.0.call in
        (ByCall g.proc above call, all-more g.proc above rest (all-reach frame g.proc rest callers.2) call)

    outside-by : (above : ℕ) (rest : List Frame) → AllReach above rest → Outside above rest
    outside-by above [] all = tt
    outside-by above (g ∷ rest) all = (λ e. sound.acyclic above (subst (λ n. Reaches p n above) e all.0), outside-by above rest all.1)

    -- the calls below a procedure are of others
    pub outside : (frame : List (ℕ × Kept)) (above : ℕ) (rest : List Frame) → Callers p blocks number frame above rest → Outside above rest
    outside frame above rest callers = outside-by above rest (all-reach frame above rest callers)

    -- ---- slots of others

    module _ (owner : ℕ) (q : Proc) (is : slice_get p.procs owner ≡ Some q) (old new : List (ℕ × Kept)) (same : UntouchedFrame p owner old new) where
      -- a slot of another procedure is as it was
      other-slot : (other slot : ℕ) (t : Proc) → slice_get p.procs other ≡ Some t → other ≢ owner → InFrame p other slot → found slot new ≡ found slot old
      other-slot other slot t there ne inside = same slot (λ both. ne (one-frame p other owner slot t q there is inside both))

      caller-stays : (callee : ℕ) (g : Frame) → g.proc ≢ owner → IsCaller p blocks number old callee g → IsCaller p blocks number new callee g
      caller-stays callee g ne c = record {
        block = c.block;
        has = c.has;
        owned = c.owned;
        last = c.last;
        d = c.d;
        args = c.args;
        call = c.call;
        size = c.size;
        saved = λ x live other.
            let of_step = step_of p sound g.proc g.at (Invoke c.d callee c.args) c.call in
            let below = live-after-below g.proc x g.at live in
            ap plain (other-slot g.proc (var_slot p g.proc x) of_step.proc of_step.is ne (omega arith, omega (arith, below))) ∙ c.saved x live other;
      }

      back-stays : (g : ℕ) (t : Proc) (rest : List Frame) → slice_get p.procs g ≡ Some t → g ≢ owner → Callers p blocks number old g rest
          → KeepsBack p blocks number old g rest → KeepsBack p blocks number new g rest
      back-stays g t [] there ne callers back = tt
      back-stays g t (h ∷ rest) there ne callers back =
          let of_call = called h.proc h.at g callers.0.d callers.0.args callers.0.call in
          let two : own p g ≡ 2 = rw (ne_eqb g p.main of_call.other) refl in
          other-slot g (back_slot p g) t there ne (omega arith, omega (arith, two)) ∙ back

      -- so the calls below stay as they are
      pub callers-stay : (above : ℕ) (rest : List Frame) → Outside owner rest → Callers p blocks number old above rest → Callers p blocks number new above rest
      callers-stay above [] out callers = callers
      callers-stay above (g ∷ rest) out callers =
          let of_step = step_of p sound g.proc g.at (Invoke callers.0.d above callers.0.args) callers.0.call in (
            caller-stays above g out.0 callers.0,
            back-stays g.proc of_step.proc rest of_step.is out.0 callers.2 callers.1,
            callers-stay g.proc rest out.1 callers.2,
          )

-- What the code of lowering needs to know, from what is known of a program's blocks, homes and liveness.
use Rattle.std.proofs.Common.{◌≡◌, ◌<◌, ◌≤◌, ◌^◌, ◌&&◌, ℕ, Bool, true, List, Some, None, length, map, slice_get, slice_index, nat_lt, nat_le, refl, sym, ap, ◌∙◌, subst, arith}
use Rattle.std.specs.Option.{option_map_or}
use Rattle.std.specs.List.{list_all}
use Rattle.std.proofs.lemmas.Bool.{and_from, and_parts, lt-ltb, ltb-true}
use Rattle.std.proofs.lemmas.Bool.Decides.{nat_tests}
use Rattle.std.proofs.lemmas.Option.{slice_get_within}
use Rattle.tta_list.proofs.Lists.{all_one}
use Rattle.tta_lower.specs.Cited.{Step, Load, Take, Store, When, End, Proc, Program, IsProgram, IsProc, is_step, is_src, step_at}
use Rattle.tta_program.specs.declared.step.Step.TheVariants.{Copy, Apply, Put, If, Goto, Invoke, Return, Halt}
use Rattle.tta_program.specs.Rules.{is_call}
use Rattle.tta_lower.specs.declared.numbers.Numbers.{Numbers}
use Rattle.tta_flow.specs.Blocks as flows
use Rattle.tta_lower.specs.Liveness.{LoweringInput, Block, Has, IsFlow}
use Rattle.tta_lower.specs.Layout.{vars_of}
use Rattle.tta_lower.specs.Law.{IsKnown}
use Rattle.tta_lower.specs.Lower.{Part, Entry, Steps, Returned, parts, block_of}
use Rattle.tta_lower.specs.Tables.{fits, uses_below, StandOnce, HasNumbers, number_in}
use Rattle.tta_lower.specs.Laid.{IsSpan, IsPart, AreParts, block_by, test_of}
use Rattle.tta_lower.proofs.Steps.{StepOf, step_of}
use Rattle.tta_lower.proofs.Callers.{called, vars-are}
use Rattle.tta_lower.proofs.Lists.{has-in}
use Rattle.tta_lower.proofs.Shutting.{IsPartOf, parts-are}
use Rattle.tta_lower.proofs.Bridge.{is-flow}
use Rattle.tta_lower.proofs.SameBlocks.{are_blocks}
use Rattle.tta_lower.proofs.Weighing.{few-blocks}
use Rattle.tta_lower.proofs.Agreeing.{blocks-agree}
use Rattle.tta_lower.proofs.Unique.{stand-once}

-- ---- steps

-- the same tests in another order
and-turned : (a b c : Bool) → (a && b && c) ≡ true → (a && (b && c)) ≡ true
and-turned a b c is =
    let both = and_parts (a && b) c is in
    let two = and_parts a b both.0 in
    and_from a (b && c) two.0 (and_from b c two.1 both.1)

-- a step of a procedure with these variables that only goes on
uses-of : (p : Program) (q : Proc) (st : Step) → is_step p q st ≡ true → uses_below q.vars st ≡ true
uses-of p q (Copy d s) is = is
uses-of p q (Apply d op a b) is = and-turned (nat_lt d q.vars) (is_src q.vars a) (is_src q.vars b) is
uses-of p q (Load d a) is = is
uses-of p q (Take d) is = is
uses-of p q (Store a v) is = is
uses-of p q (Put v) is = is
uses-of p q (If rel a b to) is = refl
uses-of p q (Goto to) is = refl
uses-of p q (When rel a b d s) is =
    let one = and_parts (is_src q.vars a && is_src q.vars b && nat_lt d q.vars) (is_src q.vars s) is in
    let two = and_parts (is_src q.vars a && is_src q.vars b) (nat_lt d q.vars) one.0 in
    let three = and_parts (is_src q.vars a) (is_src q.vars b) two.0 in
    and_from (nat_lt d q.vars) _ two.1 (and_from (is_src q.vars a) _ three.0 (and_from (is_src q.vars b) (is_src q.vars s) three.1 one.1))
uses-of p q (Invoke d callee args) is = refl
uses-of p q (Return s) is = refl
uses-of p q Halt is = refl
uses-of p q End is = refl

-- a number that is at most another passes the test
le-test : (a b : ℕ) → a ≤ b → nat_le a b ≡ true
le-test a b e = grind (arith, nat_tests)

module _ (p : Program) (sound : IsProgram p) where
  -- the steps of a program name variables and procedures that are there
  pub fits-all : (owner at : ℕ) (st : Step) → step_at p owner at ≡ Some st → fits p owner st ≡ true
  fits-all owner at st there = by st there of.rules where
    of : StepOf p owner st
    of = step_of p sound owner at st there

    q : Proc
    q = of.proc

    vars : vars_of p owner ≡ q.vars
    vars = vars-are p owner of.proc of.is

    by : (st : Step) → step_at p owner at ≡ Some st → is_step p q st ≡ true → fits p owner st ≡ true
    by (Invoke d callee args) there is =
        let call = called p sound owner at callee d args there in
        let rules = and_parts (option_map_or (λ x. nat_lt x q.vars) d true && list_all (is_src q.vars) args) (is_call p callee args) is in
        let srcs = (and_parts (option_map_or (λ x. nat_lt x q.vars) d true) (list_all (is_src q.vars) args) rules.0).1 in
        let of_callee = all_one (IsProc p) p.procs callee call.proc sound.procs call.is in
        let room = vars-are p callee call.proc call.is in
        let among = of_callee.among in
        and_from (list_all (is_src (vars_of p owner)) args) _ (rw vars srcs)
        (and_from (nat_lt callee (length p.procs)) _ (lt-ltb callee (length p.procs) (slice_get_within p.procs callee call.proc call.is))
        (le-test (length args) (vars_of p callee) (omega (arith, call.count, room, among))))
    by (Return (Some s)) there is = rw vars is
    by (Return None) there is = refl
    by (If rel a b to) there is = rw vars (and_parts (is_src q.vars a && is_src q.vars b) (nat_lt to (length q.steps)) is).0
    by (Copy d s) there is = rw vars (uses-of p q (Copy d s) is)
    by (Apply d op a b) there is = rw vars (uses-of p q (Apply d op a b) is)
    by (Load d a) there is = rw vars (uses-of p q (Load d a) is)
    by (Take d) there is = rw vars (uses-of p q (Take d) is)
    by (Store a v) there is = rw vars (uses-of p q (Store a v) is)
    by (Put v) there is = rw vars (uses-of p q (Put v) is)
    by (When rel a b d s) there is = rw vars (uses-of p q (When rel a b d s) is)
    by (Goto to) there is = refl
    by Halt there is = refl
    by End there is = refl

  -- the steps of a block are there
  span-in : (blocks : List Block) → IsFlow p blocks → (b : Block) → Has blocks b → IsSpan p b
  span-in blocks flow b has =
      let last = flow.last b has in
      let of = step_of p sound b.owner b.last last.st last.there in
      record {
        owner = slice_get_within p.procs b.owner of.proc of.is;
        ordered = flow.rises b has;
        within = λ q is. slice_get_within q.steps b.last last.st (sym (step-is b.owner b.last q is) ∙ last.there);
      } where
        step-is : (owner at : ℕ) (q : Proc) → slice_get p.procs owner ≡ Some q → step_at p owner at ≡ slice_get q.steps at
        step-is owner at q is = rw is refl

  -- the steps of a program's blocks are there
  pub span-is : (blocks : List Block) → flows.IsFlow p blocks → (b : Block) → Has blocks b → IsSpan p b
  span-is blocks flow = span-in blocks (is-flow p blocks (are_blocks p sound blocks flow))

  -- a number can count the procedures
  pub procs_few : length p.procs < 2 ^ 32
  procs_few = let lines = sound.lines in omega (arith, lines)

  module _ (homes : ℕ) (known : LoweringInput) (is_known : IsKnown p homes known) where
    part-of : (k : ℕ) (x : Part) → slice_get (parts p known.blocks known.first) k ≡ Some x → IsPartOf p known.blocks x
    part-of k x is = parts-are p known homes sound is_known.flow is_known.answers x (has-in (parts p known.blocks known.first) k x is)

    -- what the parts name is there
    pub are-parts : AreParts p (parts p known.blocks known.first)
    are-parts k x is = by x (part-of k x is) where
      by : (x : Part) → IsPartOf p known.blocks x → IsPart p x
      by (Entry owner) lt = lt
      by (Steps b) has = span-in known.blocks is_known.flow b has
      by (Returned b d callee) r =
          let call = called p sound b.owner b.last callee (Some d) r.args r.call in
          let of = step_of p sound b.owner b.last (Invoke (Some d) callee r.args) r.call in
          let vars = vars-are p b.owner of.proc of.is in
          let test : nat_lt d (of.proc).vars ≡ true =
          (and_parts (nat_lt d (of.proc).vars) (list_all (is_src (of.proc).vars) r.args) (and_parts _ (is_call p callee r.args) of.rules).0).0 in
          record {
            owner = slice_get_within p.procs b.owner of.proc of.is;
            called = slice_get_within p.procs callee call.proc call.is;
            other = call.other;
            within = omega (arith, vars, ltb-true d (of.proc).vars test);
          }

    -- blocks of steps and entries stand once among the parts
    pub parts-once : StandOnce (parts p known.blocks known.first)
    parts-once = stand-once p known.blocks known.first (is_known.answers).order (λ k b is. (span-in known.blocks is_known.flow b (part-of k (Steps b) is)).ordered)

    -- there are fewer parts than a number can count
    pub parts-few : length (parts p known.blocks known.first) < 2 ^ 32
    parts-few =
        let few = few-blocks p known homes sound is_known.flow is_known.answers in
        let lines = sound.lines in
        omega (arith, few, lines)

    -- the blocks of all parts are the register code
    pub code-is : (n : Numbers) (ps rs : List Part) → ps ≡ parts p known.blocks known.first → HasNumbers p ps n (length ps) → rs ≡ parts p known.blocks known.first
        → map (λ x. block_by p known.home (number_in n.rows.items) (slice_index n.entries.items) homes (test_of known.first known.after x) x) rs
        ≡ map (block_of p known homes) (parts p known.blocks known.first)
    code-is n ps rs are has same =
        ap (map (λ x. block_by p known.home (number_in n.rows.items) (slice_index n.entries.items) homes (test_of known.first known.after x) x)) same
        ∙ blocks-agree p known homes sound is_known.flow is_known.answers n (subst (λ l. HasNumbers p l n (length l)) are has)
        (parts p known.blocks known.first) (parts-are p known homes sound is_known.flow is_known.answers)

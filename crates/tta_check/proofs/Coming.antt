-- How a control move came to be under way: which instruction made it, and that a walk goes from there to its word.
use Rattle.std.proofs.Common.{◌≡◌, ℕ, zero, suc, ◌+◌, ◌≤◌, ◌<◌, Bool, true, false, List, Option, Some, None, refl, ap, sym, subst, ◌∙◌, arith}
use Rattle.std.specs.Prelude.{◌&&◌, ◌-◌, ◌≢◌, if◌then◌else◌, slice_get}
use Rattle.std.specs.Option.{option_map_or}
use Rattle.std.proofs.lemmas.Bool.{eq-eqb, and_from}
use Rattle.tta_check.specs.Cited.{Machine, Kind, Jumps, Calls, Halts, Target, Trigger, Control, Effect, Instruction, Code, effects_of}
use Rattle.tta_arch.specs.Effects.{Reg, Imm, Operand}
use Rattle.tta_check.specs.declared.values.ValueSet.{ValueSet}
use Rattle.tta_check.specs.declared.values.ValueSet.TheVariants.{Nothing, One, Two}
use Rattle.tta_check.specs.declared.state.AbstractState.{AbstractState}
use Rattle.tta_check.specs.declared.guard_value.GuardValue.{GuardValue}
use Rattle.tta_check.specs.declared.location.Location.{Location}
use Rattle.tta_check.specs.declared.visit.Successor.{Successor}
use Rattle.tta_check.specs.Walks.{Word, takes_address, control_to}
use Rattle.tta_check.specs.Verdict.{GoesTo, Disagree}
use Rattle.tta_check.specs.Facts.{Origin, Fixed, From, origin_of, gives}
use Rattle.tta_check.specs.Causes.{unknown}
use Rattle.tta_check.specs.ProgramPoints.{Under, ProgramPoint, leads, point_after, point_of, next_point}
use Rattle.tta_check.specs.States.{cell_of, tells, covers, tells_word}
use Rattle.tta_check.specs.Steps.{words_of}
use Rattle.tta_check.specs.Controls.{controller, does}
use Rattle.tta_check.specs.JumpTargets.{only_word, jump_target_of}
use Rattle.tta_check.specs.Going.{point_as}
use Rattle.tta_check.specs.Visits.{IsWay, GoesOn}
use Rattle.tta_check.specs.Tables.{same_kind, same_under, same_point, ago, place_at}
use Rattle.tta_check.proofs.Gives.{none_in}
use Rattle.tta_check.proofs.Table.{Single, none_of}
use Rattle.tta_check.proofs.Lone.{once_address}
use Rattle.tta_check.proofs.Going.{single_goes, two_goes}
use Rattle.tta_check.proofs.JumpTargets.{only_single}
use Rattle.tta_check.proofs.Visiting.{IsEntry, IsThere, controller_in, told_code, no_code_in, only_of, free_of}
use Rattle.tta_check.proofs.Placing.{place_parts}

-- an instruction that makes control do this, where a jump or call goes to its word
pub record Mover (m : Machine) (code : Code) (from : ℕ) (c : Kind × ℕ) : Type 0 where
  pub by : Instruction
  pub there : slice_get code.words from ≡ Some by
  pub move : Effect
  pub control : controller (effects_of m by) ≡ Some move
  pub word : Word
  pub does : control_to word move.target ≡ Some c
  pub goes : takes_address move.target ≡ true → GoesTo m code from c.1

-- a control move under way was made so many cycles ago
pub record Made (m : Machine) (code : Code) (address : ℕ) (u : Under) : Type 0 where
  pub from : ℕ
  pub mover : Mover m code from (u.kind, u.word)
  pub when : from + m.control.delay ≡ address + u.left
  pub soon : u.left < m.control.delay

abbrev pub CameBy : Machine → Code → (address : ℕ) → Option Under → Type 0
CameBy m code address None = Unit {0}
CameBy m code address (Some u) = Made m code address u

-- the control move that is under way where walks stand, if any, was made so
abbrev pub Came : Machine → Code → ProgramPoint → Type 0
Came m code k = CameBy m code k.address k.under

-- ---- it is handed on

same_some : (j k : ProgramPoint) → Some j ≡ Some k → j ≡ k
same_some j k e = cc

point_came : (m : Machine) (code : Code) (address from left : ℕ) (kind : Kind) (word : ℕ) → Mover m code from (kind, word) → from + m.control.delay ≡ address + left → left ≤ m.control.delay
    → (k : ProgramPoint) → point_after address left kind word ≡ Some k → Came m code k
point_came m code address from zero kind word mover when most k h = on kind h where
  on : (d : Kind) → leads d word ≡ Some k → Came m code k
  on Jumps h = subst (Came m code) (same_some _ k h) tt
  on Calls h = subst (Came m code) (same_some _ k h) tt
  on Halts h = absurd cc
point_came m code address from (suc left) kind word mover when most k h =
    subst (Came m code) (same_some _ k h) (record { from = from; mover = mover; when = (let e : from + m.control.delay ≡ address + 1 + left = omega arith in e); soon = (let e : left < m.control.delay = omega arith in e) })

pub came_on : (m : Machine) (code : Code) (k k' : ProgramPoint) (c : Option (Kind × ℕ)) → Came m code k → ((d : Kind × ℕ) → c ≡ Some d → Mover m code k.address d) → next_point m k c ≡ Some k' → Came m code k'
came_on m code k k' None came mover h = on k.under came h where
  on : (u : Option Under) → CameBy m code k.address u → point_of k.address u ≡ Some k' → Came m code k'
  on None came h = subst (Came m code) (same_some _ k' h) tt
  on (Some u) came h = point_came m code k.address came.from u.left u.kind u.word came.mover came.when (let e = came.soon in omega arith) k' h
came_on m code k k' (Some c) came mover h = point_came m code k.address k.address m.control.delay c.0 c.1 (mover c refl) refl (omega arith) k' h

-- ---- the control move of an instruction that goes on

-- a jump or call to a word that is not known is told
unknown_told : (r : AbstractState) (e : Effect) → takes_address e.target ≡ true → only_word (words_of r.cells.items (origin_of e.src)) ≡ Some None → option_map_or (tells r) (unknown e) false ≡ true
unknown_told r e takes h = ap (λ b. option_map_or (tells r) (if b then gives (origin_of e.src) None else None) false) takes ∙ on (origin_of e.src) h where
  fixed : (x : Word) → Some x ≡ Some None → option_map_or (tells r) (gives (Fixed x) None) false ≡ true
  fixed None h = refl
  fixed (Some y) h = absurd cc

  values : (h : ValueSet) → only_word h ≡ Some None → tells_word h None ≡ true
  values Nothing h = absurd cc
  values (One None) h = refl
  values (One (Some y)) h = absurd cc
  values (Two a b) h = absurd cc

  on : (o : Origin) → only_word (words_of r.cells.items o) ≡ Some None → option_map_or (tells r) (gives o None) false ≡ true
  on (Fixed x) h = fixed x h
  on (From q) h = values (cell_of r.cells.items q).values h

pub mover_of : (m : Machine) (code : Code) (locations : List Location) (i : Instruction) (at : Successor) (acts stays : Option Successor) → IsEntry m code locations at → IsThere m code locations i at → (g : GoesOn m i at acts stays)
    → (does_act : Bool) (c : Kind × ℕ) → does g.word (controller (effects_of m i)) does_act ≡ Some c → Mover m code at.point.address c
mover_of m code locations i at acts stays entry t g does_act c h = on (controller (effects_of m i)) refl does_act h where
  es : List Effect
  es = effects_of m i

  known : (e : Effect) → controller es ≡ Some e → takes_address e.target ≡ true → g.word ≡ None → false ≡ true
  known e is takes none =
      sym (none_in (λ x. option_map_or (tells at.state) (unknown x) false) es e (controller_in es e is)
      (none_of (tells at.state) m _ es (told_code m i at ∙ no_code_in m i at g.no_end)).unknowns)
      ∙ unknown_told at.state e takes
      (sym (ap (λ b. if b then only_word (words_of at.state.cells.items (origin_of e.src)) else Some None) takes) ∙ sym (ap (jump_target_of at.state.cells.items) is) ∙ g.jump_target ∙ ap Some none)

  word_is : (v : ℕ) (x : Target) → takes_address x ≡ true → control_to (Some v) x ≡ Some c → v ≡ c.1
  word_is v (Control Jumps) takes h = cc
  word_is v (Control Calls) takes h = cc
  word_is v (Control Halts) takes h = absurd cc
  word_is v (Reg f i) takes h = absurd cc
  word_is v (Imm u i) takes h = absurd cc
  word_is v (Operand u) takes h = absurd cc
  word_is v (Trigger u o) takes h = absurd cc

  goes : (e : Effect) → controller es ≡ Some e → (w : Word) → g.word ≡ w → control_to w e.target ≡ Some c → takes_address e.target ≡ true → GoesTo m code at.point.address c.1
  goes e is None word does takes = absurd (let f = known e is takes word in cc)
  goes e is (Some v) word does takes =
      subst (GoesTo m code at.point.address) (word_is v e.target takes does)
      (single_goes (covers at.state) (tells at.state) m code (point_as at.point) i entry.witnessed refl t.there (free_of m i at acts stays t.legal g) v
      (subst (λ w. Single (covers at.state) es w) word (only_single at.state es g.word (only_of m i at acts stays t.legal g)))
      (once_address m i t.legal) e (controller_in es e is) takes)

  on : (o : Option Effect) → controller es ≡ o → (b : Bool) → does g.word o b ≡ Some c → Mover m code at.point.address c
  on None is b h = absurd cc
  on (Some e) is false h = absurd cc
  on (Some e) is true h = record { by = i; there = t.there; move = e; control = is; word = g.word; does = h; goes = goes e is g.word refl h }

-- where walks go on the control move that is under way was made so
pub way_came : (m : Machine) (code : Code) (locations : List Location) (i : Instruction) (at x : Successor) (acts stays : Option Successor) (guard_value : Option GuardValue) (does_act : Bool) → IsEntry m code locations at → IsThere m code locations i at
    → (g : GoesOn m i at acts stays) → IsWay m i at guard_value (does g.word (controller (effects_of m i)) does_act) (Some x) → Came m code (point_as at.point) → Came m code (point_as x.point)
way_came m code locations i at x acts stays guard_value does_act entry t g way came =
    came_on m code (point_as at.point) (point_as x.point) (does g.word (controller (effects_of m i)) does_act) came (mover_of m code locations i at acts stays entry t g does_act) (sym way.point)

-- ---- two at one place

pub same_kind_self : (d : Kind) → same_kind d d ≡ true
same_kind_self Jumps = refl
same_kind_self Calls = refl
same_kind_self Halts = refl

under_alike : (u v : Under) → u.left ≡ v.left → u.kind ≡ v.kind → u.word ≡ v.word → same_under (Some u) (Some v) ≡ true
under_alike u v left kind word =
    and_from _ _ (eq-eqb _ _ left) (and_from _ _ (ap (same_kind u.kind) (sym kind) ∙ same_kind_self u.kind) (eq-eqb _ _ word))

kinds_alike : (x : Target) (v w : Word) (c d : Kind × ℕ) → control_to v x ≡ Some c → control_to w x ≡ Some d → (c.0 ≡ d.0) × (takes_address x ≡ false → c.1 ≡ d.1)
kinds_alike (Control Jumps) v w c d h k = (cc, λ e. absurd cc)
kinds_alike (Control Calls) v w c d h k = (cc, λ e. absurd cc)
kinds_alike (Control Halts) v w c d h k = (cc, λ e. cc)
kinds_alike (Reg f i) v w c d h k = absurd cc
kinds_alike (Imm u i) v w c d h k = absurd cc
kinds_alike (Operand u) v w c d h k = absurd cc
kinds_alike (Trigger u o) v w c d h k = absurd cc

-- two control moves of one instruction that are under way differ in their words, and walks go to both
movers_differ : (m : Machine) (code : Code) (from : ℕ) (u v : Under) → Mover m code from (u.kind, u.word) → Mover m code from (v.kind, v.word) → u.left ≡ v.left → same_under (Some u) (Some v) ≡ false → Disagree m code from
movers_differ m code from u v a b left differs = on (takes_address a.move.target) refl where
  by_is : a.by ≡ b.by
  by_is = let e = sym a.there ∙ b.there in cc

  move_is : a.move ≡ b.move
  move_is = let e = sym a.control ∙ ap (λ i. controller (effects_of m i)) by_is ∙ b.control in cc

  alike : (u.kind ≡ v.kind) × (takes_address a.move.target ≡ false → u.word ≡ v.word)
  alike = kinds_alike a.move.target a.word b.word _ _ a.does (ap (λ e. control_to b.word e.target) move_is ∙ b.does)

  different : u.word ≢ v.word
  different e = let f = under_alike u v left alike.0 e in let g = differs in cc

  on : (t : Bool) → takes_address a.move.target ≡ t → Disagree m code from
  on true takes = two_goes m code from u.word v.word different (a.goes takes) (b.goes (ap (λ e. takes_address e.target) (sym move_is) ∙ takes))
  on false takes = absurd (different (alike.1 takes))

pub two_made : (m : Machine) (code : Code) (j k : ProgramPoint) → Came m code j → Came m code k → place_at m.control.delay j ≡ place_at m.control.delay k → same_point j k ≡ false
    → Disagree m code (k.address - ago m.control.delay k.under)
two_made m code j k came_j came_k same differs =
    let p = place_parts m.control.delay j.address k.address j.under k.under same in
    on j.under k.under came_j came_k p.0 p.1 (sym (ap (λ b. b && same_under j.under k.under) (eq-eqb _ _ p.0)) ∙ differs) where
      on : (u v : Option Under) → CameBy m code j.address u → CameBy m code k.address v → j.address ≡ k.address → ago m.control.delay u ≡ ago m.control.delay v → same_under u v ≡ false
          → Disagree m code (k.address - ago m.control.delay v)
      on None None a b e f h = absurd cc
      on None (Some v) a b e f h = absurd (let s = b.soon in omega arith)
      on (Some u) None a b e f h = absurd (let s = a.soon in omega arith)
      on (Some u) (Some v) a b e f h =
          let s = a.soon in
          let r = b.soon in
          let x = a.when in
          let y = b.when in
          let left : u.left ≡ v.left = omega arith in
          let from : a.from ≡ b.from = omega arith in
          let at : b.from ≡ k.address - (m.control.delay - v.left) = omega arith in
          subst (Disagree m code) at (movers_differ m code b.from u v (subst (λ n. Mover m code n (u.kind, u.word)) from a.mover) b.mover left h)

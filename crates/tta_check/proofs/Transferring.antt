-- An abstract state that is carried over an instruction, in each way that control can go there.
use Rattle.std.proofs.Common.{◌≡◌, ℕ, ◌+◌, Bool, true, false, List, [], ◌∷◌, Option, Some, None, refl, ap, sym, ◌∙◌}
use Rattle.std.specs.Prelude.{◌||◌, is_some, if◌then◌else◌, slice_get}
use Rattle.std.specs.Option.{option_map_or}
use Rattle.std.specs.List.{AllByRecursion}
use Rattle.std.proofs.lemmas.Bool.{and_from}
use Rattle.tta_check.specs.Cited.{GuardRef, Source, UnitOp, Machine, IsMachine, Target, Trigger, Control, Effect, KeptOperand, has_result, op_at, Instruction, Code, effects_of, first_fault, is_legal}
use Rattle.tta_arch.specs.declared.ends.Source.TheVariants as source
use Rattle.tta_arch.specs.Effects.{Reg, Imm, Operand}
use Rattle.tta_check.specs.declared.values.ValueSet.{ValueSet}
use Rattle.tta_check.specs.declared.values.ValueSet.TheVariants.{Nothing, One, Two}
use Rattle.tta_check.specs.declared.state.AbstractState.{AbstractState}
use Rattle.tta_check.specs.declared.guard_value.GuardValue.{GuardValue}
use Rattle.tta_check.specs.declared.transfer_function.Transfer.{Transfer}
use Rattle.tta_check.specs.Walks.{Choice, Word, takes_address}
use Rattle.tta_check.specs.Facts.{Fact, Here, Unset, Late, same_word, Origin, Fixed, From, origin_of, gives, before}
use Rattle.tta_check.specs.Causes.{unset_guard, unset_source, unset_port, wants, is_given, unset_operand, clash, delayed, unknown, any_of, code_by}
use Rattle.tta_check.specs.ProgramPoints.{ProgramPoint, next_point}
use Rattle.tta_check.specs.States.{cell_of, tells_word, covers_word, tells, covers}
use Rattle.tta_check.specs.Steps.{lets_by, agrees}
use Rattle.tta_check.specs.Transfers.{IsAfter}
use Rattle.tta_check.specs.Controls.{controller, does, settles, is_settled}
use Rattle.tta_check.proofs.Table.{Single, LeadsOn}
use Rattle.tta_check.proofs.Witnessed.{Witnessed, next_witnessed, any_alike, guards_alike, sources_alike}
use Rattle.tta_check.proofs.AfterState.{after_covers, after_tells}
use Rattle.tta_check.proofs.Events.{event_does, once_control}
use Rattle.tta_check.proofs.Legal.{are_lone}
use Rattle.tta_check.proofs.May.{is_same_self as same_self}
use Rattle.tta_arch.proofs.Guards.{same_guard_itself as guard_self}

-- ---- the next abstract state has its walks

-- an instruction with the way that control goes: a settled guard, whether the control move acts, the word of a jump or call, and where
-- walks go on then
pub record Goes (m : Machine) (code : Code) (k : ProgramPoint) (i : Instruction) (how : Transfer) (acts : Bool) (word : Word) (k' : ProgramPoint) : Type 0 where
  pub there : slice_get code.words k.address ≡ Some i
  pub legal : is_legal m i ≡ true
  pub back : how.back ≡ k.address + 1 + m.control.delay
  pub settled : is_settled (controller (effects_of m i)) how.settled acts ≡ true
  pub leads : next_point m k (does word (controller (effects_of m i)) acts) ≡ Some k'

pub transfer_witnessed : (m : Machine) (code : Code) (k k' : ProgramPoint) (i : Instruction) (how : Transfer) (acts : Bool) (word : Word) (old new : AbstractState) → IsMachine m → Goes m code k i how acts word k'
    → Witnessed (covers old) (tells old) m code k → code_by (covers old) m (is_some k.under) (effects_of m i) ≡ None → Single (covers old) (effects_of m i) word
    → IsAfter m how (effects_of m i) old new → Witnessed (covers new) (tells new) m code k'
transfer_witnessed m code k k' i how acts word old new rules g good free single is =
    let es = effects_of m i in
    let alone = are_lone m i rules g.legal in
    next_witnessed (λ c. agrees c how.settled) (covers old) (tells old) (covers new) (tells new) m code k k' i word good g.there free single
    (λ c a. ap (next_point m k) (event_does word c es how.settled acts (once_control m i g.legal) g.settled a) ∙ g.leads)
    (λ c a f' f b. after_covers m how es old new alone is c a f' f (ap (λ n. before m n c es f') g.back ∙ b))
    (λ f' t. let x = after_tells m how es old new alone is f' t in (x.0, x.1, x.2, ap (λ n. before m n x.0 es f') (sym g.back) ∙ x.3, x.4))

-- ---- every choice goes one of the ways

-- a way that a choice goes
pub record Way (choice : Choice) (o : Option Effect) : Type 0 where
  pub guard_value : Option GuardValue
  pub acts : Bool
  pub settled : is_settled o guard_value acts ≡ true
  pub agrees : agrees choice guard_value ≡ true

pub way_of : (choice : Choice) (o : Option Effect) → Way choice o
way_of choice None = record { guard_value = None; acts = false; settled = refl; agrees = refl }
way_of choice (Some e) = on e.guard refl where
  on : (g : Option GuardRef) → e.guard ≡ g → Way choice (Some e)
  on None is = record { guard_value = None; acts = true; settled = ap (λ h. settles h None true) is; agrees = refl }
  on (Some g) is = record {
    guard_value = Some (record { guard = g; acts = lets_by choice (Some g) });
    acts = lets_by choice (Some g);
    settled = ap (λ h. settles h (Some (record { guard = g; acts = lets_by choice (Some g) })) (lets_by choice (Some g))) is
        ∙ and_from _ _ (guard_self g) (same_self (lets_by choice (Some g)));
    agrees = same_self (lets_by choice (Some g));
  }

-- an abstract state of a table leads on, where each way that control can go leads to an abstract state that admits what comes
pub leads_on : (state_at : ProgramPoint → Option AbstractState) (m : Machine) (code : Code) (k : ProgramPoint) (r : AbstractState) (i : Instruction) (word : Word) → IsMachine m → is_legal m i ≡ true → slice_get code.words k.address ≡ Some i
    → code_by (covers r) m (is_some k.under) (effects_of m i) ≡ None → Single (covers r) (effects_of m i) word
    → ((guard_value : Option GuardValue) (acts : Bool) (k' : ProgramPoint) → is_settled (controller (effects_of m i)) guard_value acts ≡ true → next_point m k (does word (controller (effects_of m i)) acts) ≡ Some k'
    → (new : AbstractState) × (r' : AbstractState) × (how : Transfer) × (how.back ≡ k.address + 1 + m.control.delay) × (how.settled ≡ guard_value) × IsAfter m how (effects_of m i) r new × (state_at k' ≡ Some r') × ((f : Fact) → covers new f ≡ true → covers r' f ≡ true))
    → LeadsOn covers state_at m code k r
leads_on state_at m code k r i word rules legal there free single ways = record {
  by = i;
  there = there;
  free = free;
  word = word;
  single = single;
  leads = λ choice k' to.
      let es = effects_of m i in
      let w = way_of choice (controller es) in
      let x = ways w.guard_value w.acts k' w.settled (ap (next_point m k) (sym (event_does word choice es w.guard_value w.acts (once_control m i legal) w.settled w.agrees)) ∙ to) in
      let how = x.2 in
      (x.1, x.6, λ f' f b h. x.7 f' (after_covers m how es r x.0 (are_lone m i rules legal) x.5 choice (ap (agrees choice) x.4 ∙ w.agrees) f' f (ap (λ n. before m n choice es f') x.3 ∙ b) h));
}

-- ---- both readings of an abstract state give one code, where a jump or call has one word

-- whether words are none or one
abbrev pub not_two : ValueSet → Bool
not_two Nothing = true
not_two (One a) = true
not_two (Two a b) = false

one_alike : (h : ValueSet) (x : Word) → not_two h ≡ true → tells_word h x ≡ covers_word h x
one_alike Nothing x is = refl
one_alike (One a) x is = refl
one_alike (Two a b) x is = absurd cc

-- whether an origin has one word at most
abbrev pub not_two_from : AbstractState → Origin → Bool
not_two_from r (Fixed x) = true
not_two_from r (From q) = not_two (cell_of r.cells.items q).values

gives_alike : (r : AbstractState) (o : Origin) (x : Word) → not_two_from r o ≡ true → option_map_or (tells r) (gives o x) false ≡ option_map_or (covers r) (gives o x) false
gives_alike r (Fixed y) x is = on (same_word x y) where
  on : (b : Bool) → option_map_or (tells r) (if b then Some Here else None) false ≡ option_map_or (covers r) (if b then Some Here else None) false
  on true = refl
  on false = refl
gives_alike r (From q) x is = one_alike (cell_of r.cells.items q).values x is

-- each jump or call has one word at most
abbrev pub AreSingle : AbstractState → List Effect → Type 0
AreSingle r es = AllByRecursion (λ e. takes_address e.target ≡ true → not_two_from r (origin_of e.src) ≡ true) es

unknown_alike : (r : AbstractState) (es : List Effect) → AreSingle r es → any_of (tells r) unknown es ≡ any_of (covers r) unknown es
unknown_alike r [] one = refl
unknown_alike r (e ∷ es) one = ap (λ b. b || any_of (tells r) unknown es) (on (takes_address e.target) refl) ∙ ap (λ b. option_map_or (covers r) (unknown e) false || b) (unknown_alike r es one.1) where
  on : (b : Bool) → takes_address e.target ≡ b → option_map_or (tells r) (if b then gives (origin_of e.src) None else None) false ≡ option_map_or (covers r) (if b then gives (origin_of e.src) None else None) false
  on true is = gives_alike r (origin_of e.src) None (one.0 is)
  on false is = refl

port_alike : (r : AbstractState) (e : Effect) → option_map_or (tells r) (unset_port e) false ≡ option_map_or (covers r) (unset_port e) false
port_alike r e = on e.src where
  on : (s : Source) → option_map_or (tells r) (unset_port (record { guard = e.guard; src = s; target = e.target })) false ≡ option_map_or (covers r) (unset_port (record { guard = e.guard; src = s; target = e.target })) false
  on (source.Reg f i) = refl
  on (source.Imm u i) = refl
  on (source.Shown u) = refl
  on source.Ra = refl
  on (source.Value w) = refl

operand_alike : (r : AbstractState) (m : Machine) (es : List Effect) (e : Effect) → option_map_or (tells r) (unset_operand m es e) false ≡ option_map_or (covers r) (unset_operand m es e) false
operand_alike r m es e = on (wants m e.target) where
  by : (u : ℕ) (b : Bool) → option_map_or (tells r) (if b then None else Some (Unset (KeptOperand u))) false ≡ option_map_or (covers r) (if b then None else Some (Unset (KeptOperand u))) false
  by u true = refl
  by u false = refl

  on : (o : Option ℕ) → option_map_or (tells r) (option_map_or (λ u. if is_given es e u then None else Some (Unset (KeptOperand u))) o None) false ≡ option_map_or (covers r) (option_map_or (λ u. if is_given es e u then None else Some (Unset (KeptOperand u))) o None) false
  on None = refl
  on (Some u) = by u (is_given es e u)

clash_alike : (r : AbstractState) (m : Machine) (e : Effect) → option_map_or (tells r) (clash m e) false ≡ option_map_or (covers r) (clash m e) false
clash_alike r m e = on e.target where
  by : (u : ℕ) (o : UnitOp) (b : Bool) → option_map_or (tells r) (if b then Some (Late u o.latency) else None) false ≡ option_map_or (covers r) (if b then Some (Late u o.latency) else None) false
  by u o true = refl
  by u o false = refl

  at : (u : ℕ) (o : Option UnitOp) → option_map_or (tells r) (option_map_or (λ x. if has_result x.op then Some (Late u x.latency) else None) o None) false ≡ option_map_or (covers r) (option_map_or (λ x. if has_result x.op then Some (Late u x.latency) else None) o None) false
  at u None = refl
  at u (Some x) = by u x (has_result x.op)

  on : (t : Target) → option_map_or (tells r) (clash m (record { guard = e.guard; src = e.src; target = t })) false ≡ option_map_or (covers r) (clash m (record { guard = e.guard; src = e.src; target = t })) false
  on (Reg f i) = refl
  on (Imm u i) = refl
  on (Operand u) = refl
  on (Control k) = refl
  on (Trigger u op) = at u (op_at m u op)

delay_alike : (r : AbstractState) (pending : Bool) (e : Effect) → option_map_or (tells r) (delayed pending e) false ≡ option_map_or (covers r) (delayed pending e) false
delay_alike r pending e = on e.target where
  by : (b : Bool) → option_map_or (tells r) (if b then Some Here else None) false ≡ option_map_or (covers r) (if b then Some Here else None) false
  by true = refl
  by false = refl

  on : (t : Target) → option_map_or (tells r) (delayed pending (record { guard = e.guard; src = e.src; target = t })) false ≡ option_map_or (covers r) (delayed pending (record { guard = e.guard; src = e.src; target = t })) false
  on (Reg f i) = refl
  on (Imm u i) = refl
  on (Operand u) = refl
  on (Trigger u op) = refl
  on (Control k) = by pending

-- no code by what is told is no code by what is admitted
pub code_alike : (r : AbstractState) (m : Machine) (pending : Bool) (es : List Effect) → AreSingle r es → code_by (tells r) m pending es ≡ code_by (covers r) m pending es
unfolding code_by
code_alike r m pending es one =
    let a = any_alike (covers r) (tells r) unset_guard (guards_alike (covers r) (tells r) (λ p. refl)) es in
    let b = any_alike (covers r) (tells r) unset_source (sources_alike (covers r) (tells r) (λ p. refl)) es in
    let c = any_alike (covers r) (tells r) unset_port (port_alike r) es in
    let d = any_alike (covers r) (tells r) (unset_operand m es) (operand_alike r m es) es in
    let e = any_alike (covers r) (tells r) (clash m) (clash_alike r m) es in
    let f = any_alike (covers r) (tells r) (delayed pending) (delay_alike r pending) es in
    let g = unknown_alike r es one in
    firsts a b c d e f g where
      firsts : {a b c d e f g a' b' c' d' e' f' g' : Bool} → a ≡ a' → b ≡ b' → c ≡ c' → d ≡ d' → e ≡ e' → f ≡ f' → g ≡ g'
          → first_fault ((a, 60) ∷ (b, 60) ∷ (c, 61) ∷ (d, 62) ∷ (e, 63) ∷ (f, 64) ∷ (g, 80) ∷ []) ≡ first_fault ((a', 60) ∷ (b', 60) ∷ (c', 61) ∷ (d', 62) ∷ (e', 63) ∷ (f', 64) ∷ (g', 80) ∷ [])
      firsts p q r s t u v = cc

-- What a turn of one core comes to.
use Rattle.std.proofs.Common.{◌≡◌, ℕ, ◌+◌, ◌-◌, ◌&&◌, Bool, true, false, List, [], ◌∷◌, length, Option, refl, sym, ap, subst, ◌∙◌, arith}
use Rattle.std.specs.Prelude.{if◌then◌else◌, is_none}
use Rattle.tta_net.specs.Cited.{IsFed, left, Units, Machine, Code, State, Outcome, Running, Halted, Waiting, Fault, next_of, next, Rings, Results, units_of, HeldState, StandsWith, is_fault, Core, NetworkCore, stepped, is_waiting}
use Rattle.tta_kahn.proofs.Outcomes.{changes}
use Rattle.tta_net.specs.declared.member.Member.{Member}
use Rattle.tta_net.specs.declared.step_result.StepResult.TheVariants as turn
use Rattle.tta_net.specs.Members.{StandsAs, alone, turn_told, turn_of}

-- a run stands for a state whatever the rest of its input is
pub stands_fed : (r : Results) (h : HeldState) (s : State) (words : List ℕ) → StandsWith r h s → StandsWith r h (record s { rest = words })
stands_fed r h s words stands = record {
  places = stands.places;
  results = stands.results;
  memory = stands.memory;
  frame = stands.frame;
  pc = stands.pc;
  cycle = stands.cycle;
  pending = stands.pending;
  outcome = stands.outcome;
}

-- how many words were taken
taken_one : (input : List ℕ) (word : Option ℕ) (took : Bool) → IsFed input word → (took && is_none word) ≡ false
    → length input - length (left took input) ≡ (if took then 1 else 0)
taken_one input word false fed there = omega arith
taken_one [] word true fed there = absurd (let odd : true ≡ false = ap is_none fed ∙ there in cc)
taken_one (x ∷ input) word true fed there = omega arith

-- a state that is over stays
over_same : (u : Units) (m : Machine) (code : Code) (s : State) (o : Outcome) → s.outcome ≡ o → (next_of u m code s o ≡ s) → next u m code s ≡ s
unfolding next
over_same u m code s o e same = ap (next_of u m code s) e ∙ same

module _ (u : Units) (core : Core) (c : NetworkCore State) (input : List ℕ) where
  -- the state in which the cycle begins, and the next
  abbrev pub fed : State
  fed = record c.state { rest = input }

  abbrev pub after : State
  after = next u core.machine core.code fed

  -- a cycle that waits leaves the core as it was
  pub stays_as : (region : Rings) (m : Member) → is_waiting after.outcome ≡ true → StandsAs region core m c → StandsAs region core m (stepped (alone u core) 0 input c)
  stays_as region m waits stands =
      subst (λ (b : Bool). StandsAs region core m (if b then c else record { state = record after { rest = [] }; taken = c.taken + (length input - length after.rest) })) (sym waits) stands

  -- any other leaves the next state
  pub goes_as : (region : Rings) (m : Member) → is_waiting after.outcome ≡ false → StandsWith (units_of m.base core.machine region) m.state after
      → m.output.words ≡ after.output → m.taken ≡ c.taken + (length input - length after.rest) → StandsAs region core m (stepped (alone u core) 0 input c)
  goes_as region m goes stands output taken =
      subst (λ (b : Bool). StandsAs region core m (if b then c else record { state = record after { rest = [] }; taken = c.taken + (length input - length after.rest) })) (sym goes)
      (record { stands = stands_fed (units_of m.base core.machine region) m.state after [] stands; output = output; taken = taken })

  -- a cycle that was made and counted does not wait
  pub counts : after.cycle ≡ fed.cycle + 1 → is_waiting after.outcome ≡ false
  counts one = by (is_waiting after.outcome) refl where
    by : (b : Bool) → is_waiting after.outcome ≡ b → b ≡ false
    by false e = refl
    by true e =
        let same : after.cycle ≡ fed.cycle = ap (λ t. t.cycle) ((changes u core.machine core.code fed).waits e) in
        absurd (omega (arith, one, same))

  -- a core that has halted stays
  pub halted_same : c.state.outcome ≡ Halted → after ≡ fed
  halted_same is = over_same u core.machine core.code fed Halted is refl

  pub halted_goes : c.state.outcome ≡ Halted → is_waiting after.outcome ≡ false
  halted_goes is = ap (λ t. is_waiting t.outcome) (halted_same is) ∙ ap is_waiting is

  pub fault_goes : (number at : ℕ) → after.outcome ≡ Fault number at → is_waiting after.outcome ≡ false
  fault_goes number at is = ap is_waiting is

  -- what it has taken where nothing was
  pub none_taken : (rest : List ℕ) → rest ≡ input → (taken : ℕ) → taken ≡ c.taken → taken ≡ c.taken + (length input - length rest)
  none_taken rest same taken is = let count : length rest ≡ length input = ap length same in omega arith

  -- and where a word was
  pub one_taken : (word : Option ℕ) (took : Bool) → IsFed input word → (took && is_none word) ≡ false → after.rest ≡ left took input → (taken : ℕ)
      → taken ≡ c.taken → taken + (if took then 1 else 0) ≡ c.taken + (length input - length after.rest)
  one_taken word took fed there rest taken is =
      let count : length input - length after.rest ≡ (if took then 1 else 0) =
      ap (λ (l : List ℕ). length input - length l) rest ∙ taken_one input word took fed there in
      omega arith

  -- ---- answers

  pub answers_ran : c.state.outcome ≡ Running → is_fault after.outcome ≡ false → is_waiting after.outcome ≡ false → turn.Ran ≡ turn_of c.state after
  answers_ran running sound goes = by after.outcome sound goes ∙ ap (λ (o : Outcome). turn_told o after.outcome) (sym running) where
    by : (o : Outcome) → is_fault o ≡ false → is_waiting o ≡ false → turn.Ran ≡ turn_told Running o
    by Running sound goes = refl
    by Halted sound goes = refl
    by Waiting sound goes = absurd (let odd : true ≡ false = goes in cc)
    by (Fault number at) sound goes = absurd (let odd : true ≡ false = sound in cc)

  pub answers_halted : c.state.outcome ≡ Halted → turn.Halted ≡ turn_of c.state after
  answers_halted is = ap (λ (o : Outcome). turn_told o after.outcome) (sym is)

  pub answers_waiting : c.state.outcome ≡ Running → after ≡ record fed { outcome = Waiting } → turn.Waiting ≡ turn_of c.state after
  answers_waiting running is =
      ap (λ (t : State). turn_told Running t.outcome) (sym is) ∙ ap (λ (o : Outcome). turn_told o after.outcome) (sym running)

  pub answers_fault : (number at : ℕ) → after.outcome ≡ Fault number at → turn.Fault number ≡ turn_of c.state after
  answers_fault number at is = by c.state.outcome refl where
    by : (o : Outcome) → c.state.outcome ≡ o → turn.Fault number ≡ turn_told o after.outcome
    by Running e = ap (turn_told Running) (sym is)
    by Halted e = absurd (let odd : Halted ≡ Fault number at = sym e ∙ sym (ap (λ t. t.outcome) (halted_same e)) ∙ is in cc)
    by Waiting e = absurd (let odd : Waiting ≡ Fault number at = sym e ∙ sym (ap (λ t. t.outcome) (over_same u core.machine core.code fed Waiting e refl)) ∙ is in cc)
    by (Fault k o) e =
        let same : Fault k o ≡ Fault number at = sym e ∙ sym (ap (λ t. t.outcome) (over_same u core.machine core.code fed (Fault k o) e refl)) ∙ is in
        let number_is : k ≡ number = cc in
        ap turn.Fault (sym number_is)

-- What a cycle makes of a state that runs.
use Rattle.std.proofs.Common.{◌≡◌, ℕ, suc, zero, ◌+◌, ◌==◌, Bool, true, false, if◌then◌else◌, List, [], ◌∷◌, ◌++◌, map, drop, length, Option, Some, None, option_to_list, not, append-nil, refl, sym, ap, ◌∙◌, subst, slice_get, true≢false, arith}
use Rattle.std.proofs.Math.Seq.{drop-append_seam}
use Rattle.std.specs.List.{filter_map}
use Rattle.tta_debug.specs.Cited.{Units, Machine, Kind, Jumps, Calls, Halts, control_of, first_some, bring, write_of, start_of, Code, Instruction, State, Outcome, Running, Halted, Waiting, Fault, Pending, next, next_of, carry_out, or_fault, or_wait, waits, acts, lands, takes_effect, pending_after, effects_of, read_source, fault_of, reply_text, left, Stands, Output, IsPut, IsCut}
use Rattle.tta_report.specs.declared.reply.Reply.TheVariants as reply
use Rattle.tta_debug.specs.Debugged.{Debugged, Said, texts, is_running, is_waiting, moved, puts, rests, saying, cycles}
use Rattle.tta_debug.specs.Sessions.{Session', IsOver, IsMade, word_text}

-- ---- how a cycle leaves the run

-- whether an outcome is that of a cycle that was carried out: the run goes on or has halted
abbrev is_made : Outcome → Bool
is_made Running = true
is_made Halted = true
is_made Waiting = false
is_made (Fault number at) = false

landed_made : (s : State) (o : Option Pending) → is_made s.outcome ≡ true → is_made (lands s o).outcome ≡ true
landed_made s None well = well
landed_made s (Some p) well = chosen (p.time == s.cycle) where
  took : (k : Kind) → is_made (takes_effect s (record p { kind = k })).outcome ≡ true
  took Jumps = well
  took Calls = well
  took Halts = refl

  chosen : (b : Bool) → is_made (if b then takes_effect s p else s).outcome ≡ true
  chosen true = took p.kind
  chosen false = well

-- a cycle that was not made changes the outcome alone
abbrev Only : State → State → Type 0
Only s t = is_made t.outcome ≡ false → t ≡ record s { outcome = t.outcome }

only_wait : (s t : State) (must : Bool) → is_made t.outcome ≡ true → Only s (or_wait s must t)
only_wait s t true made not_made = refl
only_wait s t false made not_made = absurd (true≢false (sym made ∙ not_made))

only_fault : (s t : State) (o : Option ℕ) → Only s t → Only s (or_fault s o t)
only_fault s t (Some number) only not_made = refl
only_fault s t None only not_made = only not_made

only : (u : Units) (m : Machine) (s : State) (o : Option Instruction) → Only s (carry_out u m s o)
only u m s None = λ not_made. refl
only u m s (Some i) =
    let effects = effects_of m i in
    let bs = filter_map (bring (read_source s)) effects in
    let written = filter_map (write_of m (s.pc + 1 + m.control.delay)) bs ++ s.written in
    let ts = filter_map (start_of m written) bs in
    only_fault s (or_wait s (waits s ts) (acts u m s bs ts written)) (fault_of s effects bs ts)
    (only_wait s (acts u m s bs ts written) (waits s ts) (landed_made _ (pending_after m s (first_some control_of bs)) refl))

-- a cycle that was not made changes the outcome alone
pub unmade : (u : Units) (m : Machine) (code : Code) (s : State) → is_made (next u m code s).outcome ≡ false
    → next u m code s ≡ record s { outcome = (next u m code s).outcome }
unfolding next
unmade u m code s not_made = of s s.outcome refl not_made where
  of : (s : State) (o : Outcome) → s.outcome ≡ o → is_made (next_of u m code s o).outcome ≡ false
      → next_of u m code s o ≡ record s { outcome = (next_of u m code s o).outcome }
  of s Running is not_made = only u m s (slice_get code.words s.pc) not_made
  of s Halted is not_made = refl
  of s Waiting is not_made = refl
  of s (Fault number at) is not_made = refl

-- a cycle that was counted does not wait
pub counted_goes : (u : Units) (m : Machine) (code : Code) (s : State) → (next u m code s).cycle ≡ s.cycle + 1
    → is_waiting (next u m code s).outcome ≡ false
counted_goes u m code s counted = of (next u m code s).outcome refl where
  of : (o : Outcome) → (next u m code s).outcome ≡ o → is_waiting o ≡ false
  of Running is = refl
  of Halted is = refl
  of (Fault number at) is = refl
  of Waiting is =
      let same : (next u m code s).cycle ≡ s.cycle = ap (λ t. t.cycle) (unmade u m code s (ap is_made is)) in
      absurd (omega arith)

-- ---- what it puts

-- a cycle that puts a word, or none
pub words_are : (d : Debugged) (t : State) (word : Option ℕ) → t.output ≡ d.state.output ++ option_to_list word
    → puts d t ≡ map (λ w. record { text = reply_text (reply.Out w); at = moved d t }) (option_to_list word)
words_are d t word is =
    ap (map (λ w. record { text = reply_text (reply.Out w); at = moved d t }))
    (ap (drop (length d.state.output)) is ∙ drop-append_seam d.state.output (option_to_list word))

-- their bytes
pub text_is : (d : Debugged) (t : State) (word : Option ℕ) → t.output ≡ d.state.output ++ option_to_list word
    → word_text word ≡ texts (puts d t)
text_is d t None is = sym (ap texts (words_are d t None is))
text_is d t (Some w) is = sym (ap texts (words_are d t (Some w) is) ∙ append-nil (reply_text (reply.Out w)))

-- the line of the word that a cycle puts
pub line_is : (d : Debugged) (t : State) (word : Option ℕ) (w : ℕ) → t.output ≡ d.state.output ++ option_to_list word → word ≡ Some w
    → puts d t ≡ record { text = reply_text (reply.Out w); at = moved d t } ∷ []
line_is d t word w is has = words_are d t word is ∙ ap (λ o. map (λ x. record { text = reply_text (reply.Out x); at = moved d t }) (option_to_list o)) has

-- a cycle that leaves the output puts nothing
pub nothing_put : (d : Debugged) (t : State) → t.output ≡ d.state.output → puts d t ≡ []
nothing_put d t is = words_are d t None (is ∙ sym (append-nil d.state.output))

-- ---- a run that is over

-- cycles from a state that is over
pub rest_there : (next : State → State) (stops : Debugged → Bool) (n : ℕ) (d : Debugged) → is_running d.state.outcome ≡ false
    → cycles next stops n d ≡ rests d false
rest_there next stops zero d over = refl
rest_there next stops (suc n) d over =
    let e = moved d (next d.state) in
    let on = if is_waiting e.state.outcome then rests d true else saying (puts d e.state) (if stops e then rests e false else cycles next stops n e) in
    ap (λ b. if not b then rests d false else on) over

-- a state that is its own next
pub stays_over : (next : State → State) (d : Debugged) → is_running d.state.outcome ≡ false → next d.state ≡ d.state
    → (stops : Debugged → Bool) (n : ℕ) → cycles next stops (suc n) d ≡ rests (moved d (next d.state)) false
stays_over next d over is stops n = rest_there next stops (suc n) d over ∙ ap (λ t. rests (moved d t) false) (sym is)

-- a cycle that comes to a fault
pub faults_over : (next : State → State) (d : Debugged) (number at : ℕ) → is_running d.state.outcome ≡ true
    → (next d.state).outcome ≡ Fault number at → (next d.state).output ≡ d.state.output
    → (stops : Debugged → Bool) (n : ℕ) → cycles next stops (suc n) d ≡ rests (moved d (next d.state)) false
faults_over next d number at runs faulty quiet stops n =
    let e = moved d (next d.state) in
    let then_on = if stops e then rests e false else cycles next stops n e in
    let on = if is_waiting e.state.outcome then rests d true else saying (puts d e.state) then_on in
    ap (λ b. if not b then rests d false else on) runs
    ∙ ap (λ o. if is_waiting o then rests d true else saying (puts d e.state) then_on) faulty
    ∙ ap (λ says. saying says then_on) (nothing_put d e.state quiet)
    ∙ by (stops e) where
      by : (b : Bool) → saying [] (if b then rests (moved d (next d.state)) false else cycles next stops n (moved d (next d.state))) ≡ rests (moved d (next d.state)) false
      by true = refl
      by false = ap (saying []) (rest_there next stops n (moved d (next d.state)) (ap is_running faulty))

-- a state that has halted, waits or has faulted is its own next
pub over_stays : (u : Units) (m : Machine) (code : Code) (s : State) → is_running s.outcome ≡ false → next u m code s ≡ s
unfolding next
over_stays u m code s over = of s s.outcome over where
  of : (s : State) (o : Outcome) → is_running o ≡ false → next_of u m code s o ≡ s
  of s Running over = absurd (true≢false over)
  of s Halted over = refl
  of s Waiting over = refl
  of s (Fault number at) over = refl

-- a session stands where the run is over, by a fault of this cycle or since earlier
pub over_by : (u : Units) (m : Machine) (code : Code) (input : List ℕ) (h : Session') (d : Debugged) → Stands h.held (next u m code d.state)
    → d.state.rest ≡ drop h.taken input → h.stops ≡ d.stops → (number at : ℕ) → (is_running d.state.outcome ≡ true → (next u m code d.state).outcome ≡ Fault number at)
    → IsOver input (next u m code) d h
over_by u m code input h d stands rest stops number at faults = of (is_running d.state.outcome) refl where
  of : (b : Bool) → is_running d.state.outcome ≡ b → IsOver input (next u m code) d h
  of false over =
      let is = over_stays u m code d.state over in
      record { follows = record { stands = stands; rest = ap (λ t. t.rest) is ∙ rest; stops = stops }; stays = stays_over (next u m code) d over is }
  of true runs =
      let is = unmade u m code d.state (ap is_made (faults runs)) in
      record {
        follows = record { stands = stands; rest = ap (λ t. t.rest) is ∙ rest; stops = stops };
        stays = faults_over (next u m code) d number at runs (faults runs) (ap (λ t. t.output) is);
      }

-- a session that has made a cycle
pub made_by : (u : Units) (m : Machine) (code : Code) (input : List ℕ) (h : Session') (d : Debugged) (took : Bool) (taken before : ℕ)
    → d.state.outcome ≡ Running → Stands h.held (next u m code d.state) → (next u m code d.state).rest ≡ left took d.state.rest
    → d.state.rest ≡ drop taken input → drop h.taken input ≡ left took (drop taken input) → h.stops ≡ d.stops
    → before ≡ d.state.cycle → h.held.cycle ≡ before + 1 → IsMade input (next u m code) d h
made_by u m code input h d took taken before runs stands rest was now stops is_before counted = record {
  runs = ap is_running runs;
  goes = counted_goes u m code d.state (sym stands.cycle ∙ counted ∙ ap (λ k. k + 1) is_before);
  follows = record { stands = stands; rest = rest ∙ ap (left took) was ∙ sym now; stops = stops };
}

-- a cycle whose word was put
pub on_by : (input : List ℕ) (next : State → State) (d : Debugged) (h : Session') (word : Option ℕ) (old new : Output)
    → IsMade input next d h → (next d.state).output ≡ d.state.output ++ option_to_list word → IsPut (word_text word) old new
    → IsMade input next d h × IsPut (texts (puts d (next d.state))) old new
on_by input next d h word old new made is put = (made, subst (λ t. IsPut t old new) (text_is d (next d.state) word is) put)

-- a cycle whose word's line was cut
pub cut_by : (input : List ℕ) (next : State → State) (d : Debugged) (h : Session') (word : Option ℕ) (old new : Output)
    → IsMade input next d h → (next d.state).output ≡ d.state.output ++ option_to_list word
    → (w : ℕ) × (word ≡ Some w) × IsCut (reply_text (reply.Out w)) old new
    → IsMade input next d h × ((line : Said) × (puts d (next d.state) ≡ line ∷ []) × (line.at ≡ moved d (next d.state)) × IsCut line.text old new)
cut_by input next d h word old new made is cut =
    let t = next d.state in
    (made, (record { text = reply_text (reply.Out cut.0); at = moved d t }, line_is d t word cut.0 is cut.1, refl, cut.2))

-- What a session holds, what it stands for, and what a command does to it and to the output.
use Rattle.std.specs.Prelude.{◌≡◌, ℕ, suc, Bool, true, false, List, [], ◌∷◌, ◌++◌, take, drop, Option, None, Some, Result, Ok, Err}
use Rattle.std.specs.Io.KnownBytes.{append_known}
use Rattle.tta_debug.specs.Cited.{Rose, Output, IsPut, IsCut, NothingOutput, Failed, reply_text, State, Held, Stands}
use Rattle.tta_report.specs.declared.reply.Reply.TheVariants as reply
use Rattle.tta_debug.specs.declared.told.Told.{Told}
use Rattle.tta_debug.specs.declared.told.Told.TheVariants.{More, Bye}
use Rattle.tta_debug.specs.declared.told.CommandError.{CommandError}
use Rattle.tta_debug.specs.declared.told.CommandError.TheVariants.{Refused, SinkFailed}
use Rattle.tta_debug.specs.declared.run.After.{After}
use Rattle.tta_debug.specs.declared.run.After.TheVariants.{On, Over, Waits}
use Rattle.tta_debug.specs.Debugged.{Debugged, Went, Said, Done, texts, is_running, is_waiting, moved, puts, cycles, rests}

-- the simulator, the breakpoints, and how many words of the input were taken
pub record Session' : Type 0 where
  pub held : Held
  pub stops : List ℕ
  pub taken : ℕ

-- a session over an input stands for a machine under the debugger
pub record Follows (input : List ℕ) (h : Session') (d : Debugged) : Type 0 where
  pub stands : Stands h.held d.state
  pub rest : d.state.rest ≡ drop h.taken input
  pub stops : h.stops ≡ d.stops

-- a command was carried out whole
pub record IsDone (input : List ℕ) (done : Done) (h : Session') (old new : Output) : Type 0 where
  pub follows : Follows input h done.after
  pub put : IsPut (texts done.says) old new

-- The put of a line has failed. The lines before it were put, and a prefix of it. The session is as the line found it.
pub record IsStopped (input : List ℕ) (says : List Said) (h : Session') (old new : Output) : Type 0 where
  pub before : List Said
  pub line : Said
  pub later : List Said
  pub parts : says ≡ before ++ line ∷ later
  pub follows : Follows input h line.at
  pub count : ℕ
  pub taken : new.taken ≡ append_known old.taken (texts before ++ take count line.text)
  pub rose : Rose old.faults new.faults

-- what became of a command that does this or is refused, by its answer
abbrev pub Does : (input : List ℕ) → Result Done ℕ → Session' → (old new : Output) → Result Told CommandError → Type 0
Does input (Ok done) h old new (Ok More) = (done.bye ≡ false) × IsDone input done h old new
Does input (Ok done) h old new (Ok Bye) = (done.bye ≡ true) × IsDone input done h old new
Does input (Ok done) h old new (Err SinkFailed) = IsStopped input done.says h old new
Does input (Ok done) h old new (Err (Refused code)) = ⊥
Does input (Err code') h old new (Ok told) = ⊥
Does input (Err code') h old new (Err SinkFailed) = ⊥
Does input (Err code') h old new (Err (Refused code)) = code ≡ code'

-- A refused command leaves the session as it was, with nothing put. The sink fails only where its count rose.
abbrev pub Keeps : (before after : Session') → (old new : Output) → Result Told CommandError → Type 0
Keeps before after old new (Ok told) = new.faults ≡ old.faults
Keeps before after old new (Err SinkFailed) = Rose old.faults new.faults
Keeps before after old new (Err (Refused code)) = (after ≡ before) × NothingOutput old new

-- a line was put, and this was answered, or a prefix of it was put
abbrev pub SaysLine : (text : List ℕ) → Told → (old new : Output) → Result Told CommandError → Type 0
SaysLine text told old new (Ok answer) = (answer ≡ told) × IsPut text old new
SaysLine text told old new (Err SinkFailed) = IsCut text old new
SaysLine text told old new (Err (Refused code)) = ⊥

-- a line was put, or a prefix of it
abbrev pub PutsLine : {T E : Type 0} → (text : List ℕ) → (old new : Output) → Result T E → Type 0
PutsLine text old new (Ok v) = IsPut text old new
PutsLine text old new (Err e) = IsCut text old new

-- the line of a word of the output, if there was one
abbrev pub word_text : Option ℕ → List ℕ
word_text None = []
word_text (Some word) = reply_text (reply.Out word)

-- the line of a word was put, or a prefix of it
abbrev pub PutsWord : (word : Option ℕ) → (old new : Output) → Result (Unit {0}) Failed → Type 0
PutsWord word old new (Ok v) = IsPut (word_text word) old new
PutsWord word old new (Err e) = (w : ℕ) × (word ≡ Some w) × IsCut (reply_text (reply.Out w)) old new

-- ---- cycles

-- The run is over, now or since earlier: this is where any number of cycles leaves it.
pub record IsOver (input : List ℕ) (next : State → State) (d : Debugged) (h : Session') : Type 0 where
  pub follows : Follows input h (moved d (next d.state))
  pub stays : (stops : Debugged → Bool) (n : ℕ) → cycles next stops (suc n) d ≡ rests (moved d (next d.state)) false

-- a cycle was carried out
pub record IsMade (input : List ℕ) (next : State → State) (d : Debugged) (h : Session') : Type 0 where
  pub runs : is_running d.state.outcome ≡ true
  pub goes : is_waiting (next d.state).outcome ≡ false
  pub follows : Follows input h (moved d (next d.state))

-- a cycle waits
pub record IsStuck (input : List ℕ) (next : State → State) (d : Debugged) (h : Session') : Type 0 where
  pub runs : is_running d.state.outcome ≡ true
  pub waits : is_waiting (next d.state).outcome ≡ true
  pub follows : Follows input h d

-- what one cycle does to a session, and what it puts
abbrev pub Cycles : (input : List ℕ) → (next : State → State) → Debugged → Session' → (old new : Output) → Result After Failed → Type 0
Cycles input next d h old new (Ok On) = IsMade input next d h × IsPut (texts (puts d (next d.state))) old new
Cycles input next d h old new (Ok Over) = IsOver input next d h × NothingOutput old new
Cycles input next d h old new (Ok Waits) = IsStuck input next d h × NothingOutput old new
Cycles input next d h old new (Err failed) =
    IsMade input next d h × ((line : Said) × (puts d (next d.state) ≡ line ∷ []) × (line.at ≡ moved d (next d.state)) × IsCut line.text old new)

-- ---- breakpoints

-- the breakpoints are those that are said, or nothing has changed and the refusal is the one that is said
abbrev pub SetsStops : (said : Result (List ℕ) ℕ) → (before after : Session') → Result (Unit {0}) ℕ → Type 0
SetsStops said before after (Ok v) = (said ≡ Ok after.stops) × (after.held ≡ before.held) × (after.taken ≡ before.taken)
SetsStops said before after (Err code) = (said ≡ Err code) × (after ≡ before)

-- ---- runs

-- some cycles were carried out, as many as there are until they stop, or the put of a word has failed
abbrev pub Runs : (input : List ℕ) → Went → Session' → (old new : Output) → Result Bool Failed → Type 0
Runs input w h old new (Ok waits) = (waits ≡ w.waits) × Follows input h w.last × IsPut (texts w.says) old new
Runs input w h old new (Err failed) = IsStopped input w.says h old new

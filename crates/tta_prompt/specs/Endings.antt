-- How a session at a prompt ends.
use Rattle.std.specs.Prelude.{◌≡◌, ◌⊎◌, ℕ, ◌+◌, ◌-◌, ◌^◌, Bool, true, false, Option, Some, None, List, [], ◌∷◌, ◌++◌, length, Result, Ok, Err}
use Rattle.std.specs.List.{sum_by}
use Rattle.tta_prompt.specs.Cited.{Output, IsPut, IsCut, NothingOutput, Failed, reply_text, Come, with_lines, with_end, with_overlong, IsFailed, Units, Machine, not_there, Debugged, Done, Session', Follows, IsStopped, PutsLine, line_text, line_says, line_goes, line_leaves}
use Rattle.tta_report.specs.declared.reply.Reply.TheVariants as reply
use Rattle.tta_code.specs.declared.code.Code.{Code}
use Rattle.tta_prompt.specs.declared.error.PromptError.{PromptError}
use Rattle.tta_prompt.specs.declared.error.PromptError.TheVariants.{LinesFailed, TooLong, NoMemory, SinkFailed}
use Rattle.tta_prompt.specs.Prompted.{prompt_line, prompted, is_open}

-- ---- a line

-- what became of a line of which this comes, by the answer: all that is put for it was put; or a prefix of that; or it was not answered
abbrev pub AnswersLine : (input : List ℕ) → Debugged → Result Done ℕ → Session' → (old new : Output) → Result Bool PromptError → Type 0
AnswersLine input d done h old new (Ok goes) =
    (goes ≡ line_goes done) × Follows input h (line_leaves d done) × IsPut (line_text done) old new
AnswersLine input d done h old new (Err SinkFailed) = IsCut (line_text done) old new × IsStopped input (line_says d done) h old new
AnswersLine input d done h old new (Err NoMemory) = Follows input h d × NothingOutput old new
AnswersLine input d done h old new (Err LinesFailed) = ⊥
AnswersLine input d done h old new (Err TooLong) = ⊥

-- a text was put, or the refusal where there is none, or a prefix of it
abbrev pub PutsText : Option (List ℕ) → (old new : Output) → Result (Unit {0}) Failed → Type 0
PutsText None old new result = PutsLine (reply_text (reply.Refused not_there)) old new result
PutsText (Some text) old new result = PutsLine text old new result

-- ---- lines

-- all lines together have at most 16 MiB, as a script has, and each counts with its newline
abbrev pub limit : ℕ
limit = 2 ^ 24

-- how many bytes there may still be after lines
abbrev pub room_after : List (List ℕ) → ℕ
room_after lines = limit - sum_by (λ line. length line + 1) lines

-- Lines have come, all of them were answered, and the session goes on.
pub record IsAnswered (u : Units) (m : Machine) (code : Code) (input : List ℕ) (lines : List (List ℕ)) (d : Debugged) (h : Session')
    (before after : Come) (old new : Output) : Type 0 where
  pub come : after ≡ with_lines lines before
  pub goes : is_open u m code lines d ≡ true
  pub follows : Follows input h (prompted u m code lines d).1
  pub put : IsPut (prompted u m code lines d).0 old new

-- Lines were answered, and one more has come. What comes of it is this.
pub record IsLast (u : Units) (m : Machine) (code : Code) (input : List ℕ) (d : Debugged) (before after : Come) (old : Output)
    (Is : (now : Debugged) → Result Done ℕ → Output → Type 0) : Type 0 where
  pub lines : List (List ℕ)
  pub line : List ℕ
  pub come : after ≡ with_lines (lines ++ line ∷ []) before
  pub goes : is_open u m code lines d ≡ true
  pub mid : Output
  pub put : IsPut (prompted u m code lines d).0 old mid
  pub is : Is (prompted u m code lines d).1 (prompt_line u m code line (prompted u m code lines d).1) mid

-- the session was ended by what came of a line: it was answered, and none is taken after it
abbrev pub Quits : (input : List ℕ) → Session' → (new : Output) → Debugged → Result Done ℕ → Output → Type 0
Quits input h new now done mid = (line_goes done ≡ false) × Follows input h (line_leaves now done) × IsPut (line_text done) mid new

-- the answer to a line was cut off
abbrev pub CutsOff : (input : List ℕ) → Session' → (new : Output) → Debugged → Result Done ℕ → Output → Type 0
CutsOff input h new now done mid = IsCut (line_text done) mid new × IsStopped input (line_says now done) h mid new

-- a line was not answered
abbrev pub Leaves : (input : List ℕ) → Session' → (new : Output) → Debugged → Result Done ℕ → Output → Type 0
Leaves input h new now done mid = Follows input h now × NothingOutput mid new

-- all lines that have come were answered, and then something has come instead of a line
pub record IsLeft (u : Units) (m : Machine) (code : Code) (input : List ℕ) (d : Debugged) (h : Session') (before : Come) (old new : Output)
    (Ends : List (List ℕ) → Come → Type 0) : Type 0 where
  pub lines : List (List ℕ)
  pub between : Come
  pub answered : IsAnswered u m code input lines d h before between old new
  pub ends : Ends lines between

-- How a session ends, by the answer: at the end of the lines or by a line that ends it; or where the lines or the output fail, where
-- too many bytes come, or where there is no memory. Whichever put fails, the line that it answers is the last that has come: so no
-- line comes before the one before it was answered.
abbrev pub Prompts : Units → Machine → Code → (input : List ℕ) → Debugged → Session' → (before after : Come) → (old new : Output)
    → Result (Unit {0}) PromptError → Type 0
Prompts u m code input d h before after old new (Ok v) =
    IsLeft u m code input d h before old new (λ lines between. after ≡ with_end between)
    ⊎ IsLast u m code input d before after old (Quits input h new)
Prompts u m code input d h before after old new (Err LinesFailed) =
    IsLeft u m code input d h before old new (λ lines between. IsFailed between after)
Prompts u m code input d h before after old new (Err TooLong) =
    IsLeft u m code input d h before old new (λ lines between. after ≡ with_overlong (room_after lines) between)
Prompts u m code input d h before after old new (Err NoMemory) =
    IsLeft u m code input d h before old new (λ lines between. after ≡ between)
    ⊎ IsLast u m code input d before after old (Leaves input h new)
Prompts u m code input d h before after old new (Err SinkFailed) =
    IsLast u m code input d before after old (CutsOff input h new)

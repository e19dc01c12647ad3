-- A script, line by line.
use Rattle.std.proofs.Common.{◌≡◌, ℕ, Bool, true, false, true≢false, not, if◌then◌else◌, List, [], ◌∷◌, ◌++◌, take, drop, length, refl, sym, ap, ◌∙◌, append_assoc, append-nil, subst, arith}
use Rattle.std.specs.Prelude.{Result, Ok, Err, IsErr, IfErr}
use Rattle.std.specs.Io.KnownBytes.{append_known}
use Rattle.std.proofs.Math.Seq.{take-append_seam}
use Rattle.std.proofs.lemmas.List.{take-append-drop}
use Rattle.tta_debug.specs.Cited.{Rose, Failed, Units, Machine, Code, reply_text, Output, IsPut, IsCut}
use Rattle.tta_report.proofs.Puts.{append_known-nil, append_known-twice}
use Rattle.tta_report.specs.declared.reply.Reply.TheVariants as reply
use Rattle.tta_debug.specs.Debugged.{Debugged, Said, Done, texts, command, goes_on, saying_first, session}
use Rattle.tta_debug.specs.Sessions.{Session', Follows, IsStopped}
use Rattle.tta_debug.specs.Scripts.{line_text, line_says, line_leaves, line_goes, TakesLine, TakesScript, script_says, lines_of}
use Rattle.tta_debug.proofs.Running.{texts_both, put_both}

-- of the lines of a script from d on, these are left, from `now` on
pub record Taken (u : Units) (m : Machine) (code : Code) (input : List ℕ) (all left : List (List ℕ)) (d : Debugged) (h : Session') (old new : Output) : Type 0 where
  pub text : List ℕ
  pub now : Debugged
  pub follows : Follows input h now
  pub on : session u m code all d ≡ saying_first text (session u m code left now)
  pub put : IsPut text old new

-- none was taken yet
pub taken_first : (u : Units) (m : Machine) (code : Code) (input : List ℕ) (all : List (List ℕ)) (d : Debugged) (h : Session') (out : Output)
    → Follows input h d → Taken u m code input all all d h out out
taken_first u m code input all d h out follows = record {
  text = [];
  now = d;
  follows = follows;
  on = refl;
  put = record { taken = sym (append_known-nil out.taken); faults = refl };
}

-- what comes of a line after which others are taken
pub goes_true : (d : Debugged) (rest : Debugged → List ℕ × Debugged) (said : Result Done ℕ) → true ≡ line_goes said
    → goes_on d rest said ≡ saying_first (line_text said) (rest (line_leaves d said))
goes_true d rest (Err code) is = refl
goes_true d rest (Ok done) is = by done.bye refl where
  by : (b : Bool) → done.bye ≡ b → goes_on d rest (Ok done) ≡ saying_first (texts done.says) (rest done.after)
  by true bye = absurd (true≢false (is ∙ ap not bye))
  by false bye = ap (λ b. if b then (texts done.says, done.after) else saying_first (texts done.says) (rest done.after)) bye

-- what comes of a line that ends the session
pub goes_false : (d : Debugged) (rest : Debugged → List ℕ × Debugged) (said : Result Done ℕ) → false ≡ line_goes said
    → goes_on d rest said ≡ (line_text said, line_leaves d said)
goes_false d rest (Err code) is = absurd (true≢false (sym is))
goes_false d rest (Ok done) is = by done.bye refl where
  by : (b : Bool) → done.bye ≡ b → goes_on d rest (Ok done) ≡ (texts done.says, done.after)
  by false bye = absurd (true≢false (sym (is ∙ ap not bye)))
  by true bye = ap (λ b. if b then (texts done.says, done.after) else saying_first (texts done.says) (rest done.after)) bye

-- what is put for a line stands first
goes_first : (d : Debugged) (rest : Debugged → List ℕ × Debugged) (said : Result Done ℕ)
    → (more : List ℕ) × ((goes_on d rest said).0 ≡ line_text said ++ more)
goes_first d rest said = by (line_goes said) refl where
  by : (b : Bool) → line_goes said ≡ b → (more : List ℕ) × ((goes_on d rest said).0 ≡ line_text said ++ more)
  by true goes = ((rest (line_leaves d said)).0, ap (λ r. r.0) (goes_true d rest said (sym goes)))
  by false goes = ([], ap (λ r. r.0) (goes_false d rest said (sym goes)) ∙ sym (append-nil (line_text said)))

-- a text was put after a text
pub put_after : (first more : List ℕ) (old mid new : Output) → IsPut first old mid → IsPut more mid new → IsPut (first ++ more) old new
put_after first more old mid new one two = record {
  taken = two.taken ∙ ap (λ t. append_known t more) one.taken ∙ append_known-twice old.taken first more;
  faults = two.faults ∙ one.faults;
}

module _ (u : Units) (m : Machine) (code : Code) (input : List ℕ) (all left more : List (List ℕ)) (line : List ℕ) (d : Debugged) (before h : Session')
    (old mid new : Output) (is : left ≡ line ∷ more) (taken : Taken u m code input all left d before old mid) where
  -- all, from the line on
  from_line : session u m code all d ≡ saying_first taken.text (goes_on taken.now (session u m code more) (command u m code line taken.now))
  from_line = taken.on ∙ ap (λ ls. saying_first taken.text (session u m code ls taken.now)) is

  -- a line was taken, and others are taken after it
  pub taken_on : TakesLine input taken.now (command u m code line taken.now) h mid new (Ok true) → Taken u m code input all more d h old new
  taken_on does =
      let said = command u m code line taken.now in
      let rest = session u m code more (line_leaves taken.now said) in
      record {
        text = taken.text ++ line_text said;
        now = line_leaves taken.now said;
        follows = does.1;
        on = from_line ∙ ap (saying_first taken.text) (goes_true taken.now (session u m code more) said does.0)
            ∙ ap (λ t. (t, rest.1)) (sym (append_assoc taken.text (line_text said) rest.0));
        put = put_after taken.text (line_text said) old mid new taken.put does.2;
      }

  -- a line ended the session
  pub taken_bye : TakesLine input taken.now (command u m code line taken.now) h mid new (Ok false) → TakesScript input (session u m code all d) h old new (Ok _)
  taken_bye does =
      let said = command u m code line taken.now in
      let is : session u m code all d ≡ (taken.text ++ line_text said, line_leaves taken.now said) =
      from_line ∙ ap (saying_first taken.text) (goes_false taken.now (session u m code more) said does.0) in
      subst (λ r. Follows input h r.1 × IsPut r.0 old new) (sym is) (does.1, put_after taken.text (line_text said) old mid new taken.put does.2)

  -- the reply to a line was cut
  pub taken_cut : IsCut (line_text (command u m code line taken.now)) mid new → IsCut (session u m code all d).0 old new
  taken_cut cut =
      let said = command u m code line taken.now in
      let text = line_text said in
      let first = goes_first taken.now (session u m code more) said in
      let begin = take cut.count text in
      let rest = drop cut.count text in
      let whole : (session u m code all d).0 ≡ (taken.text ++ begin) ++ (rest ++ first.0) =
      ap (λ r. r.0) from_line ∙ ap (λ t. taken.text ++ t) first.1 ∙ ap (λ t. taken.text ++ (t ++ first.0)) (sym (take-append-drop cut.count text))
      ∙ ap (λ t. taken.text ++ t) (append_assoc begin rest first.0) ∙ sym (append_assoc taken.text begin (rest ++ first.0)) in
      record {
        count = length (taken.text ++ begin);
        taken = cut.taken ∙ ap (λ t. append_known t begin) taken.put.taken ∙ append_known-twice old.taken taken.text begin
            ∙ ap (append_known old.taken) (sym (ap (take (length (taken.text ++ begin))) whole ∙ take-append_seam (taken.text ++ begin) (rest ++ first.0)));
        rose = subst (λ f. Rose f new.faults) taken.put.faults cut.rose;
      }

-- no line is left
pub taken_last : (u : Units) (m : Machine) (code : Code) (input : List ℕ) (all left : List (List ℕ)) (d : Debugged) (h : Session') (old new : Output)
    → left ≡ [] → Taken u m code input all left d h old new → TakesScript input (session u m code all d) h old new (Ok _)
taken_last u m code input all left d h old new none taken =
    let is : session u m code all d ≡ (taken.text, taken.now) =
    taken.on ∙ ap (λ ls. saying_first taken.text (session u m code ls taken.now)) none ∙ ap (λ t. (t, taken.now)) (append-nil taken.text) in
    subst (λ r. Follows input h r.1 × IsPut r.0 old new) (sym is) (taken.follows, taken.put)

-- a reply was cut, by the answer
pub script_cut : (input : List ℕ) (said : List ℕ × Debugged) (h : Session') (old new : Output) (r : Result (Unit {0}) Failed) → IsErr r
    → IsCut said.0 old new → TakesScript input said h old new r
script_cut input said h old new (Ok v) is cut = absurd (true≢false (sym is))
script_cut input said h old new (Err failed) is cut = cut

-- an empty script has no lines
pub no_lines : (bytes : List ℕ) → length bytes ≡ 0 → lines_of bytes ≡ []
unfolding lines_of
no_lines [] is = refl
no_lines (byte ∷ bytes) is = absurd (omega arith)

-- ---- the lines that are put, each with what is under the debugger then

-- of what a script puts from d on, these lines were put, and what it puts from `now` on is left
pub record Replied (u : Units) (m : Machine) (code : Code) (input : List ℕ) (all left : List (List ℕ)) (d : Debugged) (h : Session') (old new : Output) : Type 0 where
  pub says : List Said
  pub now : Debugged
  pub follows : Follows input h now
  pub on : script_says u m code all d ≡ says ++ script_says u m code left now
  pub put : IsPut (texts says) old new

-- none was put yet
pub replied_first : (u : Units) (m : Machine) (code : Code) (input : List ℕ) (all : List (List ℕ)) (d : Debugged) (h : Session') (out : Output)
    → Follows input h d → Replied u m code input all all d h out out
replied_first u m code input all d h out follows = record {
  says = [];
  now = d;
  follows = follows;
  on = refl;
  put = record { taken = sym (append_known-nil out.taken); faults = refl };
}

-- what was put for a line, as lines
line_put : (d : Debugged) (said : Result Done ℕ) (old new : Output) → IsPut (line_text said) old new → IsPut (texts (line_says d said)) old new
line_put d (Err code) old new put = subst (λ t. IsPut t old new) (sym (append-nil (reply_text (reply.Refused code)))) put
line_put d (Ok done) old new put = put

module _ (u : Units) (m : Machine) (code : Code) (input : List ℕ) (all left more : List (List ℕ)) (line : List ℕ) (d : Debugged) (before h : Session')
    (old mid new : Output) (is : left ≡ line ∷ more) (replied : Replied u m code input all left d before old mid) where
  -- what the line does
  abbrev said : Result Done ℕ
  said = command u m code line replied.now

  -- what is put after the line
  abbrev rest : List Said
  rest = if line_goes said then script_says u m code more (line_leaves replied.now said) else []

  -- all, from the line on
  replied_line : script_says u m code all d ≡ replied.says ++ (line_says replied.now said ++ rest)
  replied_line = replied.on ∙ ap (λ ls. replied.says ++ script_says u m code ls replied.now) is

  -- a line was taken, and others are taken after it
  pub replied_on : TakesLine input replied.now (command u m code line replied.now) h mid new (Ok true) → Replied u m code input all more d h old new
  replied_on does =
      let says = line_says replied.now said in
      let next = script_says u m code more (line_leaves replied.now said) in
      record {
        says = replied.says ++ says;
        now = line_leaves replied.now said;
        follows = does.1;
        on = replied_line ∙ ap (λ b. replied.says ++ (says ++ (if b then next else []))) (sym does.0)
            ∙ sym (append_assoc replied.says says next);
        put = put_both replied.says says old mid new replied.put (line_put replied.now said mid new does.2);
      }

  -- the put of a line of a reply has failed
  pub replied_stopped : IsStopped input (line_says replied.now (command u m code line replied.now)) h mid new
      → IsStopped input (script_says u m code all d) h old new
  replied_stopped stopped =
      let begin = take stopped.count stopped.line.text in
      record {
        before = replied.says ++ stopped.before;
        line = stopped.line;
        later = stopped.later ++ rest;
        parts = replied_line ∙ ap (λ l. replied.says ++ (l ++ rest)) stopped.parts
            ∙ ap (λ l. replied.says ++ l) (append_assoc stopped.before (stopped.line ∷ stopped.later) rest)
            ∙ sym (append_assoc replied.says stopped.before (stopped.line ∷ (stopped.later ++ rest)));
        follows = stopped.follows;
        count = stopped.count;
        taken = stopped.taken ∙ ap (λ t. append_known t (texts stopped.before ++ begin)) replied.put.taken
            ∙ append_known-twice old.taken (texts replied.says) (texts stopped.before ++ begin)
            ∙ ap (append_known old.taken) (sym (append_assoc (texts replied.says) (texts stopped.before) begin)
            ∙ ap (λ t. t ++ begin) (sym (texts_both replied.says stopped.before)));
        rose = subst (λ f. Rose f new.faults) replied.put.faults stopped.rose;
      }

-- a script has stopped, by the answer
pub script_stopped : (input : List ℕ) (says : List Said) (h : Session') (old new : Output) (r : Result (Unit {0}) Failed) → IsErr r
    → IsStopped input says h old new → IfErr r (λ e. IsStopped input says h old new)
script_stopped input says h old new (Ok v) is stopped = absurd (true≢false (sym is))
script_stopped input says h old new (Err failed) is stopped = stopped

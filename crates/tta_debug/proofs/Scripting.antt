-- What comes of a line of a script.
use Rattle.std.proofs.Common.{◌≡◌, ℕ, true, false, not, List, [], ◌∷◌, ◌++◌, length, take, refl, sym, ap, ◌∙◌, append_assoc, subst}
use Rattle.std.specs.Prelude.{Result, Ok, Err, drop}
use Rattle.std.specs.Io.KnownBytes.{append_known}
use Rattle.std.proofs.Math.Seq.{take-append_seam}
use Rattle.std.proofs.lemmas.List.{take-append-drop}
use Rattle.tta_debug.specs.Cited.{Rose, reply_text, Output, IsPut, IsCut, NothingOutput}
use Rattle.tta_report.specs.declared.reply.Reply.TheVariants as reply
use Rattle.tta_debug.specs.declared.told.Told.TheVariants.{More, Bye}
use Rattle.tta_debug.specs.declared.told.CommandError.TheVariants.{Refused, SinkFailed}
use Rattle.tta_debug.specs.Debugged.{Debugged, Done, texts}
use Rattle.tta_debug.specs.Sessions.{Session', Follows, IsStopped, Does}
use Rattle.tta_debug.specs.Scripts.{line_text, line_says, TakesLine}
use Rattle.tta_debug.proofs.Running.{texts_both}

-- a command that goes on
pub line_more : (input : List ℕ) (d : Debugged) (said : Result Done ℕ) (h : Session') (old new : Output) → Does input said h old new (Ok More)
    → TakesLine input d said h old new (Ok true)
line_more input d (Ok done) h old new does = (sym (ap not does.0), does.1.follows, does.1.put)
line_more input d (Err code) h old new does = absurd does

-- a command that ends the session
pub line_bye : (input : List ℕ) (d : Debugged) (said : Result Done ℕ) (h : Session') (old new : Output) → Does input said h old new (Ok Bye)
    → TakesLine input d said h old new (Ok false)
line_bye input d (Ok done) h old new does = (sym (ap not does.0), does.1.follows, does.1.put)
line_bye input d (Err code) h old new does = absurd does

-- a command whose reply was cut
pub line_cut : (input : List ℕ) (said : Result Done ℕ) (h : Session') (old new : Output) → Does input said h old new (Err SinkFailed)
    → IsCut (line_text said) old new
line_cut input (Err code) h old new does = absurd does
line_cut input (Ok done) h old new does =
    let prefix = take does.count does.line.text in
    let parts : texts done.says ≡ (texts does.before ++ prefix) ++ (drop does.count does.line.text ++ texts does.later) =
    ap texts does.parts ∙ texts_both does.before (does.line ∷ does.later)
    ∙ ap (λ t. texts does.before ++ (t ++ texts does.later)) (sym (take-append-drop does.count does.line.text))
    ∙ ap (λ t. texts does.before ++ t) (append_assoc prefix (drop does.count does.line.text) (texts does.later))
    ∙ sym (append_assoc (texts does.before) prefix (drop does.count does.line.text ++ texts does.later)) in
    record {
      count = length (texts does.before ++ prefix);
      taken = does.taken ∙ ap (append_known old.taken) (sym (ap (take (length (texts does.before ++ prefix))) parts
          ∙ take-append_seam (texts does.before ++ prefix) (drop does.count does.line.text ++ texts does.later)));
      rose = does.rose;
    }

-- a refused command whose refusal was put
pub line_refused : (input : List ℕ) (d : Debugged) (said : Result Done ℕ) (before h : Session') (old mid new : Output) (code : ℕ)
    → Follows input before d → h ≡ before → NothingOutput old mid → Does input said h old mid (Err (Refused code)) → IsPut (reply_text (reply.Refused code)) mid new
    → TakesLine input d said h old new (Ok true)
line_refused input d (Ok done) before h old mid new code f same quiet does put = absurd does
line_refused input d (Err code') before h old mid new code f same quiet does put = (
  refl,
  subst (λ h. Follows input h d) (sym same) f,
  record {
    taken = put.taken ∙ ap (λ t. append_known t (reply_text (reply.Refused code))) quiet.taken ∙ ap (λ c. append_known old.taken (reply_text (reply.Refused c))) does;
    faults = put.faults ∙ quiet.faults;
  },
)

-- a refused command whose refusal was cut
pub line_refused_cut : (input : List ℕ) (said : Result Done ℕ) (h : Session') (old mid new : Output) (code : ℕ)
    → NothingOutput old mid → Does input said h old mid (Err (Refused code)) → IsCut (reply_text (reply.Refused code)) mid new → IsCut (line_text said) old new
line_refused_cut input (Ok done) h old mid new code quiet does cut = absurd does
line_refused_cut input (Err code') h old mid new code quiet does cut = record {
  count = cut.count;
  taken = cut.taken ∙ ap (λ t. append_known t (take cut.count (reply_text (reply.Refused code)))) quiet.taken
      ∙ ap (λ c. append_known old.taken (take cut.count (reply_text (reply.Refused c)))) does;
  rose = subst (λ f. Rose f new.faults) quiet.faults cut.rose;
}

-- a command whose reply was cut has stopped there
pub line_stopped : (input : List ℕ) (d : Debugged) (said : Result Done ℕ) (h : Session') (old new : Output) → Does input said h old new (Err SinkFailed)
    → IsStopped input (line_says d said) h old new
line_stopped input d (Err code) h old new does = absurd does
line_stopped input d (Ok done) h old new does = does

-- a refused command whose refusal was cut has stopped there
pub line_refused_stopped : (input : List ℕ) (d : Debugged) (said : Result Done ℕ) (before h : Session') (old mid new : Output) (code : ℕ)
    → Follows input before d → h ≡ before → NothingOutput old mid → Does input said h old mid (Err (Refused code)) → IsCut (reply_text (reply.Refused code)) mid new
    → IsStopped input (line_says d said) h old new
line_refused_stopped input d (Ok done) before h old mid new code f same quiet does cut = absurd does
line_refused_stopped input d (Err code') before h old mid new code f same quiet does cut = record {
  before = [];
  line = record { text = reply_text (reply.Refused code'); at = d };
  later = [];
  parts = refl;
  follows = subst (λ h. Follows input h d) (sym same) f;
  count = cut.count;
  taken = cut.taken ∙ ap (λ t. append_known t (take cut.count (reply_text (reply.Refused code)))) quiet.taken
      ∙ ap (λ c. append_known old.taken (take cut.count (reply_text (reply.Refused c)))) does;
  rose = subst (λ f. Rose f new.faults) quiet.faults cut.rose;
}

-- What a command has said.
use Rattle.std.proofs.Common.{◌≡◌, ◌≤◌, ◌+◌, ◌-◌, ℕ, zero, suc, Bool, true, false, nat_le, List, [], ◌∷◌, ◌++◌, length, take, drop, refl, sym, ap, ◌∙◌, append_assoc, append-nil, subst, arith}
use Rattle.std.specs.Prelude.{Result, Ok, Err}
use Rattle.std.specs.List.{AllByRecursion}
use Rattle.std.specs.Io.KnownBytes.{append_known}
use Rattle.std.proofs.Math.Seq.{take-append-add}
use Rattle.std.proofs.lemmas.Bool.{leb-true, leb-false}
use Rattle.std.proofs.lemmas.List.{take-append-le}
use Rattle.tta_debug.specs.Cited.{Rose, Reply, Stands, reply_text, Output, IsPut}
use Rattle.tta_report.specs.declared.reply.Reply.TheVariants as reply
use Rattle.tta_report.proofs.Puts.{append_known-nil, append_known-twice}
use Rattle.tta_debug.specs.declared.told.Told.{Told}
use Rattle.tta_debug.specs.declared.told.Told.TheVariants.{More, Bye}
use Rattle.tta_debug.specs.declared.told.CommandError.{CommandError}
use Rattle.tta_debug.specs.declared.told.CommandError.TheVariants.{Refused, SinkFailed}
use Rattle.tta_debug.specs.Debugged.{Debugged, Said, texts, say, stops_set}
use Rattle.tta_debug.specs.Sessions.{Session', Follows, IsStopped, Does, Keeps, SaysLine}
use Rattle.tta_debug.proofs.Running.{put_both}

-- whether an answer ends the session
abbrev pub ends : Told → Bool
ends More = false
ends Bye = true

-- one line
put_line : (r : Reply) (d : Debugged) (old new : Output) → IsPut (reply_text r) old new → IsPut (texts (say r d)) old new
put_line r d old new put = subst (λ t. IsPut t old new) (sym (append-nil (reply_text r))) put

-- a last line after others that were put
pub said_after : (input : List ℕ) (says : List Said) (r : Reply) (d : Debugged) (told : Told) (h : Session') (old mid new : Output) (result : Result Told CommandError)
    → Follows input h d → IsPut (texts says) old mid → SaysLine (reply_text r) told mid new result
    → Does input (Ok (record { says = says ++ say r d; after = d; bye = ends told })) h old new result
said_after input says r d told h old mid new (Ok More) follows put said = (
  ap ends (sym said.0),
  record { follows = follows; put = put_both says (say r d) old mid new put (put_line r d mid new said.1) },
)
said_after input says r d told h old mid new (Ok Bye) follows put said = (
  ap ends (sym said.0),
  record { follows = follows; put = put_both says (say r d) old mid new put (put_line r d mid new said.1) },
)
said_after input says r d told h old mid new (Err SinkFailed) follows put cut = record {
  before = says;
  line = record { text = reply_text r; at = d };
  later = [];
  parts = refl;
  follows = follows;
  count = cut.count;
  taken = cut.taken ∙ ap (λ t. append_known t (take cut.count (reply_text r))) put.taken ∙ append_known-twice old.taken (texts says) (take cut.count (reply_text r));
  rose = subst (λ f. Rose f new.faults) put.faults cut.rose;
}
said_after input says r d told h old mid new (Err (Refused code)) follows put said = absurd said

-- nothing but one line
pub said_alone : (input : List ℕ) (r : Reply) (d : Debugged) (told : Told) (h : Session') (old new : Output) (result : Result Told CommandError)
    → Follows input h d → SaysLine (reply_text r) told old new result
    → Does input (Ok (record { says = say r d; after = d; bye = ends told })) h old new result
said_alone input r d told h old new result follows said =
    said_after input [] r d told h old old new result follows (record { taken = sym (append_known-nil old.taken); faults = refl }) said

-- a put that failed among the first lines failed among all
pub stopped_first : (input : List ℕ) (says more : List Said) (h : Session') (old new : Output) → IsStopped input says h old new → IsStopped input (says ++ more) h old new
stopped_first input says more h old new stopped = record {
  before = stopped.before;
  line = stopped.line;
  later = stopped.later ++ more;
  parts = ap (λ l. l ++ more) stopped.parts ∙ append_assoc stopped.before (stopped.line ∷ stopped.later) more;
  follows = stopped.follows;
  count = stopped.count;
  taken = stopped.taken;
  rose = stopped.rose;
}

-- ---- lines at all of which the session is the same

-- where a prefix of some lines, and one more, ends
record Ends (d : Debugged) (lines : List Said) (last : Said) (n : ℕ) : Type 0 where
  before : List Said
  line : Said
  later : List Said
  count : ℕ
  parts : lines ++ last ∷ [] ≡ before ++ line ∷ later
  prefix : take n (texts lines) ≡ texts before ++ take count line.text
  same : line.at ≡ d

ends_at : (d : Debugged) (l : Said) (ls : List Said) (last : Said) (n : ℕ) → l.at ≡ d → ((k : ℕ) → Ends d ls last k) → Ends d (l ∷ ls) last n
ends_at d l ls last n here ends = by (nat_le n (length l.text)) refl where
  by : (b : Bool) → nat_le n (length l.text) ≡ b → Ends d (l ∷ ls) last n
  by true few = record {
    before = [];
    line = l;
    later = ls ++ last ∷ [];
    count = n;
    parts = refl;
    prefix = let le : n ≤ length l.text = leb-true n (length l.text) few in take-append-le n l.text (texts ls) le;
    same = here;
  }
  by false many =
      let k = n - length l.text in
      let more = leb-false n (length l.text) many in
      let is : n ≡ length l.text + k = omega (arith, more) in
      let rest = ends k in
      record {
        before = l ∷ rest.before;
        line = rest.line;
        later = rest.later;
        count = rest.count;
        parts = ap (λ x. l ∷ x) rest.parts;
        prefix = ap (λ i. take i (l.text ++ texts ls)) is ∙ take-append-add l.text (texts ls) k ∙ ap (λ t. l.text ++ t) rest.prefix
            ∙ sym (append_assoc l.text (texts rest.before) (take rest.count rest.line.text));
        same = rest.same;
      }

ends_somewhere : (d : Debugged) (lines : List Said) (last : Said) (n : ℕ) → AllByRecursion (λ l. l.at ≡ d) lines → last.at ≡ d → Ends d lines last n
ends_somewhere d [] last n all same = record { before = []; line = last; later = []; count = 0; parts = refl; prefix = take_none n; same = same } where
  take_none : (n : ℕ) → take n [] ≡ take 0 last.text
  take_none zero = refl
  take_none (suc n) = refl
ends_somewhere d (l ∷ ls) last n all same = ends_at d l ls last n all.0 (λ k. ends_somewhere d ls last k all.1 same)

-- a prefix of such lines was put
pub stopped_among : (input : List ℕ) (d : Debugged) (lines : List Said) (last : Said) (n : ℕ) (h : Session') (old new : Output)
    → AllByRecursion (λ l. l.at ≡ d) lines → last.at ≡ d → Follows input h d → new.taken ≡ append_known old.taken (take n (texts lines)) → Rose old.faults new.faults
    → IsStopped input (lines ++ last ∷ []) h old new
stopped_among input d lines last n h old new all same follows taken rose =
    let e = ends_somewhere d lines last n all same in
    record {
      before = e.before;
      line = e.line;
      later = e.later;
      parts = e.parts;
      follows = subst (Follows input h) (sym e.same) follows;
      count = e.count;
      taken = taken ∙ ap (append_known old.taken) e.prefix;
      rose = rose;
    }

-- ---- breakpoints

-- the breakpoints are others now
pub stop_set : (input : List ℕ) (said : List ℕ → Result (List ℕ) ℕ) (d : Debugged) (before after : Session') (old new : Output) (result : Result Told CommandError)
    → Follows input before d → (said before.stops ≡ Ok after.stops) × (after.held ≡ before.held) × (after.taken ≡ before.taken)
    → SaysLine (reply_text reply.Done) More old new result → Does input (stops_set d (said d.stops)) after old new result
stop_set input said d before after old new result f set line =
    let e = record d { stops = after.stops } in
    let follows : Follows input after e = record {
      stands = subst (λ h. Stands h d.state) (sym set.1) f.stands;
      rest = f.rest ∙ ap (λ n. drop n input) (sym set.2);
      stops = refl;
    } in
    subst (λ r. Does input (stops_set d r) after old new result) (sym (ap said (sym f.stops) ∙ set.0))
    (said_alone input reply.Done e More after old new result follows line)

-- they are refused
pub stop_refused : (input : List ℕ) (said : List ℕ → Result (List ℕ) ℕ) (d : Debugged) (before after : Session') (old new : Output) (code : ℕ)
    → Follows input before d → said before.stops ≡ Err code → Does input (stops_set d (said d.stops)) after old new (Err (Refused code))
stop_refused input said d before after old new code f refused =
    subst (λ r. Does input (stops_set d r) after old new (Err (Refused code))) (sym (ap said (sym f.stops) ∙ refused)) refl

-- ---- flight

-- all lines in flight were put, and then the last
pub flight_said : (input : List ℕ) (d : Debugged) (lines : List Said) (h : Session') (old mid new : Output) (result : Result Told CommandError) → Follows input h d
    → mid.taken ≡ append_known old.taken (texts lines) → mid.faults ≡ old.faults → SaysLine (reply_text reply.Done) More mid new result
    → Does input (Ok (record { says = lines ++ say reply.Done d; after = d; bye = false })) h old new result
flight_said input d lines h old mid new result follows taken faults line =
    said_after input lines reply.Done d More h old mid new result follows (record { taken = taken; faults = faults }) line

-- what a line that was put, or cut, has kept
pub keeps_said : (text : List ℕ) (told : Told) (before after : Session') (old new : Output) (result : Result Told CommandError)
    → SaysLine text told old new result → Keeps before after old new result
keeps_said text told before after old new (Ok answer) said = said.1.faults
keeps_said text told before after old new (Err SinkFailed) cut = cut.rose
keeps_said text told before after old new (Err (Refused code)) said = absurd said

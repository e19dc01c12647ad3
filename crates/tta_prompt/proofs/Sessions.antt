-- A session at a prompt, line by line.
use Rattle.std.proofs.Common.{◌≡◌, ℕ, ◌+◌, ◌-◌, true, false, List, [], ◌∷◌, ◌++◌, length, refl, sym, ap, ◌∙◌, subst, inr, arith}
use Rattle.std.specs.Prelude.{Result, Ok, Err}
use Rattle.std.proofs.lemmas.List.Sums.{sum_by-append}
use Rattle.tta_prompt.specs.Cited.{Output, IsPut, Come, with_lines, Units, Machine, Debugged, Done, Session', Follows, line_text}
use Rattle.tta_report.proofs.Puts.{append_known-nil}
use Rattle.tta_code.specs.declared.code.Code.{Code}
use Rattle.tta_debug.proofs.Folding.{put_after}
use Rattle.tta_prompt.specs.declared.error.PromptError.{PromptError}
use Rattle.tta_prompt.specs.declared.error.PromptError.TheVariants.{LinesFailed, TooLong, NoMemory, SinkFailed}
use Rattle.tta_prompt.specs.Prompted.{prompt_line, prompted}
use Rattle.tta_prompt.specs.Endings.{AnswersLine, IsAnswered, IsLast, Quits, Prompts, room_after}
use Rattle.tta_prompt.proofs.Lines.{with_lines-nil, with_lines-twice, one_more}

-- the lines that have come were answered, and so many bytes may still come
pub record Kept (u : Units) (m : Machine) (code : Code) (input : List ℕ) (d : Debugged) (h : Session') (before after : Come) (old new : Output)
    (left : ℕ) : Type 0 where
  pub lines : List (List ℕ)
  pub answered : IsAnswered u m code input lines d h before after old new
  pub room : left ≡ room_after lines

-- none has come yet
pub kept_first : (u : Units) (m : Machine) (code : Code) (input : List ℕ) (d : Debugged) (h : Session') (come : Come) (out : Output) (left : ℕ)
    → Follows input h d → left ≡ room_after [] → Kept u m code input d h come come out out left
kept_first u m code input d h come out left follows room = record {
  lines = [];
  answered = record {
    come = with_lines-nil come;
    goes = refl;
    follows = follows;
    put = record { taken = sym (append_known-nil out.taken); faults = refl };
  };
  room = room;
}

module _ (u : Units) (m : Machine) (code : Code) (input : List ℕ) (d : Debugged) (h h' : Session') (before mid after : Come) (old now new : Output)
    (left : ℕ) (kept : Kept u m code input d h before mid old now left) (line : List ℕ) (come : after ≡ with_lines (line ∷ []) mid) where
  -- what is under the debugger when the line has come, and what comes of it
  abbrev at : Debugged
  at = (prompted u m code kept.lines d).1

  abbrev done : Result Done ℕ
  done = prompt_line u m code line at

  -- the lines that have come
  all_come : after ≡ with_lines (kept.lines ++ line ∷ []) before
  all_come = come ∙ ap (with_lines (line ∷ [])) kept.answered.come ∙ with_lines-twice kept.lines (line ∷ []) before

  -- the line was answered, and others are taken after it
  pub kept_more : (goes : _) → goes ≡ true → (left' : ℕ) → left' ≡ left - (length line + 1) → AnswersLine input at done h' now new (Ok goes)
      → Kept u m code input d h' before after old new left'
  kept_more goes is left' less answers =
      let more = one_more u m code kept.lines line d kept.answered.goes (sym answers.0 ∙ is) in
      record {
        lines = kept.lines ++ line ∷ [];
        answered = record {
          come = all_come;
          goes = more.0;
          follows = subst (λ (p : List ℕ × Debugged). Follows input h' p.1) (sym more.1) answers.1;
          put = subst (λ (p : List ℕ × Debugged). IsPut p.0 old new) (sym more.1)
              (put_after (prompted u m code kept.lines d).0 (line_text done) old now new kept.answered.put answers.2);
        };
        room = less ∙ ap (λ n. n - (length line + 1)) kept.room ∙ fewer kept.lines;
      } where
        fewer : (lines : List (List ℕ)) → room_after lines - (length line + 1) ≡ room_after (lines ++ line ∷ [])
        fewer lines =
            let sum = sum_by-append (λ (l : List ℕ). length l + 1) lines (line ∷ []) in
            omega (arith, sum)

  -- what became of the last line
  pub last_line : (Is : Debugged → Result Done ℕ → Output → Type 0) → Is at done now → IsLast u m code input d before after old Is
  last_line Is is = record {
    lines = kept.lines;
    line = line;
    come = all_come;
    goes = kept.answered.goes;
    mid = now;
    put = kept.answered.put;
    is = is;
  }

  -- the line ended the session
  pub quits : (goes : _) → goes ≡ false → AnswersLine input at done h' now new (Ok goes) → Prompts u m code input d h' before after old new (Ok tt)
  quits goes is answers = inr (last_line (Quits input h' new) (sym answers.0 ∙ is, answers.1, answers.2))

  -- the line was not answered whole
  pub breaks_off : (e : PromptError) → AnswersLine input at done h' now new (Err e) → Prompts u m code input d h' before after old new (Err e)
  breaks_off SinkFailed answers = last_line _ answers
  breaks_off NoMemory answers = inr (last_line _ answers)
  breaks_off LinesFailed answers = absurd answers
  breaks_off TooLong answers = absurd answers

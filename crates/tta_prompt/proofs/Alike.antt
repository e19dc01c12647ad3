-- Lines that ask nothing that a script cannot are answered as in a script.
use Rattle.std.proofs.Common.{◌≡◌, ℕ, Bool, true, false, if◌then◌else◌, List, [], ◌∷◌, refl, ap, ◌∙◌}
use Rattle.std.specs.Prelude.{All, Result, Ok, Err}
use Rattle.std.proofs.lemmas.List.Elements.{All-head, All-tail}
use Rattle.tta_report.specs.declared.reply.Reply.TheVariants as reply
use Rattle.tta_prompt.specs.Cited.{reply_text, Units, Machine, Debugged, Done, texts, command, goes_on, saying_first, session}
use Rattle.tta_code.specs.declared.code.Code.{Code}
use Rattle.tta_prompt.specs.Prompted.{line_done, prompted}
use Rattle.tta_prompt.specs.Laws.{IsOfScripts}

-- a session that goes on alike comes to the same
goes_alike : (d : Debugged) (one other : Debugged → List ℕ × Debugged) (said : Result Done ℕ) → ((e : Debugged) → one e ≡ other e)
    → goes_on d one said ≡ goes_on d other said
goes_alike d one other (Err code) same = ap (saying_first (reply_text (reply.Refused code))) (same d)
goes_alike d one other (Ok done) same = by done.bye where
  by : (b : Bool) → (if b then (texts done.says, done.after) else saying_first (texts done.says) (one done.after))
      ≡ (if b then (texts done.says, done.after) else saying_first (texts done.says) (other done.after))
  by true = refl
  by false = ap (saying_first (texts done.says)) (same done.after)

pub as_in_scripts : (u : Units) (m : Machine) (code : Code) (lines : List (List ℕ)) (d : Debugged) → All IsOfScripts lines
    → prompted u m code lines d ≡ session u m code lines d
as_in_scripts u m code [] d all = refl
as_in_scripts u m code (line ∷ lines) d all =
    ap (λ own. goes_on d (prompted u m code lines) (line_done u m code line d own)) (All-head IsOfScripts line lines all)
    ∙ goes_alike d (prompted u m code lines) (session u m code lines) (command u m code line d)
    (λ e. as_in_scripts u m code lines e (All-tail IsOfScripts line lines all))

-- What the lines of a debugger say.
use Rattle.std.specs.Prelude.{ℕ, List, ◌++◌, codes, decimal}
use Rattle.tta_report.specs.declared.reply.Reply.{Reply}
use Rattle.tta_report.specs.declared.reply.Reply.TheVariants as reply

-- a reply with its end
abbrev pub reply_text : Reply → List ℕ
reply_text reply.Done = codes "ok\n"
reply_text reply.Bye = codes "bye\n"
reply_text (reply.Value word) = decimal word ++ codes "\n"
reply_text reply.Unset = codes "unset\n"
reply_text (reply.Out word) = codes "out " ++ decimal word ++ codes "\n"
reply_text (reply.At pc cycle) = codes "at " ++ decimal pc ++ codes " cycle " ++ decimal cycle ++ codes "\n"
reply_text (reply.Halted cycle) = codes "halted cycle " ++ decimal cycle ++ codes "\n"
reply_text (reply.Fault code cycle) = codes "fault " ++ decimal code ++ codes " cycle " ++ decimal cycle ++ codes "\n"
reply_text (reply.Waiting pc cycle) = codes "waiting at " ++ decimal pc ++ codes " cycle " ++ decimal cycle ++ codes "\n"
reply_text (reply.Refused code) = codes "refused " ++ decimal code ++ codes "\n"

-- the line of a result that is due: the unit's name, the cycle from which on it shows, and its word
abbrev pub due_text : (unit : List ℕ) → (cycle value : ℕ) → List ℕ
due_text unit cycle value = unit ++ codes " due " ++ decimal cycle ++ codes " value " ++ decimal value ++ codes "\n"

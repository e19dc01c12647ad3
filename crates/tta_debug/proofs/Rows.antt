-- Worked sessions.
use Rattle.std.specs.Prelude.{◌≡◌, ℕ, List, [], ◌∷◌, ◌++◌, map, if◌then◌else◌, Some, None, Option, Result, Ok, Err, codes, refl}
use Rattle.tta_report.specs.declared.reply.Reply.TheVariants as reply
use Rattle.tta_debug.specs.Cited.{reply_text, due_text, Units, Machine, tokens_of, tokens_from, piece_at, number_piece, mark_piece, negative_piece, number_of, negative_of, digits_of, value_below, Code, Instruction, start, next}
use Rattle.tta_arch.proofs.Samples.{three_buses, with_input}
use Rattle.tta_arch.specs.declared.ends.Source.TheVariants as source
use Rattle.tta_arch.specs.declared.ends.Dest.TheVariants as dest
use Rattle.tta_code.proofs.Rows.{go, three, echo}
use Rattle.tta_debug.specs.Words.{words_of}
use Rattle.tta_debug.specs.Commands.{Command, Break, Step, Go, Flight, Ask, Quit, Port, Reg, Where, asked_by}
use Rattle.tta_debug.specs.Debugged.{Debugged, Done, answer_asked}

-- the lines that are replied, by what comes of the first command
abbrev after : (rest : Debugged → List (List ℕ)) → Debugged → Result Done ℕ → List (List ℕ)
after rest d (Err code) = reply_text (reply.Refused code) ∷ rest d
after rest d (Ok done) = map (λ l. l.text) done.says ++ (if done.bye then [] else rest done.after)

-- the lines that are replied to commands
abbrev talk : Units → Machine → Code → List (Option Command) → Debugged → List (List ℕ)
talk u m code [] d = []
talk u m code (c ∷ cs) d = after (talk u m code cs) d (answer_asked u m code d c)

-- a session that begins
abbrev begun : Machine → List ℕ → Debugged
begun m input = record { state = start m [] input; stops = [] }

abbrev nothing : Instruction
nothing = record { moves = None ∷ None ∷ None ∷ []; long = None }

-- a product that is output when it shows
abbrev product : Code
product = record {
  words = three (go (source.Value 5) (dest.Operand 1)) (go (source.Value 6) (dest.Trigger 1 0)) None
      ∷ nothing ∷ nothing ∷ three (go (source.Shown 1) (dest.Trigger 3 0)) None None
      ∷ three (go (source.Value 0) dest.Halt) None None ∷ nothing ∷ nothing ∷ [];
}

-- twelve instructions
abbrev twelve : Code
twelve = record { words = nothing ∷ nothing ∷ nothing ∷ nothing ∷ nothing ∷ nothing ∷ nothing ∷ nothing ∷ nothing ∷ nothing ∷ nothing ∷ nothing ∷ [] }

-- a product in flight, a breakpoint, a port, and two commands that are refused
product-session : (u : Units)
    → talk u three_buses product
    (Some (Step 1) ∷ Some Flight ∷ Some (Break 3) ∷ Some (Go 100) ∷ Some (Ask (Port (codes "MUL"))) ∷ Some (Step 1) ∷ None ∷ Some (Ask (Reg (codes "R") 9)) ∷ Some Quit ∷ [])
    (begun three_buses [])
    ≡ reply_text (reply.At 1 1) ∷ due_text (codes "MUL") 3 (u.value 2 5 6) ∷ reply_text reply.Done ∷ reply_text reply.Done ∷ reply_text (reply.At 3 3)
    ∷ reply_text (reply.Value (u.value 2 5 6)) ∷ reply_text (reply.Out (u.value 2 5 6)) ∷ reply_text (reply.At 4 4) ∷ reply_text (reply.Refused 70)
    ∷ reply_text (reply.Refused 71) ∷ reply_text reply.Bye ∷ []
unfolding next
product-session u = refl

-- a ninth breakpoint is refused
ninth : (u : Units)
    → talk u three_buses twelve
    (Some (Break 0) ∷ Some (Break 1) ∷ Some (Break 2) ∷ Some (Break 3) ∷ Some (Break 4) ∷ Some (Break 5) ∷ Some (Break 6) ∷ Some (Break 7) ∷ Some (Break 8) ∷ [])
    (begun three_buses [])
    ≡ reply_text reply.Done ∷ reply_text reply.Done ∷ reply_text reply.Done ∷ reply_text reply.Done ∷ reply_text reply.Done ∷ reply_text reply.Done
    ∷ reply_text reply.Done ∷ reply_text reply.Done ∷ reply_text (reply.Refused 72) ∷ []
ninth u = refl

-- a run that waits is reported so where it has to stop, and else as a run that goes on
waits-session : (u : Units)
    → talk u with_input echo (Some (Go 5) ∷ Some (Ask Where) ∷ []) (begun with_input [])
    ≡ reply_text (reply.Waiting 0 0) ∷ reply_text (reply.At 0 0) ∷ []
unfolding next
waits-session u = refl

-- ---- words

asks-step : asked_by (words_of (codes "step 1")) ≡ Some (Step 1)
unfolding words_of tokens_of tokens_from piece_at number_piece mark_piece negative_piece number_of negative_of digits_of value_below
asks-step = refl

asks-register : asked_by (words_of (codes "reg R 9")) ≡ Some (Ask (Reg (codes "R") 9))
unfolding words_of tokens_of tokens_from piece_at number_piece mark_piece negative_piece number_of negative_of digits_of value_below
asks-register = refl

asks-nothing : asked_by (words_of (codes "jump")) ≡ None
unfolding words_of tokens_of tokens_from piece_at number_piece mark_piece negative_piece number_of negative_of digits_of value_below
asks-nothing = refl

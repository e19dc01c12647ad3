-- Lines in order and others, and settled lines and others, as computed.
use Rattle.std.proofs.Common.{◌≡◌, ℕ, true, false, List, [], ◌∷◌, Option, None, Some, refl}
use Rattle.tta_sim.specs.Cited.{Op, Ldw, Stw, Out}
use Rattle.tta_sim.specs.declared.control.ControlKind.TheVariants as control_kind
use Rattle.tta_sim.specs.declared.decoded.DecodedSource.{DecodedSource}
use Rattle.tta_sim.specs.declared.decoded.DecodedSource.TheVariants.{Word, Place, Port}
use Rattle.tta_sim.specs.declared.decoded.Reading.{Reading}
use Rattle.tta_sim.specs.declared.decoded.DecodedWrite.{DecodedWrite}
use Rattle.tta_sim.specs.declared.decoded.DecodedStart.{DecodedStart}
use Rattle.tta_sim.specs.declared.decoded.DecodedControl.{DecodedControl}
use Rattle.tta_sim.specs.declared.decoded.Line.{Line}
use Rattle.tta_sim.specs.Order.{is_in_order}
use Rattle.tta_sim.specs.Known.{is_settled}

-- a move without a guard, and one with a guard at a place
abbrev plain : DecodedSource → Reading
plain src = record { guard = None; src = src }

abbrev guarded : (place : ℕ) → DecodedSource → Reading
guarded place src = record { guard = Some (record { place = place; inverted = false }); src = src }

abbrev write : Reading → (place : ℕ) → DecodedWrite
write r place = record { reading = r; place = place; narrow = false }

-- an operation of a unit with a latency
abbrev starts : Reading → (unit : ℕ) → Op → (latency : ℕ) → DecodedStart
starts r unit op latency = record { reading = r; unit = unit; does = record { op = op; latency = latency; arity = 1 } }

abbrev line : List DecodedWrite → List DecodedStart → List DecodedControl → Line
line ws ss ts = record { writes = ws; starts = ss; controls = ts; pure = false }

-- ---- order

-- two registers are exchanged
exchange : is_in_order (line (write (plain (Place 1)) 2 ∷ write (plain (Place 2)) 1 ∷ []) [] []) ≡ false
exchange = refl

-- a register is copied on, and then gets another word
pass_on : is_in_order (line (write (plain (Place 2)) 3 ∷ write (plain (Place 1)) 2 ∷ []) [] []) ≡ true
pass_on = refl

-- a place is written twice
twice : is_in_order (line (write (plain (Word 7)) 3 ∷ write (plain (Word 8)) 3 ∷ []) [] []) ≡ false
twice = refl

-- an operation takes its operand in the line that writes it, but the word that starts it is one that is written in the line
operand : is_in_order (line (write (plain (Place 1)) 578 ∷ []) (starts (plain (Place 2)) 2 Ldw 1 ∷ []) []) ≡ true
operand = refl

trigger : is_in_order (line (write (plain (Place 1)) 2 ∷ []) (starts (plain (Place 2)) 2 Ldw 1 ∷ []) []) ≡ false
trigger = refl

-- a guard is written in its line
guard : is_in_order (line (write (plain (Place 1)) 448 ∷ []) [] (record { reading = guarded 448 (Word 5); kind = control_kind.Jump } ∷ [])) ≡ false
guard = refl

-- a load comes before a store, and after it
load_first : is_in_order (line [] (starts (plain (Place 1)) 0 Ldw 2 ∷ starts (plain (Place 2)) 1 Stw 0 ∷ []) []) ≡ true
load_first = refl

store_first : is_in_order (line [] (starts (plain (Place 1)) 0 Stw 0 ∷ starts (plain (Place 2)) 1 Ldw 2 ∷ []) []) ≡ false
store_first = refl

-- a result port is read after a start that shows there in the next cycle, and after one that shows later
shows_next : is_in_order (line [] (starts (plain (Place 1)) 0 Ldw 1 ∷ starts (plain (Port 0)) 1 Ldw 1 ∷ []) []) ≡ false
shows_next = refl

shows_later : is_in_order (line [] (starts (plain (Place 1)) 0 Ldw 2 ∷ starts (plain (Port 0)) 1 Ldw 1 ∷ []) []) ≡ true
shows_later = refl

-- a word is output
outputs : is_in_order (line [] (starts (plain (Place 1)) 0 Out 0 ∷ []) []) ≡ false
outputs = refl

-- ---- words that are set

abbrev shown : ℕ → Option ℕ
shown unit = None

-- a move whose guard stops it takes a word that was never set
stopped : is_settled (Some 0 ∷ None ∷ []) shown (line (write (guarded 0 (Place 1)) 0 ∷ []) [] []) ≡ false
stopped = refl

set : is_settled (Some 0 ∷ Some 3 ∷ []) shown (line (write (guarded 0 (Place 1)) 0 ∷ []) [] []) ≡ true
set = refl

-- a result port shows nothing
no_port : is_settled (Some 0 ∷ []) shown (line (write (plain (Port 0)) 0 ∷ []) [] []) ≡ false
no_port = refl

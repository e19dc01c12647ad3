-- Walks over the slots of an instruction, one after another.
use Rattle.std.proofs.Common.{◌≡◌, ℕ, ◌+◌, ◌<◌, List, [], ◌∷◌, ◌++◌, length, map, drop, get_or, Option, option_map, Result, Ok, Err, refl, sym, ap, ◌∙◌}
use Rattle.std.proofs.lemmas.List.{append_assoc, drop_more}
use Rattle.tta_asm.specs.Cited.{Declared, Units, Machine, Move}
use Rattle.tta_parse.specs.Steps.{◌>>=◌}
use Rattle.tta_asm.specs.declared.forms.SlotForm.{SlotForm as SlotWords}
use Rattle.tta_asm.specs.declared.labels.Label.{Label}
use Rattle.tta_asm.specs.Assembly.{at_line, moves_of}
use Rattle.tta_asm.specs.declared.refusal.AsmError.{AsmError}
use Rattle.tta_asm.specs.declared.refusal.AsmError.TheVariants.{Refused, NoMemory}
use Rattle.tta_asm.specs.Refusals.{Refusal, Answers}
use Rattle.tta_asm.specs.Resolving.{action_of}
use Rattle.tta_asm.specs.Seen.{move_seen, slot_seen}

-- what is made of the rest, with what is there already before it
abbrev pub with_front : {A : Type 0} → List A → Result (List A) Refusal → Result (List A) Refusal
with_front front r = r >>= λ xs. Ok (front ++ xs)

-- an item and what is made of the rest
abbrev pub with_item : {A : Type 0} → Result A Refusal → Result (List A) Refusal → Result (List A) Refusal
with_item item rest = item >>= λ x. rest >>= λ xs. Ok (x ∷ xs)

-- one item more before it
pub front_more : {A : Type 0} (front more : List A) (x : A) (item : Result A Refusal) (rest all : Result (List A) Refusal) → item ≡ Ok x
    → more ≡ front ++ x ∷ [] → with_front front (with_item item rest) ≡ all → with_front more rest ≡ all
front_more {A = A} front more x item rest all is pushed was =
    ap (λ (l : List A). with_front l rest) pushed ∙ by rest ∙ ap (λ (r : Result A Refusal). with_front front (with_item r rest)) (sym is) ∙ was where
      by : (r : Result (List A) Refusal) → with_front (front ++ x ∷ []) r ≡ with_front front (with_item (Ok x) r)
      by (Ok xs) = ap (λ (l : List A). Ok l) (append_assoc front (x ∷ []) xs)
      by (Err e) = refl

-- ---- slots

-- what is made of the slots that are left: of the first of them, and of the rest
pub slots_left : (u : Units) (m : Machine) (labels : Declared Label) (slots : List SlotWords) (bus : ℕ) (d : SlotWords) → bus < length slots
    → moves_of u m labels bus (map slot_seen (drop bus slots))
    ≡ with_item (at_line (get_or slots bus d).line (action_of u m labels bus (option_map move_seen (get_or slots bus d).action)))
    (moves_of u m labels (bus + 1) (map slot_seen (drop (bus + 1) slots)))
slots_left u m labels slots bus d inside =
    ap (λ (l : List SlotWords). moves_of u m labels bus (map slot_seen l)) (drop_more slots bus d inside)

-- a slot whose move is read
pub slot_read : (u : Units) (m : Machine) (labels : Declared Label) (slots : List SlotWords) (bus : ℕ) (d : SlotWords) (moves more : List (Option Move))
    (move : Option Move) (all : Result (List (Option Move)) Refusal) → bus < length slots
    → at_line (get_or slots bus d).line (action_of u m labels bus (option_map move_seen (get_or slots bus d).action)) ≡ Ok move
    → more ≡ moves ++ move ∷ [] → with_front moves (moves_of u m labels bus (map slot_seen (drop bus slots))) ≡ all
    → with_front more (moves_of u m labels (bus + 1) (map slot_seen (drop (bus + 1) slots))) ≡ all
slot_read u m labels slots bus d moves more move all inside said pushed was =
    front_more moves more move _ (moves_of u m labels (bus + 1) (map slot_seen (drop (bus + 1) slots))) all said pushed
    (ap (with_front moves) (sym (slots_left u m labels slots bus d inside)) ∙ was)

-- a slot that is refused
pub slot_refused : (u : Units) (m : Machine) (labels : Declared Label) (slots : List SlotWords) (bus : ℕ) (d : SlotWords) (moves : List (Option Move)) (e : AsmError)
    (all : Result (List (Option Move)) Refusal) → bus < length slots
    → Answers (Err e) (at_line (get_or slots bus d).line (action_of u m labels bus (option_map move_seen (get_or slots bus d).action)))
    → with_front moves (moves_of u m labels bus (map slot_seen (drop bus slots))) ≡ all → Answers (Err e) all
slot_refused u m labels slots bus d moves NoMemory all inside said was = said
slot_refused u m labels slots bus d moves (Refused line code) all inside said was = (
  said.0,
  said.1,
  sym was ∙ ap (with_front moves) (slots_left u m labels slots bus d inside)
      ∙ ap (λ (item : Result (Option Move) Refusal). with_front moves (with_item item (moves_of u m labels (bus + 1) (map slot_seen (drop (bus + 1) slots))))) said.2,
)

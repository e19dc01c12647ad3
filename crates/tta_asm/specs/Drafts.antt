-- What the code has read of a text, as the definitions see it, and what a piece does to it.
use Rattle.std.specs.Prelude.{ℕ, length, map, Option, Result, Ok}
use Rattle.tta_asm.specs.Cited.{Declared, Units, Machine}
use Rattle.tta_parse.specs.Steps.{◌>>=◌}
use Rattle.tta_asm.specs.declared.labels.Label.{Label}
use Rattle.tta_asm.specs.Forms.{LongForm}
use Rattle.tta_asm.specs.declared.draft.Draft.{Draft as DraftWords}
use Rattle.tta_asm.specs.declared.refusal.AsmError.{AsmError}
use Rattle.tta_asm.specs.Assembly.{Draft, instruction_of, with_instruction}
use Rattle.tta_asm.specs.Refusals.{Refusal, AnswersAs}
use Rattle.tta_asm.specs.Seen.{slot_seen}

-- slots and instructions as the definitions see them
abbrev pub draft_seen : DraftWords → Draft
draft_seen d = record { slots = map slot_seen d.slots.items; words = d.words }

-- the draft with the instruction of its slots, which ends on this line
abbrev pub end_instruction : Units → Machine → Declared Label → Draft → (line : ℕ) → Option LongForm → Result Draft Refusal
end_instruction u m labels d line long = instruction_of u m labels line (length d.words) d.slots long >>= λ i. Ok (with_instruction d i)

-- a piece made of the draft what the definition says, or its refusal is reported, or there was no memory
abbrev pub Takes : {A : Type 0} → Draft → Result A AsmError → Result Draft Refusal → Type 0
Takes new = AnswersAs (λ _. new)

-- What text was made of a converted program, and what became of it.
use Rattle.std.proofs.Common.{◌≡◌, ◌⊎◌, ℕ, List, Result, Ok, Err, sym, subst, inl, inr}
use Rattle.tta_tool.specs.Cited.{World, IsUntouched, Units, Program, ProgramText, Converted, printed, Status, IsTaken, MadeEnds, no_memory, WritesMade, WritingEnds}
use Rattle.tta_ports.proofs.Worlds.{same_world}
use Rattle.tta_load.proofs.Endings.{writing_ends}
use Rattle.tta_tool.specs.Ifconv.{IsConvertedText, WritesConverted}

-- the printed text of the converted program
pub converted_text : {T : Type 0} → (u : Units) (p q : Program) (items : T → List ℕ) (result : Result T Status)
    → Converted p q → MadeEnds (λ bytes. bytes ≡ printed u q) no_memory items result → MadeEnds (IsConvertedText u p) no_memory items result
converted_text u p q items (Ok v) is ends = record { converted = q; is = is; text = ends }
converted_text u p q items (Err s) is ends = ends

-- a program that was read, the text that was made of it, and what became of that
pub writes_converted : {T : Type 0} → (u : Units) (P OUT : List ℕ) (p : Program) (before between after : World) (items : T → List ℕ)
    (made : Result T Status) (s : Status) → IsTaken (ProgramText u) P p before between → MadeEnds (IsConvertedText u p) no_memory items made
    → WritesMade OUT items made between after s → WritesConverted u P OUT before after s
writes_converted {T} u P OUT p before between after items made s taken ends wrote =
    inr (
      record { value = p; held = taken.held },
      of made ends
          (subst (λ w. WritesMade OUT items made w after s) (same_world before between taken.untouched) wrote),
    ) where
      of : (r : Result T Status) → MadeEnds (IsConvertedText u p) no_memory items r → WritesMade OUT items r before after s
          → (IsUntouched before after × no_memory s) ⊎ WritingEnds (IsConvertedText u p) OUT before after s
      of (Ok v) ends wrote = inr (writing_ends (IsConvertedText u p) OUT (items v) before after s ends wrote)
      of (Err e) ends wrote = inl (wrote.1, subst no_memory (sym wrote.0) ends)

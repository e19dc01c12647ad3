-- A procedure that is found in the code of a run.
use Rattle.std.proofs.Common.{◌≡◌, ℕ, List, slice_get, Some, ap, sym, ◌∙◌}
use Rattle.std.specs.Prelude.{option_map}
use Rattle.std.proofs.lemmas.Option.{slice_get-map}
use Rattle.tta_tacrun.specs.Cited.{Program}
use Rattle.tta_tacrun.specs.declared.flat_proc.FlatProc.{FlatProc}
use Rattle.tta_tacrun.specs.Code.{code_said, said_proc}
use Rattle.tta_tacrun.specs.Run.{code_of}

pub found : (p : Program) (code slice : List FlatProc) (i proc : ℕ) (flat : FlatProc) → code_said code ≡ code_of p → slice ≡ code → i ≡ proc
    → Some flat ≡ slice_get slice i → slice_get (code_of p) proc ≡ Some (said_proc flat)
found p code slice i proc flat coded same at is =
    ap (λ code. slice_get code proc) (sym coded) ∙ slice_get-map said_proc code proc
    ∙ ap (option_map said_proc) (ap (λ code. slice_get code proc) (sym same) ∙ ap (slice_get slice) (sym at) ∙ sym is)

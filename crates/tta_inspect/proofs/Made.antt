-- What was made of a part is made of the whole, and memory is all that can lack.
use Rattle.std.proofs.Common.{ℕ, List, Result, Ok, Err, sym, subst}
use Rattle.tta_inspect.specs.Cited.{Status, MadeEnds, no_memory}
use Rattle.tta_load.specs.declared.status.Status.TheVariants as status

pub made_of : {T : Type 0} (Part Whole : List ℕ → Type 0) (Lacks : Status → Type 0) (items : T → List ℕ) (made : Result T Status)
    → ((text : List ℕ) → Part text → Whole text) → Lacks status.NoMemory → MadeEnds Part no_memory items made → MadeEnds Whole Lacks items made
made_of Part Whole Lacks items (Ok v) whole none is = whole (items v) is
made_of Part Whole Lacks items (Err s) whole none is = subst Lacks (sym is) none

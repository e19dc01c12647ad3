-- What programs have that were read from texts, beside the rules of programs, so that their printed text can be read.
use Rattle.std.specs.Prelude.{◌≡◌, ◌≤◌, ℕ, suc, ◌==◌, Bool, true, ◌&&◌, nat_le, if◌then◌else◌, List, [], ◌∷◌, ◌++◌, length, Some, None}
use Rattle.std.specs.List.{list_all, flat_map}
use Rattle.tta_roundtrip.specs.Cited.{is_name, Units, Src, Var, Word, Step, Copy, Apply, Load, Store, Put, Take, If, Goto, When, Invoke, Return, Halt, End, Proc, Program}
use Rattle.tta_pretty.specs.Printed.{op_name, lines_printed}

-- ---- the order of variables

-- the variable of an operand, if it is one
abbrev pub in_src : Src → List ℕ
in_src (Var x) = x ∷ []
in_src (Word w) = []

-- the variables of a step, in the order of its words
abbrev pub mentions : Step → List ℕ
mentions (Copy d s) = d ∷ in_src s
mentions (Apply d op a b) = d ∷ (in_src a ++ in_src b)
mentions (Load d a) = d ∷ in_src a
mentions (Store a v) = in_src a ++ in_src v
mentions (Put v) = in_src v
mentions (Take d) = d ∷ []
mentions (If rel a b to) = in_src a ++ in_src b
mentions (Goto to) = []
mentions (When rel a b d s) = in_src a ++ (in_src b ++ (d ∷ in_src s))
mentions (Invoke (Some d) callee args) = d ∷ flat_map in_src args
mentions (Invoke None callee args) = flat_map in_src args
mentions (Return (Some s)) = in_src s
mentions (Return None) = []
mentions Halt = []
mentions End = []

-- Whether each variable of a list is one that stood before, or the next one, where so many stood before the first; and so
-- many stand there in the end.
abbrev pub are_in_order : (before after : ℕ) → List ℕ → Bool
are_in_order before after [] = before == after
are_in_order before after (x ∷ xs) = nat_le x before && are_in_order (if x == before then suc before else before) after xs

-- whether the variables of a procedure are numbered by their first appearance, after its parameters
abbrev pub is_in_order : Proc → Bool
is_in_order q = are_in_order q.params q.vars (flat_map mentions q.steps)

-- ---- names of operations

-- whether the operation of a step has a name that a text can have
abbrev pub is_named : Units → Step → Bool
is_named u (Apply d op a b) = is_name (op_name u op)
is_named u step = true

-- ---- programs

-- The variables are in order, the operations have names, and the printed text has no more lines than a text may have.
pub record IsReadable (u : Units) (p : Program) : Type 0 where
  pub order : list_all is_in_order p.procs ≡ true
  pub named : list_all (λ q. list_all (is_named u) q.steps) p.procs ≡ true
  pub lines : length (lines_printed u p) ≤ 65536

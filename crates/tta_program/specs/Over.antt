-- Programs over a set of operation units.
use Rattle.std.specs.Prelude.{◌≡◌, ℕ, ◌==◌, Bool, true, false, ◌&&◌, ◌||◌, List, slice_get, codes}
use Rattle.std.specs.Option.{option_map_or}
use Rattle.std.specs.List.{list_all}
use Rattle.tta_ops.specs.Units.{Units, named}
use Rattle.tta_program.specs.declared.operand.Src.{Src}
use Rattle.tta_program.specs.declared.operand.Src.TheVariants.{Var, Word}
use Rattle.tta_program.specs.declared.operand.Rel.{Rel}
use Rattle.tta_program.specs.declared.operand.Rel.TheVariants.{Eq, Ne, Lt, Ge, Ltu, Geu}
use Rattle.tta_program.specs.declared.step.Step.{Step}
use Rattle.tta_program.specs.declared.step.Step.TheVariants.{Apply, If, When}
use Rattle.tta_program.specs.Program.{Program}

-- the name of the operation that decides a condition: ne, ge and geu hold where eq, lt and ltu do not
abbrev pub test_name : Rel → List ℕ
test_name Eq = codes "eq"
test_name Ne = codes "eq"
test_name Lt = codes "lt"
test_name Ge = codes "lt"
test_name Ltu = codes "ltu"
test_name Geu = codes "ltu"

-- whether the set has an operation that decides a condition, from two words
abbrev pub has_test : Units → Rel → Bool
has_test u rel = option_map_or (λ op. option_map_or (λ n. n == 2) (slice_get u.arities op) false) (named u (test_name rel)) false

-- whether an operand is the word 0
abbrev pub is_zero : Src → Bool
is_zero (Word w) = w == 0
is_zero (Var x) = false

-- whether the operation that a step names is there, and takes as many words as the step gives it: where it takes one
-- word, that is the second operand, and the first is the word 0
abbrev pub is_over : Units → Step → Bool
is_over u (Apply d op a b) = option_map_or (λ n. n == 2 || n == 1 && is_zero a) (slice_get u.arities op.0) false
is_over u (If rel a b to) = has_test u rel
is_over u (When rel a b d s) = has_test u rel
is_over u step = true

-- A program stands over a set of units where each operation that a step names is one of the set, with the number of words
-- that the step gives it, and where the set decides each condition.
pub record StandsOver (u : Units) (p : Program) : Type 0 where
  pub steps : list_all (λ q. list_all (is_over u) q.steps) p.procs ≡ true

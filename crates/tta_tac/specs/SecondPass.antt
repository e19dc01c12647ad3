-- Labels and callees get their numbers, once all lines were read.
use Rattle.std.specs.Prelude.{ℕ, ◌==◌, not, List, [], ◌∷◌, length, slice_get, Result, Ok, codes}
use Rattle.std.specs.Str.{bytes_eq}
use Rattle.std.specs.Option.{option_map_or}
use Rattle.tta_tac.specs.Cited.{Declared, named_in, or_refuse, refuse_if, at_line, Step, Proc}
use Rattle.tta_parse.specs.Steps.{◌>>=◌}
use Rattle.tta_program.specs.declared.step.Step.TheVariants as step
use Rattle.tta_tac.specs.declared.refusal.Refusal.{Refusal}
use Rattle.tta_tac.specs.declared.refusal.Refusal.TheVariants.{UnknownLabel, UnknownProc, Arity}
use Rattle.tta_tac.specs.Draft.{Unlinked, Plain, IfTo, GotoTo, CallTo, ProcDraft, Draft}

-- a procedure that a call may name: one that there is, and not main
abbrev pub callee_named : Declared ℕ → List ℕ → Result ℕ Refusal
callee_named names name = refuse_if (bytes_eq name (codes "main")) UnknownProc (or_refuse UnknownProc (named_in names name))

-- how many parameters a procedure has
abbrev pub params_of : List ProcDraft → ℕ → ℕ
params_of procs k = option_map_or (λ q. q.params) (slice_get procs k) 0

-- a step with its label or callee as a number
abbrev pub link_step : Draft → (labels : Declared ℕ) → Unlinked → Result Step Refusal
link_step d labels (Plain s) = Ok s
link_step d labels (IfTo rel a b label) = or_refuse UnknownLabel (named_in labels label) >>= λ to. Ok (step.If rel a b to)
link_step d labels (GotoTo label) = or_refuse UnknownLabel (named_in labels label) >>= λ to. Ok (step.Goto to)
link_step d labels (CallTo dst callee args) =
    callee_named d.names callee >>= λ k.
    refuse_if (not (params_of d.procs k == length args)) Arity (Ok (step.Invoke dst k args))

-- a refusal with its line
abbrev pub Refused : Type 0
Refused = ℕ × Refusal

-- the steps of a procedure with their lines; the first refusal is reported
abbrev pub link_steps : Draft → Declared ℕ → List Unlinked → (lines : List ℕ) → Result (List Step) Refused
link_steps d labels (s ∷ ss) (line ∷ lines) =
    at_line line (link_step d labels s) >>= λ first. link_steps d labels ss lines >>= λ rest. Ok (first ∷ rest)
link_steps d labels ss lines = Ok []

-- a procedure
abbrev pub link_proc : Draft → ProcDraft → Result Proc Refused
link_proc d q =
    link_steps d q.labels q.steps q.lines >>= λ steps.
    Ok (record { params = q.params; vars = length q.vars; steps = steps; lines = q.lines })

-- all procedures in the order of the text
abbrev pub link_procs : Draft → List ProcDraft → Result (List Proc) Refused
link_procs d [] = Ok []
link_procs d (q ∷ qs) = link_proc d q >>= λ first. link_procs d qs >>= λ rest. Ok (first ∷ rest)

-- What a run begins with.
use Rattle.std.proofs.Common.{◌≡◌, ◌<◌, ◌-◌, ℕ, zero, suc, Bool, true, false, List, [], ◌∷◌, length, map, get_or, replicate, slice_get, refl, arith}
use Rattle.std.specs.Option.{option_map_or}
use Rattle.std.proofs.lemmas.List.{length-replicate}
use Rattle.tta_tacrun.specs.Cited.{Proc, Program, enter}
use Rattle.tta_tacrun.specs.Calls.{calls_of}
use Rattle.tta_tacrun.specs.declared.entry.Entry.{Entry}

-- a place at which some procedure passes a test is there
pub within_if : (test : Proc → Bool) (procs : List Proc) (i : ℕ) → option_map_or test (slice_get procs i) false ≡ true → i < length procs
within_if test [] i passes = cc
within_if test (q ∷ qs) zero passes = omega arith
within_if test (q ∷ qs) (suc i) passes = omega (arith, within_if test qs i passes)

-- every variable of every procedure 0
abbrev pub zeros_of : List Proc → List (List ℕ)
zeros_of procs = map (λ q. replicate q.vars 0) procs

zeros_at : (procs : List Proc) (i : ℕ) → get_or (zeros_of procs) i [] ≡ replicate (option_map_or (λ q. q.vars) (slice_get procs i) 0 - 0) 0
zeros_at [] i = refl
zeros_at (q ∷ qs) zero = let all : q.vars - 0 ≡ q.vars = omega arith in rw all refl
zeros_at (q ∷ qs) (suc i) = zeros_at qs i

lengths_zeros : (procs : List Proc) → map length (zeros_of procs) ≡ map (λ q. q.vars) procs
lengths_zeros [] = refl
lengths_zeros (q ∷ qs) = rw (length-replicate {A = ℕ} q.vars 0, lengths_zeros qs) refl

pub calls_first : (p : Program) (vs : List (List ℕ)) (callers : List Entry) → vs ≡ zeros_of p.procs → callers ≡ []
    → calls_of vs (record { proc = p.main; at = 0 }) callers
    ≡ record { sizes = map (λ q. q.vars) p.procs; top = enter p p.main []; below = [] }
calls_first p vs callers zeros none = rw (zeros, none, lengths_zeros p.procs, zeros_at p.procs p.main) refl

-- What the second pass makes of a draft, and what it reports.
use Rattle.std.proofs.Common.{◌≡◌, ℕ, suc, zero, ◌<◌, List, [], ◌∷◌, length, get_or, Some, None, Ok, Err, refl, sym, ◌∙◌, ap, arith}
use Rattle.std.specs.Prelude.{slice_get, codes}
use Rattle.std.specs.Option.{option_map_or}
use Rattle.tta_tac.specs.Cited.{named_in, Units, Proc}
use Rattle.tta_parse.specs.Steps.{◌>>=◌}
use Rattle.tta_parse.proofs.Steps.{then-ok}
use Rattle.tta_tac.specs.declared.draft.DraftProc.{DraftProc}
use Rattle.tta_tac.specs.declared.refusal.Refusal.TheVariants.{Recursive, NoMain}
use Rattle.tta_tac.specs.declared.refusal.TacError.{TacError}
use Rattle.tta_tac.specs.declared.refusal.TacError.TheVariants as tac_error
use Rattle.tta_tac.specs.Refusals.{code_of}
use Rattle.tta_tac.specs.Draft.{Draft, ProcDraft, procs_seen}
use Rattle.tta_tac.specs.SecondPass.{Refused, link_proc, link_procs}
use Rattle.tta_tac.specs.Text.{linked_text, IsFirstRecursive, InPasses, ByRecursion, WithoutMain}
use Rattle.tta_tac.specs.Cycles.{IsAcyclic}
use Rattle.tta_tac.specs.Reported.{Reports, IsDraftOf, MakesProgram, ReportsCause, LeadsBack}
use Rattle.tta_tac.proofs.CallLemmas.{reaches_within}

-- ---- the passes, one after the other

-- the first procedure and the others of what was made
pub procs_cons : (d : Draft) (q : ProcDraft) (qs : List ProcDraft) (procs : List Proc) → link_procs d (q ∷ qs) ≡ Ok procs
    → (r : Proc) × (rest : List Proc) × (link_proc d q ≡ Ok r) × (link_procs d qs ≡ Ok rest) × (r ∷ rest ≡ procs)
procs_cons d q qs procs e =
    let first = then-ok (link_proc d q) _ procs e in
    let rest = then-ok (link_procs d qs) _ procs first.2 in
    let all : first.0 ∷ rest.0 ≡ procs = cc rest.2 in
    (first.0, rest.0, first.1, rest.1, all)

-- as many procedures are made as there were
pub linked_length : (d : Draft) (qs : List ProcDraft) (procs : List Proc) → link_procs d qs ≡ Ok procs → length procs ≡ length qs
linked_length d [] procs e = let none : [] ≡ procs = cc in ap length (sym none)
linked_length d (q ∷ qs) procs e = let c = procs_cons d q qs procs e in ap length (sym c.4) ∙ ap suc (linked_length d qs c.1 c.3)

-- both passes end well, or in the refusal of the second
pub passes_ok : (d : Draft) (procs : List Proc) (u : Units) (text : List ℕ) → IsDraftOf d u text → link_procs d d.procs ≡ Ok procs
    → linked_text u text ≡ Ok (record { draft = d; procs = procs })
unfolding linked_text
passes_ok d procs u text read link =
    ap (λ r. r >>= λ d. link_procs d d.procs >>= λ procs. Ok (record { draft = d; procs = procs })) read
    ∙ ap (λ r. r >>= λ procs. Ok (record { draft = d; procs = procs })) link

pub passes_err : (d : Draft) (e : Refused) (u : Units) (text : List ℕ) → IsDraftOf d u text → link_procs d d.procs ≡ Err e
    → linked_text u text ≡ Err e
unfolding linked_text
passes_err d e u text read link =
    ap (λ r. r >>= λ d. link_procs d d.procs >>= λ procs. Ok (record { draft = d; procs = procs })) read
    ∙ ap (λ r. r >>= λ procs. Ok (record { draft = d; procs = procs })) link

-- ---- what is reported

-- a refusal of a step, a call that leads back, no main, and else the program
pub reported_in_passes : (d : Draft) (e : TacError) → Reports {A = List Proc} (Err e) (link_procs d d.procs) → ReportsCause d e
reported_in_passes d tac_error.NoMemory reported u text read = tt
reported_in_passes d (tac_error.Refused line code) reported u text read =
    (reported.0, reported.1, InPasses line reported.0 (passes_err d (line, reported.0) u text read reported.2))

pub told_by_recursion : (d : Draft) (procs : List Proc) (e : TacError) → link_procs d d.procs ≡ Ok procs → LeadsBack d procs e → ReportsCause d e
told_by_recursion d procs tac_error.NoMemory link back u text read = tt
told_by_recursion d procs (tac_error.Refused line code) link back u text read = (
  Recursive,
  back.0,
  ByRecursion line (record {
    linked = record { draft = d; procs = procs };
    passes = passes_ok d procs u text read link;
    proc = back.1.0;
    first = back.1.1;
    there = back.1.2;
  }),
)

pub told_without_main : (d : Draft) (procs : List Proc) (code : ℕ) → link_procs d d.procs ≡ Ok procs → IsAcyclic procs
    → named_in d.names (codes "main") ≡ None → code ≡ code_of NoMain → ReportsCause d (tac_error.Refused 0 code)
told_without_main d procs code link acyclic none is u text read = (
  NoMain,
  is,
  WithoutMain (record {
    linked = record { draft = d; procs = procs };
    passes = passes_ok d procs u text read link;
    acyclic = acyclic;
    no_main = none;
  }),
)

pub made_program : (d : Draft) (procs : List Proc) (main : ℕ) → link_procs d d.procs ≡ Ok procs → IsAcyclic procs
    → named_in d.names (codes "main") ≡ Some main → MakesProgram d (record { procs = procs; main = main; init = d.init })
made_program d procs main link acyclic named u text read = record {
  linked = record { draft = d; procs = procs };
  passes = passes_ok d procs u text read link;
  procs = refl;
  main = named;
  init = refl;
  acyclic = acyclic;
}

-- the line of a procedure of the code
pub line_there : (qs : List DraftProc) (k : ℕ) (q : DraftProc) → k < length qs → q ≡ get_or qs k q
    → option_map_or (λ q. Some q.line) (slice_get (procs_seen qs) k) None ≡ Some q.line
line_there [] k q below is = absurd (omega arith)
line_there (p ∷ qs) zero q below is = ap (λ x. Some x.line) (sym is)
line_there (p ∷ qs) (suc k) q below is = line_there qs k q (omega arith) is

-- a procedure that leads back is there
pub first_within : (procs : List Proc) (k : ℕ) → IsFirstRecursive procs k → k < length procs
first_within procs k first = reaches_within procs k k first.returns

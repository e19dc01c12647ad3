-- What the definitions see of lists of the code's steps and procedures.
use Rattle.std.proofs.Common.{◌≡◌, suc, List, [], ◌∷◌, ◌++◌, length, refl, ap}
use Rattle.tta_parse.specs.declared.word.Word.{Word}
use Rattle.tta_tac.specs.Cited.{texts}
use Rattle.tta_tac.specs.declared.draft.NamedStep.{NamedStep}
use Rattle.tta_tac.specs.declared.draft.DraftProc.{DraftProc}
use Rattle.tta_tac.specs.Draft.{step_seen, steps_seen, proc_seen, procs_seen}

-- one step more, and how many there are
pub steps_seen_append : (ss : List NamedStep) (s : NamedStep) → steps_seen (ss ++ s ∷ []) ≡ steps_seen ss ++ step_seen s ∷ []
steps_seen_append [] s = refl
steps_seen_append (t ∷ ss) s = ap (λ rest. step_seen t ∷ rest) (steps_seen_append ss s)

pub steps_seen_length : (ss : List NamedStep) → length (steps_seen ss) ≡ length ss
steps_seen_length [] = refl
steps_seen_length (s ∷ ss) = ap suc (steps_seen_length ss)

-- the same of procedures
pub procs_seen_append : (qs : List DraftProc) (q : DraftProc) → procs_seen (qs ++ q ∷ []) ≡ procs_seen qs ++ proc_seen q ∷ []
procs_seen_append [] q = refl
procs_seen_append (t ∷ qs) q = ap (λ rest. proc_seen t ∷ rest) (procs_seen_append qs q)

pub procs_seen_length : (qs : List DraftProc) → length (procs_seen qs) ≡ length qs
procs_seen_length [] = refl
procs_seen_length (q ∷ qs) = ap suc (procs_seen_length qs)

-- as many texts as words
pub texts_length : (words : List Word) → length (texts words) ≡ length words
texts_length [] = refl
texts_length (w ∷ words) = ap suc (texts_length words)

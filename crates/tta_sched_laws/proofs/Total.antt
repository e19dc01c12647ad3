-- What a list of effects means where a word of the input that is not there is 0, so that it never waits; and which of
-- its effects want such a word.
use Rattle.std.specs.Prelude.{ℕ, suc, Bool, true, false, not, ◌&&◌, if◌then◌else◌, List, [], ◌∷◌, ◌++◌, fold, Option, Some, None, is_none, slice_get}
use Rattle.std.specs.Option.{option_map_or, option_to_list}
use Rattle.tta_sched_laws.specs.Cited.{Units, Machine, Target, Control, Effect, KeptReg, Brought, bring, Start, start_of, takes, Held, read_held, lacks, place_of, Touch, At, operand_read, written_at}
use Rattle.tta_moves.specs.Meaning.{acts}

-- the operation that a brought word starts
abbrev pub started_by : Machine → Held → Option Brought → Option Start
started_by m h None = None
started_by m h (Some b) = start_of m h.written b

-- a word that is brought, if one is
abbrev pub total : Units → Machine → (back : ℕ) → Held → Option Brought → Held
total u m back h None = h
total u m back h (Some b) = acts u m back h b (option_to_list (start_of m h.written b))

-- one effect, with all that it does
unfoldable pub do_move : Units → Machine → (back : ℕ) → Held → Effect → Held
do_move u m back h e = total u m back h (bring (read_held h.written) e)

-- whether an effect takes a word of the input where none is left
abbrev pub wants : Machine → Held → Effect → Bool
wants m h e = option_map_or takes (started_by m h (bring (read_held h.written) e)) false && is_none (slice_get h.rest 0)

-- what effects leave, one after another
abbrev pub do_moves : Units → Machine → (back : ℕ) → Held → List Effect → Held
do_moves u m back h es = fold (do_move u m back) h es

-- whether no effect lacks a word
abbrev pub has_meaning : Units → Machine → (back : ℕ) → Held → List Effect → Bool
has_meaning u m back h [] = true
has_meaning u m back h (e ∷ es) = not (lacks m h e) && has_meaning u m back (do_move u m back h e) es

-- the number of effects before the first that wants a word, where one does
abbrev pub waits_at : Units → Machine → (back : ℕ) → Held → List Effect → Option ℕ
waits_at u m back h [] = None
waits_at u m back h (e ∷ es) =
    if wants m h e then Some 0 else option_map_or (λ k. Some (suc k)) (waits_at u m back (do_move u m back h e) es) None

-- an effect with the cycle that it was given, counted from the list's first
pub record Timed : Type 0 where
  pub does : Effect
  pub cycle : ℕ

-- what an effect reads
abbrev pub reads_by : Effect → List Touch
reads_by e =
    option_map_or (λ p. (At p, 0) ∷ []) (place_of e.src) []
    ++ (option_map_or (λ g. (At (KeptReg g.file g.index), 0) ∷ []) e.guard [] ++ operand_read e.target)

-- what an effect writes
abbrev pub writes_by : Machine → Effect → List Touch
writes_by m e = written_at m e.target

-- whether a word goes to control
abbrev pub is_control : Target → Bool
is_control (Control kind) = true
is_control d = false

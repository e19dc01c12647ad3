-- Lines that are pure: their operations show results, and do nothing else.
use Rattle.std.proofs.Common.{◌≡◌, ℕ, Bool, true, false, not, ◌||◌, List, [], ◌∷◌, Option, None, Some, refl, ap, ◌∙◌}
use Rattle.std.specs.Prelude.{fold, option_map, if◌then◌else◌}
use Rattle.std.specs.List.{find, filter_map, cons_option, list_any}
use Rattle.std.proofs.lemmas.Bool.{or_parts, or_from, not-true}
use Rattle.tta_sim.specs.Cited.{Units, Op, Ldw, Stw, Ldf, Stf, Out, Take, Set, Start, store_data, store_frame, takes}
use Rattle.tta_sim.specs.declared.decoded.DecodedStart.{DecodedStart}
use Rattle.tta_sim.specs.declared.decoded.Line.{Line}
use Rattle.tta_sim.specs.declared.store.Store.{Store}
use Rattle.tta_sim.specs.declared.store.CycleBuffers.{CycleBuffers}
use Rattle.tta_sim.specs.Results.{Results, shown_by}
use Rattle.tta_sim.specs.Starts.{started, begun, is_loud, is_loud_op, puts}
use Rattle.tta_sim.specs.Decoded.{is_loud_start, is_nil}
use Rattle.tta_sim.specs.Lines.{word_read, start_brought, operand_in, controls_well, IsLineThere}
use Rattle.tta_sim.specs.Ready.{writes_in, AreLeft}
use Rattle.tta_sim.proofs.Noting.{nothing_in, pure_parts}

-- ---- one operation

-- What an operation does that is not loud.
record IsSoft (t : Start) : Type 0 where
  memory : (words : List ℕ) → store_data words t ≡ words
  frame : (words : List ℕ) → store_frame words t ≡ words
  puts : puts t ≡ false
  takes : takes t ≡ false
  begun : (U : Units) (now : ℕ) (memory frame : List ℕ) (a b : ℕ) → begun U now memory frame a t ≡ begun U now memory frame b t

soft : (t : Start) → is_loud t ≡ false → IsSoft t
soft t is = by t.does.op is where
  by : (o : Op) → is_loud_op o ≡ false → IsSoft (record t { does = record t.does { op = o } })
  by Ldw is = record { memory = λ words. refl; frame = λ words. refl; puts = refl; takes = refl; begun = λ U now memory frame a b. refl }
  by Stw is = cc
  by Ldf is = record { memory = λ words. refl; frame = λ words. refl; puts = refl; takes = refl; begun = λ U now memory frame a b. refl }
  by Stf is = cc
  by Out is = cc
  by Take is = cc
  by (Set id) is = record { memory = λ words. refl; frame = λ words. refl; puts = refl; takes = refl; begun = λ U now memory frame a b. refl }

-- ---- operations of which none is loud

soft_parts : (t : Start) (ts : List Start) → list_any is_loud (t ∷ ts) ≡ false → IsSoft t × (list_any is_loud ts ≡ false)
soft_parts t ts none = let parts = or_parts (is_loud t) (list_any is_loud ts) none in (soft t parts.0, parts.1)

-- they store nothing
pub soft_memory : (words : List ℕ) (ts : List Start) → list_any is_loud ts ≡ false → fold store_data words ts ≡ words
soft_memory words [] none = refl
soft_memory words (t ∷ ts) none =
    let parts = soft_parts t ts none in
    ap (λ ws. fold store_data ws ts) (parts.0.memory words) ∙ soft_memory words ts parts.1

pub soft_frame : (words : List ℕ) (ts : List Start) → list_any is_loud ts ≡ false → fold store_frame words ts ≡ words
soft_frame words [] none = refl
soft_frame words (t ∷ ts) none =
    let parts = soft_parts t ts none in
    ap (λ ws. fold store_frame ws ts) (parts.0.frame words) ∙ soft_frame words ts parts.1

-- they output nothing
pub soft_puts : (ts : List Start) → list_any is_loud ts ≡ false → find puts ts ≡ None
soft_puts [] none = refl
soft_puts (t ∷ ts) none =
    let parts = soft_parts t ts none in
    ap (λ b. if b then Some t else find puts ts) parts.0.puts ∙ soft_puts ts parts.1

-- they take nothing
pub soft_takes : (ts : List Start) → list_any is_loud ts ≡ false → list_any takes ts ≡ false
soft_takes [] none = refl
soft_takes (t ∷ ts) none =
    let parts = soft_parts t ts none in
    ap (λ b. b || list_any takes ts) parts.0.takes ∙ soft_takes ts parts.1

-- so they begin the same results, whatever the next word of the input is
pub soft_begun : (U : Units) (now : ℕ) (memory frame : List ℕ) (a b : ℕ) (ts : List Start) → list_any is_loud ts ≡ false
    → filter_map (begun U now memory frame a) ts ≡ filter_map (begun U now memory frame b) ts
soft_begun U now memory frame a b [] none = refl
soft_begun U now memory frame a b (t ∷ ts) none =
    let parts = soft_parts t ts none in
    ap (λ o. cons_option o (filter_map (begun U now memory frame a) ts)) (parts.0.begun U now memory frame a b)
    ∙ ap (cons_option (begun U now memory frame b t)) (soft_begun U now memory frame a b ts parts.1)

-- ---- a line

soft_starts : (places : List (Option ℕ)) (shown : ℕ → Option ℕ) (operand : ℕ → Option ℕ) (ss : List DecodedStart) → list_any is_loud_start ss ≡ false
    → list_any is_loud (filter_map (start_brought places shown operand) ss) ≡ false
soft_starts places shown operand [] none = refl
soft_starts places shown operand (s ∷ ss) none =
    let parts = or_parts (is_loud_start s) (list_any is_loud_start ss) none in
    by (word_read places shown s.reading) parts.0 (soft_starts places shown operand ss parts.1)
  where
    by : (o : Option ℕ) → is_loud_start s ≡ false → list_any is_loud (filter_map (start_brought places shown operand) ss) ≡ false
        → list_any is_loud (cons_option (option_map (started operand s.unit s.does) o) (filter_map (start_brought places shown operand) ss)) ≡ false
    by None here rest = rest
    by (Some word) here rest = or_from (is_loud_start s) (list_any is_loud (filter_map (start_brought places shown operand) ss)) here rest

-- a pure line has no control moves
pub pure_controls : (units : ℕ) (l : Line) → IsLineThere units l → l.pure ≡ true → l.controls ≡ []
pure_controls units l there pure = nothing_in l.controls (pure_parts l.pure (not (list_any is_loud_start l.starts)) (is_nil l.controls) there.pure pure).1

-- so they can act
pub pure_acting : (units : ℕ) (l : Line) (places : List (Option ℕ)) (shown : ℕ → Option ℕ) (is_pending : Bool) → IsLineThere units l → l.pure ≡ true
    → controls_well places shown is_pending l.controls ≡ true
pure_acting units l places shown is_pending there pure = ap (controls_well places shown is_pending) (pure_controls units l there pure) ∙ by is_pending where
  by : (b : Bool) → controls_well places shown b [] ≡ true
  by true = refl
  by false = refl

-- what is left of a pure line
pub pure_left : (units : ℕ) (store : Store) (r : Results) (l : Line) (buffers : CycleBuffers) → IsLineThere units l → AreLeft store r l buffers → l.pure ≡ true
    → (list_any is_loud buffers.starts ≡ false) × (l.controls ≡ [])
pure_left units store r l buffers there left pure =
    let parts = pure_parts l.pure (not (list_any is_loud_start l.starts)) (is_nil l.controls) there.pure pure in
    let soft : list_any is_loud_start l.starts ≡ false = not-true (list_any is_loud_start l.starts) parts.0 in (
      ap (list_any is_loud) left.starts ∙ soft_starts store.places (shown_by r) (operand_in store.places (writes_in store r l)) l.starts soft,
      pure_controls units l there pure,
    )

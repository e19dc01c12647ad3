-- What the moves of a settled line find, one after another.
use Rattle.std.proofs.Common.{◌≡◌, ◌==◌, ◌&&◌, ◌||◌, not, ℕ, Bool, true, false, IsTrue, List, [], ◌∷◌, map, Option, None, Some, refl, ap, ◌∙◌}
use Rattle.std.specs.Prelude.{is_some, option_map, slice_index_or, if◌then◌else◌}
use Rattle.std.specs.Option.{option_or}
use Rattle.std.specs.List.{filter_map, cons_option, find, list_any, AllByRecursion}
use Rattle.std.proofs.lemmas.Bool.{and_parts, and_from, or_parts}
use Rattle.tta_sim.specs.Cited.{Units, Op, Ldw, Stw, Ldf, Stf, Out, Take, Set, KeptOperand, Start, is_stream_op, first_some, or_else, takes, Rings, word_due}
use Rattle.tta_sim.specs.declared.decoded.Reading.{Reading}
use Rattle.tta_sim.specs.declared.decoded.DecodedWrite.{DecodedWrite}
use Rattle.tta_sim.specs.declared.decoded.DecodedStart.{DecodedStart}
use Rattle.tta_sim.specs.declared.decoded.DecodedControl.{DecodedControl}
use Rattle.tta_sim.specs.declared.decoded.Line.{Line}
use Rattle.tta_sim.specs.declared.store.Store.{Store}
use Rattle.tta_sim.specs.Results.{Results, shown_by}
use Rattle.tta_sim.specs.Starts.{started, kind_of, begun, puts}
use Rattle.tta_sim.specs.Places.{number_of}
use Rattle.tta_sim.specs.Lines.{word_read, start_brought, operand_in, control_brought}
use Rattle.tta_sim.specs.Lines.{is_source_there, is_reading_there, is_control_there, IsLineThere}
use Rattle.tta_sim.specs.Dues.{started_at}
use Rattle.tta_sim.specs.Ready.{writes_in, starts_in}
use Rattle.tta_sim.specs.Order.{is_port_at, reads_place, reads_written, is_shown_to, is_late, is_changed}
use Rattle.tta_sim.specs.Known.{is_known, is_start_known}
use Rattle.tta_sim.specs.InPlace.{AreWritten, AreStarted, begun_here, dues_in}
use Rattle.tta_sim.proofs.InTurn.{unseen, port_there, hidden}
use Rattle.tta_sim.proofs.Placed.{read_same, known_same}
use Rattle.tta_sim.proofs.Growing.{written_grows}
use Rattle.tta_sim.proofs.Settled.{Ordered, AllKnown, unwritten}

-- ---- operations that output and take nothing

-- What an operation does that outputs no word and takes none.
record IsPlain (t : Start) : Type 0 where
  puts : puts t ≡ false
  takes : takes t ≡ false
  begun : (U : Units) (now : ℕ) (memory frame : List ℕ) (a b : ℕ) → begun U now memory frame a t ≡ begun U now memory frame b t

plain : (t : Start) → is_stream_op t.does.op ≡ false → IsPlain t
plain t is = by t.does.op is where
  by : (o : Op) → is_stream_op o ≡ false → IsPlain (record t { does = record t.does { op = o } })
  by Ldw is = record { puts = refl; takes = refl; begun = λ U now memory frame a b. refl }
  by Stw is = record { puts = refl; takes = refl; begun = λ U now memory frame a b. refl }
  by Ldf is = record { puts = refl; takes = refl; begun = λ U now memory frame a b. refl }
  by Stf is = record { puts = refl; takes = refl; begun = λ U now memory frame a b. refl }
  by Out is = cc
  by Take is = cc
  by (Set id) is = record { puts = refl; takes = refl; begun = λ U now memory frame a b. refl }

-- What a line's operations do that output no word and take none.
pub record ArePlain (ts : List Start) : Type 0 where
  pub puts : find puts ts ≡ None
  pub takes : list_any takes ts ≡ false
  pub begun : (U : Units) (now : ℕ) (memory frame : List ℕ) (a b : ℕ) → filter_map (begun U now memory frame a) ts ≡ filter_map (begun U now memory frame b) ts

are_plain : (places : List (Option ℕ)) (shown : ℕ → Option ℕ) (operand : ℕ → Option ℕ) (writes : List DecodedWrite) (ss : List DecodedStart)
    → list_any (is_late writes) ss ≡ false → ArePlain (filter_map (start_brought places shown operand) ss)
are_plain places shown operand writes [] none = record { puts = refl; takes = refl; begun = λ U now memory frame a b. refl }
are_plain places shown operand writes (s ∷ ss) none =
    let parts = or_parts (is_late writes s) (list_any (is_late writes) ss) none in
    by (word_read places shown s.reading) (or_parts (reads_written writes s.reading) (is_stream_op s.does.op) parts.0).1 (are_plain places shown operand writes ss parts.1)
  where
    by : (o : Option ℕ) → is_stream_op s.does.op ≡ false → ArePlain (filter_map (start_brought places shown operand) ss)
        → ArePlain (cons_option (option_map (started operand s.unit s.does) o) (filter_map (start_brought places shown operand) ss))
    by None is rest = rest
    by (Some word) is rest =
        let t : Start = started operand s.unit s.does word in
        let one = plain t is in
        let ts = filter_map (start_brought places shown operand) ss in
        record {
          puts = ap (λ b. if b then Some t else find puts ts) one.puts ∙ rest.puts;
          takes = ap (λ b. b || list_any takes ts) one.takes ∙ rest.takes;
          begun = λ U now memory frame a b.
              ap (λ o. cons_option o (filter_map (begun U now memory frame a) ts)) (one.begun U now memory frame a b)
              ∙ ap (cons_option (begun U now memory frame b t)) (rest.begun U now memory frame a b);
        }

-- ---- what its moves find once its words are written

module _ (store : Store) (r : Results) (l : Line) (order : Ordered l) (after : Store) (are : AreWritten store.places (writes_in store r l) after.places) where
  pub plain_starts : ArePlain (starts_in store r (writes_in store r l) l.starts)
  plain_starts = are_plain store.places (shown_by r) (operand_in store.places (writes_in store r l)) l.writes l.starts order.late

  still_there : (rd : Reading) → reads_written l.writes rd ≡ false → (n : ℕ) → reads_place n rd ≡ true → slice_index_or after.places n None ≡ slice_index_or store.places n None
  still_there = unwritten store.places after.places (shown_by r) l.writes are

  operand_stays : (takes : Bool) (unit : ℕ) → (not takes || is_some (slice_index_or store.places (number_of (KeptOperand unit)) None)) ≡ true
      → (not takes || is_some (slice_index_or after.places (number_of (KeptOperand unit)) None)) ≡ true
  operand_stays true unit some = written_grows store.places after.places (writes_in store r l) are (number_of (KeptOperand unit)) some
  operand_stays false unit some = refl

  known_all : (ss : List DecodedStart) → list_any (is_late l.writes) ss ≡ false → AllByRecursion (λ s. IsTrue (is_start_known store.places (shown_by r) s)) ss
      → AllByRecursion (λ s. IsTrue (is_start_known after.places (shown_by r) s)) ss
  known_all [] none all = tt
  known_all (s ∷ ss) none all =
      let parts = or_parts (is_late l.writes s) (list_any (is_late l.writes) ss) none in
      let apart = (or_parts (reads_written l.writes s.reading) (is_stream_op s.does.op) parts.0).0 in
      let was = and_parts (is_known store.places (shown_by r) s.reading) _ all.0 in (
        and_from _ _ (known_same s.reading store.places after.places (shown_by r) (shown_by r) (still_there s.reading apart) (λ u reads. refl) ∙ was.0) (operand_stays (s.does.arity == 2) s.unit was.1),
        known_all ss parts.1 all.1,
      )

  -- its starts have the words that they take
  pub starts_known : AllKnown store.places (shown_by r) l → AllByRecursion (λ s. IsTrue (is_start_known after.places (shown_by r) s)) l.starts
  starts_known known = known_all l.starts order.late known.starts

  one_begun : (s : DecodedStart) → reads_written l.writes s.reading ≡ false
      → begun_here after r s ≡ start_brought store.places (shown_by r) (operand_in store.places (writes_in store r l)) s
  one_begun s apart =
      ap (option_map (started (operand_in after.places []) s.unit s.does)) (read_same s.reading store.places after.places (shown_by r) (shown_by r) (still_there s.reading apart) (λ u reads. refl))
      ∙ ap (λ o. option_map (started (λ n. o) s.unit s.does) (word_read store.places (shown_by r) s.reading)) (are (number_of (KeptOperand s.unit)))

  all_begun : (ss : List DecodedStart) → list_any (is_late l.writes) ss ≡ false
      → filter_map (begun_here after r) ss ≡ filter_map (start_brought store.places (shown_by r) (operand_in store.places (writes_in store r l))) ss
  all_begun [] none = refl
  all_begun (s ∷ ss) none =
      let parts = or_parts (is_late l.writes s) (list_any (is_late l.writes) ss) none in
      let apart = (or_parts (reads_written l.writes s.reading) (is_stream_op s.does.op) parts.0).0 in
      ap (λ o. cons_option o (filter_map (begun_here after r) ss)) (one_begun s apart)
      ∙ ap (cons_option (start_brought store.places (shown_by r) (operand_in store.places (writes_in store r l)) s)) (all_begun ss parts.1)

  -- they are those of the line
  pub starts_begun : filter_map (begun_here after r) l.starts ≡ starts_in store r (writes_in store r l) l.starts
  starts_begun = all_begun l.starts order.late

  -- ---- its control moves

  module _ (U : Units) (rings : Rings) (was : AreStarted 0 r (map (started_at 0) (dues_in U after r l.starts)) rings) where
    abbrev pub then_shown : ℕ → Option ℕ
    then_shown = shown_by (record r { rings = rings })

    port_same : (rd : Reading) → list_any (λ s. is_shown_to s rd) l.starts ≡ false → is_reading_there r.units rd ≡ true → (u : ℕ) → is_port_at u rd.src ≡ true
        → then_shown u ≡ shown_by r u
    port_same rd none there u port =
        was.shown u (port_there r.units u rd.src (and_parts _ (is_source_there r.units rd.src) there).1 port)
        ∙ ap (λ o. option_or (word_due o) (shown_by r u)) (unseen U after.memory.items after.frame.items after.places (shown_by r) 0 u l.starts (each l.starts none))
      where
        each : (ss : List DecodedStart) → list_any (λ s. is_shown_to s rd) ss ≡ false → AllByRecursion (λ a. (a.does.latency == 1 && a.unit == u) ≡ false) ss
        each [] none = tt
        each (s ∷ ss) none =
            let parts = or_parts (is_shown_to s rd) (list_any (λ s. is_shown_to s rd) ss) none in
            (hidden rd.src u s port parts.0, each ss parts.1)

    firsts : (ts : List DecodedControl) → list_any (is_changed l.writes l.starts) ts ≡ false → AllByRecursion (λ t. IsTrue (is_control_there r.units t)) ts
        → first_some (control_brought after.places then_shown) ts ≡ first_some (control_brought store.places (shown_by r)) ts
    firsts [] none there = refl
    firsts (t ∷ ts) none there =
        let parts = or_parts (is_changed l.writes l.starts t) (list_any (is_changed l.writes l.starts) ts) none in
        let apart = or_parts (reads_written l.writes t.reading) (list_any (λ s. is_shown_to s t.reading) l.starts) parts.0 in
        ap (λ o. or_else (option_map (λ word. (kind_of t.kind, word)) o) (first_some (control_brought after.places then_shown) ts))
        (read_same t.reading store.places after.places (shown_by r) then_shown (still_there t.reading apart.0) (port_same t.reading apart.1 there.0))
        ∙ ap (or_else (control_brought store.places (shown_by r) t)) (firsts ts parts.1 there.1)

    -- the one that acts is that of the line
    pub control_same : IsLineThere r.units l → first_some (control_brought after.places then_shown) l.controls ≡ first_some (control_brought store.places (shown_by r)) l.controls
    control_same there = firsts l.controls order.changed there.controls

-- What one item of a list that does not wait leaves, and the channels that it leaves as they are.
use Rattle.std.proofs.Common.{◌≡◌, ℕ, zero, suc, Bool, true, false, List, [], ◌∷◌, Option, Some, None, refl, sym, ap, subst, arith, ◌∙◌}
use Rattle.std.specs.Prelude.{if◌then◌else◌, ◌&&◌, ◌==◌, fold, is_none, slice_get, slice_set, option_map}
use Rattle.std.specs.Option.{option_map_or, option_to_list}
use Rattle.std.specs.List.{list_any}
use Rattle.std.proofs.lemmas.Bool.{and_from}
use Rattle.std.proofs.lemmas.Bool.Decides.{nat_tests}
use Rattle.tta_reorder.specs.Cited.{Units, UnitOp, Op, Ldw, Stw, Ldf, Stf, Out, Take, Set, Machine, Target, Reg, Imm, Operand, Trigger, Control, Effect, Written, kept, moved, op_at, Start, start_of, operand_of, operand_word, store_data, store_frame, put_out, takes, takes_in, take_in, control_of, Item, target_of_item, controls, Exit, Waits, is_waiting, Held, effect_of, read_held, acts, exit_after, waits_for, arrives, does}
use Rattle.tta_moves.proofs.Steps.{kept_other}
use Rattle.tta_reorder.specs.Channels.{Channel, Word, Data, Frame, Traffic, Ending, Division, part_with, part_of, starts, stores_data, stores_frame, passes_words, alters, may_wait}

-- ---- states that have the same in a channel

-- the same words in the slots of a part of the frame space
abbrev pub SamePart : Division → (part : ℕ) → List ℕ → List ℕ → Type 0
SamePart d part xs ys = (slot : ℕ) → part_with d slot ≡ part → slice_get ys slot ≡ slice_get xs slot

abbrev pub SameOn : Division → Channel → Held → Held → Type 0
SameOn d (Word p) h k = kept k.written p ≡ kept h.written p
SameOn d Data h k = k.memory ≡ h.memory
SameOn d (Frame part) h k = SamePart d part h.frame k.frame
SameOn d Traffic h k = (k.rest ≡ h.rest) × (k.output ≡ h.output)
SameOn d Ending h k = k.exit ≡ h.exit

pub same_refl : (d : Division) (c : Channel) (h : Held) → SameOn d c h h
same_refl d (Word p) h = refl
same_refl d Data h = refl
same_refl d (Frame part) h = λ slot e. refl
same_refl d Traffic h = (refl, refl)
same_refl d Ending h = refl

pub same_sym : (d : Division) (c : Channel) (h k : Held) → SameOn d c h k → SameOn d c k h
same_sym d (Word p) h k e = sym e
same_sym d Data h k e = sym e
same_sym d (Frame part) h k e = λ slot at. sym (e slot at)
same_sym d Traffic h k e = (sym e.0, sym e.1)
same_sym d Ending h k e = sym e

pub same_next : (d : Division) (c : Channel) (h k l : Held) → SameOn d c h k → SameOn d c k l → SameOn d c h l
same_next d (Word p) h k l e f = f ∙ e
same_next d Data h k l e f = f ∙ e
same_next d (Frame part) h k l e f = λ slot at. f slot at ∙ e slot at
same_next d Traffic h k l e f = (f.0 ∙ e.0, f.1 ∙ e.1)
same_next d Ending h k l e f = f ∙ e

-- ---- an effect, opened

-- what a word leaves that may be brought to a target
abbrev pub carried_on : Units → Machine → (back : ℕ) → Held → Target → Option ℕ → Held
carried_on u m back h t None = h
carried_on u m back h t (Some w) = acts u m back h (t, w) (option_to_list (start_of m h.written (t, w)))

pub none_takes : (m : Machine) (ws : Written) (t : Target) (w : ℕ) → starts m takes_in t ≡ false → list_any takes (option_to_list (start_of m ws (t, w))) ≡ false
none_takes m ws (Reg f i) w dry = refl
none_takes m ws (Imm f i) w dry = refl
none_takes m ws (Operand unit) w dry = refl
none_takes m ws (Control kind) w dry = refl
none_takes m ws (Trigger unit op) w dry = on (op_at m unit op) dry where
  on : (o : Option UnitOp) → option_map_or takes_in (option_map (λ o. o.op) o) false ≡ false
      → list_any takes (option_to_list (option_map_or (λ o. Some (record { unit = unit; does = o; operand = operand_of ws unit o; word = w })) o None)) ≡ false
  on None dry = refl
  on (Some o) dry = rw dry refl

pub does_open : (u : Units) (m : Machine) (back : ℕ) (h : Held) (e : Effect) → is_waiting h.exit ≡ false → starts m takes_in e.target ≡ false
    → does u m back h e ≡ carried_on u m back h e.target (moved (read_held h.written) e)
unfolding does
does_open u m back h e runs dry = rw runs (on (moved (read_held h.written) e)) where
  on : (o : Option ℕ) → arrives u m back h (option_map_or (λ word. Some (e.target, word)) o None) ≡ carried_on u m back h e.target o
  on None = refl
  on (Some w) =
      ap (λ (b : Bool). if b && is_none (slice_get h.rest 0) then record h { exit = Waits } else acts u m back h (e.target, w) (option_to_list (start_of m h.written (e.target, w))))
      (none_takes m h.written e.target w dry)

-- the same of an effect after which the list does not wait
pub does_on : (u : Units) (m : Machine) (back : ℕ) (h : Held) (e : Effect) → is_waiting h.exit ≡ false → is_waiting (does u m back h e).exit ≡ false
    → does u m back h e ≡ carried_on u m back h e.target (moved (read_held h.written) e)
unfolding does
does_on u m back h e runs after = let more = rw runs at after in rw runs (on (moved (read_held h.written) e) more) where
  by : (b : Bool) (k : Held) → is_waiting (if b then record h { exit = Waits } else k).exit ≡ false → (if b then record h { exit = Waits } else k) ≡ k
  by true k w = absurd cc
  by false k w = refl

  on : (o : Option ℕ) → is_waiting (arrives u m back h (option_map_or (λ word. Some (e.target, word)) o None)).exit ≡ false
      → arrives u m back h (option_map_or (λ word. Some (e.target, word)) o None) ≡ carried_on u m back h e.target o
  on None w = refl
  on (Some word) w =
      let ts = option_to_list (start_of m h.written (e.target, word)) in
      by (waits_for h ts) (acts u m back h (e.target, word) ts) w

-- ---- what stays

store_stays : (w : List ℕ) (s : Start) (o : Op) → s.does.op ≡ o → stores_data o ≡ false → store_data w s ≡ w
store_stays w s Ldw is e = rw is refl
store_stays w s Stw is e = absurd cc
store_stays w s Ldf is e = rw is refl
store_stays w s Stf is e = rw is refl
store_stays w s Out is e = rw is refl
store_stays w s Take is e = rw is refl
store_stays w s (Set id) is e = rw is refl

pub frame_stays : (w : List ℕ) (s : Start) (o : Op) → s.does.op ≡ o → stores_frame o ≡ false → store_frame w s ≡ w
frame_stays w s Ldw is e = rw is refl
frame_stays w s Stw is e = rw is refl
frame_stays w s Ldf is e = rw is refl
frame_stays w s Stf is e = absurd cc
frame_stays w s Out is e = rw is refl
frame_stays w s Take is e = rw is refl
frame_stays w s (Set id) is e = rw is refl

output_stays : (w : List ℕ) (s : Start) (o : Op) → s.does.op ≡ o → passes_words o ≡ false → put_out w s ≡ w
output_stays w s Ldw is e = rw is refl
output_stays w s Stw is e = rw is refl
output_stays w s Ldf is e = rw is refl
output_stays w s Stf is e = rw is refl
output_stays w s Out is e = absurd cc
output_stays w s Take is e = absurd cc
output_stays w s (Set id) is e = rw is refl

rest_stays : (w : List ℕ) (s : Start) (o : Op) → s.does.op ≡ o → passes_words o ≡ false → take_in w s ≡ w
rest_stays w s Ldw is e = rw is refl
rest_stays w s Stw is e = rw is refl
rest_stays w s Ldf is e = rw is refl
rest_stays w s Stf is e = rw is refl
rest_stays w s Out is e = absurd cc
rest_stays w s Take is e = absurd cc
rest_stays w s (Set id) is e = rw is refl

-- what a target that starts no operation of some kind leaves of what only such operations change
pub fold_stays : (kind : Op → Bool) (f : List ℕ → Start → List ℕ) → ((w : List ℕ) (s : Start) (o : Op) → s.does.op ≡ o → kind o ≡ false → f w s ≡ w)
    → (m : Machine) (ws : Written) (t : Target) (word : ℕ) (w : List ℕ) → starts m kind t ≡ false → fold f w (option_to_list (start_of m ws (t, word))) ≡ w
fold_stays kind f same m ws (Reg g i) word w e = refl
fold_stays kind f same m ws (Imm g i) word w e = refl
fold_stays kind f same m ws (Operand unit) word w e = refl
fold_stays kind f same m ws (Control k) word w e = refl
fold_stays kind f same m ws (Trigger unit op) word w e = on (op_at m unit op) e where
  on : (o : Option UnitOp) → option_map_or kind (option_map (λ o. o.op) o) false ≡ false
      → fold f w (option_to_list (option_map_or (λ o. Some (record { unit = unit; does = o; operand = operand_of ws unit o; word = word })) o None)) ≡ w
  on None e = refl
  on (Some o) e = same w (record { unit = unit; does = o; operand = operand_of ws unit o; word = word }) o.op refl e

exit_stays : (t : Target) (w : ℕ) (exit : Exit) → controls t ≡ false → exit_after exit (control_of (t, w)) ≡ exit
exit_stays (Reg f i) w exit e = refl
exit_stays (Imm f i) w exit e = refl
exit_stays (Operand unit) w exit e = refl
exit_stays (Trigger unit op) w exit e = refl
exit_stays (Control kind) w exit e = absurd cc

-- ---- which slot an operation uses

-- an operation that starts is of a kind where its target starts one of that kind
pub started_by : (m : Machine) (ws : Written) (t : Target) (w : ℕ) (s : Start) (kind : Op → Bool) → start_of m ws (t, w) ≡ Some s → starts m kind t ≡ kind s.does.op
started_by m ws (Reg f i) w s kind e = absurd cc
started_by m ws (Imm f i) w s kind e = absurd cc
started_by m ws (Operand unit) w s kind e = absurd cc
started_by m ws (Control k) w s kind e = absurd cc
started_by m ws (Trigger unit op) w s kind e = on (op_at m unit op) e where
  on : (o : Option UnitOp) → option_map_or (λ o. Some (record { unit = unit; does = o; operand = operand_of ws unit o; word = w })) o None ≡ Some s
      → option_map_or kind (option_map (λ o. o.op) o) false ≡ kind s.does.op
  on None e = absurd cc
  on (Some o) e = let same : ◌≡◌ {A = Start} (record { unit = unit; does = o; operand = operand_of ws unit o; word = w }) s = cc in ap (λ (q : Start). kind q.does.op) same

-- The slot that an operation uses lies in a part of the frame space.
pub record LiesIn (d : Division) (part : ℕ) (s : Start) : Type 0 where
  pub stored : s.does.op ≡ Stf → part_with d (operand_word s) ≡ part
  pub loaded : s.does.op ≡ Ldf → part_with d s.word ≡ part

-- the same of what an item of a number starts from a state, if it starts an operation
abbrev pub UsesPart : Machine → Division → (addr : List ℕ) → Held → ℕ × Item → Type 0
UsesPart m d addr h y =
    (w : ℕ) (s : Start) → moved (read_held h.written) (effect_of addr y.1) ≡ Some w → start_of m h.written (target_of_item y.1, w) ≡ Some s
    → LiesIn d (part_of d y.0) s

set_away : (xs : List ℕ) (a v k : ℕ) → (a ≡ k → ⊥) → slice_get (slice_set xs a v) k ≡ slice_get xs k
set_away [] a v k away = refl
set_away (x ∷ xs) zero v zero away = absurd (away refl)
set_away (x ∷ xs) zero v (suc k) away = refl
set_away (x ∷ xs) (suc a) v zero away = refl
set_away (x ∷ xs) (suc a) v (suc k) away = set_away xs a v k (λ e. away (ap suc e))

-- a store into another part leaves a part as it is
store_away : (d : Division) (part : ℕ) (frame : List ℕ) (s : Start) → (s.does.op ≡ Stf → part_with d (operand_word s) ≡ part → ⊥) → SamePart d part frame (store_frame frame s)
store_away d part frame s away slot at = on s.does.op refl where
  on : (o : Op) → s.does.op ≡ o → slice_get (store_frame frame s) slot ≡ slice_get frame slot
  on Ldw is = ap (λ (l : List ℕ). slice_get l slot) (frame_stays frame s Ldw is refl)
  on Stw is = ap (λ (l : List ℕ). slice_get l slot) (frame_stays frame s Stw is refl)
  on Ldf is = ap (λ (l : List ℕ). slice_get l slot) (frame_stays frame s Ldf is refl)
  on Out is = ap (λ (l : List ℕ). slice_get l slot) (frame_stays frame s Out is refl)
  on Take is = ap (λ (l : List ℕ). slice_get l slot) (frame_stays frame s Take is refl)
  on (Set id) is = ap (λ (l : List ℕ). slice_get l slot) (frame_stays frame s (Set id) is refl)
  on Stf is = rw is (set_away frame (operand_word s) s.word slot (λ e. away is (ap (part_with d) e ∙ at)))

frame_away : (m : Machine) (d : Division) (part : ℕ) (h : Held) (y : ℕ × Item) (w : ℕ) → (starts m stores_frame (target_of_item y.1) && part_of d y.0 == part) ≡ false
    → ((s : Start) → start_of m h.written (target_of_item y.1, w) ≡ Some s → LiesIn d (part_of d y.0) s)
    → SamePart d part h.frame (fold store_frame h.frame (option_to_list (start_of m h.written (target_of_item y.1, w))))
frame_away m d part h y w away lies = on (start_of m h.written (target_of_item y.1, w)) refl where
  on : (o : Option Start) → start_of m h.written (target_of_item y.1, w) ≡ o → SamePart d part h.frame (fold store_frame h.frame (option_to_list o))
  on None is = λ slot at. refl
  on (Some s) is = store_away d part h.frame s (λ op at.
      let starts_it : starts m stores_frame (target_of_item y.1) ≡ true = started_by m h.written (target_of_item y.1) w s stores_frame is ∙ ap stores_frame op in
      let same : part_of d y.0 ≡ part = sym ((lies s is).stored op) ∙ at in
      let equal : (part_of d y.0 == part) ≡ true = grind (arith, nat_tests, same) in
      let both : (starts m stores_frame (target_of_item y.1) && part_of d y.0 == part) ≡ true = and_from _ _ starts_it equal in
      absurd cc)

-- an item after which the list does not wait leaves each channel as it is that it may not change
pub unaltered : (u : Units) (m : Machine) (d : Division) (addr : List ℕ) (back : ℕ) (h : Held) (y : ℕ × Item) (c : Channel) → is_waiting h.exit ≡ false
    → is_waiting (does u m back h (effect_of addr y.1)).exit ≡ false → UsesPart m d addr h y
    → alters m d c y ≡ false → SameOn d c h (does u m back h (effect_of addr y.1))
unaltered u m d addr back h y (Word p) runs after uses away = kept_other u m back h (effect_of addr y.1) p away
unaltered u m d addr back h y Data runs after uses away =
    ap (λ (k : Held). k.memory) (does_on u m back h (effect_of addr y.1) runs after) ∙ on (moved (read_held h.written) (effect_of addr y.1)) where
      on : (o : Option ℕ) → (carried_on u m back h (target_of_item y.1) o).memory ≡ h.memory
      on None = refl
      on (Some w) = fold_stays stores_data store_data store_stays m h.written (target_of_item y.1) w h.memory away
unaltered u m d addr back h y (Frame part) runs after uses away =
    subst (λ (k : Held). SamePart d part h.frame k.frame) (sym (does_on u m back h (effect_of addr y.1) runs after)) (on (moved (read_held h.written) (effect_of addr y.1)) refl) where
      on : (o : Option ℕ) → moved (read_held h.written) (effect_of addr y.1) ≡ o → SamePart d part h.frame (carried_on u m back h (target_of_item y.1) o).frame
      on None is = λ slot at. refl
      on (Some w) is = frame_away m d part h y w away (λ s e. uses w s is e)
unaltered u m d addr back h y Traffic runs after uses away = (
  ap (λ (k : Held). k.rest) (does_on u m back h (effect_of addr y.1) runs after) ∙ rest (moved (read_held h.written) (effect_of addr y.1)),
  ap (λ (k : Held). k.output) (does_on u m back h (effect_of addr y.1) runs after) ∙ output (moved (read_held h.written) (effect_of addr y.1)),
) where
  rest : (o : Option ℕ) → (carried_on u m back h (target_of_item y.1) o).rest ≡ h.rest
  rest None = refl
  rest (Some w) = fold_stays passes_words take_in rest_stays m h.written (target_of_item y.1) w h.rest away

  output : (o : Option ℕ) → (carried_on u m back h (target_of_item y.1) o).output ≡ h.output
  output None = refl
  output (Some w) = fold_stays passes_words put_out output_stays m h.written (target_of_item y.1) w h.output away
unaltered u m d addr back h y Ending runs after uses away =
    ap (λ (k : Held). k.exit) (does_on u m back h (effect_of addr y.1) runs after) ∙ on (moved (read_held h.written) (effect_of addr y.1)) where
      on : (o : Option ℕ) → (carried_on u m back h (target_of_item y.1) o).exit ≡ h.exit
      on None = refl
      on (Some w) = exit_stays (target_of_item y.1) w h.exit away

-- ---- it goes on

exit_runs : (t : Target) (w : ℕ) (exit : Exit) → is_waiting exit ≡ false → is_waiting (exit_after exit (control_of (t, w))) ≡ false
exit_runs (Reg f i) w exit e = e
exit_runs (Imm f i) w exit e = e
exit_runs (Operand unit) w exit e = e
exit_runs (Trigger unit op) w exit e = e
exit_runs (Control kind) w exit e = refl

-- after an item that takes no input a list that does not wait does not
pub still_runs : (u : Units) (m : Machine) (addr : List ℕ) (back : ℕ) (h : Held) (x : Item) → is_waiting h.exit ≡ false → may_wait m x ≡ false
    → is_waiting (does u m back h (effect_of addr x)).exit ≡ false
still_runs u m addr back h x runs dry =
    ap (λ (k : Held). is_waiting k.exit) (does_open u m back h (effect_of addr x) runs dry) ∙ on (moved (read_held h.written) (effect_of addr x)) where
      on : (o : Option ℕ) → is_waiting (carried_on u m back h (target_of_item x) o).exit ≡ false
      on None = runs
      on (Some w) = exit_runs (target_of_item x) w h.exit runs

-- One item from two states that have the same in all channels that it asks for.
use Rattle.std.proofs.Common.{◌≡◌, ℕ, Bool, true, false, List, ◌∷◌, ◌++◌, Option, Some, None, refl, sym, ap, subst, arith, ◌∙◌}
use Rattle.std.specs.Prelude.{if◌then◌else◌, ◌==◌, ◌&&◌, ◌||◌, is_none, fold, slice_index, option_map}
use Rattle.std.specs.Option.{option_map_or, option_to_list}
use Rattle.std.specs.List.{filter_map}
use Rattle.std.proofs.lemmas.Bool.{and_from, and_parts, or_left, or_right}
use Rattle.std.proofs.lemmas.Bool.Decides.{nat_tests}
use Rattle.tta_reorder.specs.Cited.{Units, GuardRef, UnitOp, Op, Ldw, Stw, Ldf, Stf, Out, Take, Set, Machine, Target, Reg, Imm, Operand, Trigger, Control, Jumps, Calls, Halts, Effect, Brought, Place, KeptReg, KeptImm, KeptOperand, KeptRa, KeptPort, same_place, Written, kept, is_active, moved, has_unset, has_unset_guard, lacks_operand, op_at, has_result, Start, start_of, operand_of, result_word, store_data, put_out, take_in, write_of, control_of, ItemSource, Port, Address, Item, guard_of, source_of, target_of_item, place_of_source, place_written, is_at, guard_place, reads, writes, is_control, controls, is_unguarded, Exit, is_waiting, Held, linked, effect_of, read_held, result_at_once, acts, exit_after, does, lacks}
use Rattle.tta_arch.specs.declared.ends.Source.TheVariants as source
use Rattle.tta_moves.proofs.Places.{either, same_self, kept_there}
use Rattle.tta_optim.proofs.Copies.{sure_word}
use Rattle.tta_reorder.specs.Channels.{Channel, Word, Data, Frame, Traffic, Ending, Division, part_with, part_of, starts, loads_frame, uses_data, uses_frame, stores_data, stores_frame, passes_words, operand_place, alters, asks, may_wait}
use Rattle.tta_reorder.proofs.Carried.{SameOn, LiesIn, UsesPart, carried_on, does_open}
use Rattle.tta_moves.proofs.Steps.{active_by, unset_by, starting}
use Rattle.tta_reorder.proofs.FrameParts.{index_by, frame_same, loads_uses, there_is}

-- two states have the same in all channels that an item asks for
abbrev pub SameAsked : Machine → Division → (n : ℕ) → Item → Held → Held → Type 0
SameAsked m d n x h k = (c : Channel) → asks m d c (n, x) ≡ true → SameOn d c h k

-- ---- what it reads

guard_same : (m : Machine) (d : Division) (n : ℕ) (x : Item) (h k : Held) → SameAsked m d n x h k → (g : GuardRef) → guard_of x ≡ Some g → kept k.written (guard_place g) ≡ kept h.written (guard_place g)
guard_same m d n x h k same g is =
    let guarding : option_map_or (λ q. same_place (guard_place q) (guard_place g)) (guard_of x) false ≡ true = rw (is, same_self (guard_place g)) refl in
    let read : reads (guard_place g) x ≡ true = or_right _ _ guarding in
    same (Word (guard_place g)) (or_left _ _ (or_left _ _ read))

source_same : (m : Machine) (d : Division) (n : ℕ) (addr : List ℕ) (x : Item) (h k : Held) → SameAsked m d n x h k → read_held k.written (linked addr (source_of x)) ≡ read_held h.written (linked addr (source_of x))
source_same m d n addr x h k same = on (source_of x) refl where
  register : (p : Place) → place_of_source (source_of x) ≡ Some p → kept k.written p ≡ kept h.written p
  register p e =
      let reading : is_at p (place_of_source (source_of x)) ≡ true = rw (e, same_self p) refl in
      let read : reads p x ≡ true = or_left _ _ reading in
      same (Word p) (or_left _ _ (or_left _ _ read))

  on : (s : ItemSource) → source_of x ≡ s → read_held k.written (linked addr s) ≡ read_held h.written (linked addr s)
  on (Address block) e = refl
  on (Port (source.Reg f i)) e = register (KeptReg f i) (ap place_of_source e)
  on (Port (source.Imm f i)) e = register (KeptImm f i) (ap place_of_source e)
  on (Port (source.Shown unit)) e = register (KeptPort unit) (ap place_of_source e)
  on (Port source.Ra) e = register KeptRa (ap place_of_source e)
  on (Port (source.Value w)) e = refl

operand_same : (m : Machine) (d : Division) (n : ℕ) (x : Item) (h k : Held) → SameAsked m d n x h k → (p : Place) → operand_place m (target_of_item x) ≡ Some p → kept k.written p ≡ kept h.written p
operand_same m d n x h k same p is =
    let at : is_at p (operand_place m (target_of_item x)) ≡ true = rw (is, same_self p) refl in
    same (Word p) (or_left _ _ (or_right (reads p x) _ at))

moved_same : (m : Machine) (d : Division) (n : ℕ) (addr : List ℕ) (x : Item) (h k : Held) → SameAsked m d n x h k → moved (read_held k.written) (effect_of addr x) ≡ moved (read_held h.written) (effect_of addr x)
moved_same m d n addr x h k same =
    ap (λ (a : Bool). if a then read_held k.written (linked addr (source_of x)) else None) (active_by (guard_of x) k.written h.written (guard_same m d n x h k same))
    ∙ ap (λ (q : Option ℕ). if is_active (read_held h.written) (effect_of addr x) then q else None) (source_same m d n addr x h k same)

-- ---- what it starts

start_by : (m : Machine) (vs ws : Written) (t : Target) (w : ℕ) → ((p : Place) → operand_place m t ≡ Some p → kept vs p ≡ kept ws p) → start_of m vs (t, w) ≡ start_of m ws (t, w)
start_by m vs ws (Reg f i) w same = refl
start_by m vs ws (Imm f i) w same = refl
start_by m vs ws (Operand unit) w same = refl
start_by m vs ws (Control kind) w same = refl
start_by m vs ws (Trigger unit op) w same = on (op_at m unit op) same where
  on : (o : Option UnitOp) → ((p : Place) → option_map_or (λ o. if o.arity == 2 then Some (KeptOperand unit) else None) o None ≡ Some p → kept vs p ≡ kept ws p)
      → option_map_or (λ o. starting vs unit w o) o None ≡ option_map_or (λ o. starting ws unit w o) o None
  on None same = refl
  on (Some o) same = ap (λ (q : Option ℕ). Some (record { unit = unit; does = o; operand = q; word = w })) (either (o.arity == 2)
      (λ two. rw two (same (KeptOperand unit) (rw two refl)))
      (λ one. rw one refl))

start_same : (m : Machine) (d : Division) (n : ℕ) (x : Item) (h k : Held) (w : ℕ) → SameAsked m d n x h k → start_of m k.written (target_of_item x, w) ≡ start_of m h.written (target_of_item x, w)
start_same m d n x h k w same = start_by m k.written h.written (target_of_item x) w (operand_same m d n x h k same)

-- ---- what it lacks

pub lacks_same : (m : Machine) (d : Division) (n : ℕ) (addr : List ℕ) (x : Item) (h k : Held) → SameAsked m d n x h k → lacks m k (effect_of addr x) ≡ lacks m h (effect_of addr x)
unfolding lacks
lacks_same m d n addr x h k same =
    let e : Effect = effect_of addr x in
    ap (λ (a : Bool). a || has_unset (read_held k.written) (λ s. true) e || operand k (moved (read_held k.written) e)) (unset_by (guard_of x) k.written h.written (guard_same m d n x h k same))
    ∙ ap (λ (a : Bool). has_unset_guard (read_held h.written) e || (a && true && is_none (read_held k.written e.src)) || operand k (moved (read_held k.written) e)) (active_by (guard_of x) k.written h.written (guard_same m d n x h k same))
    ∙ ap (λ (q : Option ℕ). has_unset_guard (read_held h.written) e || (is_active (read_held h.written) e && true && is_none q) || operand k (moved (read_held k.written) e)) (source_same m d n addr x h k same)
    ∙ ap (λ (o : Option ℕ). has_unset_guard (read_held h.written) e || has_unset (read_held h.written) (λ s. true) e || operand k o) (moved_same m d n addr x h k same)
    ∙ ap (λ (b : Bool). has_unset_guard (read_held h.written) e || has_unset (read_held h.written) (λ s. true) e || b) (by (moved (read_held h.written) e)) where
      operand : Held → Option ℕ → Bool
      operand l o = option_map_or (λ (b : Brought). option_map_or lacks_operand (start_of m l.written b) false) (option_map_or (λ word. Some (target_of_item x, word)) o None) false

      by : (o : Option ℕ) → operand k o ≡ operand h o
      by None = refl
      by (Some w) = ap (λ (s : Option Start). option_map_or lacks_operand s false) (start_same m d n x h k w same)

-- ---- an item that does not act has a guard

both : (a b : Bool) → (a ≡ true → b ≡ true) → (c : Bool) → a && c ≡ true → b && c ≡ true
both a b h true e = and_from b true (h (and_parts a true e).0) refl
both a b h false e = let no_truth = (and_parts a false e).1 in absurd cc

kind_more : (m : Machine) (less more : Op → Bool) → ((o : Op) → less o ≡ true → more o ≡ true) → (t : Target) → starts m less t ≡ true → starts m more t ≡ true
kind_more m less more h (Reg f i) e = absurd cc
kind_more m less more h (Imm f i) e = absurd cc
kind_more m less more h (Operand unit) e = absurd cc
kind_more m less more h (Control kind) e = absurd cc
kind_more m less more h (Trigger unit op) e = on (op_at m unit op) e where
  on : (o : Option UnitOp) → option_map_or less (option_map (λ o. o.op) o) false ≡ true → option_map_or more (option_map (λ o. o.op) o) false ≡ true
  on None e = absurd cc
  on (Some o) e = h o.op e

data_more : (o : Op) → stores_data o ≡ true → uses_data o ≡ true
data_more Ldw e = absurd cc
data_more Stw e = refl
data_more Ldf e = absurd cc
data_more Stf e = absurd cc
data_more Out e = absurd cc
data_more Take e = absurd cc
data_more (Set id) e = absurd cc

frame_more : (o : Op) → stores_frame o ≡ true → uses_frame o ≡ true
frame_more Ldw e = absurd cc
frame_more Stw e = absurd cc
frame_more Ldf e = absurd cc
frame_more Stf e = refl
frame_more Out e = absurd cc
frame_more Take e = absurd cc
frame_more (Set id) e = absurd cc

-- an item that stores into a part of the frame space asks for it
stored_asks : (m : Machine) (x : Item) (b : Bool) → (starts m stores_frame (target_of_item x) && b) ≡ true → (starts m uses_frame (target_of_item x) && b) ≡ true
stored_asks m x b e =
    let two = and_parts (starts m stores_frame (target_of_item x)) b e in
    and_from _ b (kind_more m stores_frame uses_frame frame_more (target_of_item x) two.0) two.1

guarded_asks : (m : Machine) (d : Division) (n : ℕ) (x : Item) (c : Channel) → is_unguarded x ≡ false → alters m d c (n, x) ≡ true → asks m d c (n, x) ≡ true
guarded_asks m d n x (Word p) g e = or_right _ _ (and_from (writes m p x) _ e (rw g refl))
guarded_asks m d n x Data g e = kind_more m stores_data uses_data data_more (target_of_item x) e
guarded_asks m d n x (Frame part) g e = stored_asks m x (part_of d n == part) e
guarded_asks m d n x Traffic g e = e
guarded_asks m d n x Ending g e = and_from (is_control x) _ e (rw g refl)

-- ---- what it leaves

pub moves : (h : Held) (e : Effect) (w : ℕ) → e.guard ≡ None → read_held h.written e.src ≡ Some w → moved (read_held h.written) e ≡ Some w
moves h e w sure is = rw (sure, is) refl

spoils : (m : Machine) (addr : List ℕ) (x : Item) (h : Held) → lacks m h (effect_of addr x) ≡ false → moved (read_held h.written) (effect_of addr x) ≡ None → is_unguarded x ≡ false
spoils m addr x h fine none = on (guard_of x) refl where
  on : (g : Option GuardRef) → guard_of x ≡ g → is_none (guard_of x) ≡ false
  on (Some g) is = rw is refl
  on None is =
      let word = sure_word m h (effect_of addr x) is fine in
      let some = moves h (effect_of addr x) word.0 is word.1 in absurd cc

result_by : (u : Units) (h k : Held) (s : Start) (q : Op) → (uses_data q ≡ true → k.memory ≡ h.memory) → (loads_frame q ≡ true → slice_index k.frame s.word ≡ slice_index h.frame s.word) → (passes_words q ≡ true → k.rest ≡ h.rest)
    → result_word u k.memory k.frame (slice_index k.rest 0) s q ≡ result_word u h.memory h.frame (slice_index h.rest 0) s q
result_by u h k s Ldw stored frame rest = ap (λ v. slice_index v s.word) (stored refl)
result_by u h k s Stw stored frame rest = refl
result_by u h k s Ldf stored frame rest = frame refl
result_by u h k s Stf stored frame rest = refl
result_by u h k s Out stored frame rest = refl
result_by u h k s Take stored frame rest = ap (λ v. slice_index v 0) (rest refl)
result_by u h k s (Set id) stored frame rest = refl

exit_same : (t : Target) (w : ℕ) (a b : Exit) → controls t ≡ true → exit_after a (control_of (t, w)) ≡ exit_after b (control_of (t, w))
exit_same (Reg f i) w a b e = absurd cc
exit_same (Imm f i) w a b e = absurd cc
exit_same (Operand unit) w a b e = absurd cc
exit_same (Trigger unit op) w a b e = absurd cc
exit_same (Control kind) w a b e = refl

-- what may be written of a word that is brought, beside what was written before
abbrev on_top : Units → Machine → (back : ℕ) → Held → Target → ℕ → Option Start → Written → Written
on_top u m back h t w s ws = option_to_list (write_of m back (t, w)) ++ (filter_map (result_at_once u h) (option_to_list s) ++ ws)

there : (v : ℕ) (p q : Place) (ws vs : Written) → same_place q p ≡ true → kept ((q, v) ∷ vs) p ≡ kept ((q, v) ∷ ws) p
there v p q ws vs at = kept_there (q, v) vs p at ∙ sym (kept_there (q, v) ws p at)

word_same : (u : Units) (m : Machine) (back : ℕ) (h k : Held) (t : Target) (w : ℕ) (p : Place) → is_at p (place_written m t) ≡ true
    → (starts m uses_data t ≡ true → k.memory ≡ h.memory) → (starts m loads_frame t ≡ true → slice_index k.frame w ≡ slice_index h.frame w) → (starts m passes_words t ≡ true → k.rest ≡ h.rest)
    → kept (on_top u m back k t w (start_of m h.written (t, w)) k.written) p ≡ kept (on_top u m back h t w (start_of m h.written (t, w)) h.written) p
word_same u m back h k (Reg f i) w p at stored frame rest = there _ p (KeptReg f i) h.written k.written at
word_same u m back h k (Imm f i) w p at stored frame rest = there _ p (KeptImm f i) h.written k.written at
word_same u m back h k (Operand unit) w p at stored frame rest = there _ p (KeptOperand unit) h.written k.written at
word_same u m back h k (Control Jumps) w p at stored frame rest = absurd cc
word_same u m back h k (Control Calls) w p at stored frame rest = there _ p KeptRa h.written k.written at
word_same u m back h k (Control Halts) w p at stored frame rest = absurd cc
word_same u m back h k (Trigger unit op) w p at stored frame rest = on (op_at m unit op) at stored frame rest where
  by : (o : UnitOp) → has_result o.op ≡ true → same_place (KeptPort unit) p ≡ true → (uses_data o.op ≡ true → k.memory ≡ h.memory) → (loads_frame o.op ≡ true → slice_index k.frame w ≡ slice_index h.frame w) → (passes_words o.op ≡ true → k.rest ≡ h.rest)
      → kept (filter_map (result_at_once u k) (option_to_list (starting h.written unit w o)) ++ k.written) p ≡ kept (filter_map (result_at_once u h) (option_to_list (starting h.written unit w o)) ++ h.written) p
  by o has at stored frame rest =
      let s : Start = record { unit = unit; does = o; operand = operand_of h.written unit o; word = w } in
      rw has (kept_there (KeptPort unit, result_word u k.memory k.frame (slice_index k.rest 0) s o.op) k.written p at
      ∙ ap (λ v. Some v) (result_by u h k s o.op stored frame rest)
      ∙ sym (kept_there (KeptPort unit, result_word u h.memory h.frame (slice_index h.rest 0) s o.op) h.written p at))

  shown : (o : UnitOp) → is_at p (if has_result o.op then Some (KeptPort unit) else None) ≡ true → (has_result o.op ≡ true) × (same_place (KeptPort unit) p ≡ true)
  shown o here = either (has_result o.op) (λ has. (has, rw has at here)) (λ no_result. let nowhere = rw no_result at here in absurd cc)

  on : (o : Option UnitOp) → is_at p (option_map_or (λ o. if has_result o.op then Some (KeptPort unit) else None) o None) ≡ true
      → (option_map_or uses_data (option_map (λ o. o.op) o) false ≡ true → k.memory ≡ h.memory)
      → (option_map_or loads_frame (option_map (λ o. o.op) o) false ≡ true → slice_index k.frame w ≡ slice_index h.frame w)
      → (option_map_or passes_words (option_map (λ o. o.op) o) false ≡ true → k.rest ≡ h.rest)
      → let s : Option Start = option_map_or (λ o. starting h.written unit w o) o None in
      kept (filter_map (result_at_once u k) (option_to_list s) ++ k.written) p ≡ kept (filter_map (result_at_once u h) (option_to_list s) ++ h.written) p
  on None at stored frame rest = absurd cc
  on (Some o) at stored frame rest = let two = shown o at in by o two.0 two.1 stored frame rest

-- ---- all that it changes

-- the word that an item loads is the same
loaded_same : (m : Machine) (d : Division) (n : ℕ) (h k : Held) (x : Item) (w : ℕ) → SameAsked m d n x h k → ((s : Start) → start_of m h.written (target_of_item x, w) ≡ Some s → LiesIn d (part_of d n) s)
    → starts m loads_frame (target_of_item x) ≡ true → slice_index k.frame w ≡ slice_index h.frame w
loaded_same m d n h k x w same lies e =
    let s = there_is m h.written (target_of_item x) w e in
    let equal : (part_of d n == part_of d n) ≡ true = grind (arith, nat_tests) in
    let part = same (Frame (part_of d n)) (and_from _ _ (kind_more m loads_frame uses_frame loads_uses (target_of_item x) e) equal) in
    index_by h.frame k.frame w (part w (subst (λ v. part_with d v ≡ part_of d n) s.word ((lies s.start s.is).loaded s.loads)))

acted : (u : Units) (m : Machine) (d : Division) (n back : ℕ) (h k : Held) (x : Item) (w : ℕ) (c : Channel) → SameAsked m d n x h k
    → ((s : Start) → start_of m h.written (target_of_item x, w) ≡ Some s → LiesIn d (part_of d n) s) → alters m d c (n, x) ≡ true
    → let t : Target = target_of_item x in
    let s : Option Start = start_of m h.written (t, w) in
    SameOn d c (acts u m back h (t, w) (option_to_list s)) (acts u m back k (t, w) (option_to_list s))
acted u m d n back h k x w (Word p) same lies at =
    word_same u m back h k (target_of_item x) w p at (same Data) (loaded_same m d n h k x w same lies) (λ e. (same Traffic e).0)
acted u m d n back h k x w Data same lies at =
    ap (λ v. fold store_data v (option_to_list (start_of m h.written (target_of_item x, w)))) (same Data (kind_more m stores_data uses_data data_more (target_of_item x) at))
acted u m d n back h k x w (Frame part) same lies at =
    frame_same d part h.frame k.frame (start_of m h.written (target_of_item x, w)) (same (Frame part) (stored_asks m x (part_of d n == part) at))
acted u m d n back h k x w Traffic same lies at = (
  ap (λ v. fold take_in v (option_to_list (start_of m h.written (target_of_item x, w)))) (same Traffic at).0,
  ap (λ v. fold put_out v (option_to_list (start_of m h.written (target_of_item x, w)))) (same Traffic at).1,
)
acted u m d n back h k x w Ending same lies at = exit_same (target_of_item x) w k.exit h.exit at

-- each channel that the item may change has the same after it
pub altered : (u : Units) (m : Machine) (d : Division) (n : ℕ) (addr : List ℕ) (back : ℕ) (h k : Held) (x : Item) (c : Channel) → is_waiting h.exit ≡ false → is_waiting k.exit ≡ false
    → may_wait m x ≡ false → lacks m h (effect_of addr x) ≡ false → SameAsked m d n x h k → UsesPart m d addr h (n, x) → alters m d c (n, x) ≡ true
    → SameOn d c (does u m back h (effect_of addr x)) (does u m back k (effect_of addr x))
altered u m d n addr back h k x c runs runs_too dry fine same uses at =
    rw (does_open u m back h (effect_of addr x) runs dry, does_open u m back k (effect_of addr x) runs_too dry, moved_same m d n addr x h k same)
    (on (moved (read_held h.written) (effect_of addr x)) refl) where
      on : (o : Option ℕ) → moved (read_held h.written) (effect_of addr x) ≡ o → SameOn d c (carried_on u m back h (target_of_item x) o) (carried_on u m back k (target_of_item x) o)
      on None is = same c (guarded_asks m d n x c (spoils m addr x h fine is) at)
      on (Some w) is = rw (start_same m d n x h k w same) (acted u m d n back h k x w c same (λ s e. uses w s is e) at)

-- what an item uses is the same
pub part_same : (m : Machine) (d : Division) (n : ℕ) (addr : List ℕ) (h k : Held) (x : Item) → SameAsked m d n x h k → UsesPart m d addr h (n, x) → UsesPart m d addr k (n, x)
part_same m d n addr h k x same uses w s is e = uses w s (sym (moved_same m d n addr x h k same) ∙ is) (sym (start_same m d n x h k w same) ∙ e)

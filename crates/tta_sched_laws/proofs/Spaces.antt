-- What the moves of a cycle do to the data words, the frame words and the output.
use Rattle.tta_sched_laws.specs.Overlap.{space_of, space_by}
use Rattle.tta_sched_laws.proofs.Pick.{Has}
use Rattle.std.proofs.Common.{◌≡◌, ◌≢◌, ◌⊎◌, inl, inr, ℕ, zero, suc, ◌<◌, Bool, true, false, List, [], ◌∷◌, Option, Some, None, refl, sym, ap, ◌∙◌, arith}
use Rattle.std.specs.Prelude.{slice_get, is_none, option_and_then, ◌==◌, ◌&&◌, fold}
use Rattle.std.specs.Option.{option_map_or}
use Rattle.std.specs.List.{filter_map, cons_option}
use Rattle.std.proofs.lemmas.Bool.Decides.{nat_tests}
use Rattle.std.proofs.lemmas.Option.{same_Some}
use Rattle.tta_sched_laws.specs.Cited.{Op, Ldw, Stw, Ldf, Stf, Out, Take, Set, UnitOp, Machine, Target, Trigger, Effect, Written, Reads, moved, bring, Start, start_of, store_data, store_frame, put_out, takes, takes_in, take_in, op_at, Units, Held, read_held, Started}
use Rattle.tta_sched_laws.proofs.Total.{do_move, total, started_by, wants, writes_by}
use Rattle.tta_sched_laws.proofs.Touches.{started_is}
use Rattle.tta_sched_laws.proofs.Steps.{offset_of, IsPlain, to_register, to_imm, to_operand, to_trigger, to_jump, to_call, to_halt, starting, bringing}

-- each space belongs to one unit
pub record HasOwners (m : Machine) : Type 0 where
  pub owner : (a b k l : ℕ) (o o' : UnitOp) → op_at m a k ≡ Some o → op_at m b l ≡ Some o' → space_of o.op ≡ space_of o'.op → 0 < space_of o.op → a ≡ b

-- what an operation that may start does to a list
abbrev pub once_started : (List ℕ → Start → List ℕ) → List ℕ → Option Start → List ℕ
once_started f words o = option_map_or (f words) o words

pub fold-filter_map : {A B : Type 0} (f : List ℕ → B → List ℕ) (g : A → Option B) (words : List ℕ) (xs : List A) → fold f words (filter_map g xs) ≡ fold (λ w x. option_map_or (f w) (g x) w) words xs
fold-filter_map f g words [] = refl
fold-filter_map f g words (x ∷ xs) = on (g x) (λ w. fold-filter_map f g w xs) where
  on : (o : Option _) → ((w : List ℕ) → fold f w (filter_map g xs) ≡ fold (λ w x. option_map_or (f w) (g x) w) w xs) → fold f words (cons_option o (filter_map g xs)) ≡ fold (λ w x. option_map_or (f w) (g x) w) (option_map_or (f words) o words) xs
  on None ih = ih words
  on (Some y) ih = ih (f words y)

pub fold_same : {A : Type 0} (f g : List ℕ → A → List ℕ) (words : List ℕ) (xs : List A) → ((w : List ℕ) (x : A) → f w x ≡ g w x) → fold f words xs ≡ fold g words xs
fold_same f g words [] h = refl
fold_same f g words (x ∷ xs) h = rw (h words x) (fold_same f g (g words x) xs h)

pub fold_none : {A : Type 0} (f : List ℕ → A → List ℕ) (words : List ℕ) (xs : List A) → ((w : List ℕ) (x : A) → Has xs x → f w x ≡ w) → fold f words xs ≡ words
fold_none f words [] h = refl
fold_none f words (x ∷ xs) h = rw (h words x (0, refl)) (fold_none f words xs (λ w y p. h w y (suc p.0, p.1)))

-- where one element alone does something
pub fold_one : {A : Type 0} (f : List ℕ → A → List ℕ) (words : List ℕ) (xs : List A) (k : ℕ) (x : A) → slice_get xs k ≡ Some x
    → ((i : ℕ) (y : A) → slice_get xs i ≡ Some y → (i ≡ k) ⊎ ((w : List ℕ) → f w y ≡ w)) → fold f words xs ≡ f words x
fold_one f words [] k x e h = absurd cc
fold_one f words (y ∷ xs) zero x e h =
    let same = same_Some y x e in
    fold_none f (f words y) xs (λ w z p. elim (h (suc p.0) z p.1) [ inl q ↦ absurd (omega arith) | inr q ↦ q w ]) ∙ ap (f words) same
fold_one f words (y ∷ xs) (suc k) x e h =
    elim (h 0 y refl) [
      | inl q ↦ absurd (omega arith)
      | inr q ↦ rw (q words) (fold_one f words xs k x e (λ i z p. elim (h (suc i) z p) [ inl q' ↦ inl (omega arith) | inr q' ↦ inr q' ]))
    ]

pub fold_cycle : (f : List ℕ → Start → List ℕ) (m : Machine) (reads : Reads) (written : Written) (words : List ℕ) (vs : List Effect)
    → fold f words (filter_map (start_of m written) (filter_map (bring reads) vs)) ≡ fold (λ w (v : Effect). once_started f w (starting m written v.target (moved reads v))) words vs
fold_cycle f m reads written words vs =
    fold-filter_map f (start_of m written) words (filter_map (bring reads) vs)
    ∙ fold-filter_map (λ w b. option_map_or (f w) (start_of m written b) w) (bring reads) words vs
    ∙ fold_same _ _ words vs (λ w v. on w (bring reads v)) where
      on : (w : List ℕ) (o : Option _) → option_map_or (λ b. option_map_or (f w) (start_of m written b) w) o w ≡ option_map_or (f w) (option_and_then (start_of m written) o) w
      on w None = refl
      on w (Some b) = refl

-- what starts has the space of its move
pub starts_space : (m : Machine) (written : Written) (v : Effect) (o : Option ℕ) (t : Start) → IsPlain m v.target → starting m written v.target o ≡ Some t → space_by m v.target ≡ space_of t.does.op
starts_space m written v None t p e = absurd cc
starts_space m written v (Some w) t p e = on v.target p e where
  on : (d : Target) → IsPlain m d → starting m written d (Some w) ≡ Some t → space_by m d ≡ space_of t.does.op
  on _ (to_register f i) e = absurd cc
  on _ (to_operand un) e = absurd cc
  on _ (to_imm un imm) e = absurd cc
  on _ to_jump e = absurd cc
  on _ to_call e = absurd cc
  on _ to_halt e = absurd cc
  on _ (to_trigger un k o at lat) e = let same : o ≡ t.does = ap (λ (q : Start). q.does) (same_Some _ t (rw at at e)) in rw (at, same) refl

pub data_noop : (o : Op) (t : Start) (w : List ℕ) → t.does.op ≡ o → space_of o ≢ 1 → store_data w t ≡ w
data_noop Ldw t w e h = rw e refl
data_noop Stw t w e h = absurd (h refl)
data_noop Ldf t w e h = rw e refl
data_noop Stf t w e h = rw e refl
data_noop Out t w e h = rw e refl
data_noop Take t w e h = rw e refl
data_noop (Set id) t w e h = rw e refl

pub frame_noop : (o : Op) (t : Start) (w : List ℕ) → t.does.op ≡ o → space_of o ≢ 2 → store_frame w t ≡ w
frame_noop Ldw t w e h = rw e refl
frame_noop Stw t w e h = rw e refl
frame_noop Ldf t w e h = rw e refl
frame_noop Stf t w e h = absurd (h refl)
frame_noop Out t w e h = rw e refl
frame_noop Take t w e h = rw e refl
frame_noop (Set id) t w e h = rw e refl

pub out_noop : (o : Op) (t : Start) (w : List ℕ) → t.does.op ≡ o → space_of o ≢ 3 → put_out w t ≡ w
out_noop Ldw t w e h = rw e refl
out_noop Stw t w e h = rw e refl
out_noop Ldf t w e h = rw e refl
out_noop Stf t w e h = rw e refl
out_noop Out t w e h = absurd (h refl)
out_noop Take t w e h = rw e refl
out_noop (Set id) t w e h = rw e refl

pub in_noop : (o : Op) (t : Start) (w : List ℕ) → t.does.op ≡ o → space_of o ≢ 3 → take_in w t ≡ w
in_noop Ldw t w e h = rw e refl
in_noop Stw t w e h = rw e refl
in_noop Ldf t w e h = rw e refl
in_noop Stf t w e h = rw e refl
in_noop Out t w e h = rw e refl
in_noop Take t w e h = absurd (h refl)
in_noop (Set id) t w e h = rw e refl

-- a space, and what an operation does to it
pub record Space : Type 0 where
  pub number : ℕ
  pub does : List ℕ → Start → List ℕ
  pub of : Held → List ℕ
  pub positive : 0 < number
  pub idle : (t : Start) (w : List ℕ) → space_of t.does.op ≢ number → does w t ≡ w
  pub after : (u : Units) (m : Machine) (back : ℕ) (h : Held) (v : Effect) → IsPlain m v.target → of (do_move u m back h v) ≡ once_started does (of h) (starting m h.written v.target (moved (read_held h.written) v))

pub memory_arrives : (u : Units) (m : Machine) (back : ℕ) (h : Held) (d : Target) (o : Option ℕ) → IsPlain m d → (total u m back h (bringing d o)).memory ≡ once_started store_data h.memory (starting m h.written d o)
memory_arrives u m back h d None p = refl
memory_arrives u m back h _ (Some w) (to_register f i) = refl
memory_arrives u m back h _ (Some w) (to_operand un) = refl
memory_arrives u m back h _ (Some w) (to_imm un imm) = refl
memory_arrives u m back h _ (Some w) to_jump = refl
memory_arrives u m back h _ (Some w) to_call = refl
memory_arrives u m back h _ (Some w) to_halt = refl
memory_arrives u m back h _ (Some w) (to_trigger un k o at lat) = rw at refl

pub frame_arrives : (u : Units) (m : Machine) (back : ℕ) (h : Held) (d : Target) (o : Option ℕ) → IsPlain m d → (total u m back h (bringing d o)).frame ≡ once_started store_frame h.frame (starting m h.written d o)
frame_arrives u m back h d None p = refl
frame_arrives u m back h _ (Some w) (to_register f i) = refl
frame_arrives u m back h _ (Some w) (to_operand un) = refl
frame_arrives u m back h _ (Some w) (to_imm un imm) = refl
frame_arrives u m back h _ (Some w) to_jump = refl
frame_arrives u m back h _ (Some w) to_call = refl
frame_arrives u m back h _ (Some w) to_halt = refl
frame_arrives u m back h _ (Some w) (to_trigger un k o at lat) = rw at refl

pub out_arrives : (u : Units) (m : Machine) (back : ℕ) (h : Held) (d : Target) (o : Option ℕ) → IsPlain m d → (total u m back h (bringing d o)).output ≡ once_started put_out h.output (starting m h.written d o)
out_arrives u m back h d None p = refl
out_arrives u m back h _ (Some w) (to_register f i) = refl
out_arrives u m back h _ (Some w) (to_operand un) = refl
out_arrives u m back h _ (Some w) (to_imm un imm) = refl
out_arrives u m back h _ (Some w) to_jump = refl
out_arrives u m back h _ (Some w) to_call = refl
out_arrives u m back h _ (Some w) to_halt = refl
out_arrives u m back h _ (Some w) (to_trigger un k o at lat) = rw at refl

pub in_arrives : (u : Units) (m : Machine) (back : ℕ) (h : Held) (d : Target) (o : Option ℕ) → IsPlain m d → (total u m back h (bringing d o)).rest ≡ once_started take_in h.rest (starting m h.written d o)
in_arrives u m back h d None p = refl
in_arrives u m back h _ (Some w) (to_register f i) = refl
in_arrives u m back h _ (Some w) (to_operand un) = refl
in_arrives u m back h _ (Some w) (to_imm un imm) = refl
in_arrives u m back h _ (Some w) to_jump = refl
in_arrives u m back h _ (Some w) to_call = refl
in_arrives u m back h _ (Some w) to_halt = refl
in_arrives u m back h _ (Some w) (to_trigger un k o at lat) = rw at refl

unfoldable pub data_space : Space
unfolding do_move
data_space = record { number = 1; does = store_data; of = λ h. h.memory; positive = omega arith; idle = λ t w h. data_noop t.does.op t w refl h; after = λ u m back h v p. memory_arrives u m back h v.target (moved (read_held h.written) v) p }

unfoldable pub frame_space : Space
unfolding do_move
frame_space = record { number = 2; does = store_frame; of = λ h. h.frame; positive = omega arith; idle = λ t w h. frame_noop t.does.op t w refl h; after = λ u m back h v p. frame_arrives u m back h v.target (moved (read_held h.written) v) p }

unfoldable pub out_space : Space
unfolding do_move
out_space = record { number = 3; does = put_out; of = λ h. h.output; positive = omega arith; idle = λ t w h. out_noop t.does.op t w refl h; after = λ u m back h v p. out_arrives u m back h v.target (moved (read_held h.written) v) p }

unfoldable pub in_space : Space
unfolding do_move
in_space = record { number = 3; does = take_in; of = λ h. h.rest; positive = omega arith; idle = λ t w h. in_noop t.does.op t w refl h; after = λ u m back h v p. in_arrives u m back h v.target (moved (read_held h.written) v) p }

pub once_noop : (q : Space) (m : Machine) (written : Written) (w : List ℕ) (v : Effect) (o : Option ℕ) → IsPlain m v.target → space_by m v.target ≢ q.number → once_started q.does w (starting m written v.target o) ≡ w
once_noop q m written w v o p h = on (starting m written v.target o) refl where
  on : (r : Option Start) → starting m written v.target o ≡ r → once_started q.does w r ≡ w
  on None e = refl
  on (Some t) e = q.idle t w (λ g. h (starts_space m written v o t p e ∙ g))

-- a move that touches a space is a trigger
pub record Triggers (m : Machine) (d : Target) : Type 0 where
  pub unit : ℕ
  pub k : ℕ
  pub o : UnitOp
  pub is : d ≡ Trigger unit k
  pub at : op_at m unit k ≡ Some o
  pub space : space_of o.op ≡ space_by m d

pub triggers_of : (m : Machine) (d : Target) → IsPlain m d → 0 < space_by m d → Triggers m d
triggers_of m _ (to_register f i) lt = absurd (omega arith)
triggers_of m _ (to_operand un) lt = absurd (omega arith)
triggers_of m _ (to_imm un imm) lt = absurd (omega arith)
triggers_of m _ to_jump lt = absurd (omega arith)
triggers_of m _ to_call lt = absurd (omega arith)
triggers_of m _ to_halt lt = absurd (omega arith)
triggers_of m _ (to_trigger un k o at lat) lt = record { unit = un; k = k; o = o; is = refl; at = at; space = rw at refl }

pub trigger_write : (m : Machine) (v : Effect) (unit k : ℕ) → v.target ≡ Trigger unit k → offset_of (Started unit) (writes_by m v) ≡ Some 1
trigger_write m v unit k e = let self : unit == unit ≡ true = grind (arith, nat_tests) in rw (e, self) refl

-- ---- taking words

pub takes_space : (t : Start) → takes t ≡ true → space_of t.does.op ≡ 3
takes_space t w = on t.does.op w where
  on : (o : Op) → takes_in o ≡ true → space_of o ≡ 3
  on Ldw e = absurd cc
  on Stw e = absurd cc
  on Ldf e = absurd cc
  on Stf e = absurd cc
  on Out e = refl
  on Take e = refl
  on (Set id) e = absurd cc

pub wanted : (o : Option Start) (b : Bool) → (option_map_or takes o false && b) ≡ true → (t : Start) × (o ≡ Some t) × (takes t ≡ true)
wanted None b e = absurd cc
wanted (Some t) b e = (t, refl, on (takes t) e) where
  on : (c : Bool) → (c && b) ≡ true → c ≡ true
  on true e = refl
  on false e = absurd cc

-- a move that wants a word touches the streams
pub wants_space : (m : Machine) (h : Held) (v : Effect) → IsPlain m v.target → wants m h v ≡ true → space_by m v.target ≡ 3
wants_space m h v p w =
    let t = wanted (started_by m h (bring (read_held h.written) v)) (is_none (slice_get h.rest 0)) w in
    starts_space m h.written v (moved (read_held h.written) v) t.0 p (sym (started_is m h (bring (read_held h.written) v)) ∙ t.1) ∙ takes_space t.0 t.2

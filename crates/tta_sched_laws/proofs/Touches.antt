-- What a move reads and writes, and when.
use Rattle.std.proofs.Common.{◌≡◌, ◌⊎◌, inl, inr, ℕ, ◌<◌, Bool, true, false, List, [], ◌∷◌, ◌++◌, Option, Some, None, refl, ap, ◌∙◌, arith}
use Rattle.std.specs.Prelude.{option_and_then, ◌&&◌, ◌||◌, is_none, if◌then◌else◌}
use Rattle.std.specs.Option.{option_map_or}
use Rattle.std.proofs.lemmas.Bool.{or_parts}
use Rattle.tta_sched_laws.specs.Cited.{GuardRef, Source, Machine, Target, Trigger, Effect, Place, KeptReg, KeptImm, KeptOperand, KeptRa, KeptPort, Reads, is_active, moved, bring, Brought, start_of, has_result, has_unset_guard, has_unset, is_register, is_port, lacks_operand, or_else, Held, read_held, lacks, place_of, At, Started, Touch, operand_read}
use Rattle.tta_arch.specs.declared.ends.Source.TheVariants as source
use Rattle.tta_arch.specs.Effects.{same_place}
use Rattle.tta_sched_laws.proofs.Total.{started_by, reads_by, writes_by}
use Rattle.tta_sched_laws.proofs.Steps.{offset, IsPlain, to_register, to_imm, to_operand, to_trigger, to_jump, to_call, to_halt, starting}
use Rattle.tta_moves.proofs.Places.{same_self, either}

zero_first : (b : Bool) (rest : Option ℕ) → (rest ≡ Some 0) ⊎ (rest ≡ None) → let o = or_else (if b then Some 0 else None) rest in (o ≡ Some 0) ⊎ (o ≡ None)
zero_first true rest h = inl refl
zero_first false rest h = h

-- a source and a guard are read at once
abbrev front : Option Place → Option GuardRef → List Touch → List Touch
front p g ts = option_map_or (λ (q : Place). (At q, 0) ∷ []) p [] ++ (option_map_or (λ (q : GuardRef). (At (KeptReg q.file q.index), 0) ∷ []) g [] ++ ts)

front_zero : (x : Place) (p : Option Place) (g : Option GuardRef) (ts : List Touch) → (offset x ts ≡ Some 0) ⊎ (offset x ts ≡ None)
    → (offset x (front p g ts) ≡ Some 0) ⊎ (offset x (front p g ts) ≡ None)
front_zero x None None ts h = h
front_zero x (Some p) None ts h = zero_first (same_place p x) _ h
front_zero x None (Some g) ts h = zero_first (same_place (KeptReg g.file g.index) x) _ h
front_zero x (Some p) (Some g) ts h = zero_first (same_place p x) _ (zero_first (same_place (KeptReg g.file g.index) x) _ h)

pub reads_source : (m : Machine) (v : Effect) (x : Place) → place_of v.src ≡ Some x → offset x (reads_by v) ≡ Some 0
reads_source m v x e = rw (e, same_self x) refl

first_zero : (b : Bool) (rest : Option ℕ) → rest ≡ Some 0 → or_else (if b then Some 0 else None) rest ≡ Some 0
first_zero true rest h = refl
first_zero false rest h = h

past_source : (x : Place) (p : Option Place) (ts : List Touch) → offset x ts ≡ Some 0 → offset x (option_map_or (λ (q : Place). (At q, 0) ∷ []) p [] ++ ts) ≡ Some 0
past_source x None ts h = h
past_source x (Some p) ts h = first_zero (same_place p x) _ h

pub reads_guard : (m : Machine) (v : Effect) (g : GuardRef) → v.guard ≡ Some g → offset (KeptReg g.file g.index) (reads_by v) ≡ Some 0
reads_guard m v g e = past_source (KeptReg g.file g.index) (place_of v.src) (option_map_or (λ (q : GuardRef). (At (KeptReg q.file q.index), 0) ∷ []) v.guard [] ++ operand_read v.target) (rw (e, same_self (KeptReg g.file g.index)) refl)

skip_source : (unit : ℕ) (s : Source) (ts : List Touch) → offset (KeptOperand unit) (option_map_or (λ (q : Place). (At q, 0) ∷ []) (place_of s) [] ++ ts) ≡ offset (KeptOperand unit) ts
skip_source unit (source.Reg f i) ts = refl
skip_source unit (source.Imm f i) ts = refl
skip_source unit (source.Shown u) ts = refl
skip_source unit source.Ra ts = refl
skip_source unit (source.Value w) ts = refl

skip_guard : (unit : ℕ) (g : Option GuardRef) (ts : List Touch) → offset (KeptOperand unit) (option_map_or (λ (q : GuardRef). (At (KeptReg q.file q.index), 0) ∷ []) g [] ++ ts) ≡ offset (KeptOperand unit) ts
skip_guard unit None ts = refl
skip_guard unit (Some g) ts = refl

pub reads_operand : (m : Machine) (v : Effect) (unit k : ℕ) → v.target ≡ Trigger unit k → offset (KeptOperand unit) (reads_by v) ≡ Some 1
reads_operand m v unit k e = skip_source unit v.src (option_map_or (λ (q : GuardRef). (At (KeptReg q.file q.index), 0) ∷ []) v.guard [] ++ operand_read v.target) ∙ skip_guard unit v.guard (operand_read v.target) ∙ rw (e, same_self (KeptOperand unit)) refl

alone_is : (c : Bool) (k a : ℕ) (rest : Option ℕ) → or_else (if c then Some k else None) rest ≡ Some a → (a ≡ k) ⊎ (rest ≡ Some a)
alone_is true k a rest e = inl (cc)
alone_is false k a rest e = inr e

zero_is : (o : Option ℕ) (b : ℕ) → (o ≡ Some 0) ⊎ (o ≡ None) → o ≡ Some b → b ≡ 0
zero_is o b (inl h) e = cc
zero_is o b (inr h) e = cc

trigger_later : (x : Place) (unit a b latency : ℕ) (p : Option Place) (g : Option GuardRef) → 0 < latency → offset x ((Started unit, 1) ∷ (At (KeptPort unit), latency) ∷ []) ≡ Some a
    → offset x (front p g ((At (KeptOperand unit), 1) ∷ [])) ≡ Some b → b < a
trigger_later x unit a b latency p g lat w r = on x w r where
  least : (y : Place) → (offset y ((At (KeptOperand unit), 1) ∷ []) ≡ None) → offset y ((Started unit, 1) ∷ (At (KeptPort unit), latency) ∷ []) ≡ Some a → offset y (front p g ((At (KeptOperand unit), 1) ∷ [])) ≡ Some b → b < a
  least y none w r =
      let z = zero_is _ b (front_zero y p g ((At (KeptOperand unit), 1) ∷ []) (inr none)) r in
      elim (alone_is (false) 1 a _ w) [
        | inl e ↦ omega arith
        | inr rest ↦ elim (alone_is (same_place (KeptPort unit) y) latency a None rest) [ inl e ↦ omega arith | inr none ↦ cc ]
      ]

  on : (y : Place) → offset y ((Started unit, 1) ∷ (At (KeptPort unit), latency) ∷ []) ≡ Some a → offset y (front p g ((At (KeptOperand unit), 1) ∷ [])) ≡ Some b → b < a
  on (KeptOperand u) w r = cc
  on (KeptReg f i) w r = least (KeptReg f i) refl w r
  on (KeptImm f i) w r = least (KeptImm f i) refl w r
  on KeptRa w r = least KeptRa refl w r
  on (KeptPort u) w r = least (KeptPort u) refl w r

trigger_alone : (x : Place) (unit a b : ℕ) (p : Option Place) (g : Option GuardRef) → offset x ((Started unit, 1) ∷ []) ≡ Some a → offset x (front p g ((At (KeptOperand unit), 1) ∷ [])) ≡ Some b → b < a
trigger_alone x unit a b p g w r = trigger_later x unit a b 1 p g (omega arith) (on (false) w) r where
  on : (c : Bool) → or_else (if c then Some 1 else None) None ≡ Some a → or_else (if c then Some 1 else None) (offset x ((At (KeptPort unit), 1) ∷ [])) ≡ Some a
  on true e = e
  on false e = absurd cc

-- a move's own write shows after its reads
pub own_later : (m : Machine) (v : Effect) (x : Place) (a b : ℕ) → IsPlain m v.target → offset x (writes_by m v) ≡ Some a → offset x (reads_by v) ≡ Some b → b < a
own_later m v x a b p w r = on v.target p w r where
  one : (y : Place) → offset x ((At y, 1) ∷ []) ≡ Some a → offset x (front (place_of v.src) v.guard []) ≡ Some b → b < a
  one y w r =
      let z = zero_is _ b (front_zero x (place_of v.src) v.guard [] (inr refl)) r in
      elim (alone_is (same_place y x) 1 a None w) [ inl e ↦ omega arith | inr none ↦ cc ]

  on : (d : Target) → IsPlain m d → offset x (writes_by m (record v { target = d })) ≡ Some a → offset x (reads_by (record v { target = d })) ≡ Some b → b < a
  on _ (to_register f i) w r = one (KeptReg f i) w r
  on _ (to_operand u) w r = one (KeptOperand u) w r
  on _ (to_imm u imm) w r = one (KeptImm u imm) w r
  on _ to_jump w r = absurd cc
  on _ to_call w r = one KeptRa w r
  on _ to_halt w r = absurd cc
  on _ (to_trigger u k o at lat) w r =
      let w' = rw at at w in
      either (has_result o.op)
      (λ t. trigger_later x u a b o.latency (place_of v.src) v.guard (lat t) (rw t at w') r)
      (λ t. trigger_alone x u a b (place_of v.src) v.guard (rw t at w') r)

less_false : (a k c : Bool) → (a && true && c) ≡ false → (a && k && c) ≡ false
less_false false k c e = refl
less_false true false c e = refl
less_false true true c e = e

-- two readings that agree on what a move reads
abbrev pub ReadSame : Reads → Reads → Effect → Type 0
ReadSame reads other v =
    ((g : GuardRef) → v.guard ≡ Some g → reads (source.Reg g.file g.index) ≡ other (source.Reg g.file g.index)) × (is_active other v ≡ true → reads v.src ≡ other v.src)

active_same : (reads other : Reads) (v : Effect) → ReadSame reads other v → is_active reads v ≡ is_active other v
active_same reads other v f = on v.guard refl where
  on : (o : Option GuardRef) → v.guard ≡ o → is_active reads v ≡ is_active other v
  on None q = rw q refl
  on (Some g) q = rw (q, f.0 g q) refl

-- what takes the same words does the same
pub moved_same : (reads other : Reads) (v : Effect) → ReadSame reads other v → moved reads v ≡ moved other v
moved_same reads other v f =
    ap (λ (b : Bool). if b then reads v.src else None) (active_same reads other v f) ∙ on (is_active other v) f.1 where
      on : (b : Bool) → (b ≡ true → reads v.src ≡ other v.src) → (if b then reads v.src else None) ≡ (if b then other v.src else None)
      on true h = h refl
      on false h = refl

unset_same : (reads other : Reads) (v : Effect) (kind : Source → Bool) → ReadSame reads other v → has_unset reads kind v ≡ has_unset other kind v
unset_same reads other v kind f =
    ap (λ (b : Bool). b && kind v.src && is_none (reads v.src)) (active_same reads other v f) ∙ on (is_active other v) f.1 where
      on : (b : Bool) → (b ≡ true → reads v.src ≡ other v.src) → (b && kind v.src && is_none (reads v.src)) ≡ (b && kind v.src && is_none (other v.src))
      on true h = rw (h refl) refl
      on false h = refl

guard_same : (reads other : Reads) (v : Effect) → ReadSame reads other v → has_unset_guard reads v ≡ has_unset_guard other v
guard_same reads other v f = on v.guard refl where
  on : (o : Option GuardRef) → v.guard ≡ o → has_unset_guard reads v ≡ has_unset_guard other v
  on None q = rw q refl
  on (Some g) q = rw (q, f.0 g q) refl

-- what a list reads is set
pub record Sets (m : Machine) (h : Held) (v : Effect) : Type 0 where
  pub guard : has_unset_guard (read_held h.written) v ≡ false
  pub source : has_unset (read_held h.written) (λ s. true) v ≡ false
  pub operand : option_map_or (λ b. option_map_or lacks_operand (start_of m h.written b) false) (bring (read_held h.written) v) false ≡ false

lacks_parts : (m : Machine) (h : Held) (v : Effect) → lacks m h v ≡ false → Sets m h v
unfolding lacks
lacks_parts m h v l =
    let g = has_unset_guard (read_held h.written) v in
    let s = has_unset (read_held h.written) (λ s. true) v in
    let o = option_map_or (λ b. option_map_or lacks_operand (start_of m h.written b) false) (bring (read_held h.written) v) false in
    let a = or_parts (g || s) o l in
    let b = or_parts g s a.0 in
    record { guard = b.0; source = b.1; operand = a.1 }

pub set_guard : (m : Machine) (h : Held) (v : Effect) (g : GuardRef) → lacks m h v ≡ false → v.guard ≡ Some g → is_none (read_held h.written (source.Reg g.file g.index)) ≡ false
set_guard m h v g l e = rw e at (lacks_parts m h v l).guard

pub set_source : (m : Machine) (h : Held) (v : Effect) → lacks m h v ≡ false → is_active (read_held h.written) v ≡ true → is_none (read_held h.written v.src) ≡ false
set_source m h v l e = rw e at (lacks_parts m h v l).source

pub sets : (m : Machine) (h : Held) (reads : Reads) (v : Effect) → lacks m h v ≡ false → ReadSame reads (read_held h.written) v
    → (has_unset_guard reads v ≡ false) × (has_unset reads is_register v ≡ false) × (has_unset reads is_port v ≡ false)
sets m h reads v l f =
    let a = lacks_parts m h v l in (
      guard_same reads (read_held h.written) v f ∙ a.guard,
      unset_same reads (read_held h.written) v is_register f ∙ less_false (is_active (read_held h.written) v) (is_register v.src) (is_none (read_held h.written v.src)) a.source,
      unset_same reads (read_held h.written) v is_port f ∙ less_false (is_active (read_held h.written) v) (is_port v.src) (is_none (read_held h.written v.src)) a.source,
    )

pub has_operand : (m : Machine) (h : Held) (v : Effect) → lacks m h v ≡ false → option_map_or lacks_operand (starting m h.written v.target (moved (read_held h.written) v)) false ≡ false
has_operand m h v l = on (bring (read_held h.written) v) (lacks_parts m h v l).operand where
  on : (o : Option Brought) → option_map_or (λ b. option_map_or lacks_operand (start_of m h.written b) false) o false ≡ false → option_map_or lacks_operand (option_and_then (start_of m h.written) o) false ≡ false
  on None e = refl
  on (Some b) e = e

-- what a move starts in a list
pub started_is : (m : Machine) (h : Held) (o : Option Brought) → started_by m h o ≡ option_and_then (start_of m h.written) o
started_is m h None = refl
started_is m h (Some b) = refl

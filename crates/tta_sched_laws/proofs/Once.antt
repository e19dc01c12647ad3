-- No effect stands twice in a legal instruction.
use Rattle.tta_sched_laws.proofs.Tests.{and_not}
use Rattle.std.proofs.Common.{◌≡◌, inl, inr, ℕ, zero, suc, ◌<◌, Bool, true, false, List, [], ◌∷◌, ◌++◌, Option, Some, None, refl, sym, ap, ◌∙◌, arith, map}
use Rattle.std.specs.Prelude.{slice_get, ◌&&◌, ◌||◌, option_map}
use Rattle.std.specs.Option.{option_map_or}
use Rattle.std.specs.List.{filter_map, list_any}
use Rattle.std.proofs.lemmas.Bool.{cases_lt, and_parts}
use Rattle.std.proofs.lemmas.Bool.Decides.{nat_tests}
use Rattle.tta_sched_laws.specs.Cited.{Dest, Machine, ends_of, are_apart, can_move, keeps_taken, is_joined, has_reads, has_writes, Jumps, Calls, Halts, Effect, Target, Reg, Imm, Operand, Trigger, Control, target_of, long_effect, Long, Instruction, moves_of, long_effects, effects_of, is_legal, is_instruction}
use Rattle.tta_arch.specs.declared.ends.Dest.TheVariants as dest
use Rattle.tta_arch.specs.declared.parts.Template.{Template as Field}
use Rattle.tta_arch.specs.Legal.{Ends, same_place}
use Rattle.tta_code.specs.declared.code.Move.{Move}
use Rattle.tta_code.specs.Cycle.{effect_of as move_effect}
use Rattle.tta_code.specs.Legal.{slots_of as slots_in, ends_of as ends_in, taken}

-- ---- no effect stands twice

pub place_self : (d : Dest) → same_place d d ≡ true
place_self (dest.Reg f i) = grind (arith, nat_tests)
place_self (dest.Operand q) = grind (arith, nat_tests)
place_self (dest.Trigger q k) = grind (arith, nat_tests)
place_self dest.Jump = refl
place_self dest.Call = refl
place_self dest.Halt = refl

-- whether a destination is the place of a target
abbrev pub is_into : Target → Dest → Bool
is_into (Reg f i) d = same_place (dest.Reg f i) d
is_into (Imm f i) d = false
is_into (Operand q) d = same_place (dest.Operand q) d
is_into (Trigger q k) d = same_place (dest.Trigger q k) d
is_into (Control Jumps) d = same_place dest.Jump d
is_into (Control Calls) d = same_place dest.Call d
is_into (Control Halts) d = same_place dest.Halt d

pub into_place : (d d' : Dest) → is_into (target_of d) d' ≡ same_place d d'
into_place (dest.Reg f i) d' = refl
into_place (dest.Operand q) d' = refl
into_place (dest.Trigger q k) d' = refl
into_place dest.Jump d' = refl
into_place dest.Call d' = refl
into_place dest.Halt d' = refl

pub one_place : (d d' : Dest) → target_of d ≡ target_of d' → same_place d d' ≡ true
one_place d d' e = sym (into_place d d') ∙ ap (λ (t : Target). is_into t d') e ∙ into_place d' d' ∙ place_self d'

pub no_imm : (d : Dest) (q r : ℕ) → target_of d ≡ Imm q r → ⊥
no_imm d q r e = let z : is_into (target_of d) d ≡ false = ap (λ (t : Target). is_into t d) e in let y = into_place d d ∙ place_self d in absurd cc

pub any_place : (d : Dest) (vs : List Move) (k : ℕ) (w : Move) → slice_get vs k ≡ Some w → list_any (λ (q : Ends). same_place d q.dst) (map ends_in vs) ≡ false → same_place d w.dst ≡ false
any_place d [] k w e n = absurd cc
any_place d (v ∷ vs) zero w e n = let s : v ≡ w = cc in on (same_place d v.dst) refl s n where
  on : (b : Bool) → same_place d v.dst ≡ b → v ≡ w → (b || list_any (λ (q : Ends). same_place d q.dst) (map ends_in vs)) ≡ false → same_place d w.dst ≡ false
  on true q s m = absurd cc
  on false q s m = ap (λ (x : Move). same_place d x.dst) (sym s) ∙ q
any_place d (v ∷ vs) (suc k) w e n = on (same_place d v.dst) n (any_place d vs k w e) where
  on : (b : Bool) → (b || list_any (λ (q : Ends). same_place d q.dst) (map ends_in vs)) ≡ false → (list_any (λ (q : Ends). same_place d q.dst) (map ends_in vs) ≡ false → same_place d w.dst ≡ false) → same_place d w.dst ≡ false
  on true m ih = absurd cc
  on false m ih = ih m

-- at most one long immediate, into an immediate register
pub record IsLongs (ys : List Effect) : Type 0 where
  pub one : (k : ℕ) (e : Effect) → slice_get ys k ≡ Some e → k ≡ 0
  pub imm : (k : ℕ) (e : Effect) → slice_get ys k ≡ Some e → (q : ℕ) × (r : ℕ) × (e.target ≡ Imm q r)

pub longs_are : (m : Machine) (l : Option Long) → IsLongs (long_effects m l)
longs_are m None = record { one = λ k e h. absurd cc; imm = λ k e h. absurd cc }
longs_are m (Some l) = on (slice_get m.templates l.template) where
  on : (o : Option Field) → IsLongs (option_map_or (λ t. long_effect t.imm t.reg l.value ∷ []) o [])
  on None = record { one = λ k e h. absurd cc; imm = λ k e h. absurd cc }
  on (Some f) = record { one = one; imm = imm } where
    one : (k : ℕ) (e : Effect) → slice_get (long_effect f.imm f.reg l.value ∷ []) k ≡ Some e → k ≡ 0
    one zero e h = refl
    one (suc k) e h = absurd cc

    imm : (k : ℕ) (e : Effect) → slice_get (long_effect f.imm f.reg l.value ∷ []) k ≡ Some e → (q : ℕ) × (r : ℕ) × (e.target ≡ Imm q r)
    imm zero e h = let s : long_effect f.imm f.reg l.value ≡ e = cc in (f.imm, f.reg, ap (λ (x : Effect). x.target) (sym s))
    imm (suc k) e h = absurd cc

-- where an effect stands after a move, it goes elsewhere
pub behind_move : (vs : List Move) (ys : List Effect) → IsLongs ys → (d : Dest) (b : ℕ) (e : Effect) → list_any (λ (q : Ends). same_place d q.dst) (map ends_in vs) ≡ false
    → slice_get (map move_effect vs ++ ys) b ≡ Some e → e.target ≡ target_of d → ⊥
behind_move [] ys longs d b e n h t = let i = longs.imm b e h in no_imm d i.0 i.1 (sym t ∙ i.2)
behind_move (v ∷ vs) ys longs d zero e n h t =
    let s : move_effect v ≡ e = cc in
    let g : target_of d ≡ target_of v.dst = sym t ∙ ap (λ (x : Effect). x.target) (sym s) in
    let yes = one_place d v.dst g in
    let no = any_place d (v ∷ vs) 0 v refl n in
    absurd cc
behind_move (v ∷ vs) ys longs d (suc b) e n h t = behind_move vs ys longs d b e (rest (same_place d v.dst) n) h t where
  rest : (c : Bool) → (c || list_any (λ (q : Ends). same_place d q.dst) (map ends_in vs)) ≡ false → list_any (λ (q : Ends). same_place d q.dst) (map ends_in vs) ≡ false
  rest true m = absurd cc
  rest false m = m

pub not_twice : (vs : List Move) (ys : List Effect) → IsLongs ys → are_apart (map ends_in vs) ≡ true → (a b : ℕ) (e : Effect) → a < b
    → slice_get (map move_effect vs ++ ys) a ≡ Some e → slice_get (map move_effect vs ++ ys) b ≡ Some e → ⊥
not_twice [] ys longs apart a b e lt p q = let z = longs.one b e q in absurd (omega arith)
not_twice (v ∷ vs) ys longs apart a zero e lt p q = absurd (omega arith)
not_twice (v ∷ vs) ys longs apart zero (suc b) e lt p q =
    let n = and_not (list_any (λ (w : Ends). same_place v.dst w.dst) (map ends_in vs)) (are_apart (map ends_in vs)) apart in
    let s : move_effect v ≡ e = cc in
    behind_move vs ys longs v.dst b e n.0 q (ap (λ (x : Effect). x.target) (sym s))
not_twice (v ∷ vs) ys longs apart (suc a) (suc b) e lt p q =
    let n = and_not (list_any (λ (w : Ends). same_place v.dst w.dst) (map ends_in vs)) (are_apart (map ends_in vs)) apart in
    not_twice vs ys longs n.1 a b e (omega arith) p q

pub ends_map : (ms : List (Option Move)) → ends_of (map (option_map ends_in) ms) ≡ map ends_in (filter_map (λ (o : Option Move). o) ms)
ends_map [] = refl
ends_map (None ∷ ms) = ends_map ms
ends_map (Some v ∷ ms) = ap (λ (q : List Ends). ends_in v ∷ q) (ends_map ms)

pub legal_apart : (m : Machine) (i : Instruction) → is_legal m i ≡ true → are_apart (map ends_in (moves_of i)) ≡ true
unfolding is_legal can_move
legal_apart m i e =
    let a = and_parts (is_instruction m i) (can_move m (taken m i) (slots_in i)) e in
    let b = and_parts (keeps_taken (taken m i) (slots_in i) && is_joined m (slots_in i) && has_reads m (slots_in i) && has_writes m (slots_in i)) (are_apart (ends_of (slots_in i))) a.1 in
    sym (ap are_apart (ends_map i.moves)) ∙ b.1

pub once_is : (m : Machine) (i : Instruction) → is_legal m i ≡ true → (a b : ℕ) (e : Effect) → slice_get (effects_of m i) a ≡ Some e → slice_get (effects_of m i) b ≡ Some e → a ≡ b
once_is m i legal a b e p q =
    elim (cases_lt a b) [
      | inl lt ↦ absurd (not_twice (moves_of i) (long_effects m i.long) (longs_are m i.long) (legal_apart m i legal) a b e lt p q)
      | inr le ↦ elim (cases_lt b a) [
        | inl lt ↦ absurd (not_twice (moves_of i) (long_effects m i.long) (longs_are m i.long) (legal_apart m i legal) b a e lt q p)
        | inr le' ↦ omega arith
      ]
    ]

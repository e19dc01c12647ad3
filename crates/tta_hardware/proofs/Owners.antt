-- Which kinds of operations one unit alone may serve.
use Rattle.std.proofs.Common.{◌≡◌, ℕ, ◌≤◌, ◌==◌, Bool, true, false, ◌||◌, List, [], ◌∷◌, length, filter, refl, sym, ◌∙◌, arith}
use Rattle.std.specs.Prelude.{if◌then◌else◌, ◌++◌}
use Rattle.std.specs.List.{list_any}
use Rattle.std.proofs.lemmas.Bool.{or_left, or_right, le-leb, leb-true, false≢true}
use Rattle.tta_hardware.specs.Cited.{Op, Ldw, Stw, Ldf, Stf, Out, Take, Set, UnitOp, Machine, IsMachine, same_op, fits_kind, has_one_owner, is_data_op, is_frame_op, is_stream_op, Start, store_data, store_frame, put_out, take_in, stores}
use Rattle.tta_arch.specs.declared.parts.Unit.{Unit as OpUnit}

-- ---- a kind within another

module _ {A : Type 0} (p q : A → Bool) (narrow : (x : A) → p x ≡ true → q x ≡ true) where
  any_wider : (xs : List A) → list_any p xs ≡ true → list_any q xs ≡ true
  any_wider [] any = any
  any_wider (x ∷ xs) any = by (p x) refl any (any_wider xs) where
    by : (b : Bool) → p x ≡ b → (b || list_any p xs) ≡ true → (list_any p xs ≡ true → list_any q xs ≡ true) → (q x || list_any q xs) ≡ true
    by true is any rest = or_left (q x) (list_any q xs) (narrow x is)
    by false is any rest = or_right (q x) (list_any q xs) (rest any)

  fewer : (xs : List A) → length (filter p xs) ≤ length (filter q xs)
  fewer [] = omega arith
  fewer (x ∷ xs) = by (p x) refl (q x) refl (fewer xs) where
    by : (b : Bool) → p x ≡ b → (c : Bool) → q x ≡ c → length (filter p xs) ≤ length (filter q xs)
        → length (if b then x ∷ filter p xs else filter p xs) ≤ length (if c then x ∷ filter q xs else filter q xs)
    by true is true is' rest = omega (arith, rest)
    by true is false is' rest = absurd (false≢true (sym is' ∙ narrow x is))
    by false is true is' rest = omega (arith, rest)
    by false is false is' rest = rest

one_of_class : (kind class : Op → Bool) (units : List OpUnit) → ((o : Op) → kind o ≡ true → class o ≡ true) → has_one_owner class units
    ≡ true → has_one_owner kind units ≡ true
one_of_class kind class units narrow one =
    let most = leb-true (length (filter (λ u. list_any (λ o. class o.op) u.ops) units)) 1 one in
    let less = fewer (λ (u : OpUnit). list_any (λ o. kind o.op) u.ops) (λ u. list_any (λ o. class o.op) u.ops)
    (λ u. any_wider (λ (o : UnitOp). kind o.op) (λ o. class o.op) (λ o. narrow o.op) u.ops) units in
    le-leb (length (filter (λ u. list_any (λ o. kind o.op) u.ops) units)) 1 (omega (arith, most, less))

pub turned : (a b : Op) → same_op a b ≡ true → same_op b a ≡ true
turned Ldw Ldw is = refl
turned Stw Stw is = refl
turned Ldf Ldf is = refl
turned Stf Stf is = refl
turned Out Out is = refl
turned Take Take is = refl
turned (Set a) (Set b) is = swap a.0 b.0 is where
  swap : (x y : ℕ) → (x == y) ≡ true → (y == x) ≡ true
  swap x y is = grind (arith, is)
turned a b is = absurd cc

module _ (m : Machine) (rules : IsMachine m) where
  pub one_store : has_one_owner (same_op Stw) m.units ≡ true
  one_store = one_of_class (same_op Stw) is_data_op m.units
      (λ o is. or_right (same_op o Ldw) (same_op o Stw) (turned Stw o is)) rules.one_data

  pub one_frame_store : has_one_owner (same_op Stf) m.units ≡ true
  one_frame_store = one_of_class (same_op Stf) is_frame_op m.units
      (λ o is. or_right (same_op o Ldf) (same_op o Stf) (turned Stf o is)) rules.one_frame

  pub one_out : has_one_owner (same_op Out) m.units ≡ true
  one_out = one_of_class (same_op Out) is_stream_op m.units
      (λ o is. or_left (same_op o Out) (same_op o Take) (turned Out o is)) rules.one_stream

  pub one_take : has_one_owner (same_op Take) m.units ≡ true
  one_take = one_of_class (same_op Take) is_stream_op m.units
      (λ o is. or_right (same_op o Out) (same_op o Take) (turned Take o is)) rules.one_stream

-- ---- what other operations leave

pub data_quiet : (words : List ℕ) (t : Start) → same_op Stw t.does.op ≡ false → store_data words t ≡ words
data_quiet words t = by t.does.op where
  by : (o : Op) → same_op Stw o ≡ false → store_data words (record t { does = record t.does { op = o } }) ≡ words
  by Ldw is = refl
  by Stw is = absurd cc
  by Ldf is = refl
  by Stf is = refl
  by Out is = refl
  by Take is = refl
  by (Set id) is = refl

pub data_does : (words : List ℕ) (t : Start) → same_op Stw t.does.op ≡ true → store_data words t ≡ stores words t
data_does words t = by t.does.op where
  by : (o : Op) → same_op Stw o ≡ true → store_data words (record t { does = record t.does { op = o } }) ≡ stores words t
  by Ldw is = absurd cc
  by Stw is = refl
  by Ldf is = absurd cc
  by Stf is = absurd cc
  by Out is = absurd cc
  by Take is = absurd cc
  by (Set id) is = absurd cc

pub frame_quiet : (words : List ℕ) (t : Start) → same_op Stf t.does.op ≡ false → store_frame words t ≡ words
frame_quiet words t = by t.does.op where
  by : (o : Op) → same_op Stf o ≡ false → store_frame words (record t { does = record t.does { op = o } }) ≡ words
  by Ldw is = refl
  by Stw is = refl
  by Ldf is = refl
  by Stf is = absurd cc
  by Out is = refl
  by Take is = refl
  by (Set id) is = refl

pub frame_does : (words : List ℕ) (t : Start) → same_op Stf t.does.op ≡ true → store_frame words t ≡ stores words t
frame_does words t = by t.does.op where
  by : (o : Op) → same_op Stf o ≡ true → store_frame words (record t { does = record t.does { op = o } }) ≡ stores words t
  by Ldw is = absurd cc
  by Stw is = absurd cc
  by Ldf is = absurd cc
  by Stf is = refl
  by Out is = absurd cc
  by Take is = absurd cc
  by (Set id) is = absurd cc

pub out_quiet : (words : List ℕ) (t : Start) → same_op Out t.does.op ≡ false → put_out words t ≡ words
out_quiet words t = by t.does.op where
  by : (o : Op) → same_op Out o ≡ false → put_out words (record t { does = record t.does { op = o } }) ≡ words
  by Ldw is = refl
  by Stw is = refl
  by Ldf is = refl
  by Stf is = refl
  by Out is = absurd cc
  by Take is = refl
  by (Set id) is = refl

pub out_does : (words : List ℕ) (t : Start) → same_op Out t.does.op ≡ true → put_out words t ≡ words ++ t.word ∷ []
out_does words t = by t.does.op where
  by : (o : Op) → same_op Out o ≡ true → put_out words (record t { does = record t.does { op = o } }) ≡ words ++ t.word ∷ []
  by Ldw is = absurd cc
  by Stw is = absurd cc
  by Ldf is = absurd cc
  by Stf is = absurd cc
  by Out is = refl
  by Take is = absurd cc
  by (Set id) is = absurd cc

pub in_quiet : (words : List ℕ) (t : Start) → same_op Take t.does.op ≡ false → take_in words t ≡ words
in_quiet words t = by t.does.op where
  by : (o : Op) → same_op Take o ≡ false → take_in words (record t { does = record t.does { op = o } }) ≡ words
  by Ldw is = refl
  by Stw is = refl
  by Ldf is = refl
  by Stf is = refl
  by Out is = refl
  by Take is = absurd cc
  by (Set id) is = refl

-- a store has its operand
pub store_operand : (o : UnitOp) → fits_kind o ≡ true → ((same_op Stw o.op || same_op Stf o.op) ≡ true) → (o.arity == 2) ≡ true
store_operand o fits = by o.op fits where
  by : (p : Op) → fits_kind (record o { op = p }) ≡ true → (same_op Stw p || same_op Stf p) ≡ true → (o.arity == 2) ≡ true
  by Ldw fits is = absurd cc
  by Stw fits is = grind (arith, fits)
  by Ldf fits is = absurd cc
  by Stf fits is = grind (arith, fits)
  by Out fits is = absurd cc
  by Take fits is = absurd cc
  by (Set id) fits is = absurd cc

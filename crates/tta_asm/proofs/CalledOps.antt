-- The operations of a machine's units are called by names, and two of one unit by different ones.
use Rattle.std.proofs.Common.{◌≡◌, ℕ, Bool, true, false, not, List, [], ◌∷◌, length, map, Option, Some, None, slice_get, refl, sym, ap, ◌∙◌}
use Rattle.std.specs.Prelude.{codes, nat_lt, ◌&&◌}
use Rattle.std.specs.Str.{bytes_eq}
use Rattle.std.specs.List.{list_all, list_any, AllByRecursion}
use Rattle.std.proofs.lemmas.Bool.{and_parts, and_from, or_parts, or_from, not-true, not_from_false, lt-ltb, eq-eqb, false≢true, false_from_ne_true}
use Rattle.std.proofs.lemmas.Option.{get_or_from_slice_get, slice_get_within}
use Rattle.std.proofs.lemmas.Slice.Eq.{bytes_eq-Decides}
use Rattle.tta_list.proofs.Lists.{list_all_one}
use Rattle.tta_asm.specs.Cited.{is_name, is_reserved, Units, named, OpId, Op, Ldw, Stw, Ldf, Stf, Out, Take, Set, UnitOp, are_different, same_op, is_named}
use Rattle.tta_ops.proofs.Named.{get_named}
use Rattle.tta_arch.specs.declared.parts.Unit.{Unit as OpUnit}
use Rattle.tta_asm.specs.Parts.{op_name}

-- an operation of the language, or one that the set of units has under a name
abbrev pub is_called : Units → Op → Bool
is_called u (Set id) = nat_lt id.0 (length u.names) && is_name (op_name u (Set id))
is_called u op = true

-- a unit whose operations are called, each by a name of its own
abbrev pub has_called_ops : Units → OpUnit → Bool
has_called_ops u unit =
    list_all (λ o. is_called u o.op) unit.ops && are_different bytes_eq (map (λ o. op_name u o.op) unit.ops)

module _ (u : Units) where
  -- an operation of the set of units is called by its name there
  abbrev pub IsOwn : Op → Type 0
  IsOwn (Set id) = slice_get u.names id.0 ≡ Some (op_name u (Set id))
  IsOwn op = Unit {0}

  -- an operation is called by a name, and by its name in the set of units
  abbrev pub IsToken : Op → Type 0
  IsToken op = (is_name (op_name u op) ≡ true) × IsOwn op

  -- an operation of the set of units that has a name there is called by it
  set-token : (id : OpId) (name : Option (List ℕ)) → slice_get u.names id.0 ≡ name → is_named name ≡ true → IsToken (Set id)
  set-token id None at is = absurd (false≢true is)
  set-token id (Some name) at is =
      let called : op_name u (Set id) ≡ name = get_or_from_slice_get u.names id.0 name [] at in
      (rw called is, at ∙ ap (λ n. Some n) (sym called))

  -- an operation is called so, where one of the set of units has a name there
  pub token : (op : Op) → ((id : OpId) → op ≡ Set id → is_named (slice_get u.names id.0) ≡ true) → IsToken op
  token Ldw has = (refl, tt)
  token Stw has = (refl, tt)
  token Ldf has = (refl, tt)
  token Stf has = (refl, tt)
  token Out has = (refl, tt)
  token Take has = (refl, tt)
  token (Set id) has = set-token id (slice_get u.names id.0) refl (has id refl)

  -- an operation so called is called
  called : (op : Op) → is_name (op_name u op) ≡ true → IsOwn op → is_called u op ≡ true
  called Ldw is own = refl
  called Stw is own = refl
  called Ldf is own = refl
  called Stf is own = refl
  called Out is own = refl
  called Take is own = refl
  called (Set id) is own =
      and_from (nat_lt id.0 (length u.names)) (is_name (op_name u (Set id)))
      (lt-ltb id.0 (length u.names) (slice_get_within u.names id.0 (op_name u (Set id)) own)) is

  -- all of a unit are
  pub all_called : (ops : List UnitOp) → AllByRecursion (λ (o : UnitOp). IsToken o.op) ops → list_all (λ o. is_called u o.op) ops ≡ true
  all_called [] are = refl
  all_called (o ∷ ops) are =
      and_from (is_called u o.op) (list_all (λ o. is_called u o.op) ops) (called o.op are.0.0 are.0.1) (all_called ops are.1)

  -- ---- names that differ

  -- no operation of the set of units is called by a word of the language
  apart : (id : ℕ) (name word : List ℕ) → is_reserved word ≡ true → slice_get u.names id ≡ Some name → name ≡ word → ⊥
  apart id name word is at same =
      let other : is_reserved name ≡ false = not-true (is_reserved name) (list_all_one (λ n. not (is_reserved n)) u.names id name u.reserved at) in
      false≢true (sym other ∙ ap is_reserved same ∙ is)

  -- an operation of the set and one of the language have different names
  set-apart : (id : ℕ) (name word : List ℕ) → is_reserved word ≡ true → slice_get u.names id ≡ Some name → bytes_eq name word ≡ true → ⊥
  set-apart id name word is at e = apart id name word is at ((bytes_eq-Decides name word).0 e)

  -- the same the other way round
  word-apart : (id : ℕ) (name word : List ℕ) → is_reserved word ≡ true → slice_get u.names id ≡ Some name → bytes_eq word name ≡ true → ⊥
  word-apart id name word is at e = apart id name word is at (sym ((bytes_eq-Decides word name).0 e))

  -- operations of one name are one
  one-op : (a b : Op) → IsOwn a → IsOwn b → bytes_eq (op_name u a) (op_name u b) ≡ true → same_op a b ≡ true
  unfolding is_reserved
  one-op (Set i) (Set j) own other e =
      let called : op_name u (Set i) ≡ op_name u (Set j) = (bytes_eq-Decides (op_name u (Set i)) (op_name u (Set j))).0 e in
      let first : named u (op_name u (Set j)) ≡ Some i.0 = ap (named u) (sym called) ∙ get_named u (op_name u (Set i)) i.0 own in
      let second : named u (op_name u (Set j)) ≡ Some j.0 = get_named u (op_name u (Set j)) j.0 other in
      let both : ◌≡◌ {A = Option ℕ} (Some i.0) (Some j.0) = sym first ∙ second in
      let same : i.0 ≡ j.0 = cc (both) in
      eq-eqb i.0 j.0 same
  one-op (Set i) Ldw own other e = absurd (set-apart i.0 (op_name u (Set i)) (codes "ldw") refl own e)
  one-op (Set i) Stw own other e = absurd (set-apart i.0 (op_name u (Set i)) (codes "stw") refl own e)
  one-op (Set i) Ldf own other e = absurd (set-apart i.0 (op_name u (Set i)) (codes "ldf") refl own e)
  one-op (Set i) Stf own other e = absurd (set-apart i.0 (op_name u (Set i)) (codes "stf") refl own e)
  one-op (Set i) Out own other e = absurd (set-apart i.0 (op_name u (Set i)) (codes "out") refl own e)
  one-op (Set i) Take own other e = absurd (set-apart i.0 (op_name u (Set i)) (codes "in") refl own e)
  one-op Ldw (Set j) own other e = absurd (word-apart j.0 (op_name u (Set j)) (codes "ldw") refl other e)
  one-op Stw (Set j) own other e = absurd (word-apart j.0 (op_name u (Set j)) (codes "stw") refl other e)
  one-op Ldf (Set j) own other e = absurd (word-apart j.0 (op_name u (Set j)) (codes "ldf") refl other e)
  one-op Stf (Set j) own other e = absurd (word-apart j.0 (op_name u (Set j)) (codes "stf") refl other e)
  one-op Out (Set j) own other e = absurd (word-apart j.0 (op_name u (Set j)) (codes "out") refl other e)
  one-op Take (Set j) own other e = absurd (word-apart j.0 (op_name u (Set j)) (codes "in") refl other e)
  one-op Ldw Ldw own other e = refl
  one-op Stw Stw own other e = refl
  one-op Ldf Ldf own other e = refl
  one-op Stf Stf own other e = refl
  one-op Out Out own other e = refl
  one-op Take Take own other e = refl
  one-op a b own other e = absurd (false≢true e)

  -- an operation that none of others is has a name of its own
  none-like : (o : UnitOp) (ops : List UnitOp) → IsToken o.op → AllByRecursion (λ (o : UnitOp). IsToken o.op) ops → list_any (λ p. same_op o.op p.op) ops ≡ false
      → list_any (bytes_eq (op_name u o.op)) (map (λ p. op_name u p.op) ops) ≡ false
  none-like o [] is are none = refl
  none-like o (p ∷ ops) is are none =
      let parts = or_parts (same_op o.op p.op) (list_any (λ p. same_op o.op p.op) ops) none in
      let here : bytes_eq (op_name u o.op) (op_name u p.op) ≡ false =
      false_from_ne_true (bytes_eq (op_name u o.op) (op_name u p.op))
      (λ e. false≢true (sym parts.0 ∙ one-op o.op p.op is.1 are.0.1 e)) in
      or_from (bytes_eq (op_name u o.op) (op_name u p.op)) (list_any (bytes_eq (op_name u o.op)) (map (λ p. op_name u p.op) ops))
      here (none-like o ops is are.1 parts.1)

  -- operations that differ have names that do
  pub names_apart : (ops : List UnitOp) → AllByRecursion (λ (o : UnitOp). IsToken o.op) ops → are_different (λ o p. same_op o.op p.op) ops ≡ true
      → are_different bytes_eq (map (λ o. op_name u o.op) ops) ≡ true
  names_apart [] are differ = refl
  names_apart (o ∷ ops) are differ =
      let parts = and_parts (not (list_any (λ p. same_op o.op p.op) ops)) (are_different (λ o p. same_op o.op p.op) ops) differ in
      let none = none-like o ops are.0 are.1 (not-true (list_any (λ p. same_op o.op p.op) ops) parts.0) in
      and_from (not (list_any (bytes_eq (op_name u o.op)) (map (λ p. op_name u p.op) ops))) (are_different bytes_eq (map (λ o. op_name u o.op) ops))
      (not_from_false (list_any (bytes_eq (op_name u o.op)) (map (λ p. op_name u p.op) ops)) none) (names_apart ops are.1 parts.1)

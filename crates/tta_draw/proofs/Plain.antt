-- Names are letters, digits and '_', so XML takes them as they are.
use Rattle.std.proofs.Common.{◌≡◌, ℕ, ◌==◌, Bool, true, false, not, List, [], Option, Some, None, slice_get, refl, sym, ap, ◌∙◌, true≢false}
use Rattle.std.specs.Prelude.{◌&&◌, ◌||◌}
use Rattle.std.specs.Char.{is_ascii_alphanumeric}
use Rattle.std.proofs.lemmas.Bool.{and_parts, eqb-true}
use Rattle.std.proofs.lemmas.Option.{get_or_from_slice_get}
use Rattle.tta_list.proofs.Lists.{all_weaker, list_all_weaker}
use Rattle.tta_draw.specs.Cited.{is_letter, first_is, is_run, is_name, OpId, Units, Op, Ldw, Stw, Ldf, Stf, Out, Take, Set, IsMachineName, names_of, is_named, op_name}
use Rattle.tta_draw.specs.Laws.{is_plain, NamesArePlain}

-- a byte of a name is none that XML would read otherwise
abbrev in_name : ℕ → Bool
in_name b = is_ascii_alphanumeric b || b == 95

other : (b c : ℕ) → in_name c ≡ false → in_name b ≡ true → not (b == c) ≡ true
other b c out in' = by (b == c) refl where
  by : (t : Bool) → b == c ≡ t → not t ≡ true
  by true e = absurd (true≢false (sym in' ∙ ap in_name (eqb-true b c e) ∙ out))
  by false e = refl

plain_byte : (b : ℕ) → in_name b ≡ true → (not (b == 38) && not (b == 60)) ≡ true
plain_byte b in' = let first = other b 38 refl in' in let second = other b 60 refl in' in rw (first, second) refl

plain_name : (name : List ℕ) → is_name name ≡ true → is_plain name ≡ true
plain_name name is =
    list_all_weaker in_name (λ b. not (b == 38) && not (b == 60)) name plain_byte (and_parts (first_is is_letter name) (is_run name) is).1

-- so is the name of an operation
plain_op : (u : Units) (op : Op) → ((id : OpId) → op ≡ Set id → is_named (slice_get u.names id.0) ≡ true) → is_plain (op_name u op) ≡ true
plain_op u Ldw named = refl
plain_op u Stw named = refl
plain_op u Ldf named = refl
plain_op u Stf named = refl
plain_op u Out named = refl
plain_op u Take named = refl
plain_op u (Set id) named = by (slice_get u.names id.0) refl (named id refl) where
  by : (name : Option (List ℕ)) → slice_get u.names id.0 ≡ name → is_named name ≡ true → is_plain (op_name u (Set id)) ≡ true
  by None e is = absurd (true≢false (sym is))
  by (Some name) e is = ap is_plain (get_or_from_slice_get u.names id.0 name [] e) ∙ plain_name name is

pub names_are_plain : NamesArePlain
names_are_plain u m rules over = record {
  parts = all_weaker IsMachineName (λ name. is_plain name ≡ true) (names_of m) (λ name is. plain_name name is.written) rules.names;
  ops = λ unit op o at. plain_op u o.op (λ id is. over.names unit op o id at is);
}

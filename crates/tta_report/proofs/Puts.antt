-- How a text is put piece by piece.
use Rattle.std.proofs.Common.{◌≡◌, ℕ, List, [], ◌++◌, length, take, drop, Option, Some, None, refl, sym, ap, ◌∙◌, append_assoc, append-nil, subst, true≢false}
use Rattle.std.proofs.Math.Seq.{take-append_seam}
use Rattle.std.proofs.lemmas.List.{take-append-drop}
use Rattle.std.specs.Prelude.{Result, Ok, Err, IsErr}
use Rattle.std.specs.Io.KnownBytes.{append_known}
use Rattle.tta_ports.specs.Sink.{PutsBytes}

-- of a whole text, all but what is left has been put
pub record HasPut (old new : Option (List ℕ)) (whole left : List ℕ) : Type 0 where
  pub done : List ℕ
  pub taken : new ≡ append_known old done
  pub parts : whole ≡ done ++ left

-- nothing is appended
pub append_known-nil : (known : Option (List ℕ)) → append_known known [] ≡ known
append_known-nil None = refl
append_known-nil (Some xs) = ap Some (append-nil xs)

-- one text is appended after another
pub append_known-twice : (known : Option (List ℕ)) (xs ys : List ℕ) → append_known (append_known known xs) ys ≡ append_known known (xs ++ ys)
append_known-twice None xs ys = refl
append_known-twice (Some zs) xs ys = ap Some (append_assoc zs xs ys)

-- nothing has been put yet
pub put_none : (old : Option (List ℕ)) (whole : List ℕ) → HasPut old old whole whole
put_none old whole = record { done = []; taken = sym (append_known-nil old); parts = refl }

-- a piece more
pub put_more : (old new newer : Option (List ℕ)) (whole piece left : List ℕ)
    → HasPut old new whole (piece ++ left) → newer ≡ append_known new piece → HasPut old newer whole left
put_more old new newer whole piece left has more = record {
  done = has.done ++ piece;
  taken = more ∙ ap (λ t. append_known t piece) has.taken ∙ append_known-twice old has.done piece;
  parts = has.parts ∙ sym (append_assoc has.done piece left);
}

-- a prefix of the next piece was put, and so was a prefix of the whole
pub put_part : (old new newer : Option (List ℕ)) (whole piece left : List ℕ) (count : ℕ)
    → HasPut old new whole (piece ++ left) → newer ≡ append_known new (take count piece)
    → (n : ℕ) × (newer ≡ append_known old (take n whole))
put_part old new newer whole piece left count has part =
    let prefix = take count piece in
    let rest = drop count piece ++ left in
    let again : whole ≡ (has.done ++ prefix) ++ rest =
    has.parts ∙ ap (λ l. has.done ++ (l ++ left)) (sym (take-append-drop count piece))
    ∙ ap (λ l. has.done ++ l) (append_assoc prefix (drop count piece) left) ∙ sym (append_assoc has.done prefix rest) in (
      length (has.done ++ prefix),
      part ∙ ap (λ t. append_known t prefix) has.taken ∙ append_known-twice old has.done prefix
          ∙ ap (append_known old) (sym (ap (take (length (has.done ++ prefix))) again ∙ take-append_seam (has.done ++ prefix) rest)),
    )

-- the answer of a put that failed says that a prefix was put
pub part_is_put : {T E : Type 0} → (whole : List ℕ) (old new : Option (List ℕ)) (result : Result T E) → IsErr result
    → (n : ℕ) × (new ≡ append_known old (take n whole)) → PutsBytes whole old new result
part_is_put whole old new (Ok v) is part = absurd (true≢false (sym is))
part_is_put whole old new (Err e) is part = part

-- two texts one after the other: the first was put, and the second, or a prefix of it
pub puts_both : {T E : Type 0} → (first second : List ℕ) (old new newer : Option (List ℕ)) (result : Result T E)
    → new ≡ append_known old first → PutsBytes second new newer result → PutsBytes (first ++ second) old newer result
puts_both first second old new newer (Ok v) one two =
    two ∙ ap (λ t. append_known t second) one ∙ append_known-twice old first second
puts_both first second old new newer (Err e) one two =
    let start : HasPut old new (first ++ second) second = record { done = first; taken = one; parts = refl } in
    put_part old new newer (first ++ second) second [] two.0 (subst (HasPut old new (first ++ second)) (sym (append-nil second)) start) two.1

-- a prefix of the first of two texts is a prefix of both
pub puts_first : {T E T' E' : Type 0} → (first second : List ℕ) (old new : Option (List ℕ)) (result : Result T E) (result' : Result T' E')
    → IsErr result → IsErr result' → PutsBytes first old new result → PutsBytes (first ++ second) old new result'
puts_first first second old new (Ok v) result' is is' puts = absurd (true≢false (sym is))
puts_first first second old new (Err e) result' is is' puts =
    part_is_put (first ++ second) old new result' is' (put_part old old new (first ++ second) first second puts.0 (put_none old (first ++ second)) puts.1)

-- an answer that is a fault is one
pub is_err_of : {T E : Type 0} → {result : Result T E} {e : E} → result ≡ Err e → IsErr result
is_err_of {T = T} {E = E} is = subst (IsErr {T = T} {E = E}) (sym is) refl

-- what a put that failed has done is the same whatever its answer carries
pub puts_again : {T E T' E' : Type 0} → (text : List ℕ) (old new : Option (List ℕ)) (result : Result T E) (result' : Result T' E')
    → IsErr result → IsErr result' → PutsBytes text old new result → PutsBytes text old new result'
puts_again text old new (Ok v) result' is is' puts = absurd (true≢false (sym is))
puts_again text old new (Err e) result' is is' puts = part_is_put text old new result' is' puts

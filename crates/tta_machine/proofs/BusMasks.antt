-- Sets of buses, one bit each, and the buses of names in a row.
use Rattle.std.proofs.Common.{◌≡◌, ◌≢◌, ◌<◌, ◌+◌, ◌^◌, ℕ, Bool, true, false, not, Option, Some, None, refl, sym, ap, ◌∙◌}
use Rattle.std.proofs.Common.{List, [], ◌∷◌, ◌++◌, get_or, take, drop, arith, add_comm, add_assoc}
use Rattle.std.specs.Prelude.{◌==◌, ◌&&◌, ◌||◌, if◌then◌else◌, length, bit_and, bit_or, option_map}
use Rattle.std.specs.List.{list_any}
use Rattle.std.proofs.lemmas.List.Folds.{list_any-append}
use Rattle.std.proofs.lemmas.Bool.{and_parts, not-true, eqb-true, eqb-false}
use Rattle.std.proofs.lemmas.Nat.{or_disjoint, and_or_self, and_or_apart, pow_apart, pow_pos}
use Rattle.std.proofs.lemmas.List.{map-append, map_more, drop_more, take-append-drop}
use Rattle.tta_parse.specs.Steps.{◌>>?◌}
use Rattle.tta_machine.specs.Cited.{texts, Word, are_different}
use Rattle.tta_machine.specs.declared.draft.Draft.{Draft}
use Rattle.tta_machine.specs.Draft.{bus_named}
use Rattle.tta_machine.specs.Declarations.{bus_set, buses_named}
use Rattle.tta_machine.specs.BusSets.{set_once}
use Rattle.tta_list.proofs.Tests.{same_back}

-- ---- sets

-- the set of buses 0 and 2, in either order, and no set where bus 1 stands twice
set_of_two : set_once (2 ∷ 0 ∷ []) ≡ Some 5
set_of_two = refl

set_of_none : set_once [] ≡ Some 0
set_of_none = refl

set_of_twice : set_once (1 ∷ 2 ∷ 1 ∷ []) ≡ None
set_of_twice = refl

-- buses of which none stands twice
abbrev different : List ℕ → Bool
different xs = are_different (λ a b. a == b) xs

-- the set of different buses with one more, in which its bit is set
with_bit : (x : ℕ) (xs : List ℕ) → bit_and (bus_set xs) (2 ^ x) ≡ 0 → bit_or (bus_set xs) (2 ^ x) ≡ 2 ^ x + bus_set xs
with_bit x xs apart = or_disjoint (bus_set xs) (2 ^ x) apart ∙ add_comm (bus_set xs) (2 ^ x)

-- the bit of a bus is set where it is one of them
has_bus : (xs : List ℕ) (y : ℕ) → different xs ≡ true
    → bit_and (bus_set xs) (2 ^ y) ≡ (if list_any (λ x. y == x) xs then 2 ^ y else 0)
has_bus [] y e = refl
has_bus (x ∷ xs) y e =
    let parts = and_parts (not (list_any (λ z. x == z) xs)) (different xs) e in
    let none = not-true (list_any (λ z. x == z) xs) parts.0 in
    let apart : bit_and (bus_set xs) (2 ^ x) ≡ 0 = has_bus xs x parts.1 ∙ ap (λ b. if b then 2 ^ x else 0) none in
    by (y == x) refl (with_bit x xs apart) (has_bus xs y parts.1)
  where
    by : (b : Bool) → (y == x) ≡ b → bit_or (bus_set xs) (2 ^ x) ≡ 2 ^ x + bus_set xs
        → bit_and (bus_set xs) (2 ^ y) ≡ (if list_any (λ z. y == z) xs then 2 ^ y else 0)
        → bit_and (2 ^ x + bus_set xs) (2 ^ y) ≡ (if b || list_any (λ z. y == z) xs then 2 ^ y else 0)
    by true h joined others =
        ap (λ n. bit_and n (2 ^ y)) (sym joined) ∙ ap (λ z. bit_and (bit_or (bus_set xs) (2 ^ z)) (2 ^ y)) (sym (eqb-true y x h))
        ∙ and_or_self (2 ^ y) (bus_set xs)
    by false h joined others =
        ap (λ n. bit_and n (2 ^ y)) (sym joined)
        ∙ and_or_apart (2 ^ y) (bus_set xs) (2 ^ x) (pow_apart x y (λ (e : x ≡ y). eqb-false y x h (sym e))) ∙ others

-- a bus after the others
bus_set-push : (xs : List ℕ) (y : ℕ) → bus_set (xs ++ y ∷ []) ≡ bus_set xs + 2 ^ y
bus_set-push [] y = add_comm (2 ^ y) 0
bus_set-push (x ∷ xs) y = ap (λ n. 2 ^ x + n) (bus_set-push xs y) ∙ sym (add_assoc (2 ^ x) (bus_set xs) (2 ^ y))

-- how the tests of one bus more come together
bools : (among rest same other : Bool)
    → (not (among || (same || false)) && (rest && not other)) ≡ ((not among && rest) && not (same || other))
bools true rest same other = refl
bools false true true other = refl
bools false true false other = refl
bools false false true other = refl
bools false false false other = refl

-- they are different with one more where it is none of them
different-push : (xs : List ℕ) (y : ℕ) → different (xs ++ y ∷ []) ≡ (different xs && not (list_any (λ x. y == x) xs))
different-push [] y = refl
different-push (x ∷ xs) y =
    by (list_any (λ z. x == z) xs) (different xs) (x == y) (y == x) (same_back x y)
    (list_any-append (λ z. x == z) xs (y ∷ [])) (different-push xs y)
  where
    by : (among rest same back : Bool) → same ≡ back → list_any (λ z. x == z) (xs ++ y ∷ []) ≡ (among || (same || false))
        → different (xs ++ y ∷ []) ≡ (rest && not (list_any (λ z. y == z) xs))
        → (not (list_any (λ z. x == z) (xs ++ y ∷ [])) && different (xs ++ y ∷ []))
        ≡ ((not among && rest) && not (back || list_any (λ z. y == z) xs))
    by among rest same back e any others =
        ap (λ b. not b && different (xs ++ y ∷ [])) any ∙ ap (λ b. not (among || (same || false)) && b) others
        ∙ bools among rest same (list_any (λ z. y == z) xs)
        ∙ ap (λ b. (not among && rest) && not (b || list_any (λ z. y == z) xs)) e

-- the same where the others are different already
different-after : (xs : List ℕ) (y : ℕ) {among : Bool} → different xs ≡ true → list_any (λ z. y == z) xs ≡ among
    → different (xs ++ y ∷ []) ≡ not among
different-after xs y all is = different-push xs y ∙ ap (λ b. b && not (list_any (λ z. y == z) xs)) all ∙ ap not is

-- whether a bus is one of them, by its bit
bit-clear : (among : Bool) (y : ℕ) → (if among then 2 ^ y else 0) ≡ 0 → among ≡ false
bit-clear true y e = absurd (omega (arith, pow_pos y))
bit-clear false y e = refl

bit-set : (among : Bool) (n y : ℕ) → n ≡ (if among then 2 ^ y else 0) → n ≢ 0 → among ≡ true
bit-set true n y e taken = refl
bit-set false n y e taken = absurd (taken e)

-- what a set is, by whether its buses are different
set_at : (b : Bool) (xs : List ℕ) → different xs ≡ b → set_once xs ≡ (if b then Some (bus_set xs) else None)
set_at b xs e = ap (λ b. if b then Some (bus_set xs) else None) e

-- a bus whose bit is not set joins the set
pub set_once-new : (xs : List ℕ) (y mask : ℕ) → Some mask ≡ set_once xs → bit_and mask (2 ^ y) ≡ 0
    → Some (bit_or mask (2 ^ y)) ≡ set_once (xs ++ y ∷ [])
set_once-new xs y mask e free = by (different xs) refl e
  where
    by : (b : Bool) → different xs ≡ b → Some mask ≡ (if b then Some (bus_set xs) else None)
        → Some (bit_or mask (2 ^ y)) ≡ set_once (xs ++ y ∷ [])
    by true h is =
        let mask_is : mask ≡ bus_set xs = cc in
        let apart : bit_and (bus_set xs) (2 ^ y) ≡ 0 = ap (λ n. bit_and n (2 ^ y)) (sym mask_is) ∙ free in
        let none = bit-clear (list_any (λ z. y == z) xs) y (sym (has_bus xs y h) ∙ apart) in
        let all : different (xs ++ y ∷ []) ≡ true = different-after xs y h none in
        ap (λ n. Some n) (ap (λ n. bit_or n (2 ^ y)) mask_is ∙ or_disjoint (bus_set xs) (2 ^ y) apart ∙ sym (bus_set-push xs y))
        ∙ sym (set_at true (xs ++ y ∷ []) all)
    by false h is = cc

-- a bus whose bit is set stands there already
pub set_once-again : (xs : List ℕ) (y mask : ℕ) → Some mask ≡ set_once xs → bit_and mask (2 ^ y) ≢ 0
    → None ≡ set_once (xs ++ y ∷ [])
set_once-again xs y mask e taken = by (different xs) refl e
  where
    by : (b : Bool) → different xs ≡ b → Some mask ≡ (if b then Some (bus_set xs) else None) → None ≡ set_once (xs ++ y ∷ [])
    by true h is =
        let mask_is : mask ≡ bus_set xs = cc in
        let bit = ap (λ n. bit_and n (2 ^ y)) mask_is ∙ has_bus xs y h in
        let there = bit-set (list_any (λ z. y == z) xs) (bit_and mask (2 ^ y)) y bit taken in
        let twice : different (xs ++ y ∷ []) ≡ false = different-after xs y h there in
        sym (set_at false (xs ++ y ∷ []) twice)
    by false h is = cc

-- where a bus stands twice, one more changes nothing
pub set_once-none : (xs : List ℕ) (y : ℕ) → None ≡ set_once xs → None ≡ set_once (xs ++ y ∷ [])
set_once-none xs y e = by (different xs) refl e
  where
    by : (b : Bool) → different xs ≡ b → None ≡ (if b then Some (bus_set xs) else None) → None ≡ set_once (xs ++ y ∷ [])
    by true h is = cc
    by false h is =
        let twice = different-push xs y ∙ ap (λ b. b && not (list_any (λ z. y == z) xs)) h in
        sym (set_at false (xs ++ y ∷ []) twice)

-- ---- names

-- the buses of names, with one more name
pub buses_named-push : (d : Draft) (xs : List (List ℕ)) (x : List ℕ) (bus : ℕ) → bus_named d x ≡ Some bus
    → buses_named d (xs ++ x ∷ []) ≡ (buses_named d xs >>? λ buses. Some (buses ++ bus ∷ []))
buses_named-push d [] x bus e = ap (λ o. o >>? λ b. Some (b ∷ [])) e
buses_named-push d (y ∷ xs) x bus e = by (bus_named d y) (buses_named d xs) (buses_named-push d xs x bus e)
  where
    by : (first : Option ℕ) (rest : Option (List ℕ))
        → buses_named d (xs ++ x ∷ []) ≡ (rest >>? λ buses. Some (buses ++ bus ∷ []))
        → (first >>? λ b. buses_named d (xs ++ x ∷ []) >>? λ buses. Some (b ∷ buses))
        ≡ ((first >>? λ b. rest >>? λ buses. Some (b ∷ buses)) >>? λ buses. Some (buses ++ bus ∷ []))
    by None rest h = refl
    by (Some b) None h = ap (λ o. o >>? λ buses. Some (b ∷ buses)) h
    by (Some b) (Some buses) h = ap (λ o. o >>? λ buses. Some (b ∷ buses)) h

-- a name of no bus among the names
pub buses_named-unknown : (d : Draft) (xs : List (List ℕ)) (x : List ℕ) (ys : List (List ℕ)) → bus_named d x ≡ None
    → buses_named d (xs ++ x ∷ ys) ≡ None
buses_named-unknown d [] x ys e = ap (λ o. o >>? λ b. buses_named d ys >>? λ buses. Some (b ∷ buses)) e
buses_named-unknown d (y ∷ xs) x ys e = by (bus_named d y) (buses_named-unknown d xs x ys e)
  where
    by : (first : Option ℕ) → buses_named d (xs ++ x ∷ ys) ≡ None
        → (first >>? λ b. buses_named d (xs ++ x ∷ ys) >>? λ buses. Some (b ∷ buses)) ≡ None
    by None h = refl
    by (Some b) h = ap (λ o. o >>? λ buses. Some (b ∷ buses)) h

-- one more word of a line
pub set_named-push : (d : Draft) (words : List Word) (i : ℕ) (w : Word) (bus : ℕ) (set next : Option ℕ) → i < length words
    → Some bus ≡ bus_named d (get_or words i w).text.now
    → option_map set_once (buses_named d (texts (take i words))) ≡ Some set
    → ((buses : List ℕ) → set ≡ set_once buses → next ≡ set_once (buses ++ bus ∷ []))
    → option_map set_once (buses_named d (texts (take (i + 1) words))) ≡ Some next
set_named-push d words i w bus set next l e before step =
    ap (λ names. option_map set_once (buses_named d names)) (map_more (λ (v : Word). v.text.now) words i w l)
    ∙ ap (option_map set_once) (buses_named-push d (texts (take i words)) (get_or words i w).text.now bus (sym e))
    ∙ by (buses_named d (texts (take i words))) before
  where
    by : (o : Option (List ℕ)) → option_map set_once o ≡ Some set
        → option_map set_once (o >>? λ buses. Some (buses ++ bus ∷ [])) ≡ Some next
    by None h = cc
    by (Some buses) h = let at : set ≡ set_once buses = cc in ap (λ o. Some o) (sym (step buses at))

-- a word that names no bus
pub set_named-unknown : (d : Draft) (words : List Word) (i : ℕ) (w : Word) → i < length words
    → None ≡ bus_named d (get_or words i w).text.now → buses_named d (texts words) ≡ None
set_named-unknown d words i w l e =
    let text : Word → List ℕ = λ v. v.text.now in
    let rest : drop i words ≡ get_or words i w ∷ drop (i + 1) words = drop_more words i w l in
    ap (λ ws. buses_named d (texts ws)) (sym (take-append-drop i words))
    ∙ ap (λ ws. buses_named d (texts (take i words ++ ws))) rest
    ∙ ap (buses_named d) (map-append text (take i words) (get_or words i w ∷ drop (i + 1) words))
    ∙ buses_named-unknown d (texts (take i words)) (get_or words i w).text.now (texts (drop (i + 1) words)) (sym e)

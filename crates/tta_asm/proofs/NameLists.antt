-- Lists of names, and names that go after others unless they are there.
use Rattle.std.proofs.Common.{◌≡◌, ℕ, ◌+◌, ◌<◌, Bool, true, false, if◌then◌else◌, List, [], ◌∷◌, ◌++◌, length, map, drop, get_or, Option, Some, None, is_some, refl, sym, ap, ◌∙◌}
use Rattle.std.specs.Str.{bytes_eq}
use Rattle.std.proofs.lemmas.Slice.Eq.{bytes_eq-Decides}
use Rattle.std.proofs.lemmas.List.{append_assoc, append-nil, drop_more}
use Rattle.tta_asm.specs.Cited.{Declared, named_in}
use Rattle.tta_asm.specs.Parts.{by_place}
use Rattle.tta_asm.specs.Table.{NameTheSame}

-- the first value that is there
abbrev pub either : {P : Type 0} → Option P → Option P → Option P
either None o = o
either (Some x) o = Some x

-- a name is looked for in the first list and then in the second
pub named_in-append : {P : Type 0} (xs ys : Declared P) (name : List ℕ) → named_in (xs ++ ys) name ≡ either (named_in xs name) (named_in ys name)
named_in-append [] ys name = refl
named_in-append {P = P} (d ∷ xs) ys name = by (bytes_eq d.0 name) (named_in-append xs ys name) where
  by : (b : Bool) → named_in (xs ++ ys) name ≡ either (named_in xs name) (named_in ys name)
      → (if b then Some d.1 else named_in (xs ++ ys) name) ≡ either (if b then Some d.1 else named_in xs name) (named_in ys name)
  by true rest = refl
  by false rest = rest

-- lists that name the same do so with more after them
pub same_front : {P : Type 0} (xs ys more : Declared P) → NameTheSame xs ys → NameTheSame (xs ++ more) (ys ++ more)
same_front {P = P} xs ys more same name =
    named_in-append xs more name ∙ ap (λ (o : Option P). either o (named_in more name)) (same name) ∙ sym (named_in-append ys more name)

-- a name that is there adds nothing
pub known_name : {P : Type 0} (xs : Declared P) (name : List ℕ) (place was : P) → named_in xs name ≡ Some was → NameTheSame xs (xs ++ (name, place) ∷ [])
known_name {P = P} xs name place was found other = by (bytes_eq name other) refl ∙ sym (named_in-append xs ((name, place) ∷ []) other) where
  by : (b : Bool) → bytes_eq name other ≡ b → named_in xs other ≡ either (named_in xs other) (if b then Some place else None)
  by true is =
      let there : named_in xs other ≡ Some was = ap (named_in xs) (sym ((bytes_eq-Decides name other).0 is)) ∙ found in
      rw there refl
  by false is = nothing (named_in xs other) where
    nothing : (o : Option P) → o ≡ either o None
    nothing None = refl
    nothing (Some x) = refl

-- one name more of what is left, which has its place
pub names_more : {X P : Type 0} (at : ℕ → P) (name : X → List ℕ) (xs : List X) (i : ℕ) (x : X) (called : List ℕ) (entry : P) (new old all : Declared P)
    → i < length xs → x ≡ get_or xs i x → called ≡ name x → entry ≡ at i → NameTheSame new (old ++ (called, entry) ∷ [])
    → NameTheSame (old ++ by_place at i (map name (drop i xs))) all → NameTheSame (new ++ by_place at (i + 1) (map name (drop (i + 1) xs))) all
names_more {X = X} {P = P} at name xs i x called entry new old all inside is calls enters added was other =
    let rest : Declared P = by_place at (i + 1) (map name (drop (i + 1) xs)) in
    let step : map name (drop i xs) ≡ name x ∷ map name (drop (i + 1) xs) =
    ap (map name) (drop_more xs i x inside) ∙ ap (λ (y : X). name y ∷ map name (drop (i + 1) xs)) (sym is) in
    same_front new (old ++ (called, entry) ∷ []) rest added other
    ∙ ap (λ (l : Declared P). named_in l other) (append_assoc old ((called, entry) ∷ []) rest)
    ∙ ap (λ (n : List ℕ). named_in (old ++ ((n, entry) ∷ rest)) other) calls
    ∙ ap (λ (e : P). named_in (old ++ ((name x, e) ∷ rest)) other) enters
    ∙ ap (λ (l : List (List ℕ)). named_in (old ++ by_place at i l) other) (sym step) ∙ was other

-- no name is left
pub names_end : {P : Type 0} (at : ℕ → P) (place : ℕ) (names : List (List ℕ)) (new all : Declared P)
    → names ≡ [] → NameTheSame (new ++ by_place at place names) all → NameTheSame new all
names_end {P = P} at place names new all none was other =
    ap (λ (l : Declared P). named_in l other) (sym (append-nil new))
    ∙ ap (λ (l : List (List ℕ)). named_in (new ++ by_place at place l) other) (sym none) ∙ was other

-- a name for which something was found adds nothing
pub found_name : {P : Type 0} (xs : Declared P) (name : List ℕ) (place : P) (found : Option P) → found ≡ named_in xs name → is_some found ≡ true
    → NameTheSame xs (xs ++ (name, place) ∷ [])
found_name xs name place None is e = cc
found_name xs name place (Some was) is e = known_name xs name place was (sym is)

-- four lists after a list, each after the one before
pub four_lists : {P : Type 0} (old one two three four a b c d : Declared P) → NameTheSame one (old ++ a) → NameTheSame two (one ++ b)
    → NameTheSame three (two ++ c) → NameTheSame four (three ++ d) → NameTheSame four (old ++ (a ++ (b ++ (c ++ d))))
four_lists {P = P} old one two three four a b c d first second third fourth other =
    fourth other ∙ same_front three (two ++ c) d third other
    ∙ same_front (two ++ c) ((one ++ b) ++ c) d (same_front two (one ++ b) c second) other
    ∙ same_front ((one ++ b) ++ c) (((old ++ a) ++ b) ++ c) d (same_front (one ++ b) ((old ++ a) ++ b) c (same_front one (old ++ a) b first)) other
    ∙ ap (λ (l : Declared P). named_in l other)
    (append_assoc ((old ++ a) ++ b) c d ∙ append_assoc (old ++ a) b (c ++ d) ∙ append_assoc old a (b ++ (c ++ d)))

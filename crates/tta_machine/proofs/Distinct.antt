-- Names that look up to different places are different names.
use Rattle.std.proofs.Common.{◌≡◌, ◌<◌, ◌++◌, ◌∷◌, [], ℕ, Bool, List, Some, true, false, not, suc, map, refl, sym, ap, ◌∙◌, arith}
use Rattle.std.specs.Str.{bytes_eq}
use Rattle.std.specs.List.{list_any, AllByRecursion}
use Rattle.std.proofs.lemmas.Bool.{and_parts, and_from, or_from, not-true, not_from_false, false_from_ne_true}
use Rattle.std.proofs.lemmas.List.Folds.{list_any-append}
use Rattle.std.proofs.lemmas.Slice.Eq.{bytes_eq-Decides}
use Rattle.tta_list.proofs.Lists.{all_append, all_weaker}
use Rattle.tta_machine.specs.Cited.{Declared, named_in, IsMachineName, are_different, names_of, Control, Template, Machine}
use Rattle.tta_machine.specs.declared.draft.Named.{Named}
use Rattle.tta_machine.specs.declared.draft.Named.TheVariants as place
use Rattle.tta_machine.specs.declared.draft.Draft.{Draft}
use Rattle.tta_machine.specs.Draft.{machine_of}
use Rattle.tta_machine.specs.Kept.{AreNamed, IsDraft}

-- ---- two lists

-- the elements of two lists differ, where no element of the first is like one of the second
pub different_append : {A : Type 0} (same : A → A → Bool) (xs ys : List A) → are_different same xs ≡ true → are_different same ys ≡ true
    → AllByRecursion (λ x. list_any (same x) ys ≡ false) xs → are_different same (xs ++ ys) ≡ true
different_append same [] ys left right apart = right
different_append same (x ∷ xs) ys left right apart =
    let parts = and_parts (not (list_any (same x) xs)) (are_different same xs) left in
    let here : list_any (same x) (xs ++ ys) ≡ false =
    list_any-append (same x) xs ys ∙ or_from (list_any (same x) xs) (list_any (same x) ys) (not-true (list_any (same x) xs) parts.0) apart.0 in
    and_from (not (list_any (same x) (xs ++ ys))) (are_different same (xs ++ ys)) (not_from_false (list_any (same x) (xs ++ ys)) here) (different_append same xs ys parts.1 right apart.1)

-- ---- names by their places

-- a name of another place than all of these parts is none of their names
none_like : {A : Type 0} (name : A → List ℕ) (at : ℕ → Named) (names : Declared Named) (parts : List A) (n : List ℕ) (p : Named)
    → AreNamed name at names parts → named_in names n ≡ Some p → ((k : ℕ) → p ≡ at k → ⊥) → list_any (bytes_eq n) (map name parts) ≡ false
none_like name at names [] n p named here apart = refl
none_like name at names (x ∷ xs) n p named here apart =
    let first : named_in names (name x) ≡ Some (at 0) = named 0 x refl in
    let other : bytes_eq n (name x) ≡ false =
    false_from_ne_true (bytes_eq n (name x)) (λ same.
    let alike : n ≡ name x = (bytes_eq-Decides n (name x)).0 same in
    let one : Some p ≡ Some (at 0) = sym here ∙ ap (named_in names) alike ∙ first in
    apart 0 (cc)) in
    or_from (bytes_eq n (name x)) (list_any (bytes_eq n) (map name xs)) other
    (none_like name (λ k. at (suc k)) names xs n p (λ k y e. named (suc k) y e) here (λ k e. apart (suc k) e))

-- parts at different places have different names
pub different_parts : {A : Type 0} (name : A → List ℕ) (at : ℕ → Named) (names : Declared Named) (parts : List A)
    → AreNamed name at names parts → ((i j : ℕ) → at i ≡ at j → i ≡ j) → are_different bytes_eq (map name parts) ≡ true
different_parts name at names [] named apart = refl
different_parts name at names (x ∷ xs) named apart =
    let first : named_in names (name x) ≡ Some (at 0) = named 0 x refl in
    let later : AreNamed name (λ k. at (suc k)) names xs = λ k y e. named (suc k) y e in
    let none : list_any (bytes_eq (name x)) (map name xs) ≡ false =
    none_like name (λ k. at (suc k)) names xs (name x) (at 0) later first (λ k e. let same : 0 ≡ suc k = apart 0 (suc k) e in absurd (omega arith)) in
    and_from (not (list_any (bytes_eq (name x)) (map name xs))) (are_different bytes_eq (map name xs)) (not_from_false (list_any (bytes_eq (name x)) (map name xs)) none)
    (different_parts name (λ k. at (suc k)) names xs later (λ i j e. let same : suc i ≡ suc j = apart (suc i) (suc j) e in omega arith))

-- ---- kinds of parts

-- the kinds in the order in which a machine lists them
abbrev kind_of : Named → ℕ
kind_of (place.Bus k) = 0
kind_of (place.Socket k) = 1
kind_of (place.File k) = 2
kind_of (place.Imm k) = 3
kind_of (place.Unit k) = 4
kind_of (place.Template k) = 5

-- names of the kinds before this one
abbrev AreBefore : Declared Named → ℕ → List (List ℕ) → Type 0
AreBefore names kind ns = AllByRecursion (λ n. (p : Named) × (named_in names n ≡ Some p) × (kind_of p < kind)) ns

-- different names of the kinds before this one
record AreApart (names : Declared Named) (kind : ℕ) (ns : List (List ℕ)) : Type 0 where
  before : AreBefore names kind ns
  different : are_different bytes_eq ns ≡ true

-- the names of parts of one kind
names_before : {A : Type 0} (name : A → List ℕ) (at : ℕ → Named) (names : Declared Named) (kind : ℕ) (parts : List A)
    → AreNamed name at names parts → ((k : ℕ) → kind_of (at k) < kind) → AreBefore names kind (map name parts)
names_before name at names kind [] named of_kind = tt
names_before name at names kind (x ∷ xs) named of_kind =
    ((at 0, named 0 x refl, of_kind 0), names_before name (λ k. at (suc k)) names kind xs (λ k y e. named (suc k) y e) (λ k. of_kind (suc k)))

-- the names of one kind more
next_kind : {A : Type 0} (name : A → List ℕ) (at : ℕ → Named) (names : Declared Named) (kind : ℕ) (ns : List (List ℕ)) (parts : List A)
    → AreApart names kind ns → AreNamed name at names parts → ((k : ℕ) → kind_of (at k) ≡ kind) → ((i j : ℕ) → at i ≡ at j → i ≡ j)
    → AreApart names (suc kind) (ns ++ map name parts)
next_kind name at names kind ns parts r named of_kind apart = record {
  before = all_append (λ n. (p : Named) × (named_in names n ≡ Some p) × (kind_of p < suc kind)) ns (map name parts)
      (all_weaker (λ n. (p : Named) × (named_in names n ≡ Some p) × (kind_of p < kind)) (λ n. (p : Named) × (named_in names n ≡ Some p) × (kind_of p < suc kind)) ns
      (λ n h. (h.0, h.1, let low = h.2 in omega arith)) r.before)
      (names_before name at names (suc kind) parts named (λ k. let same = of_kind k in omega arith));
  different = different_append bytes_eq ns (map name parts) r.different (different_parts name at names parts named apart)
      (all_weaker (λ n. (p : Named) × (named_in names n ≡ Some p) × (kind_of p < kind)) (λ n. list_any (bytes_eq n) (map name parts) ≡ false) ns
      (λ n h. none_like name at names parts n h.0 named h.1 (λ k e.
      let low : kind_of h.0 < kind = h.2 in
      let same : kind_of h.0 ≡ kind = ap kind_of e ∙ of_kind k in
      omega arith)) r.before);
}

-- ---- machines

-- the machine of a draft, with these of its templates
abbrev with_templates : Draft → Control → List Template → Machine
with_templates d c templates = record (machine_of d c) { templates = templates }

all_apart : (d : Draft) (c : Control) (templates : List Template) → IsDraft d → AreNamed (λ t. t.name) place.Template d.names templates
    → AreApart d.names 6 (names_of (with_templates d c templates))
all_apart d c templates r named =
    let none : AreApart d.names 0 [] = record { before = tt; different = refl } in
    let buses = next_kind (λ x. x.name) place.Bus d.names 0 [] d.buses none r.named.buses (λ k. refl) (λ i j e. cc) in
    let sockets = next_kind (λ x. x.name) place.Socket d.names 1 _ d.sockets buses r.named.sockets (λ k. refl) (λ i j e. cc) in
    let files = next_kind (λ x. x.name) place.File d.names 2 _ d.files sockets r.named.files (λ k. refl) (λ i j e. cc) in
    let imms = next_kind (λ x. x.name) place.Imm d.names 3 _ d.imms files r.named.imms (λ k. refl) (λ i j e. cc) in
    let units = next_kind (λ x. x.name) place.Unit d.names 4 _ d.units imms r.named.units (λ k. refl) (λ i j e. cc) in
    next_kind (λ x. x.name) place.Template d.names 5 _ templates units named (λ k. refl) (λ i j e. cc)

all_good : (d : Draft) (c : Control) (templates : List Template) → IsDraft d → AreNamed (λ t. t.name) place.Template d.names templates
    → AllByRecursion IsMachineName (names_of (with_templates d c templates))
all_good d c templates r named =
    all_weaker (λ n. (p : Named) × (named_in d.names n ≡ Some p) × (kind_of p < 6)) IsMachineName (names_of (with_templates d c templates))
    (λ n h. r.there.good n h.0 h.1) (all_apart d c templates r named).before

-- all names of the machine of a draft are good
pub names_good : (d : Draft) (c : Control) → IsDraft d → AllByRecursion IsMachineName (names_of (machine_of d c))
names_good d c r = all_good d c d.templates r r.named.templates

-- and differ
pub names_different : (d : Draft) (c : Control) → IsDraft d → are_different bytes_eq (names_of (machine_of d c)) ≡ true
names_different d c r = (all_apart d c d.templates r r.named.templates).different

-- the same without its templates
pub names_good_without : (d : Draft) (c : Control) → IsDraft d → AllByRecursion IsMachineName (names_of (record (machine_of d c) { templates = [] }))
names_good_without d c r = all_good d c [] r (λ k t e. cc)

pub names_different_without : (d : Draft) (c : Control) → IsDraft d → are_different bytes_eq (names_of (record (machine_of d c) { templates = [] })) ≡ true
names_different_without d c r = (all_apart d c [] r (λ k t e. cc)).different

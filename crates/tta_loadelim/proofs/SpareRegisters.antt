-- One more register that a list leaves alone.
use Rattle.std.proofs.Common.{◌≡◌, ℕ, ◌<◌, Bool, true, false, List, [], ◌∷◌, ◌++◌, refl, arith, ◌∙◌}
use Rattle.std.specs.Prelude.{◌==◌, ◌&&◌, not, nat_lt}
use Rattle.std.specs.List.{list_all}
use Rattle.std.proofs.lemmas.Bool.{and_parts, lt-ltb}
use Rattle.std.proofs.lemmas.Bool.Decides.{nat_tests}
use Rattle.std.proofs.lemmas.List.Folds.{list_all-append}
use Rattle.tta_loadelim.specs.Cited.{KeptReg, Item, BlockList, reads, lives}
use Rattle.tta_loadelim.specs.Copied.{AreSpare}

all_true : {A : Type 0} (xs : List A) → list_all (λ (x : A). true) xs ≡ true
all_true [] = refl
all_true (x ∷ xs) = all_true xs

pub spare_none : (hub : ℕ) (b : BlockList) → AreSpare hub b []
spare_none hub b = record { unread = rw (all_true b.items) refl; scratch = refl }

one_more : (p : ℕ × ℕ → Bool) (fresh : List (ℕ × ℕ)) (r : ℕ × ℕ) → list_all p fresh ≡ true → p r ≡ true → list_all p (fresh ++ r ∷ []) ≡ true
one_more p fresh r all e = list_all-append p fresh (r ∷ []) ∙ rw (all, e) refl

all_more : (f : Item → ℕ × ℕ → Bool) (fresh : List (ℕ × ℕ)) (r : ℕ × ℕ) (items : List Item) → list_all (λ x. list_all (f x) fresh) items ≡ true → list_all (λ x. f x r) items ≡ true
    → list_all (λ x. list_all (f x) (fresh ++ r ∷ [])) items ≡ true
all_more f fresh r [] a e = refl
all_more f fresh r (x ∷ items) a e =
    let two = and_parts (list_all (f x) fresh) (list_all (λ x. list_all (f x) fresh) items) a in
    let one = and_parts (f x r) (list_all (λ x. f x r) items) e in
    rw (one_more (f x) fresh r two.0 one.0) (all_more f fresh r items two.1 one.1)

pub spare_more : (hub index : ℕ) (b : BlockList) (fresh : List (ℕ × ℕ)) → list_all (λ x. not (reads (KeptReg hub index) x)) b.items ≡ true → lives b.live_out (KeptReg hub index) ≡ false → index < 3
    → AreSpare hub b fresh → AreSpare hub b (fresh ++ (hub, index) ∷ [])
spare_more hub index b fresh unread dead low s =
    let two = and_parts (list_all (λ x. list_all (λ r. not (reads (KeptReg r.0 r.1) x)) fresh) b.items) (list_all (λ r. not (lives b.live_out (KeptReg r.0 r.1))) fresh) s.unread in
    let items = all_more (λ x r. not (reads (KeptReg r.0 r.1) x)) fresh (hub, index) b.items two.0 unread in
    let live = one_more (λ r. not (lives b.live_out (KeptReg r.0 r.1))) fresh (hub, index) two.1 (rw dead refl) in
    let file : (hub == hub) ≡ true = grind (arith, nat_tests) in
    record {
      unread = rw (items, live) refl;
      scratch = one_more (λ r. hub == r.0 && nat_lt r.1 3) fresh (hub, index) s.scratch (rw (file, lt-ltb index 3 low) refl);
    }

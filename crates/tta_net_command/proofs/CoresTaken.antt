-- What the files of cores give, one core after another.
use Rattle.std.proofs.Common.{◌≡◌, inl, inr, ⊎_elim, ℕ, ◌+◌, ◌<◌, List, [], ◌∷◌, ◌++◌, length, Some, refl, sym, ap, subst, ◌∙◌, arith}
use Rattle.std.specs.Prelude.{slice_get}
use Rattle.std.proofs.lemmas.Option.{slice_get_within}
use Rattle.tta_list.proofs.Lists.{slice_get-push, length_more}
use Rattle.tta_net_command.specs.Cited.{World, IsUntouched, Units, over, Whole, data_in, Core, CanLoad, CanLoadAll, MachineFile, Status, IsTaken, IsDescribed, IsImageFor, RefusesImage, Fills, RefusesInput, ReadsPair}
use Rattle.tta_ports.proofs.Worlds.{same_world}
use Rattle.tta_load.specs.declared.status.Status.TheVariants as status
use Rattle.tta_load.proofs.Endings.{pair_held}
use Rattle.tta_net_command.specs.CoreFiles.{name_of, word_of, IsCoreFrom, TakesCore, CoreFileFails, CorePairFails, CoreFails, AreCoresFrom, TakesCores, CoresFail}

-- ---- one core

-- a machine that was taken, and an image for it that was not
pub image_refused : (u : Units) (names : List (List ℕ)) (k : ℕ) (file : MachineFile) (before between after : World) (s : Status)
    → IsTaken (IsDescribed u) (name_of names k 0) file before between
    → CoreFileFails (RefusesImage file) (name_of names k 1) (word_of k 1) between after s → CorePairFails u names k before after s
image_refused u names k file before between after s first fails =
    inr (
      record { value = file; held = first.held },
      subst (λ w. CoreFileFails (RefusesImage file) (name_of names k 1) (word_of k 1) w after s) (same_world before between first.untouched) fails,
    )

-- both were taken, and the words of the data space
pub core_taken : (u : Units) (names : List (List ℕ)) (k : ℕ) (file : MachineFile) (whole : Whole) (words : List ℕ) (core : Core) (memory : List ℕ)
    (before between after : World) → ReadsPair u IsImageFor (name_of names k 0) (name_of names k 1) file whole before between
    → IsTaken (Fills file.machine.data_words) (name_of names k 2) words between after
    → core ≡ record { machine = file.machine; code = whole.code } → memory ≡ over (data_in whole) words → TakesCore u names k core memory before after
core_taken u names k file whole words core memory before between after pair taken is laid =
    let same = subst (λ w. IsTaken (Fills file.machine.data_words) (name_of names k 2) words w after) (same_world before between pair.untouched) taken in
    record {
      from = record {
        file = file;
        whole = whole;
        words = words;
        machine = pair.machine;
        image = pair.second;
        input = same.held;
        is = is;
        laid = laid;
      };
      untouched = same.untouched;
    }

-- both were taken, and the words were not
pub words_refused : (u : Units) (names : List (List ℕ)) (k : ℕ) (file : MachineFile) (whole : Whole) (before between after : World) (s : Status)
    → ReadsPair u IsImageFor (name_of names k 0) (name_of names k 1) file whole before between
    → CoreFileFails (RefusesInput file.machine.data_words) (name_of names k 2) (word_of k 2) between after s → CoreFails u names k before after s
words_refused u names k file whole before between after s pair fails =
    inr (
      pair_held u IsImageFor (name_of names k 0) (name_of names k 1) file whole before between pair,
      subst (λ w. CoreFileFails (RefusesInput file.machine.data_words) (name_of names k 2) (word_of k 2) w after s) (same_world before between pair.untouched) fails,
    )

-- ---- all cores

-- So many cores are taken, and can be loaded.
pub record AreTakenSoFar (u : Units) (names : List (List ℕ)) (before now : World) (cores : List Core) (memories : List (List ℕ)) (k : ℕ) : Type 0 where
  pub many : length cores ≡ k
  pub are : AreCoresFrom u before.contents names cores memories
  pub load : CanLoadAll cores memories
  pub untouched : IsUntouched before now

-- none is
pub none_taken : (u : Units) (names : List (List ℕ)) (before : World) → AreTakenSoFar u names before before [] [] 0
none_taken u names before = record {
  many = refl;
  are = record { count = refl; each = λ k core memory at there. absurd cc };
  load = record { few = omega arith; count = refl; each = λ k core memory at there. absurd cc };
  untouched = record { contents = refl; faults = refl; latest = refl };
}

-- elements of two lists that grow alike
both_more : {A B : Type 0} (P : ℕ → A → B → Type 0) (xs : List A) (ys : List B) → length ys ≡ length xs
    → ((k : ℕ) (x : A) (y : B) → slice_get xs k ≡ Some x → slice_get ys k ≡ Some y → P k x y)
    → (x : A) (y : B) → P (length xs) x y
    → (k : ℕ) (p : A) (q : B) → slice_get (xs ++ x ∷ []) k ≡ Some p → slice_get (ys ++ y ∷ []) k ≡ Some q → P k p q
both_more {A} {B} P xs ys same each x y last k p q at there =
    ⊎_elim (λ was. ⊎_elim (λ too. each k p q was too) (λ new. absurd (omega (arith, same, new.0, slice_get_within xs k p was))) (slice_get-push ys y k q there))
    (λ new. ⊎_elim (λ too. absurd (omega (arith, same, new.0, slice_get_within ys k q too))) (λ also.
    subst (λ (z : A). P k z q) new.1 (subst (λ (z : B). P k x z) also.1 (subst (λ (n : ℕ). P n x y) (sym new.0) last))) (slice_get-push ys y k q there))
    (slice_get-push xs x k p at)

-- one more is
pub one_more_taken : (u : Units) (names : List (List ℕ)) (before now after : World) (cores : List Core) (memories : List (List ℕ)) (k : ℕ) (core : Core) (memory : List ℕ)
    → AreTakenSoFar u names before now cores memories k → k < 8 → TakesCore u names k core memory now after → CanLoad core memory
    → AreTakenSoFar u names before after (cores ++ core ∷ []) (memories ++ memory ∷ []) (k + 1)
one_more_taken u names before now after cores memories k core memory was less takes load =
    let same = subst (λ w. TakesCore u names k core memory w after) (same_world before now was.untouched) takes in
    let here = subst (λ (n : ℕ). IsCoreFrom u before.contents names n core memory) (sym was.many) same.from in
    let counts : length (memories ++ memory ∷ []) ≡ length (cores ++ core ∷ []) =
    length_more memories memory ∙ ap (λ (n : ℕ). n + 1) was.are.count ∙ sym (length_more cores core) in
    record {
      many = length_more cores core ∙ ap (λ (n : ℕ). n + 1) was.many;
      are = record {
        count = counts;
        each = both_more (IsCoreFrom u before.contents names) cores memories was.are.count was.are.each core memory here;
      };
      load = record {
        few = omega (arith, length_more cores core, was.many, less);
        count = counts;
        each = both_more (λ n c m. CanLoad c m) cores memories was.are.count was.load.each core memory load;
      };
      untouched = same.untouched;
    }

-- the next is not
pub next_refused : (u : Units) (names : List (List ℕ)) (count : ℕ) (before now after : World) (cores : List Core) (memories : List (List ℕ)) (k : ℕ) (s : Status)
    → AreTakenSoFar u names before now cores memories k → k < count → CoreFails u names k now after s → CoresFail u names count before after s
next_refused u names count before now after cores memories k s was less fails = record {
  core = k;
  within = less;
  earlier = record { cores = cores; memories = memories; many = was.many; are = was.are };
  fails = subst (λ w. CoreFails u names k w after s) (same_world before now was.untouched) fails;
}

-- there is no memory for it
pub next_lacks : (u : Units) (names : List (List ℕ)) (count : ℕ) (before now after : World) (cores : List Core) (memories : List (List ℕ)) (k : ℕ) (core : Core) (memory : List ℕ)
    → AreTakenSoFar u names before now cores memories k → k < count → TakesCore u names k core memory now after → CoresFail u names count before after status.NoMemory
next_lacks u names count before now after cores memories k core memory was less takes =
    next_refused u names count before now after cores memories k status.NoMemory was less
    (inl (inl (record { told = status.NoMemory; fails = inl takes.untouched; is = refl })))

-- all are
pub all_taken : (u : Units) (names : List (List ℕ)) (count : ℕ) (before now : World) (cores : List Core) (memories : List (List ℕ)) (k : ℕ)
    → AreTakenSoFar u names before now cores memories k → k ≡ count → TakesCores u names count cores memories before now
all_taken u names count before now cores memories k was is = record { many = was.many ∙ is; are = was.are; untouched = was.untouched }

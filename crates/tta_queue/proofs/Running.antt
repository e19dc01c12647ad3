-- Any number of clocks of a queue.
use Rattle.std.proofs.Common.{◌≡◌, ℕ, zero, suc, ◌^◌, ◌<◌, ◌≤◌, Bool, true, false, nat_lt, List, [], ◌∷◌, ◌++◌, length, drop, refl, sym, ap, ◌∙◌, subst, arith, append_assoc, append-nil}
use Rattle.std.specs.Prelude.{if◌then◌else◌}
use Rattle.std.proofs.lemmas.List.{length-replicate}
use Rattle.std.proofs.lemmas.Bool.{and_parts, false≢true, ltb-true, ltb-false}
use Rattle.tta_ops.specs.Units.{Units}
use Rattle.tta_circuit.specs.Meaning.{is_set}
use Rattle.tta_queue.specs.Queue.{Pin, InData, OutReady, OutValid, OutData, Words}
use Rattle.tta_queue.specs.Laws.{HasInside, takes, gives, after_clock, Shows, HasBegun, queue, pins, taken, given, HasQueued, BeginUpTo, QueueHolds}
use Rattle.tta_queue.proofs.Clocking.{queue_clocks, queue_begins}

-- a word that goes from the first of the queue to the last of what was given keeps the order
stays_in_order : (g : Bool) (out words new : List ℕ) (word : ℕ) → (g ≡ true → words ≡ word ∷ drop 1 words)
    → (out ++ words) ++ new ≡ (out ++ (if g then word ∷ [] else [])) ++ ((if g then drop 1 words else words) ++ new)
stays_in_order true out words new word is =
    ap (λ ws. (out ++ ws) ++ new) (is refl) ∙ ap (λ ws. ws ++ new) (sym (append_assoc out (word ∷ []) (drop 1 words)))
    ∙ append_assoc (out ++ word ∷ []) (drop 1 words) new
stays_in_order false out words new word is = append_assoc out words new ∙ ap (λ ws. ws ++ (words ++ new)) (sym (append-nil out))

-- a queue that has a word shows the first
pub first_word : (k : ℕ) (env : Pin → ℕ) (words : List ℕ) → Shows k env words → is_set (env OutValid) ≡ true
    → words ≡ env OutData ∷ drop 1 words
first_word k env [] shows valid = absurd (false≢true (sym shows.valid ∙ valid))
first_word k env (w ∷ ws) shows valid = ap (λ (n : ℕ). n ∷ ws) (sym (shows.word w ws refl))

module _ (u : Units) (k width : ℕ) (powers : Pin → ℕ) (inputs : ℕ → Pin → ℕ) (last : ℕ) (clocks : BeginUpTo last inputs) where
  -- ---- clocks that begin anew

  -- they leave the memory as it is, and nothing is taken or given at them
  pub record HasWaited (t : ℕ) : Type 0 where
    pub size : length ((queue u k width powers inputs t).memories Words) ≡ 2 ^ k
    pub untaken : taken u k width powers inputs t ≡ []
    pub ungiven : given u k width powers inputs t ≡ []

  begun : (t : ℕ) → t ≤ last → HasWaited t
      → HasBegun k (pins u k width powers inputs t) (queue u k width powers inputs t) (queue u k width powers inputs (suc t))
  begun t le waited = queue_begins u k width (queue u k width powers inputs t) (inputs t) waited.size (clocks.reset t le)

  pub waited : (t : ℕ) → t ≤ suc last → HasWaited t
  waited zero le = record { size = length-replicate (2 ^ k) 0; untaken = refl; ungiven = refl }
  waited (suc t) le =
      let old : HasWaited t = waited t (omega (arith, le)) in
      let is = begun t (omega (arith, le)) old in
      let env = pins u k width powers inputs t in
      record {
        size = ap length is.kept ∙ old.size;
        untaken = ap (λ (b : Bool). taken u k width powers inputs t ++ (if b then env InData ∷ [] else [])) is.untaken
            ∙ append-nil (taken u k width powers inputs t) ∙ old.untaken;
        ungiven = ap (λ (b : Bool). given u k width powers inputs t ++ (if b then env OutData ∷ [] else [])) is.ungiven
            ∙ append-nil (given u k width powers inputs t) ∙ old.ungiven;
      }

  -- after the last of them a queue is empty
  pub none_inside : HasInside k (queue u k width powers inputs (suc last)) []
  none_inside = (begun last (omega arith) (waited last (omega arith))).empty

  first : HasQueued u k width powers inputs (suc last)
  first =
      let old = waited (suc last) (omega arith) in
      record {
        words = [];
        inside = none_inside;
        order = old.untaken ∙ sym (append-nil (given u k width powers inputs (suc last)) ∙ old.ungiven);
        fits = omega arith;
      }

  -- ---- further clocks

  shown : (t : ℕ) → last < t → (q : HasQueued u k width powers inputs t) → Shows k (pins u k width powers inputs t) q.words
  shown t less q = (queue_clocks u k width (queue u k width powers inputs t) q.words (inputs t) q.inside (clocks.on t less)).0

  next : (t : ℕ) → last < t → HasQueued u k width powers inputs t → HasQueued u k width powers inputs (suc t)
  next t less before =
      let env = pins u k width powers inputs t in
      let new = if takes env then env InData ∷ [] else [] in
      let words = after_clock (gives env) (takes env) (env InData) before.words in
      let inside : HasInside k (queue u k width powers inputs (suc t)) words =
      (queue_clocks u k width (queue u k width powers inputs t) before.words (inputs t) before.inside (clocks.on t less)).1 in
      record {
        words = words;
        inside = inside;
        order =
            ap (λ ws. ws ++ new) before.order
            ∙ stays_in_order (gives env) (given u k width powers inputs t) before.words new (env OutData)
            (λ is. first_word k env before.words (shown t less before) (and_parts (is_set (env OutValid)) (is_set (env OutReady)) is).0);
        fits = inside.stand.fits;
      }

  every : (t : ℕ) → last < t → HasQueued u k width powers inputs t
  every zero less = absurd (omega (arith, less))
  every (suc t) less = by (nat_lt last t) refl (every t) where
    by : (b : Bool) → nat_lt last t ≡ b → (last < t → HasQueued u k width powers inputs t) → HasQueued u k width powers inputs (suc t)
    by true is rest = let lt = ltb-true last t is in next t lt (rest lt)
    by false is rest =
        let le : t ≤ last = ltb-false last t is in
        let same : last ≡ t = omega (arith, le, less) in
        subst (λ n. HasQueued u k width powers inputs (suc n)) same first

pub queue_holds : QueueHolds
queue_holds u k width powers inputs last clocks t less =
    let q = every u k width powers inputs last clocks t less in (q, shown u k width powers inputs last clocks t less q)

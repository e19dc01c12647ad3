-- A leg of lists against cycles: at least one, and at most as many as its blocks have instructions.
use Rattle.std.proofs.Common.{◌≡◌, ◌≢◌, ℕ, suc, ◌+◌, Bool, true, false, List, [], ◌∷◌, Option, Some, None, refl, sym, ap, subst, ◌∙◌, arith, map}
use Rattle.std.proofs.lemmas.Bool.{and_parts}
use Rattle.std.specs.Prelude.{slice_index, length, not, ◌&&◌, ◌||◌, ◌==◌, if◌then◌else◌, option_map}
use Rattle.std.proofs.lemmas.Bool.Decides.{nat_tests}
use Rattle.std.proofs.lemmas.List.{append-nil}
use Rattle.tta_sched_laws.specs.Cited.{Machine, Effect, Units, BlockList, is_waiting, Held, effect_of, does, does_all, means, lacks, Leave, ToNowhere, Undefined, after_block, leg, block_at, restart, leave_of, go_list}
use Rattle.tta_list.specs.Legs.{Run}
use Rattle.tta_sched_laws.proofs.Total.{do_move, wants, waits_at}
use Rattle.tta_sched_laws.proofs.Padded.{pad, does_same, next_none, move_runs, all_same, move_pad, wants_pad, lacks_pad, all_pad, waits_pad}

-- ---- more input

pub means_pad : (u : Units) (m : Machine) (back n : ℕ) (es : List Effect) (h : Held) → is_waiting h.exit ≡ false → waits_at u m back h es ≡ None → means u m back (pad n h) es ≡ means u m back h es
means_pad u m back n [] h r w = refl
means_pad u m back n (e ∷ es) h r w =
    let p = next_none (wants m h e) (waits_at u m back (do_move u m back h e) es) w in
    let one : does u m back (pad n h) e ≡ pad n (do_move u m back h e) = does_same u m back (pad n h) e r (wants_pad m n h e p.0) ∙ move_pad u m back n h e p.0 in
    ap (λ (g : Held). (is_waiting h.exit || not (lacks m (pad n h) e)) && means u m back g es) one
    ∙ ap (λ (b : Bool). (is_waiting h.exit || not b) && means u m back (pad n (do_move u m back h e)) es) (lacks_pad m n h e)
    ∙ ap (λ (b : Bool). (is_waiting h.exit || not (lacks m h e)) && b) (means_pad u m back n es (do_move u m back h e) (move_runs u m back h e r) p.1)
    ∙ sym (ap (λ (g : Held). (is_waiting h.exit || not (lacks m h e)) && means u m back g es) (does_same u m back h e r p.0))

pub pad_none : (h : Held) → pad 0 h ≡ h
pad_none h = ap (λ (r : List ℕ). record h { rest = r }) (append-nil h.rest)

-- ---- one block

abbrev pub es_of : (addr : List ℕ) → BlockList → List Effect
es_of addr b = map (effect_of addr) b.items

-- what a block leaves, with more input
abbrev pub padded : ℕ → Held × Leave → Held × Leave
padded n x = (pad n x.0, x.1)

-- what a list leaves, and where the run goes on
abbrev pub went : (addr : List ℕ) → BlockList → Held → Held × Leave
went addr b g = (restart b.live_out g, leave_of addr g.exit)

abbrev pub nowhere : Held → Held × Leave
nowhere h = (h, ToNowhere)

pub go_pad : (u : Units) (m : Machine) (addr : List ℕ) (k : ℕ) (b : BlockList) (n : ℕ) (h : Held) → is_waiting h.exit ≡ false → waits_at u m (slice_index addr (k + 1)) h (es_of addr b) ≡ None
    → go_list u m addr k b (pad n h) ≡ padded n (go_list u m addr k b h)
go_pad u m addr k b n h r w =
    let back = slice_index addr (k + 1) in
    let end : does_all u m back (pad n h) (es_of addr b) ≡ pad n (does_all u m back h (es_of addr b)) =
    all_same u m back (es_of addr b) (pad n h) r (waits_pad u m back n (es_of addr b) h w) ∙ all_pad u m back n (es_of addr b) h w ∙ sym (ap (pad n) (all_same u m back (es_of addr b) h r w)) in
    ap (λ (c : Bool). if c then went addr b (does_all u m back (pad n h) (es_of addr b)) else nowhere (pad n h)) (means_pad u m back n (es_of addr b) h r w)
    ∙ ap (λ (g : Held). if means u m back h (es_of addr b) then went addr b g else nowhere (pad n h)) end
    ∙ on (means u m back h (es_of addr b)) (does_all u m back h (es_of addr b)) where
      on : (c : Bool) (g : Held) → (if c then went addr b (pad n g) else nowhere (pad n h)) ≡ padded n (if c then went addr b g else nowhere h)
      on true g = refl
      on false g = refl

pub go_is : (u : Units) (m : Machine) (addr : List ℕ) (k : ℕ) (b : BlockList) (h : Held) → means u m (slice_index addr (k + 1)) h (es_of addr b) ≡ true
    → go_list u m addr k b h ≡ went addr b (does_all u m (slice_index addr (k + 1)) h (es_of addr b))
go_is u m addr k b h e = rw e refl

pub go_not : (u : Units) (m : Machine) (addr : List ℕ) (k : ℕ) (b : BlockList) (h : Held) → means u m (slice_index addr (k + 1)) h (es_of addr b) ≡ false → go_list u m addr k b h ≡ nowhere h
go_not u m addr k b h e = rw e refl

-- where the run of a leg goes on from a block
abbrev pub onto : {B S : Type 0} → (go : ℕ → B → S → S × Leave) → ℕ → List B → S → S × Leave → Run S
onto go k bs s left = after_block k s left.0 left.1 (λ t. leg go (suc k) bs t)

pub leg_onto : {B S : Type 0} (go : ℕ → B → S → S × Leave) (k : ℕ) (b : B) (bs : List B) (s : S) (left : S × Leave) → go k b s ≡ left → leg go k (b ∷ bs) s ≡ onto go k bs s left
leg_onto go k b bs s left e = ap (onto go k bs s) e

-- a leg that is somewhere begins with a list that has a meaning
pub list_means : (u : Units) (m : Machine) (addr : List ℕ) (k : ℕ) (b : BlockList) (bs : List BlockList) (h : Held) → (leg (go_list u m addr) k (b ∷ bs) h).outcome ≢ Undefined
    → means u m (slice_index addr (k + 1)) h (es_of addr b) ≡ true
list_means u m addr k b bs h d = on (means u m (slice_index addr (k + 1)) h (es_of addr b)) refl where
  on : (c : Bool) → means u m (slice_index addr (k + 1)) h (es_of addr b) ≡ c → c ≡ true
  on true e = refl
  on false e = absurd (d (ap (λ (r : Run Held). r.outcome) (leg_onto (go_list u m addr) k b bs h (nowhere h) (go_not u m addr k b h e))))

-- the block that has a word begins there
pub block_at_is : (addr : List ℕ) (word block : ℕ) → block_at addr word ≡ Some block → slice_index addr block ≡ word
block_at_is [] word block e = absurd cc
block_at_is (a ∷ addr) word block e = on (a == word && not (length addr == 0)) refl (block_at addr word) refl e (λ i q. block_at_is addr word i q) where
  on : (b : Bool) → (a == word && not (length addr == 0)) ≡ b → (o : Option ℕ) → block_at addr word ≡ o → (if b then Some 0 else option_map suc o) ≡ Some block → ((i : ℕ) → block_at addr word ≡ Some i → slice_index addr i ≡ word) → slice_index (a ∷ addr) block ≡ word
  on true q o p e ih = let z : 0 ≡ block = cc in subst (λ (i : ℕ). slice_index (a ∷ addr) i ≡ word) z (let t = (and_parts (a == word) (not (length addr == 0)) q).0 in let g : a ≡ word = grind (arith, nat_tests) in g)
  on false q None p e ih = absurd cc
  on false q (Some i) p e ih = let z : suc i ≡ block = cc in subst (λ (j : ℕ). slice_index (a ∷ addr) j ≡ word) z (ih i p)

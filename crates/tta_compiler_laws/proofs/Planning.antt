-- Lists that may be placed for the selected ones are planned.
use Rattle.std.proofs.Common.{◌≡◌, ◌≤◌, inl, inr, ℕ, zero, suc, Bool, true, false, List, [], ◌∷◌, Some, refl, ap, subst, ◌∙◌, arith, length, slice_get}
use Rattle.std.specs.Prelude.{◌==◌, ◌||◌, nat_lt, option_map}
use Rattle.std.specs.List.{list_all, list_any}
use Rattle.std.proofs.lemmas.Bool.{and_parts, or_cases}
use Rattle.std.proofs.lemmas.Bool.Decides.{nat_tests}
use Rattle.std.proofs.lemmas.List.{length-map}
use Rattle.std.proofs.lemmas.Option.{slice_get-map}
use Rattle.tta_compiler_laws.specs.Cited.{Units, Op, Machine, is_frame_op, Target, Choice, hub_of, Program, BlockList, Item, ItemSource, Port, Address, source_of, is_straight, AllPairs, Aim, aim_of, is_scratch, is_address, AsksNoMore, Part, RBlock, asks_part, LoweringInput, parts, block_of, list_of, names, assigns_block, targets, is_start_of, is_frame_trigger, is_home, is_need, is_closed, IsListFor, TriggersNoMore, IsSelection, IsKnown, IsEquivalent}
use Rattle.tta_list.proofs.Lists.{list_all_one}
use Rattle.tta_optim.specs.Kept as kept
use Rattle.tta_select.proofs.Selecting.{selects}
use Rattle.tta_compiler_laws.specs.Compiler.{IsPair, AreStandIns, raw}
use Rattle.tta_compiler_laws.specs.Planned.{IsListOf, ArePlanned, ListsPlanned}
use Rattle.tta_compiler_laws.proofs.Composed.{code, law, given, pairs_length}
use Rattle.tta_compiler_laws.proofs.Apart.{starts_aim, frame_aim, home_aim, start_aim, frame_aimed, home_aimed, start_apart, frame_apart, home_apart, counted_aims, one_of_all}
use Rattle.tta_lower.proofs.Lists.{has-in as in_get}

-- ---- addresses

named_within : (blocks b : ℕ) (items : List Item) → list_all (λ y. is_closed blocks (source_of y)) items ≡ true → list_any (kept.names b) items ≡ true → nat_lt b blocks ≡ true
named_within blocks b [] all any = absurd cc
named_within blocks b (y ∷ items) all any =
    let s = and_parts (is_closed blocks (source_of y)) (list_all (λ y. is_closed blocks (source_of y)) items) all in
    elim (or_cases (kept.names b y) (list_any (kept.names b) items) any) as (λ c. nat_lt b blocks ≡ true) [
      | inl e ↦ here (source_of y) s.0 e
      | inr e ↦ named_within blocks b items s.1 e
    ] where
      here : (src : ItemSource) → is_closed blocks src ≡ true → is_address b src ≡ true → nat_lt b blocks ≡ true
      here (Port src) closed e = absurd cc
      here (Address a) closed e = let same : a ≡ b = grind (arith, nat_tests) in subst (λ (n : ℕ). nat_lt n blocks ≡ true) same closed

all_closed : (blocks : ℕ) (items ys : List Item) → list_all (λ y. is_closed blocks (source_of y)) items ≡ true
    → ((b : ℕ) → list_any (kept.names b) ys ≡ true → list_any (kept.names b) items ≡ true) → list_all (λ y. is_closed blocks (source_of y)) ys ≡ true
all_closed blocks items [] all from = refl
all_closed blocks items (y ∷ ys) all from =
    rw (here (source_of y) refl, all_closed blocks items ys all (λ b e. from b (more (kept.names b y) (list_any (kept.names b) ys) e))) refl where
      more : (a b : Bool) → b ≡ true → (a || b) ≡ true
      more true b e = refl
      more false b e = e

      first : (a b : Bool) → a ≡ true → (a || b) ≡ true
      first a b e = rw e refl

      here : (src : ItemSource) → source_of y ≡ src → is_closed blocks (source_of y) ≡ true
      here (Port src) e = rw e refl
      here (Address b) e =
          let same : (b == b) ≡ true = grind (arith, nat_tests) in
          let named : kept.names b y ≡ true = ap (is_address b) e ∙ same in
          ap (is_closed blocks) e ∙ named_within blocks b items all (from b (first (kept.names b y) (list_any (kept.names b) ys) named))

-- ---- pairs of lists

-- the pair at a place
pub pair_at : {A B : Type 0} (P : A → B → Type 0) (xs : List A) (ys : List B) → AllPairs P xs ys → (k : ℕ) (x : A) (y : B) → slice_get xs k ≡ Some x → slice_get ys k ≡ Some y → P x y
pair_at P [] ys all k x y at is = absurd cc
pair_at P (a ∷ xs) [] all k x y at is = absurd cc
pair_at P (a ∷ xs) (b ∷ ys) all zero x y at is =
    let same : a ≡ x = cc in
    let this : b ≡ y = cc in
    subst (λ (z : _). P x z) this (subst (λ (z : _). P z b) same all.0)
pair_at P (a ∷ xs) (b ∷ ys) all (suc k) x y at is = pair_at P xs ys all.1 k x y at is

-- ---- counts

-- a list that asks for no more passes a test of targets no more often, where the test looks at no unit and at no scratch register
asks_less : (m : Machine) (items others : List Item) → AsksNoMore m items others → (p : Aim → Bool) (test : Target → Bool) → ((t : Target) → p (aim_of m t) ≡ test t)
    → ((t : Target) → is_scratch m t ≡ true → p (aim_of m t) ≡ false) → targets test others ≤ targets test items
asks_less m items others n p test same apart =
    let a = n.targets p apart in let b = counted_aims m p test same items in let c = counted_aims m p test same others in omega (arith, a, b, c)

-- ---- all lists

module _ (u : Units) (m : Machine) (c : Choice) (p : Program) (known : LoweringInput)
    (pair : IsPair u m c p) (is_known : IsKnown p (length c.homes) known) (lists : List BlockList)
    (stand : AreStandIns m (raw u m c p known) lists) where
  abbrev block : Part → RBlock
  block x = block_of p known (length c.homes) x

  picked : IsSelection u m c (code u m c p known pair is_known) (raw u m c p known)
  picked = selects u m c (code u m c p known pair is_known) (given u m c p known pair is_known)

  -- how many lists there are
  count : length (raw u m c p known) ≡ length (parts p known.blocks known.first)
  count = picked.size.count ∙ length-map (parts p known.blocks known.first) block

  block_there : (k : ℕ) (x : Part) → slice_get (parts p known.blocks known.first) k ≡ Some x → slice_get (code u m c p known pair is_known).blocks k ≡ Some (block x)
  block_there k x e = slice_get-map (block_of p known (length c.homes)) (parts p known.blocks known.first) k ∙ ap (option_map (block_of p known (length c.homes))) e

  list_there : (k : ℕ) (x : Part) → slice_get (parts p known.blocks known.first) k ≡ Some x → slice_get (raw u m c p known) k ≡ Some (list_of m c u (block x))
  list_there k x e =
      slice_get-map (list_of m c u) (code u m c p known pair is_known).blocks k ∙ ap (option_map (list_of m c u)) (block_there k x e)

  one : (k : ℕ) (x : Part) (o : BlockList) → slice_get (parts p known.blocks known.first) k ≡ Some x → slice_get lists k ≡ Some o
      → IsListOf u m c p known x o
  one k x o e at =
      let l : BlockList = list_of m c u (block x) in
      let lists_raw = raw u m c p known in
      let rs = (code u m c p known pair is_known).blocks in
      let b = block_there k x e in
      let there = list_there k x e in
      let f = pair_at (IsListFor m c) rs lists_raw picked.each k (block x) l b there in
      let straight = list_all_one (λ (l : BlockList). is_straight m (hub_of m) l.items) lists_raw k l picked.straight there in
      let closed = list_all_one (λ (l : BlockList). list_all (λ y. is_closed (length lists_raw) (source_of y)) l.items) lists_raw k l picked.size.addresses there in
      let triggers = pair_at (TriggersNoMore u m) rs lists_raw picked.triggers k (block x) l b there in
      let frame = pair_at (λ (b : RBlock) (l : BlockList). targets (is_frame_trigger m) l.items ≤ names b) rs lists_raw picked.frame k (block x) l b there in
      let homes = pair_at (λ (b : RBlock) (l : BlockList). targets (is_home c) l.items ≤ assigns_block b) rs lists_raw picked.homes k (block x) l b there in
      let t = pair_at (IsEquivalent m) lists_raw lists stand k l o there at in
      let n = t.spare in
      let w = law u m c p known pair is_known in
      let i = in_get (parts p known.blocks known.first) k x e in
      let asked = asks_less m l.items o.items n in
      let started : (op : Op) → is_frame_op op ≡ false → targets (is_start_of m op) o.items ≤ asks_part u (is_need op) p known.home x =
      λ op plain.
      let a = asked (starts_aim op) (is_start_of m op) (start_aim m op) (start_apart m op) in
      let s = triggers op plain in
      let r = w.asked (is_need op) x i in omega (arith, a, s, r) in
      record {
        live = t.stands.live ∙ f.live_out;
        list = n.list f.list;
        addresses = all_closed (length (parts p known.blocks known.first)) l.items o.items
            (subst (λ (t : ℕ). list_all (λ y. is_closed t (source_of y)) l.items ≡ true) count closed) n.addresses;
        straight = n.straight straight;
        triggers = λ unit j q there plain. let less = one_of_all m unit j q there o.items in let a = started q.op plain in omega (arith, less, a);
        total = started;
        frame = let a = asked frame_aim (is_frame_trigger m) (frame_aimed m) (frame_apart m) in let q = w.slots x i in omega (arith, a, frame, q);
        homes = let a = asked (home_aim c) (is_home c) (home_aimed m c) (home_apart m c pair.choice) in let q = w.assigned x i in omega (arith, a, homes, q);
      }

  pub planned : ArePlanned u m c p known lists
  planned = record {
    count = pairs_length (IsEquivalent m) (raw u m c p known) lists stand ∙ count;
    each = λ k x l e f. one k x l e f;
  }

pub lists_planned : ListsPlanned
lists_planned u m c p known lists pair is_known stand = planned u m c p known pair is_known lists stand

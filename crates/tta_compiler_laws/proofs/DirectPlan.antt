-- The list of a direct pair is planned for its program.
use Rattle.std.proofs.Common.{◌≡◌, ◌≤◌, ℕ, true, List, [], ◌∷◌, Some, refl, sym, ap, subst, ◌∙◌, arith, length, map, slice_get}
use Rattle.std.specs.Prelude.{◌==◌, option_map}
use Rattle.std.proofs.lemmas.Bool.Decides.{nat_tests}
use Rattle.std.proofs.lemmas.List.{length-map}
use Rattle.std.proofs.lemmas.Option.{slice_get-map}
use Rattle.tta_compiler_laws.specs.Cited.{Units, Op, Machine, IsMachine, Choice, Call, Proc, Program, IsProgram, puts, RBlock, Rir, asks, one_block, Block, Live, IsFlow, IsLive, Homes, SlotsAsScanned, Part, asks_part, IsRegisterCode, parts, block_of, first_by, known_by, Item, BlockList, none_after, is_bypassable, is_redundant, is_lively, targets, is_start_of, is_need, home_pair, out_of, constants_out}
use Rattle.tta_lower.proofs.Lowering.{lowers_well}
use Rattle.tta_lower.proofs.SameHomes.{answers_know}
use Rattle.tta_select.proofs.OutputJoins.{CanOutput, can}
use Rattle.tta_select.proofs.DirectLists.{no_address, straight, triggers, frames, homes}
use Rattle.tta_compiler_laws.specs.Direct.{constants_of, list_of_direct, is_direct}
use Rattle.tta_compiler_laws.specs.Planned.{IsListOf, ArePlanned, HasForms}
use Rattle.tta_compiler_laws.specs.Packed.{homes_on, IsPlan}
use Rattle.tta_compiler_laws.proofs.Directly.{direct_lowers, direct_is_list, direct_means, only_one}
use Rattle.tta_compiler_laws.proofs.Apart.{one_of_all}
use Rattle.tta_compiler_laws.proofs.Pairs.{is_alone}
use Rattle.tta_compiler_laws.proofs.NoVariables.{any_allotted}
use Rattle.tta_lower.proofs.Lists.{has-in as in_get}

-- ---- the forms: words go to control and to a trigger alone

bypassed : (m : Machine) (f : Call) (words : List ℕ) (before : List Item) → none_after (is_bypassable m) before (constants_out f words) ≡ true
bypassed m f [] before = refl
bypassed m f (w ∷ words) before = bypassed m f words _

shared : (m : Machine) (f : Call) (words : List ℕ) (before : List Item) → none_after (is_redundant m) before (constants_out f words) ≡ true
shared m f [] before = refl
shared m f (w ∷ words) before = shared m f words _

lively : (m : Machine) (f : Call) (words : List ℕ) → is_lively m [] (constants_out f words) ≡ true
lively m f [] = refl
lively m f (w ∷ words) = lively m f words

-- ---- the plan

module _ (u : Units) (m : Machine) (p : Program) (machine : IsMachine m) (program : IsProgram p) (direct : is_direct m p ≡ true)
    (blocks : List Block) (l : Live) (flow : IsFlow p blocks) (lives : IsLive p l) where
  abbrev choice : Choice
  choice = record { hub = 0; guard_file = 0; guard_index = 0; usable = 0; homes = homes_on m }

  abbrev words : List ℕ
  words = constants_of p

  outputs : CanOutput m (out_of m) words
  outputs =
      let a = is_alone m p program direct in
      subst (CanOutput m (out_of m)) (sym a.constants) (can m machine (puts (a.proc).steps) a.brought.all)

  module _ (h : Homes) (allotted : SlotsAsScanned p (length (homes_on m)) h) where
    abbrev count : ℕ
    count = length (homes_on m)

    abbrev parts_of : List Part
    parts_of = parts p blocks (first_by p l)

    abbrev block : Part → RBlock
    block x = block_of p (known_by p blocks l h) count x

    law : IsRegisterCode u p (known_by p blocks l h) count 0
    law =
        let known = answers_know p count blocks l h program flow lives allotted in
        lowers_well u p (known_by p blocks l h) count 0 program known.flow known.apart known.answers

    one : map block parts_of ≡ one_block words ∷ []
    one = ap (λ (r : Rir). r.blocks) (direct_lowers m p program direct count blocks l h flow lives allotted)

    block_is : (k : ℕ) (x : Part) → slice_get parts_of k ≡ Some x → one_block words ≡ block x
    block_is k x e =
        (only_one (one_block words) k (block x)
        (ap (λ (bs : List RBlock). slice_get bs k) (sym one) ∙ slice_get-map block parts_of k ∙ ap (option_map block) e)).1

    list_of : (k : ℕ) (x : Part) (b : BlockList) → slice_get parts_of k ≡ Some x → list_of_direct m p ≡ b
        → IsListOf u m choice p (known_by p blocks l h) x b
    list_of k x b e same =
        let is = block_is k x e in
        let i = in_get parts_of k x e in
        let started : (op : Op) → targets (is_start_of m op) (constants_out (out_of m) words) ≤ asks_part u (is_need op) p (known_by p blocks l h).home x =
        λ op.
        let a = triggers u m (out_of m) words outputs op in
        let b : asks u (is_need op) (one_block words) ≡ asks u (is_need op) (block x) = ap (asks u (is_need op)) is in
        let q = law.asked (is_need op) x i in omega (arith, a, b, q) in
        subst (IsListOf u m choice p (known_by p blocks l h) x) same (record {
          live = ap (λ (r : RBlock). map (home_pair m choice) r.live_out) is;
          list = direct_is_list m p machine program direct;
          addresses = no_address (length parts_of) (out_of m) words;
          straight = straight m (out_of m) words [];
          triggers = λ unit k o there plain. let less = one_of_all m unit k o there (constants_out (out_of m) words) in let a = started o.op in omega (arith, less, a);
          total = λ op plain. started op;
          frame = let a = frames m (out_of m) words outputs in omega (arith, a);
          homes = let a = homes choice (out_of m) words in omega (arith, a);
        })

    planned : ArePlanned u m choice p (known_by p blocks l h) (list_of_direct m p ∷ [])
    planned = record {
      count = sym (ap length one) ∙ length-map parts_of block;
      each = λ k x b e f. list_of k x b e (only_one (list_of_direct m p) k b f).1;
    }

  forms : (k : ℕ) (b : BlockList) → slice_get (list_of_direct m p ∷ []) k ≡ Some b → HasForms m b
  forms k b e = subst (HasForms m) (only_one (list_of_direct m p) k b e).1 (record {
    bypassed = bypassed m (out_of m) words [];
    shared = shared m (out_of m) words [];
    lively = lively m (out_of m) words;
  })

  allotted_on : (h : Homes) → SlotsAsScanned p 0 h → (k : Homes) × SlotsAsScanned p (length (homes_on m)) k
  allotted_on h allotted =
      let a = is_alone m p program direct in
      subst (λ (r : Program). IsProgram r → SlotsAsScanned r 0 h → (k : Homes) × SlotsAsScanned r (length (homes_on m)) k) (sym a.is)
      (λ rules is. any_allotted a.proc p.init (no_params a.proc rules.main) a.only h (length (homes_on m)) is) program allotted where
        no_params : (q : Proc) → (q.params == 0) ≡ true → q.params ≡ 0
        no_params q e = grind (arith, nat_tests, e)

  -- the list is planned for the program
  pub direct_plan : (h : Homes) → SlotsAsScanned p 0 h → IsPlan u m p (list_of_direct m p ∷ [])
  direct_plan h allotted =
      let k = allotted_on h allotted in record {
        choice = choice;
        blocks = blocks;
        live = l;
        kept = k.0;
        homes = refl;
        flow = flow;
        lives = lives;
        allotted = k.1;
        planned = planned k.0 k.1;
        forms = forms;
        means = direct_means u m p machine program direct blocks l h flow lives allotted;
      }

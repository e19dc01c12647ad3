-- A direct pair: its list, and what the code of its list does.
use Rattle.std.proofs.Common.{◌≡◌, ℕ, zero, suc, true, List, [], ◌∷◌, Some, refl, sym, subst, arith, length, slice_get}
use Rattle.tta_compiler_laws.specs.Cited.{Machine, Proc, DataLine, Program, IsProgram, only_constants, puts, alone, one_block, Block, Live, IsFlow, IsLive, Homes, SlotsAsScanned, lowered, IsKnown, known_by, BlockList, Placed, control_is_last, is_list, out_of, constants_out, IsBlock}
use Rattle.tta_lower.specs.Keeps as lower
use Rattle.tta_lower.proofs.Lowering.{lowers_well}
use Rattle.tta_lower.proofs.OneBlock.{one-block}
use Rattle.tta_lower.proofs.SameBlocks.{are_blocks}
use Rattle.tta_lower.proofs.SameHomes.{answers_know}
use Rattle.tta_select.proofs.OutputJoins.{CanOutput, can}
use Rattle.tta_select.proofs.OneList.{alike}
use Rattle.tta_select.proofs.DirectLists.{control_last, no_address, can_direct}
use Rattle.tta_sched_laws.proofs.Built.{built_agrees}
use Rattle.tta_compiler_laws.specs.Direct.{constants_of, list_of_direct, DirectLowers, DirectIsList, DirectMeans, DirectLinks, DirectAgrees}
use Rattle.tta_compiler_laws.proofs.Composed.{mean_of, data_words}
use Rattle.tta_compiler_laws.proofs.Linking.{is_block}
use Rattle.tta_compiler_laws.proofs.Pairs.{IsAlone, is_alone}

-- ---- the register code

lowers_alone : (q : Proc) (init : List DataLine) → only_constants q.steps ≡ true → IsProgram (alone q init) → (homes : ℕ) (blocks : List Block) (l : Live) (h : Homes) → IsFlow (alone q init) blocks → IsLive (alone q init) l → SlotsAsScanned (alone q init) homes h
    → lowered (alone q init) (known_by (alone q init) blocks l h) homes ≡ record { blocks = one_block (puts q.steps) ∷ [] }
lowers_alone q init only rules homes blocks l h flow live allotted =
    one-block q init only (known_by (alone q init) blocks l h) homes (are_blocks (alone q init) rules blocks flow)
    (answers_know (alone q init) homes blocks l h rules flow live allotted).answers

pub direct_lowers : DirectLowers
direct_lowers m p rules direct homes blocks l h flow live allotted =
    let a = is_alone m p rules direct in
    subst (λ (r : Program). IsFlow r blocks → IsLive r l → SlotsAsScanned r homes h → lowered r (known_by r blocks l h) homes ≡ record { blocks = one_block (constants_of r) ∷ [] }) (sym a.is)
    (λ flow live allotted. lowers_alone a.proc p.init a.only (subst IsProgram a.is rules) homes blocks l h flow live allotted) flow live allotted

-- ---- the list

pub direct_is_list : DirectIsList
direct_is_list m p machine rules direct =
    let a = is_alone m p rules direct in
    let few = a.steps in
    subst (λ (words : List ℕ). is_list m (constants_out (out_of m) words) ≡ true) (sym a.constants)
    (can_direct m (puts (a.proc).steps) machine (omega (arith, few)) a.brought.all)

-- ---- its meaning

pub direct_means : DirectMeans
direct_means u m p machine rules direct blocks l h flow live allotted addr memory input are given =
    mean_of u m p (record { blocks = one_block (constants_of p) ∷ [] }) (list_of_direct m p ∷ []) addr memory input keeps
    (alike u m (out_of m) addr memory input (constants_of p) (subst (CanOutput m (out_of m)) (sym a.constants) (can m machine (puts (a.proc).steps) a.brought.all))) where
      a : IsAlone m p
      a = is_alone m p rules direct

      known : IsKnown p 0 (known_by p blocks l h)
      known = answers_know p 0 blocks l h rules flow live allotted

      keeps : lower.KeepsMeaning u p (record { blocks = one_block (constants_of p) ∷ [] })
      keeps = subst (lower.KeepsMeaning u p) (direct_lowers m p rules direct 0 blocks l h flow live allotted)
          (lowers_well u p (known_by p blocks l h) 0 0 rules known.flow known.apart known.answers).keeps

-- ---- its code

pub only_one : {A : Type 0} (x : A) (k : ℕ) (y : A) → slice_get (x ∷ []) k ≡ Some y → (k ≡ 0) × (x ≡ y)
only_one x zero y e = (refl, cc)
only_one x (suc k) y e = absurd cc

closed : (m : Machine) (p : Program) (k : ℕ) (b : BlockList) → slice_get (list_of_direct m p ∷ []) k ≡ Some b → control_is_last b.items ≡ true
closed m p k b e = subst (λ (c : BlockList). control_is_last c.items ≡ true) (only_one (list_of_direct m p) k b e).1 (control_last (out_of m) (constants_of p))

pub direct_links : DirectLinks
direct_links m p ps are = record {
  few = let n = are.count in omega (arith, n);
  each = λ k q e. on k q e (placed_at k q e);
} where
  placed_at : (k : ℕ) (q : Placed) → slice_get ps k ≡ Some q → k ≡ 0
  placed_at zero q e = refl
  placed_at (suc k) q e = absurd (past ps k q are.count e) where
    past : (qs : List Placed) (k : ℕ) (q : Placed) → length qs ≡ 1 → slice_get qs (suc k) ≡ Some q → ⊥
    past [] k q n e = cc
    past (x ∷ []) k q n e = cc
    past (x ∷ y ∷ qs) k q n e = omega (arith, n)

  on : (k : ℕ) (q : Placed) → slice_get ps k ≡ Some q → k ≡ 0 → IsBlock m (length ps) q
  on k q e same =
      is_block m (list_of_direct m p) q (control_last (out_of m) (constants_of p))
      (are.respects 0 (list_of_direct m p) q refl (subst (λ (j : ℕ). slice_get ps j ≡ Some q) same e)) (length ps) (no_address (length ps) (out_of m) (constants_of p))

pub direct_agrees : DirectAgrees
direct_agrees u m p machine rules direct blocks l h flow live allotted ps whole are linked legal laid =
    built_agrees u m machine p whole (list_of_direct m p ∷ []) ps (record {
      legal = legal;
      placed = record { count = are.count; closed = closed m p; respects = are.respects };
      linked = linked;
      means = direct_means u m p machine rules direct blocks l h flow live allotted;
      laid = laid;
      words = data_words p.init rules.init;
    })

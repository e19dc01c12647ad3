-- The list of a block of constants.
use Rattle.std.proofs.Common.{◌≡◌, ℕ, List, [], ◌∷◌, refl, ap, ◌∙◌, map}
use Rattle.tta_select.specs.Cited.{Call, Machine, BlockList, Port, RBlock, Rir, one_block}
use Rattle.tta_arch.specs.declared.ends.Source.TheVariants as source
use Rattle.tta_lir.specs.declared.code.RSrc.TheVariants as rsrc
use Rattle.tta_lir.specs.declared.code.RStep.TheVariants as rstep
use Rattle.tta_select.specs.Select.{goes, trigger_at}
use Rattle.tta_select.specs.Direct.{out_of, direct_items, direct_block, direct_lists, constants_out, direct_list}

items_are : (f : Call) (words : List ℕ) → direct_items f (map (λ w. rstep.Put (rsrc.Word w)) words) ≡ constants_out f words
items_are f [] = refl
items_are f (w ∷ words) = ap (λ xs. goes (Port (source.Value w)) (trigger_at f) ∷ xs) (items_are f words)

pub lists_are : (m : Machine) (r : Rir) (words : List ℕ) → r.blocks ≡ one_block words ∷ [] → direct_lists m r ≡ direct_list (out_of m) words ∷ []
lists_are m r words is =
    ap (λ bs. map (direct_block (out_of m)) bs) is ∙ ap (λ xs. (let b : BlockList = record { items = xs; live_out = [] } in b) ∷ []) (items_are (out_of m) words)

pub lists_given : (m : Machine) (r : Rir) (f : Call) (bs : List RBlock) (lists : List BlockList) (words : List ℕ) → lists ≡ map (direct_block f) bs → f ≡ out_of m
    → bs ≡ r.blocks → r.blocks ≡ one_block words ∷ [] → lists ≡ direct_list (out_of m) words ∷ []
lists_given m r f bs lists words e at same is =
    e ∙ (ap (λ g. map (direct_block g) bs) at ∙ (ap (λ xs. map (direct_block (out_of m)) xs) same ∙ lists_are m r words is))

-- Each item of a list has a slot, and no address of a block that is not there.
use Rattle.std.proofs.Common.{◌≡◌, ◌<◌, ◌-◌, ◌^◌, ◌⊎◌, inl, inr, ℕ, Bool, true, false, List, [], ◌∷◌, ◌++◌, Option, Some, None, refl, sym, ap, subst, arith, ◌∙◌, length, is_some}
use Rattle.std.specs.Prelude.{if◌then◌else◌, find, ◌==◌, ◌&&◌, ◌||◌}
use Rattle.std.specs.List.{list_all, list_any}
use Rattle.std.proofs.lemmas.Bool.Decides.{nat_tests}
use Rattle.std.proofs.lemmas.List.Folds.{list_all-append}
use Rattle.std.proofs.lemmas.Bool.{or_right}
use Rattle.tta_select.specs.Cited.{Units, GuardRef, Dest, Ldf, Stf, Machine, Choice, offered, ItemSource, LongValue, Item, Move, Long, source_of_long, joined, fills, has_slot, Frame}
use Rattle.tta_arch.specs.declared.parts.Template.{Template as Field}
use Rattle.tta_moves.specs.declared.items.LongValue.TheVariants as long
use Rattle.tta_lir.specs.declared.code.Place.{Place as RPlace}
use Rattle.tta_lir.specs.declared.code.Place.TheVariants.{Reg}
use Rattle.tta_select.specs.Select.{goes, filled, call_of, trigger_at, hub_at, from_hub, long_for, through_hub, long_hub, long_way, constant, carry, value, address_slot, merged, brings_old}
use Rattle.tta_select.specs.Relation.{is_place_of}
use Rattle.tta_select.specs.Reaches.{guard_by, HasJoins}
use Rattle.tta_select.proofs.Everywhere.{IsValue, IsCarried, has_constant, has_carry, IsWays, Merging, fetch_all, value_to, address_all}
use Rattle.tta_list.proofs.Tests.{eq_same as self_nat, some_same}

-- ---- a template that is found

pub record Template (m : Machine) (dst : Dest) (guard : Option GuardRef) (t : Field) : Type 0 where
  pub joins : joined m (filled t) dst guard ≡ true
  pub there : list_any (fills t.imm t.reg) m.templates ≡ true

template_in : (m : Machine) (dst : Dest) (guard : Option GuardRef) (t : Field) (ts : List Field)
    → find (λ t. joined m (filled t) dst guard) ts ≡ Some t → (joined m (filled t) dst guard ≡ true) × (list_any (fills t.imm t.reg) ts ≡ true)
template_in m dst guard t [] e = absurd cc
template_in m dst guard t (x ∷ ts) e = on (joined m (filled x) dst guard) refl e (template_in m dst guard t ts) where
  on : (b : Bool) → joined m (filled x) dst guard ≡ b → (if b then Some x else find (λ t. joined m (filled t) dst guard) ts) ≡ Some t
      → (find (λ t. joined m (filled t) dst guard) ts ≡ Some t → (joined m (filled t) dst guard ≡ true) × (list_any (fills t.imm t.reg) ts ≡ true))
      → (joined m (filled t) dst guard ≡ true) × (list_any (fills t.imm t.reg) (x ∷ ts) ≡ true)
  on true b e ih = let same = some_same e in (subst (λ t. joined m (filled t) dst guard ≡ true) same b, here x t same) where
    here : (x t : Field) → x ≡ t → list_any (fills t.imm t.reg) (x ∷ ts) ≡ true
    here x t same = subst (λ y. list_any (fills y.imm y.reg) (x ∷ ts) ≡ true) same (let a = self_nat x.imm in let b = self_nat x.reg in rw (a, b) refl)
  on false b e ih = let a = ih e in (a.0, or_right _ _ a.1)

pub template_there : (m : Machine) (c : Choice) (dst : Dest) (guard : Option GuardRef) (t : Field) → long_for m c dst guard ≡ Some t → Template m dst guard t
template_there m c dst guard t e = let a = template_in m dst guard t m.templates e in record { joins = a.0; there = a.1 }

-- ---- the ways of a constant

-- which way a constant takes, with what is joined
pub data Route (m : Machine) (c : Choice) (guard : Option GuardRef) (v : LongValue) (dst : Dest) (items : List Item) : Type 0 where
  At_once : joined m (source_of_long v) dst guard ≡ true → items ≡ Move guard (source_of_long v) dst ∷ [] → Route m c guard v dst items
  By_hub : joined m (source_of_long v) dst guard ≡ false → joined m (source_of_long v) (hub_at m c 0) None ≡ true → joined m (from_hub m c 0) dst guard ≡ true
      → items ≡ through_hub m c guard (source_of_long v) dst → Route m c guard v dst items
  By_long : (t : Field) → joined m (source_of_long v) dst guard ≡ false → Template m dst guard t → items ≡ Long t.imm t.reg v ∷ Move guard (filled t) dst ∷ [] → Route m c guard v dst items
  By_long_hub : (t : Field) → joined m (source_of_long v) dst guard ≡ false → joined m (source_of_long v) (hub_at m c 0) None ≡ false → long_for m c dst guard ≡ None → Template m (hub_at m c 0) None t
      → joined m (from_hub m c 0) dst guard ≡ true → items ≡ Long t.imm t.reg v ∷ through_hub m c guard (filled t) dst → Route m c guard v dst items

module _ (m : Machine) (c : Choice) (j : HasJoins m c) (address : 2 ^ m.control.address - 1 < 2 ^ 32) (blocks : ℕ) where
  -- each word and each address reaches the hub
  hub_word : (v : LongValue) → IsValue blocks v → (joined m (source_of_long v) (hub_at m c 0) None ≡ true) ⊎ (is_some (long_for m c (hub_at m c 0) None) ≡ true)
  hub_word (long.Word w) is = j.words w is
  hub_word (long.Address b) is = j.words (2 ^ m.control.address - 1) address

  pub route : (guard : Option GuardRef) (v : LongValue) (dst : Dest) → IsValue blocks v → has_constant m c guard v dst ≡ true → Route m c guard v dst (constant m c guard v dst)
  route guard v dst is has = on (joined m (source_of_long v) dst guard) refl (joined m (from_hub m c 0) dst guard) refl (joined m (source_of_long v) (hub_at m c 0) None) refl (long_for m c dst guard) refl has where
    some_false : {P : Type 0} → (joined m (source_of_long v) (hub_at m c 0) None ≡ true) ⊎ (is_some (long_for m c (hub_at m c 0) None) ≡ true) → joined m (source_of_long v) (hub_at m c 0) None ≡ false
        → long_for m c (hub_at m c 0) None ≡ None → P
    some_false (inl e) f n = let t : true ≡ false = sym e ∙ f in absurd cc
    some_false (inr e) f n = let t : is_some (long_for m c (hub_at m c 0) None) ≡ false = ap (λ o. is_some o) n in let z : true ≡ false = sym e ∙ t in absurd cc

    last : (o : Option Field) → long_for m c (hub_at m c 0) None ≡ o → joined m (source_of_long v) dst guard ≡ false → joined m (source_of_long v) (hub_at m c 0) None ≡ false → long_for m c dst guard ≡ None
        → joined m (from_hub m c 0) dst guard ≡ true → Route m c guard v dst (long_hub m c guard v dst o)
    last (Some t) o a d l b = By_long_hub t a d l (template_there m c (hub_at m c 0) None t o) b refl
    last None o a d l b = some_false (hub_word v is) d o

    on : (a : Bool) → joined m (source_of_long v) dst guard ≡ a → (b : Bool) → joined m (from_hub m c 0) dst guard ≡ b → (d : Bool) → joined m (source_of_long v) (hub_at m c 0) None ≡ d
        → (o : Option Field) → long_for m c dst guard ≡ o → (a || b || is_some o) ≡ true
        → Route m c guard v dst (if a then Move guard (source_of_long v) dst ∷ [] else if b && d then through_hub m c guard (source_of_long v) dst else long_way m c guard v dst o)
    on true a b eb d ed o eo h = At_once a refl
    on false a true b true d o eo h = By_hub a d b refl
    on false a true b false d (Some t) o h = By_long t a (template_there m c dst guard t o) refl
    on false a true b false d None o h = last (long_for m c (hub_at m c 0) None) refl a d o b
    on false a false b d ed (Some t) o h = By_long t a (template_there m c dst guard t o) refl
    on false a false b d ed None o h = absurd cc

  -- ---- slots

  abbrev pub Slotted : List Item → Type 0
  Slotted xs = list_all (has_slot m) xs ≡ true

  slotted_row : (xs ys : List Item) → Slotted xs → Slotted ys → Slotted (xs ++ ys)
  slotted_row xs ys a b = list_all-append (has_slot m) xs ys ∙ (rw (a, b) refl)

  slotted_route : (guard : Option GuardRef) (v : LongValue) (dst : Dest) (items : List Item) → Route m c guard v dst items → Slotted items
  slotted_route guard v dst items (At_once a is) = subst Slotted (sym is) (rw a refl)
  slotted_route guard v dst items (By_hub a d b is) = subst Slotted (sym is) (rw (d, b) refl)
  slotted_route guard v dst items (By_long t a f is) = let x = f.there in let y = f.joins in subst Slotted (sym is) (rw (x, y) refl)
  slotted_route guard v dst items (By_long_hub t a d l f b is) = let x = f.there in let y = f.joins in subst Slotted (sym is) (rw (x, y, b) refl)

  slotted_carry : (guard : Option GuardRef) (src : ItemSource) (dst : Dest) → IsCarried m c src → has_carry m c guard src dst ≡ true → Slotted (carry m c guard src dst)
  slotted_carry guard src dst is has = on (joined m src dst guard) refl (joined m (from_hub m c 0) dst guard) refl has where
    on : (a : Bool) → joined m src dst guard ≡ a → (b : Bool) → joined m (from_hub m c 0) dst guard ≡ b → (a || b) ≡ true → Slotted (if a then Move guard src dst ∷ [] else through_hub m c guard src dst)
    on true a b eb h = rw a refl
    on false a true b h = let d = is.hub in rw (d, b) refl
    on false a false b h = absurd cc

  pub slotted_ways : IsWays m c blocks Slotted
  slotted_ways = record {
    none = refl;
    row = slotted_row;
    const = λ guard v dst is has. slotted_route guard v dst (constant m c guard v dst) (route guard v dst is has);
    carried = slotted_carry;
  }

  module _ (u : Units) (small : m.frame_words < 2 ^ 32) (loads : is_some (offered m c.usable Ldf) ≡ true) (store : is_some (offered m c.usable Stf) ≡ true) (storing : ((call_of m c Stf).does.arity == 2) ≡ true) where
    slotted_old : (d : RPlace) → is_place_of m c d ≡ true → Slotted (brings_old m c d)
    slotted_old (Reg k) i = let low : k < length c.homes = grind (arith, nat_tests) in let e = j.home_one k low in rw e refl
    slotted_old (Frame f) i =
        let low : f < m.frame_words = grind (arith, nat_tests) in
        fetch_all u m c j blocks small loads store storing Slotted slotted_ways None f (hub_at m c 1) low (or_right _ _ j.to_one)

    slotted_merged : (d : RPlace) → is_place_of m c d ≡ true → Slotted (merged m c d)
    slotted_merged (Reg k) i = let low : k < length c.homes = grind (arith, nat_tests) in let e = j.one_home k low in rw e refl
    slotted_merged (Frame f) i =
        let low : f < m.frame_words = grind (arith, nat_tests) in
        let e = j.one_store in
        slotted_row (address_slot m c f) (goes (from_hub m c 1) (trigger_at (call_of m c Stf)) ∷ []) (address_all u m c j blocks small loads store storing Slotted slotted_ways f low) (rw e refl)

    pub slotted_merging : Merging m c Slotted
    slotted_merging i s d inside word place =
        slotted_row (brings_old m c d) (value m c (Some (guard_by c i)) s (hub_at m c 1) ++ merged m c d) (slotted_old d place)
        (slotted_row (value m c (Some (guard_by c i)) s (hub_at m c 1)) (merged m c d)
        (value_to u m c j blocks small loads store storing Slotted slotted_ways (Some (guard_by c i)) s (hub_at m c 1) inside word (j.hub_if i)) (slotted_merged d place))

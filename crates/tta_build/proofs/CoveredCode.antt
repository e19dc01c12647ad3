-- The code of a pair that is no direct one.
use Rattle.std.proofs.Common.{◌≡◌, ℕ, suc, ◌≤◌, Bool, true, false, List, [], ◌∷◌, Option, Some, None, Result, Ok, Err, length, refl, sym, ◌∙◌, ap, subst, arith}
use Rattle.std.specs.Prelude.{slice_get, IfOk, IfErr}
use Rattle.std.specs.Option.{option_map_or}
use Rattle.std.specs.List.{list_all}
use Rattle.std.proofs.lemmas.Bool.{and_from}
use Rattle.tta_build.specs.Cited.{Units, Machine, IsMachine, StandsOver, Choice, IsChoice, failed_rule, homes_of, Program, IsProgram, frame_need, Rir, Homes, IsKnown, SlotsAsScanned, lowered, parts, known_by, BlockList, Placed, is_list, selected, fits_block, AreBlocks, IsLinked, Code, IsLegalCode, IsPair, AreStandIns, raw, are_offered, is_direct, AreRespected, IsPlan}
use Rattle.tta_lower.specs.Statement.{IsCodeOf as IsRegisterCode}
use Rattle.tta_lower.specs.LoweringInput.{first_by}
use Rattle.tta_lower.proofs.SameHomes.{answers_know}
use Rattle.tta_link.proofs.Whole.{linked_length}
use Rattle.tta_compiler_laws.proofs.Composed.{fit, lists_mean, selected_stand, stand_for}
use Rattle.tta_compiler_laws.proofs.Planning.{lists_planned}
use Rattle.tta_compiler_laws.proofs.Linking.{lists_link, lists_agree}
use Rattle.tta_compiler_laws.proofs.Room.{lists_fit}
use Rattle.tta_build.specs.declared.error.BuildError.{BuildError}
use Rattle.tta_build.specs.declared.error.BuildError.TheVariants as cause
use Rattle.tta_build.specs.Statement.{IsAccepted, Covered, unsupplied}
use Rattle.tta_build.specs.Candidates.{AreChosen}
use Rattle.tta_build.specs.Compiled.{AreSelected, CompilesTo}
use Rattle.tta_build.specs.Parts.{AreListsOf, ArePlacedFor}
use Rattle.tta_build.specs.declared.register.Analysed.{Analysed}
use Rattle.tta_build.specs.Compiled.{AreChosenFor}
use Rattle.tta_build.specs.Parts.{AreSelectedWith, AreChosenWith}
use Rattle.tta_build.specs.Lowered.{IsAnalysed}
use Rattle.tta_build.specs.Parts.{IsLowered, IsCodeFor, IsOverlong, IsCodeCause, IsLinkCause}
use Rattle.tta_build.proofs.Placements.{IsCodeOf, IsTooLong, IsListsCause, is_code, is_cause}
use Rattle.tta_build.proofs.Shortest.{have_lists}

-- a test of each element of a list, by the elements of another at the same places
all_by : {A B : Type 0} (test : B → Bool) (xs : List A) (ys : List B) → length ys ≡ length xs
    → ((k : ℕ) (x : A) (y : B) → slice_get xs k ≡ Some x → slice_get ys k ≡ Some y → test y ≡ true) → list_all test ys ≡ true
all_by test xs [] same each = refl
all_by test [] (y ∷ ys) same each = absurd (omega arith)
all_by test (x ∷ xs) (y ∷ ys) same each =
    and_from (test y) (list_all test ys) (each 0 x y refl refl)
    (all_by test xs ys (omega arith) (λ k a b e f. each (suc k) a b e f))

-- register code of a program by its blocks, its liveness and these homes
abbrev pub lowered_with : (p : Program) (known : Analysed) (kept : Homes) (homes frame_words words : ℕ) (r : Rir) → IsAnalysed p known → SlotsAsScanned p homes kept
    → words ≡ frame_words → IsRegisterCode p known.flow.blocks known.live kept words r → IsLowered p homes frame_words r
lowered_with p known kept homes frame_words words r is allotted same code = record {
  blocks = known.flow.blocks;
  live = known.live;
  kept = kept;
  flow = is.flow;
  lives = is.lives;
  allotted = allotted;
  code = subst (λ (k : ℕ). IsRegisterCode p known.flow.blocks known.live kept k r) same code;
}

-- ---- the register code of a pair

module _ (u : Units) (m : Machine) (c : Choice) (p : Program) (machine : IsMachine m) (over : StandsOver u m) (choice : IsChoice m c)
    (program : IsProgram p) (offers : are_offered u m c p ≡ true) where
  -- the pair, where there is room for the frames
  abbrev pair : frame_need p ≤ m.frame_words → IsPair u m c p
  pair room = record { machine = machine; over = over; choice = choice; program = program; offered = offers; room = room }

  -- what is known of register code
  abbrev known : (r : Rir) (is : IsLowered p (length c.homes) m.frame_words r)
      → IsKnown p (length c.homes) (known_by p is.blocks is.live is.kept)
  known r is = answers_know p (length c.homes) is.blocks is.live is.kept program is.flow is.lives is.allotted

  -- it is the code that the laws of the parts speak of
  code_is : (r : Rir) (is : IsLowered p (length c.homes) m.frame_words r)
      → r ≡ lowered p (known_by p is.blocks is.live is.kept) (length c.homes)
  code_is r is =
      is.code.is ∙ ap (lowered p (known_by p is.blocks is.live is.kept)) is.allotted.count

  -- its blocks fit the machine
  pub blocks_fit : (r : Rir) → IsLowered p (length c.homes) m.frame_words r → list_all (fits_block u m c (length r.blocks)) r.blocks ≡ true
  blocks_fit r is =
      subst (λ (x : Rir). list_all (fits_block u m c (length x.blocks)) x.blocks ≡ true) (sym (code_is r is))
      (fit u m c p (known_by p is.blocks is.live is.kept) (pair is.code.room) (known r is)).blocks

  -- the lists that are selected for it
  abbrev selected_for : (r : Rir) → IsLowered p (length c.homes) m.frame_words r → List BlockList
  selected_for r is = raw u m c p (known_by p is.blocks is.live is.kept)

  selected_are : (r : Rir) (is : IsLowered p (length c.homes) m.frame_words r) (lists : List BlockList) → lists ≡ selected m c u r → lists ≡ selected_for r is
  selected_are r is lists same = same ∙ ap (selected m c u) (code_is r is)

  -- the selected lists are the program's
  pub selected_of : (r : Rir) (lists : List BlockList) → IsLowered p (length c.homes) m.frame_words r → lists ≡ selected m c u r → AreSelected u m c p lists
  selected_of r lists is same = record {
    blocks = is.blocks;
    live = is.live;
    kept = is.kept;
    flow = is.flow;
    lives = is.lives;
    allotted = is.allotted;
    room = is.code.room;
    are = selected_are r is lists same;
  }

  -- and they are selected with the homes of its variables
  pub selected_with : (known : Analysed) (kept : Homes) (words : ℕ) (r : Rir) (lists : List BlockList) → IsAnalysed p known → SlotsAsScanned p (length c.homes) kept
      → words ≡ m.frame_words → IsRegisterCode p known.flow.blocks known.live kept words r → lists ≡ selected m c u r → AreSelectedWith kept u m c p lists
  unfolding selected_of
  selected_with known kept words r lists is allotted room code same = record {
    of = selected_of r lists (lowered_with p known kept (length c.homes) m.frame_words words r is allotted room code) same;
    homes = refl;
  }

  -- they are lists of the machine
  pub selected_lists : (lists : List BlockList) → AreSelected u m c p lists → list_all (λ (b : BlockList). is_list m b.items) lists ≡ true
  selected_lists lists of =
      let known = answers_know p (length c.homes) of.blocks of.live of.kept program of.flow of.lives of.allotted in
      let planned = lists_planned u m c p (known_by p of.blocks of.live of.kept) lists
      (pair of.room) known (subst (λ (l : List BlockList). AreStandIns m l lists) of.are (selected_stand m lists)) in
      all_by (λ (b : BlockList). is_list m b.items) (parts p of.blocks (first_by p of.live)) lists planned.count
      (λ k x b e f. (planned.each k x b e f).list)

  -- of the placements that are chosen for them each is one of a list that may be placed for them
  pub placed_for : (lists : List BlockList) (ps : List Placed) → AreSelected u m c p lists → AreChosen m lists ps → ArePlacedFor u m c p ps
  placed_for lists ps of chosen =
      let have = have_lists m lists ps chosen in record {
        lists = have.lists;
        are = record { selected = lists; of = of; stand = have.stand; forms = have.forms };
        first = have.first;
        roomy = have.roomy;
      }

-- ---- the lists of a pair

module _ (u : Units) (m : Machine) (c : Choice) (p : Program) (lists : List BlockList) (machine : IsMachine m) (over : StandsOver u m) (choice : IsChoice m c)
    (program : IsProgram p) (offers : are_offered u m c p ≡ true) (are : AreListsOf u m c p lists) where
  abbrev of : AreSelected u m c p are.selected
  of = are.of

  pair_of : IsPair u m c p
  pair_of = record { machine = machine; over = over; choice = choice; program = program; offered = offers; room = of.room }

  known_of : IsKnown p (length c.homes) (known_by p of.blocks of.live of.kept)
  known_of = answers_know p (length c.homes) of.blocks of.live of.kept program of.flow of.lives of.allotted

  abbrev raw_for : List BlockList
  raw_for = raw u m c p (known_by p of.blocks of.live of.kept)

  -- the lists may be placed for the selected ones
  stand_in : AreStandIns m raw_for lists
  stand_in = subst (λ (l : List BlockList). AreStandIns m l lists) of.are are.stand

  -- they are planned
  plan : IsPlan u m p lists
  plan = record {
    choice = c;
    blocks = of.blocks;
    live = of.live;
    kept = of.kept;
    homes = choice.homes ∙ sym (ap (λ (o : Option ℕ). option_map_or (homes_of m) o []) choice.hub);
    flow = of.flow;
    lives = of.lives;
    allotted = of.allotted;
    planned = lists_planned u m c p (known_by p of.blocks of.live of.kept) lists pair_of known_of stand_in;
    forms = are.forms;
    means = lists_mean u m c p (known_by p of.blocks of.live of.kept) lists pair_of known_of (stand_for m raw_for lists stand_in);
  }

  -- their placements can be linked
  can_link : (ps : List Placed) → AreRespected m lists ps → AreBlocks m ps
  can_link ps respected =
      lists_link u m c p (known_by p of.blocks of.live of.kept) lists ps pair_of known_of stand_in respected

  accepted : is_direct m p ≡ false → failed_rule m ≡ None → unsupplied u m p ≡ None → IsAccepted u m p
  accepted other kept supplied = Covered other kept supplied of.room

  -- their code is code for the pair
  code_for : is_direct m p ≡ false → failed_rule m ≡ None → unsupplied u m p ≡ None → (code : Code) → IsCodeOf m lists code
      → CompilesTo u m p (length code.words) → IsCodeFor u m p code
  code_for other kept supplied code is compiled = record {
    accepted = accepted other kept supplied;
    legal = is.legal;
    packed = record { lists = lists; placements = is.placements; plan = plan; first = is.first; linked = is.linked };
    room =
        let fits = lists_fit u m c p (known_by p of.blocks of.live of.kept) lists is.placements pair_of known_of stand_in is.roomy in
        let same = linked_length m code is.placements is.linked in omega (arith, fits, same);
    compiled = compiled;
    agrees = λ init laid.
        lists_agree u m c p (known_by p of.blocks of.live of.kept) lists is.placements (record { code = code; init = init })
        pair_of known_of stand_in is.roomy.respected is.linked is.legal laid;
  }

  -- and where it is too long, it has no more words than the pair's room
  room_for : is_direct m p ≡ false → failed_rule m ≡ None → unsupplied u m p ≡ None → (words have : ℕ) → IsTooLong m lists words have → IsOverlong u m p words have
  room_for other kept supplied words have is =
      let fits = lists_fit u m c p (known_by p of.blocks of.live of.kept) lists is.placements pair_of known_of stand_in is.roomy in
      let same = is.length in record {
        accepted = accepted other kept supplied;
        addresses = is.addresses;
        more = is.more;
        room = omega (arith, fits, same);
        length = record { lists = lists; placements = is.placements; plan = plan; first = is.first; cycles = same };
      }

  -- so what their linking answers is code for the pair, or why it has none
  ok_of : is_direct m p ≡ false → failed_rule m ≡ None → unsupplied u m p ≡ None → (r : Result Code BuildError)
      → IfOk r (λ code. IsCodeOf m lists code) → IfOk r (λ code. CompilesTo u m p (length code.words)) → IfOk r (λ code. IsCodeFor u m p code)
  ok_of other kept supplied (Ok code) is compiled = code_for other kept supplied code is compiled
  ok_of other kept supplied (Err e) is compiled = tt

  err_of : is_direct m p ≡ false → failed_rule m ≡ None → unsupplied u m p ≡ None → (r : Result Code BuildError)
      → IfErr r (λ e. IsListsCause m lists e) → IfErr r (λ e. IsCodeCause u m p e)
  err_of other kept supplied (Ok code) is = tt
  err_of other kept supplied (Err (cause.CodeFull words have)) is = room_for other kept supplied words have is
  err_of other kept supplied (Err cause.NoMemory) is = tt
  err_of other kept supplied (Err e) is = absurd is

-- ---- placements for a pair

module _ (u : Units) (m : Machine) (c : Choice) (p : Program) (ps qs : List Placed) (machine : IsMachine m) (over : StandsOver u m) (choice : IsChoice m c)
    (program : IsProgram p) (offers : are_offered u m c p ≡ true) (for : ArePlacedFor u m c p ps) (same : qs ≡ ps) where
  -- they can be linked
  pub are_blocks : AreBlocks m qs
  are_blocks =
      subst (AreBlocks m) (sym same) (can_link u m c p for.lists machine over choice program offers for.are ps for.roomy.respected)

  -- what is linked from them is code for the pair, and why nothing is linked is why there is none
  pub ok_for : is_direct m p ≡ false → failed_rule m ≡ None → unsupplied u m p ≡ None → (r : Result Code BuildError)
      → IfOk r (λ code. IsLinked m code qs) → IfOk r (λ code. IsLegalCode m code) → IfOk r (λ code. CompilesTo u m p (length code.words))
      → IfOk r (λ code. IsCodeFor u m p code)
  ok_for other kept supplied r linked legal compiled =
      ok_of u m c p for.lists machine over choice program offers for.are other kept supplied r
      (is_code m for.lists ps qs r for.first for.roomy same linked legal) compiled

  pub err_for : is_direct m p ≡ false → failed_rule m ≡ None → unsupplied u m p ≡ None → (r : Result Code BuildError)
      → IfErr r (λ e. IsLinkCause m qs e) → IfErr r (λ e. IsCodeCause u m p e)
  err_for other kept supplied r cause =
      err_of u m c p for.lists machine over choice program offers for.are other kept supplied r (is_cause m for.lists ps qs r for.first for.roomy same cause)

-- ---- placements that are chosen for a pair

module _ (u : Units) (m : Machine) (c : Choice) (p : Program) (machine : IsMachine m) (over : StandsOver u m) (choice : IsChoice m c)
    (program : IsProgram p) (offers : are_offered u m c p ≡ true) where
  -- they are few
  pub few_placed : (kept : Homes) (ps : List Placed) → AreChosenWith kept u m c p ps → length ps ≤ 16777216
  few_placed kept ps is =
      (are_blocks u m c p ps ps machine over choice program offers
      (placed_for u m c p machine over choice program offers is.lists ps is.selected.of is.chosen) refl).few

  -- they are placed for the program
  pub placed_as_chosen : (ps : List Placed) → AreChosenFor u m c p ps → ArePlacedFor u m c p ps
  placed_as_chosen ps is =
      placed_for u m c p machine over choice program offers is.by.lists ps is.by.selected.of is.by.chosen

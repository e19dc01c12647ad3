-- The code of a direct pair.
use Rattle.std.proofs.Common.{◌≡◌, ℕ, ◌+◌, ◌*◌, ◌<◌, ◌≤◌, true, List, [], ◌∷◌, length, refl, sym, ◌∙◌, ap, subst, arith}
use Rattle.std.specs.Prelude.{Result, Ok, Err, IfOk, IfErr}
use Rattle.std.specs.List.{list_all}
use Rattle.std.proofs.Math.Nat.{mul-le-mul}
use Rattle.tta_build.specs.Cited.{Units, Machine, IsMachine, Var, Word, Step, Put, Halt, End, Proc, Program, step_count, IsProgram, frame_need, arg_count, var_count, only_constants, puts, alone, Rir, one_block, lowered, known_by, BlockList, Placed, is_list, out_of, direct_list, AreBlocks, total_length, IsLinked, longest, HasRoom, Code, IsLegalCode, is_direct, constants_of, list_of_direct, AreRespected, AreFirstFits, AreRoomy, room_on}
use Rattle.tta_link.proofs.Whole.{linked_length}
use Rattle.tta_compiler_laws.proofs.Pairs.{is_alone}
use Rattle.tta_compiler_laws.proofs.Directly.{direct_lowers, direct_is_list, direct_links, direct_agrees}
use Rattle.tta_compiler_laws.proofs.DirectPlan.{direct_plan}
use Rattle.tta_build.specs.declared.error.BuildError.{BuildError}
use Rattle.tta_build.specs.declared.error.BuildError.TheVariants as cause
use Rattle.tta_build.specs.Compiled.{CompilesTo, OfOneList}
use Rattle.tta_build.specs.Statement.{Direct, LacksRoom, HasCause}
use Rattle.tta_build.specs.declared.register.Lowered.{Lowered}
use Rattle.tta_build.specs.declared.best_candidate.Planned.{Planned}
use Rattle.tta_build.specs.Lowered.{IsLoweredAs}
use Rattle.tta_build.specs.Value.{AreDirectLists}
use Rattle.tta_build.specs.Parts.{IsLowered, AreDirect, IsCodeFor, IsLinkCause}
use Rattle.tta_build.proofs.Placements.{IsCodeOf, IsTooLong, IsListsCause, is_code, is_cause}
use Rattle.tta_select.proofs.DirectLists.{size as length-constants_out}

-- ---- frames

-- a direct pair's program needs no more frame words than a procedure has variables at the most
pub need_small : (m : Machine) (p : Program) → IsProgram p → is_direct m p ≡ true → frame_need p ≤ 4096
need_small m p program direct =
    let one = is_alone m p program direct in
    let q : Proc = one.proc in
    let rules : IsProgram (alone q p.init) = subst IsProgram one.is program in
    let few : q.vars ≤ 4096 = rules.procs.0.vars in
    let need : frame_need p ≡ 0 + q.vars + 0 = ap frame_need one.is ∙ refl in
    omega (arith, few, need)

-- so its frames always have room
pub never_full : (m : Machine) (p : Program) → IsProgram p → is_direct m p ≡ true → (need have : ℕ) → need ≡ frame_need p → have ≡ 4096 → have < need → ⊥
never_full m p program direct need have same there more =
    let small = need_small m p program direct in omega (arith, small, same, there, more)

-- ---- lists

-- the list of a direct pair's register code
pub list_is : (m : Machine) (p : Program) (r : Rir) (lists : List BlockList) → IsProgram p → is_direct m p ≡ true → IsLowered p 0 4096 r
    → ((words : List ℕ) → r.blocks ≡ one_block words ∷ [] → lists ≡ direct_list (out_of m) words ∷ []) → AreDirect m p lists
list_is m p r lists program direct is one =
    let lower = direct_lowers m p program direct 0 is.blocks is.live is.kept is.flow is.lives is.allotted in
    let same : r ≡ record { blocks = one_block (constants_of p) ∷ [] } =
    is.code.is ∙ ap (lowered p (known_by p is.blocks is.live is.kept)) is.allotted.count ∙ lower in
    record {
      blocks = is.blocks;
      live = is.live;
      kept = is.kept;
      flow = is.flow;
      lives = is.lives;
      allotted = is.allotted;
      are = one (constants_of p) (ap (λ (x : Rir). x.blocks) same);
    }

-- the machine can carry out the list
pub are_lists : (m : Machine) (p : Program) (lists : List BlockList) → IsMachine m → IsProgram p → is_direct m p ≡ true → AreDirect m p lists
    → list_all (λ (b : BlockList). is_list m b.items) lists ≡ true
are_lists m p lists machine program direct of =
    subst (λ (x : List BlockList). list_all (λ (b : BlockList). is_list m b.items) x ≡ true) (sym of.are)
    (let e = direct_is_list m p machine program direct in rw e refl)

-- its placement can be linked
pub can_link : (m : Machine) (p : Program) (lists : List BlockList) → AreDirect m p lists → (ps : List Placed) → AreRespected m lists ps → AreBlocks m ps
can_link m p lists of ps are = direct_links m p ps (subst (λ (x : List BlockList). AreRespected m x ps) of.are are)

-- ---- room

-- the constants are fewer than the steps, of which the last is `end`
fewer_constants : (steps : List Step) → only_constants steps ≡ true → length (puts steps) + 1 ≤ length steps
fewer_constants (Put (Word w) ∷ steps) only = let less = fewer_constants steps only in omega (arith, less)
fewer_constants (Put (Var x) ∷ steps) only = absurd cc
fewer_constants (Halt ∷ steps) only = omega arith
fewer_constants (End ∷ []) only = omega arith
fewer_constants (End ∷ s ∷ steps) only = absurd cc
fewer_constants [] only = absurd cc
fewer_constants (s ∷ steps) only = absurd cc

-- the placement of the list has the program's room
one_fits : (m : Machine) (p : Program) (ps : List Placed) → IsProgram p → is_direct m p ≡ true → AreRoomy m (list_of_direct m p ∷ []) ps → total_length ps ≤ room_on m p
one_fits m p [] program direct are = absurd (let e = are.respected.count in omega (arith, e))
one_fits m p (q ∷ r ∷ ps) program direct are = absurd (let e = are.respected.count in omega (arith, e))
one_fits m p (q ∷ []) program direct are =
    let alone = is_alone m p program direct in
    let steps = alone.proc.steps in
    let room : HasRoom m (list_of_direct m p).items q = are.room 0 (list_of_direct m p) q refl refl in
    let items = length-constants_out (out_of m) (constants_of p) in
    let words : length (constants_of p) ≡ length (puts steps) = ap length alone.constants in
    let less = fewer_constants steps alone.only in
    let count : step_count p ≡ 0 + length steps = ap step_count alone.is ∙ refl in
    let procs : length p.procs ≡ 1 = ap (λ (x : Program). length x.procs) alone.is in
    let few : length (list_of_direct m p).items ≤ 32 * step_count p + 8 * (arg_count p + var_count p) + 16 * length p.procs = omega (arith, items, words, less, count) in
    let one : 1 ≤ 2 * step_count p + 3 * length p.procs = omega (arith, procs) in
    let a : length (list_of_direct m p).items * (longest m + 1) ≤ (32 * step_count p + 8 * (arg_count p + var_count p) + 16 * length p.procs) * (longest m + 1) =
    mul-le-mul few (let z : longest m + 1 ≤ longest m + 1 = omega arith in z) in
    let b : 1 * (m.control.delay + longest m + 2) ≤ (2 * step_count p + 3 * length p.procs) * (m.control.delay + longest m + 2) =
    mul-le-mul one (let z : m.control.delay + longest m + 2 ≤ m.control.delay + longest m + 2 = omega arith in z) in
    omega (arith, room, a, b)

-- so many words are what is compiled, where its placement takes them
compiles : (u : Units) (m : Machine) (p : Program) (lists : List BlockList) (ps : List Placed) (words : ℕ) → is_direct m p ≡ true → AreDirect m p lists
    → AreFirstFits m lists ps → words ≡ total_length ps → CompilesTo u m p words
compiles u m p lists ps words direct of first takes =
    record { placements = ps; are = OfOneList direct (subst (λ (x : List BlockList). AreFirstFits m x ps) of.are first); takes = takes }

-- its code is code for the pair
pub code_for : (u : Units) (m : Machine) (p : Program) (lists : List BlockList) (code : Code) → IsMachine m → IsProgram p → is_direct m p ≡ true → AreDirect m p lists
    → IsCodeOf m lists code → IsCodeFor u m p code
code_for u m p lists code machine program direct of is = record {
  accepted = Direct direct;
  legal = is.legal;
  packed = record {
    lists = list_of_direct m p ∷ [];
    placements = is.placements;
    plan = direct_plan u m p machine program direct of.blocks of.live of.flow of.lives of.kept of.allotted;
    first = subst (λ (x : List BlockList). AreFirstFits m x is.placements) of.are is.first;
    linked = is.linked;
  };
  room =
      let fits = one_fits m p is.placements program direct (subst (λ (x : List BlockList). AreRoomy m x is.placements) of.are is.roomy) in
      let same = linked_length m code is.placements is.linked in omega (arith, fits, same);
  compiled = compiles u m p lists is.placements (length code.words) direct of is.first (linked_length m code is.placements is.linked);
  agrees = λ init laid.
      direct_agrees u m p machine program direct of.blocks of.live of.kept of.flow of.lives of.allotted is.placements (record { code = code; init = init })
      (subst (λ (x : List BlockList). AreRespected m x is.placements) of.are is.roomy.respected) is.linked is.legal laid;
}

-- where the code is too long, it has no more words than the pair's room
pub room_for : (u : Units) (m : Machine) (p : Program) (lists : List BlockList) → IsMachine m → IsProgram p → is_direct m p ≡ true → AreDirect m p lists
    → (words have : ℕ) → IsTooLong m lists words have → LacksRoom u m p words have
room_for u m p lists machine program direct of words have is =
    let fits = one_fits m p is.placements program direct (subst (λ (x : List BlockList). AreRoomy m x is.placements) of.are is.roomy) in
    let same = is.length in record {
      accepted = Direct direct;
      addresses = is.addresses;
      more = is.more;
      room = omega (arith, fits, same);
      length = record {
        lists = list_of_direct m p ∷ [];
        placements = is.placements;
        plan = direct_plan u m p machine program direct of.blocks of.live of.flow of.lives of.kept of.allotted;
        first = subst (λ (x : List BlockList). AreFirstFits m x is.placements) of.are is.first;
        cycles = same;
      };
      compiled = compiles u m p lists is.placements words direct of is.first same;
    }

-- so what is linked from its placement is answered for the pair
pub ok_for : (m : Machine) (p : Program) (lists : List BlockList) → IsMachine m → IsProgram p → is_direct m p ≡ true → AreDirect m p lists
    → (r : Result Code BuildError) → IfOk r (λ code. IsCodeOf m lists code) → IfOk r (λ code. (u : Units) → IsCodeFor u m p code)
ok_for m p lists machine program direct of (Ok code) is = λ u. code_for u m p lists code machine program direct of is
ok_for m p lists machine program direct of (Err e) is = tt

pub err_for : (m : Machine) (p : Program) (lists : List BlockList) → IsMachine m → IsProgram p → is_direct m p ≡ true → AreDirect m p lists
    → (r : Result Code BuildError) → IfErr r (λ e. IsListsCause m lists e) → IfErr r (λ e. (u : Units) → HasCause u m p e)
err_for m p lists machine program direct of (Ok code) is = tt
err_for m p lists machine program direct of (Err (cause.CodeFull words have)) is = λ u. room_for u m p lists machine program direct of words have is
err_for m p lists machine program direct of (Err cause.NoMemory) is = λ u. tt
err_for m p lists machine program direct of (Err e) is = absurd is

-- ---- the one list, as it is lowered and placed

-- the register code is the program's
is_lowered : (p : Program) (r : Lowered) → IsLoweredAs p 0 4096 r → IsLowered p 0 4096 r.code
is_lowered p r is = record {
  blocks = r.known.flow.blocks;
  live = r.known.live;
  kept = r.homes;
  flow = is.known.flow;
  lives = is.known.lives;
  allotted = is.allotted;
  code = is.code;
}

module _ (m : Machine) (p : Program) (r : Lowered) (program : IsProgram p) (pair : is_direct m p ≡ true) (is : IsLoweredAs p 0 4096 r) where
  -- the list that is selected is that of the pair
  pub direct_lists : (lists : List BlockList) → ((words : List ℕ) → r.code.blocks ≡ one_block words ∷ [] → lists ≡ direct_list (out_of m) words ∷ [])
      → AreDirect m p lists
  direct_lists lists one = list_is m p r.code lists program pair (is_lowered p r is) one

  -- so it is by what is placed
  are_direct : (all : Planned) → AreDirectLists m p all → AreDirect m p all.selected.items
  are_direct all are = record {
    blocks = r.known.flow.blocks;
    live = r.known.live;
    kept = r.homes;
    flow = is.known.flow;
    lives = is.known.lives;
    allotted = is.allotted;
    are = are.selected;
  }

  module _ (machine : IsMachine m) (all : Planned) (are : AreDirectLists m p all) (ps : List Placed) (same : ps ≡ all.placed.items) where
    -- its placement can be linked
    pub are_blocks : AreBlocks m ps
    are_blocks = subst (AreBlocks m) (sym same) (can_link m p all.selected.items (are_direct all are) all.placed.items are.roomy.respected)

    -- what is linked from it is code for the pair, and why nothing is linked is why there is none
    pub linked_for : (code : Code) → IsLinked m code ps → IsLegalCode m code → (u : Units) → IsCodeFor u m p code
    linked_for code linked legal =
        let r : Result Code BuildError = Ok code in
        ok_for m p all.selected.items machine program pair (are_direct all are) r
        (is_code m all.selected.items all.placed.items ps r are.first are.roomy same linked legal)

    pub cause_for : (e : BuildError) → IsLinkCause m ps e → (u : Units) → HasCause u m p e
    cause_for e cause =
        let r : Result Code BuildError = Err e in
        err_for m p all.selected.items machine program pair (are_direct all are) r
        (is_cause m all.selected.items all.placed.items ps r are.first are.roomy same cause)

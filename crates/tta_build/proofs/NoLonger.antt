-- What is chosen is no longer than what is plain.
use Rattle.std.proofs.Common.{◌≡◌, ◌<◌, ◌≤◌, ℕ, suc, Bool, true, false, List, [], ◌∷◌, refl, sym, ap, subst, ◌∙◌, arith, length}
use Rattle.std.specs.Prelude.{if◌then◌else◌, nat_lt, map, Result, Ok, Err, IfOk, IfErr}
use Rattle.std.proofs.lemmas.Bool.Decides.{nat_tests}
use Rattle.std.proofs.lemmas.Option.{slice_get_within}
use Rattle.tta_build.specs.Cited.{Units, Machine, Choice, IsChoice, Program, Code, BlockList, Placed, IsFirstFit, total_length, IsLinked, optimised, is_direct, AreFirstFits}
use Rattle.tta_list.proofs.Lists.{element}
use Rattle.tta_link.proofs.Whole.{linked_length}
use Rattle.tta_build.specs.declared.error.BuildError.{BuildError}
use Rattle.tta_build.specs.declared.error.BuildError.TheVariants as cause
use Rattle.tta_build.specs.declared.register.RegisterOrder.TheVariants.{LongestFree}
use Rattle.tta_build.specs.Candidates.{IsChosen}
use Rattle.tta_build.specs.Plain.{IsNoLonger, OfDirect, OfOther}
use Rattle.tta_build.specs.Compiled.{AreNoLonger, AreChosenFor, AreCompiled, CompilesTo, IsWithinPlain, CompiledIsShort, OfOneList, OfLists}
use Rattle.tta_build.specs.Compiled.{AreSelectedBy, AreChosenBy}
use Rattle.tta_build.specs.Parts.{IsOverlong, IsCodeCause, IsLinkCause}
use Rattle.tta_build.specs.Statement.{LacksRoom, HasCause}
use Rattle.tta_build.proofs.Along.{Along}
use Rattle.tta_build.proofs.Shortest.{one_first}

-- ---- the placements of blocks

-- the list after the passes is a candidate, so its first fit is no shorter than the placement that is chosen
pub one_no_longer : (m : Machine) (b : BlockList) (p : Placed) → IsChosen m b p → IsNoLonger m b p
one_no_longer m b p c =
    let s = c.shortest in
    let low = slice_get_within c.lists 0 (optimised m b) c.candidates.first in
    let count = s.first.count in
    let q = element s.fits 0 (omega arith) in record {
      plain = q.0;
      first = s.first.first 0 (optimised m b) q.0 c.candidates.first q.1;
      no_longer = s.least 0 q.0 q.1;
    }

-- first fits of the lists of blocks after the passes, together no shorter than other placements
pub record HavePlain (m : Machine) (blocks : List BlockList) (ps : List Placed) : Type 0 where
  pub plain : List Placed
  pub first : AreFirstFits m (map (optimised m) blocks) plain
  pub no_longer : total_length ps ≤ total_length plain

-- placements none of which is longer than a plain one are together no longer than plain ones
pub have_plain : (m : Machine) (blocks : List BlockList) (ps : List Placed) → length ps ≡ length blocks → Along (IsNoLonger m) blocks ps → HavePlain m blocks ps
have_plain m [] [] n each = record { plain = []; first = record { count = refl; first = λ k b p e f. absurd cc }; no_longer = omega arith }
have_plain m [] (p ∷ ps) n each = absurd (omega (arith, n))
have_plain m (b ∷ blocks) [] n each = absurd (omega (arith, n))
have_plain m (b ∷ blocks) (p ∷ ps) n each = on (each 0 b p refl refl) (have_plain m blocks ps (omega (arith, n)) (λ k x q e f. each (suc k) x q e f)) where
  on : IsNoLonger m b p → HavePlain m blocks ps → HavePlain m (b ∷ blocks) (p ∷ ps)
  on h r = record {
    plain = h.plain ∷ r.plain;
    first = record {
      count = ap suc r.first.count;
      first = one_first (λ l q. IsFirstFit m l.items q) (map (optimised m) blocks) r.plain (optimised m b) h.plain h.first r.first.first;
    };
    no_longer = let one = h.no_longer in let more = r.no_longer in omega arith;
  }

-- ---- the placements of a program

module _ (u : Units) (m : Machine) (c : Choice) (p : Program) where
  -- with home registers in turn the lists after the passes are plain ones
  pub plain_no_longer : (lists : List BlockList) (ps : List Placed) → AreSelectedBy LongestFree u m c p lists → HavePlain m lists ps → AreNoLonger u m c p ps
  plain_no_longer lists ps is have =
      let s = is.of in record {
        plain = have.plain;
        is = record {
          blocks = s.blocks;
          live = s.live;
          kept = s.kept;
          flow = s.flow;
          lives = s.lives;
          turns = is.given;
          first = subst (λ (ls : List BlockList). AreFirstFits m (map (optimised m) ls) have.plain) s.are have.first;
        };
        no_longer = have.no_longer;
      }

  -- so the placements that are chosen for them are no longer
  pub chosen_no_longer : (ps : List Placed) → AreChosenBy LongestFree u m c p ps → AreNoLonger u m c p ps
  chosen_no_longer ps by =
      plain_no_longer by.lists ps by.selected
      (have_plain m by.lists ps by.chosen.count (λ k b q e f. one_no_longer m b q (by.chosen.each k b q e f)))

  -- those with the shorter placements of two are no longer where the first are not
  pub kept_no_longer : {A : Type 0} (of : A → List Placed) (first other kept : A) → AreNoLonger u m c p (of first)
      → kept ≡ (if nat_lt (total_length (of other)) (total_length (of first)) then other else first) → AreNoLonger u m c p (of kept)
  kept_no_longer {A} of first other kept short same = by (nat_lt (total_length (of other)) (total_length (of first))) refl same where
    shorter : total_length (of other) < total_length (of first) → AreNoLonger u m c p (of other)
    shorter less = record { plain = short.plain; is = short.is; no_longer = let most = short.no_longer in omega arith }

    by : (b : Bool) → nat_lt (total_length (of other)) (total_length (of first)) ≡ b → kept ≡ (if b then other else first) → AreNoLonger u m c p (of kept)
    by true e this =
        let less : total_length (of other) < total_length (of first) = grind (arith, nat_tests) in
        subst (λ (x : A). AreNoLonger u m c p (of x)) (sym this) (shorter less)
    by false e this = subst (λ (x : A). AreNoLonger u m c p (of x)) (sym this) short

-- what is compiled of a pair is no longer than plain code of it
pub compiled_is_short : CompiledIsShort
compiled_is_short u m p words is = by is.are where
  by : AreCompiled u m p is.placements → IsWithinPlain u m p words
  by (OfOneList direct first) = record { plain = is.placements; is = OfDirect direct first; within = let same = is.takes in omega (arith, same) }
  by (OfLists other c choice of) =
      let short = of.short in
      record { plain = short.plain; is = OfOther other c choice short.is; within = let same = is.takes in let most = short.no_longer in omega (arith, same, most) }

-- ---- the answers

module _ (u : Units) (m : Machine) (c : Choice) (p : Program) (ps qs : List Placed) (choice : IsChoice m c) (other : is_direct m p ≡ false)
    (of : AreChosenFor u m c p ps) (same : qs ≡ ps) where
  -- so many words are what is compiled, where the placements take them
  compiles : (words : ℕ) → words ≡ total_length qs → CompilesTo u m p words
  compiles words takes = record { placements = ps; are = OfLists other c choice of; takes = takes ∙ ap total_length same }

  -- the code that is linked from the placements has them
  pub code_compiled : (r : Result Code BuildError) → IfOk r (λ code. IsLinked m code qs) → IfOk r (λ code. CompilesTo u m p (length code.words))
  code_compiled (Ok code) linked = compiles (length code.words) (linked_length m code qs linked)
  code_compiled (Err e) linked = tt

  lacks_room : (words have : ℕ) → words ≡ total_length qs → IsOverlong u m p words have → LacksRoom u m p words have
  lacks_room words have takes is = record {
    accepted = is.accepted;
    addresses = is.addresses;
    more = is.more;
    room = is.room;
    length = is.length;
    compiled = compiles words takes;
  }

  -- and where they take too many, what is compiled does
  pub cause_compiled : (r : Result Code BuildError) → IfErr r (λ e. IsLinkCause m qs e) → IfErr r (λ e. IsCodeCause u m p e) → IfErr r (λ e. HasCause u m p e)
  cause_compiled (Ok code) link is = tt
  cause_compiled (Err (cause.CodeFull words have)) link is = lacks_room words have link.0 is
  cause_compiled (Err cause.NoMemory) link is = tt
  cause_compiled (Err e) link is = absurd is

-- The register code of a program is what lowering states of it.
use Rattle.std.proofs.Common.{◌≡◌, ◌<◌, ◌≤◌, ℕ, Bool, true, List, [], ◌∷◌, Option, Some, map, refl, sym, ap, subst, arith, inl, inr}
use Rattle.std.specs.Prelude.{◌↔◌}
use Rattle.std.specs.Option.{option_map_or}
use Rattle.std.proofs.lemmas.List.{length-map}
use Rattle.tta_lower.specs.Cited.{AllPairs, Units, Step, Proc, DataLine, Program, IsProgram, step_at, frame_need, only_constants, puts, alone, Rir, one_block, Live, IsLive, count_of, SlotsAsScanned}
use Rattle.tta_program.specs.declared.step.Step.TheVariants.{Invoke}
use Rattle.tta_flow.specs.declared.flow.Block.{Block}
use Rattle.tta_flow.specs.Blocks as flows
use Rattle.tta_alloc.specs.declared.homes.Homes.{Homes as HomesOf}
use Rattle.tta_lower.specs.FlowFacts.{AreBlocks}
use Rattle.tta_lower.specs.Liveness.{LoweringInput, Has, IsFlow, LiveBefore, LiveAfter}
use Rattle.tta_lower.specs.Layout.{vars_of}
use Rattle.tta_lower.specs.Law.{IsKnown, IsRegisterCode}
use Rattle.tta_lower.specs.Lower.{Part, Entry, Steps, Returned, owner_of, parts, homes_of, live_past, block_of, lowered, Answers}
use Rattle.tta_lower.specs.Members.{In, Rises}
use Rattle.tta_lower.specs.LoweringInput.{first_by, known_by}
use Rattle.tta_lower.specs.Statement.{IsCall, IsLiveAt, StandsFor, IsCodeOf}
use Rattle.tta_lower.proofs.Callers.{live-below, live-after-below}
use Rattle.tta_lower.proofs.Staying.{homes-rise, homes-only, homes-all}
use Rattle.tta_lower.proofs.Shutting.{IsPartOf, parts-are}
use Rattle.tta_lower.proofs.OneBlock.{one-block}
use Rattle.tta_lower.proofs.SameBlocks.{are_blocks}
use Rattle.tta_lower.proofs.SameHomes.{answers_know}
use Rattle.tta_lower.proofs.Lowering.{lowers_well}

-- a set without units
no_units : Units
no_units = record {
  names = [];
  arities = [];
  value = λ op a b. 0;
  word = λ op a b. omega arith;
  ignores = λ op a b is. refl;
  distinct = λ i j lt below. absurd (omega (arith, below));
  reserved = refl;
  one_or_two = λ i below. absurd (omega (arith, below));
  paired = refl;
  few = omega arith;
}

-- each value with what a function makes of it
all-pairs : {A B : Type 0} (P : A → B → Type 0) (f : A → B) (xs : List A) → ((x : A) → In x xs → P x (f x)) → AllPairs P xs (map f xs)
all-pairs P f [] all = tt
all-pairs P f (x ∷ xs) all = (all x (inl refl), all-pairs P f xs (λ y is. all y (inr is)))

module _ (p : Program) (known : LoweringInput) (homes : ℕ)
    (sound : IsProgram p) (flow : IsFlow p known.blocks) (answers : Answers p known homes) where
  -- the registers that stay are those of the variables that are live
  kept-are : (owner : ℕ) (test : ℕ → Bool) (IsLiveThere : ℕ → Type 0) → ((v : ℕ) → test v ≡ true → IsLiveThere v) → ((v : ℕ) → IsLiveThere v → test v ≡ true)
      → ((v : ℕ) → IsLiveThere v → v < vars_of p owner) → (k : ℕ)
      → In k (homes_of p known homes owner test) ↔ ((v : ℕ) × (IsLiveThere v × (known.home owner v ≡ Some k)))
  kept-are owner test IsLiveThere only all below k = (
    λ is. let h = homes-only p known homes answers.few owner test k is in (h.0, (only h.0 h.2, h.3)),
    λ h. homes-all p known homes answers.few owner test k h.0 (below h.0 h.1.0) (all h.0 h.1.0) h.1.1,
  )

  -- what a block keeps
  pub record Keeps (x : Part) (owner : ℕ) (ks : List ℕ) : Type 0 where
    pub rising : Rises ks
    pub live_out : (k : ℕ) → In k ks ↔ ((v : ℕ) × (IsLiveAt p x v × (known.home owner v ≡ Some k)))

  -- the registers that stay after a block, by its last step
  abbrev kept_after : Block → Option Step → List ℕ
  kept_after b o = option_map_or (live_past p known homes b) o []

  -- they are those of the variables that are live after it
  abbrev KeepsAfter : Block → Option Step → Type 0
  KeepsAfter b o =
      Rises (kept_after b o) × ((k : ℕ) → In k (kept_after b o) ↔ ((v : ℕ) × ((LiveAfter p b.owner v b.last × (IsCall o → ⊥)) × (known.home b.owner v ≡ Some k))))

  -- what a block of steps keeps
  steps-keep : (b : Block) → Has known.blocks b → Keeps (Steps b) b.owner (block_of p known homes (Steps b)).live_out
  steps-keep b has = both (subst (KeepsAfter b) (sym (flow.last b has).there) (by (flow.last b has).st)) where
    rise : Rises (homes_of p known homes b.owner (known.after b.owner b.last))
    rise = homes-rise p known homes answers.few b.owner (known.after b.owner b.last)

    are : (IsNone : Type 0) → IsNone → (k : ℕ) → In k (homes_of p known homes b.owner (known.after b.owner b.last))
        ↔ ((v : ℕ) × ((LiveAfter p b.owner v b.last × IsNone) × (known.home b.owner v ≡ Some k)))
    are IsNone none = kept-are b.owner (known.after b.owner b.last) (λ v. LiveAfter p b.owner v b.last × IsNone) (λ v e. (answers.after_only b has v e, none))
        (λ v a. answers.after_all b has v a.0) (λ v a. live-after-below p sound b.owner v b.last a.0)

    by : (st : Step) → KeepsAfter b (Some st)
    by (Invoke d callee args) = (tt, λ k. (λ is. absurd is, λ h. absurd (h.1.0.1 tt)))
    by st = (rise, are (⊥ → ⊥) (λ e. e))

    both : KeepsAfter b (step_at p b.owner b.last) → Keeps (Steps b) b.owner (block_of p known homes (Steps b)).live_out
    both h = record { rising = h.0; live_out = h.1 }

  -- what each block keeps
  keeps : (x : Part) → IsPartOf p known.blocks x → Keeps x (owner_of x) (block_of p known homes x).live_out
  keeps (Entry owner) is = record {
    rising = homes-rise p known homes answers.few owner (known.first owner);
    live_out = kept-are owner (known.first owner) (λ v. LiveBefore p owner v 0) (answers.first_only owner) (answers.first_all owner) (λ v a. live-below p sound owner v 0 a);
  }
  keeps (Steps b) is = steps-keep b is
  keeps (Returned b d callee) is = record {
    rising = homes-rise p known homes answers.few b.owner (known.after b.owner b.last);
    live_out = kept-are b.owner (known.after b.owner b.last) (λ v. LiveAfter p b.owner v b.last) (answers.after_only b is.has) (answers.after_all b is.has)
        (λ v a. live-after-below p sound b.owner v b.last a);
  }

  -- each block stands for its part
  pub stands : (frame_words : ℕ) → ((u : Units) → IsRegisterCode u p known homes frame_words)
      → AllPairs (StandsFor p known.home known.first) (parts p known.blocks known.first) (lowered p known homes).blocks
  stands frame_words well = all-pairs (StandsFor p known.home known.first) (block_of p known homes) (parts p known.blocks known.first)
      (λ x is.
      let k = keeps x (parts-are p known homes sound flow answers x is) in
      record {
        rising = k.rising;
        live_out = k.live_out;
        slots = (well no_units).slots x is;
        asked = λ u wanted. (well u).asked wanted x is;
        assigned = (well no_units).assigned x is;
      })

-- a program that only outputs constants is one block
direct-of : (p : Program) (q : Proc) (init : List DataLine) → p ≡ alone q init → only_constants q.steps ≡ true
    → (known : LoweringInput) (homes : ℕ)
    → AreBlocks p known.blocks → Answers p known homes → lowered p known homes ≡ record { blocks = one_block (puts q.steps) ∷ [] }
direct-of p q init e only = subst (λ (x : Program). (known : LoweringInput) (homes : ℕ)
    → AreBlocks x known.blocks → Answers x known homes → lowered x known homes ≡ record { blocks = one_block (puts q.steps) ∷ [] })
    (sym e) (λ known homes are answers. one-block q init only known homes are answers)

-- all that is stated
pub code-of : (p : Program) (blocks : List Block) (l : Live) (h : HomesOf) (frame_words : ℕ) (r : Rir) → IsProgram p → flows.IsFlow p blocks → IsLive p l
    → SlotsAsScanned p (count_of h) h → frame_need p ≤ frame_words → r ≡ lowered p (known_by p blocks l h) (count_of h)
    → IsCodeOf p blocks l h frame_words r
code-of p blocks l h frame_words r sound flow live allotted room is = subst (IsCodeOf p blocks l h frame_words) (sym is) (record {
  room = room;
  is = refl;
  stands = stands p (known_by p blocks l h) (count_of h) sound is_known.flow is_known.answers frame_words well;
  closed = λ u. (well u).closed room;
  keeps = λ u. (well u).keeps;
  few = rw (length-map (parts p blocks (first_by p l)) _) (well no_units).few;
  light = (well no_units).light;
  direct = λ q init e only. ap (λ (c : Rir). c.blocks)
      (direct-of p q init e only (known_by p blocks l h) (count_of h) (are_blocks p sound blocks flow) is_known.answers);
}) where
  is_known : IsKnown p (count_of h) (known_by p blocks l h)
  is_known = answers_know p (count_of h) blocks l h sound flow live allotted

  well : (u : Units) → IsRegisterCode u p (known_by p blocks l h) (count_of h) frame_words
  well u = lowers_well u p (known_by p blocks l h) (count_of h) frame_words sound is_known.flow is_known.apart is_known.answers

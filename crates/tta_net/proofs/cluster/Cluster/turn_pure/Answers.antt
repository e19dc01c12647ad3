use Rattle.std.proofs.Common.{◌≡◌, ◌+◌, ◌≤◌, ◌<◌, ◌==◌, ℕ, Option, Some, length, refl, sym, ap, ◌∙◌, subst, arith}
use Rattle.std.specs.Prelude.{slice_get, if◌then◌else◌, IfSome}
use Rattle.std.specs.Option.{option_map_or}
use Rattle.std.proofs.lemmas.Option.{slice_get_read}
use Rattle.tta_net.specs.Cited.{stated, Units, turn, after_step, stepped, cycles}
use Rattle.tta_net.specs.declared.step_result.StepResult.{StepResult}
use Rattle.tta_net.specs.Clusters.{HeldCluster, IsClusterOf, StandsFor, feeds_of, made_by, told_at}
use Rattle.tta_net.specs.Members.{StandsAs, alone, turn_of}
use Rattle.tta_net.proofs.Together.{HasTurned, later, still_loaded, still_fed, counts_one, still_stands, still_told, each_some, same_cluster}
use Rattle.tta_net.proofs.cluster.Cluster.turn_pure.Given as given
use Rattle.tta_net.proofs.cluster.Cluster.turn_pure.Goals.{After-turn_pure-arg-1, After-self-1}
use Rattle.tta_net.proofs.cluster.Cluster.turn_pure.Goals as goal

-- the core whose turn it is
module _ (g : given.Over) (c : After-turn_pure-arg-1 g) where
  abbrev held : HeldCluster
  held = record { members = c.self.inside.members.items; region = c.self.inside.region; rounds = c.self.inside.rounds }

  loaded : IsClusterOf c.args.cores.now held
  loaded = subst (IsClusterOf c.args.cores.now) (sym c.self.view_is) c.requires.loaded

  at : slice_get held.members c.from-k.result ≡ Some c.index_mut-member.result.now
  at = slice_get_read held.members (length held.members) c.from-k.result c.index_mut-member.result.now refl (omega (arith, loaded.count, c.requires.core, c.from-k.ensures)) c.index_mut-member.ensures.value

  core_at : slice_get c.args.cores.now c.from-k.result ≡ Some c.index-cores-k.result
  core_at = slice_get_read c.args.cores.now (length c.args.cores.now) c.from-k.result c.index-cores-k.result refl (omega (arith, c.requires.core, c.from-k.ensures)) c.index-cores-k.is

  has_room : c.index_mut-member.result.now.state.cycle < c.index_mut-member.result.now.output.room
  has_room =
      let room = loaded.rooms c.from-k.result c.index_mut-member.result.now at in
      let made : made_by held c.from-k.result ≡ c.index_mut-member.result.now.state.cycle = ap (λ o. option_map_or (λ m. m.state.cycle) o 0) at in
      let less : made_by held c.args.k < held.rounds = subst (λ h. made_by h c.args.k < h.rounds) (sym c.self.view_is) c.requires.room in
      let same : made_by held c.from-k.result ≡ made_by held c.args.k = ap (made_by held) c.from-k.ensures in
      omega (arith, room, made, less, same)

pub turn_pure-requires-clause-loaded : goal.turn_pure-requires-clause-loaded
turn_pure-requires-clause-loaded g c = (loaded g c).each c.from-k.result c.index_mut-member.result.now c.index-cores-k.result (at g c) (core_at g c)

pub turn_pure-requires-clause-room : goal.turn_pure-requires-clause-room
turn_pure-requires-clause-room g c = has_room g c

-- and what it leaves
module _ (g : given.Over) (c : After-self-1 g) where
  abbrev U : Units
  U = stated (λ v. (goal.OpUnit-dyn g v).unit_meaning v.1) c.args.units.now

  abbrev asked : After-turn_pure-arg-1 g
  asked = (goal.at.returns-clause-loaded g c).After-turn_pure-arg-1

  turned : HasTurned U c.index-cores-k.result c.index_mut-member.result.now c.turn_pure.new.self c.self.inside.region c.turn_pure.new.region
  turned = record {
    loaded = c.turn_pure.ensures.loaded;
    kept = c.turn_pure.ensures.kept;
    beside = c.turn_pure.ensures.beside;
    base = c.turn_pure.ensures.base;
    feeder = c.turn_pure.ensures.feeder;
    room = c.turn_pure.ensures.room;
    counted = c.turn_pure.ensures.counted;
  }

pub returns-clause-loaded : goal.returns-clause-loaded
returns-clause-loaded g c =
    let q = asked g c in
    still_loaded (U g c) _ _ (loaded g q) _ _ _ (at g q) (core_at g q) _ _ (turned g c)

pub returns-clause-feeds : goal.returns-clause-feeds
returns-clause-feeds g c =
    let q = asked g c in
    still_fed (U g c) _ _ (loaded g q) _ _ _ (at g q) (core_at g q) _ _ (turned g c) ∙ ap feeds_of c.self.view_is

pub returns-clause-counted : goal.returns-clause-counted
returns-clause-counted g c = λ j.
    let q = asked g c in
    let new = later (U g c) _ _ (loaded g q) _ _ _ (at g q) (core_at g q) _ _ (turned g c) in
    let one = counts_one (U g c) _ _ (loaded g q) _ _ _ (at g q) (core_at g q) _ _ (turned g c) j in
    subst (λ h. made_by new j ≤ made_by h j + (if j == c.args.k then 1 else 0)) c.self.view_is
    (subst (λ (k : ℕ). made_by new j ≤ made_by (held g q) j + (if j == k then 1 else 0)) c.from-k.ensures one)

pub returns-clause-stays : goal.returns-clause-stays
returns-clause-stays g c = λ none.
    let q = asked g c in
    same_cluster (held g q) c.from-k.result _ _ _ (at g q) (c.turn_pure.ensures.waits none) (c.turn_pure.ensures.stays none) ∙ c.self.view_is

pub returns-clause-next : goal.returns-clause-next
returns-clause-next g c = λ cs stands.
    let q = asked g c in
    let cores = c.args.cores.now in
    let new = later (U g c) _ _ (loaded g q) _ _ _ (at g q) (core_at g q) _ _ (turned g c) in
    let before = subst (λ h. StandsFor cores h cs) (sym c.self.view_is) stands in
    each_some c.turn_pure.result _ (λ t is.
    let after = still_stands (U g c) _ _ (loaded g q) _ _ _ (at g q) (core_at g q) _ _ (turned g c) cs before
    (λ d input same fed. subst (λ (o : Option StepResult). IfSome o (λ _. StandsAs c.turn_pure.new.region c.index-cores-k.result c.turn_pure.new.self
    (stepped (alone (U g c) c.index-cores-k.result) 0 input d))) is (c.turn_pure.ensures.next d input same)) in
    subst (λ h. StandsFor cores new (turn (cycles (U g c) cores (feeds_of h)) cs c.args.k)) c.self.view_is
    (subst (λ (k : ℕ). StandsFor cores new (turn (cycles (U g c) cores (feeds_of (held g q))) cs k)) c.from-k.ensures after))

pub returns-clause-answer : goal.returns-clause-answer
returns-clause-answer g c = λ cs stands.
    let q = asked g c in
    let cores = c.args.cores.now in
    let before = subst (λ h. StandsFor cores h cs) (sym c.self.view_is) stands in
    each_some c.turn_pure.result _ (λ t is.
    let told = still_told (U g c) _ _ (loaded g q) _ _ _ (at g q) (core_at g q) _ _ (turned g c) cs before t
    (λ d input same fed. subst (λ (o : Option StepResult). IfSome o (λ t. t ≡ turn_of d.state (after_step (alone (U g c) c.index-cores-k.result) 0 input d))) is
    (c.turn_pure.ensures.answer d input same)) in
    told ∙ ap (λ (k : ℕ). told_at (cycles (U g c) cores (feeds_of (held g q))) cs k) c.from-k.ensures
    ∙ ap (λ h. told_at (cycles (U g c) cores (feeds_of h)) cs c.args.k) c.self.view_is)

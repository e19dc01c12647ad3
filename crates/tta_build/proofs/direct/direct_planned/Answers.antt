use Rattle.std.proofs.Common.{◌≡◌, true, List, sym, subst}
use Rattle.std.specs.List.{list_all}
use Rattle.tta_build.specs.Cited.{BlockList, is_list, AreFirstFits, AreRoomy}
use Rattle.tta_build.proofs.Directs.{are_lists, direct_lists}
use Rattle.tta_build.proofs.direct.direct_planned.Goals as goal

pub place_all-requires : goal.place_all-requires
place_all-requires c =
    let m = c.args.on.now.machine.now in
    let p = c.args.p.now in
    record {
      lists = subst (λ (l : List BlockList). list_all (λ (b : BlockList). is_list m b.items) l ≡ true) (sym c.as_slice.ensures.value)
          (are_lists m p c.in_ok-selected.selected.items c.requires.machine c.requires.program c.requires.direct
          (direct_lists m p c.args.lowered.now c.requires.program c.requires.direct c.requires.lowered c.in_ok-selected.selected.items c.in_ok-selected.ensures.one));
    }

pub returns : goal.returns
returns c =
    let m = c.args.on.now.machine.now in
    let p = c.args.p.now in record {
      selected = (direct_lists m p c.args.lowered.now c.requires.program c.requires.direct c.requires.lowered c.in_ok-selected.selected.items c.in_ok-selected.ensures.one).are;
      trails = c.new.ensures.items;
      first = subst (λ (l : List BlockList). AreFirstFits m l c.in_ok-placed.placed.items) c.as_slice.ensures.value c.in_ok-placed.ensures.first;
      roomy = subst (λ (l : List BlockList). AreRoomy m l c.in_ok-placed.placed.items) c.as_slice.ensures.value c.in_ok-placed.ensures.roomy;
    }

use Rattle.std.proofs.Common.{◌≡◌, ℕ, List, ◌++◌, ap, ◌∙◌}
use Rattle.std.specs.List.{flat_map, enumerate_from}
use Rattle.tta_list.proofs.Lists.{then_more}
use Rattle.tta_wiring.specs.Queues.{queue_text}
use Rattle.tta_wiring.specs.Top.{top_text}
use Rattle.tta_wiring.specs.declared.part.Ends.{Ends}
use Rattle.tta_netlist.specs.Net.{ends_of}
use Rattle.tta_netlist.proofs.net.write_net.Goals as goal

pub returns : goal.returns
returns g c =
    let feeds = c.args.net.now.feeds.now in
    let queues = flat_map queue_text (enumerate_from 0 c.args.net.now.depths.now) in
    let ends : c.as_slice-2.result.now ≡ ends_of c.args.cores.items =
    c.as_slice-2.ensures.value ∙ c.in_ok-ends.ensures ∙ ap ends_of c.as_slice.ensures.value in
    let top : c.push_top.new.out.items ≡ top_text (ends_of c.args.cores.items) feeds =
    c.in_ok-push_top.ensures ∙ ap (λ (l : List ℕ). l ++ top_text c.as_slice-2.result.now feeds) c.new-out.ensures.items
    ∙ ap (λ (l : List Ends). top_text l feeds) ends in
    then_more (top_text (ends_of c.args.cores.items) feeds) _ _ queues _
    (c.in_ok-push_queues.ensures ∙ ap (λ (l : List ℕ). l ++ queues) top) c.in_ok-push_modules.ensures

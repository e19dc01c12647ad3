use Rattle.std.proofs.Common.{◌≡◌, ℕ, ◌++◌, ap, subst}
use Rattle.std.specs.Prelude.{codes, OnOk}
use Rattle.tta_draw.specs.Cited.{Machine}
use Rattle.tta_draw.specs.MachinePicture.{spaces_text, space_text}
use Rattle.tta_draw.proofs.machine_picture.push_spaces.Goals as goal
use Rattle.tta_list.proofs.Lists.{then_more}
use Rattle.tta_list.proofs.Results.{onward}

pub returns : goal.returns
unfolding spaces_text
returns c =
    let m = c.args.m.now in
    let frame = space_text 1 (codes "frame words ") m.frame_words in
    let first = subst (λ (n : ℕ). c.push_space.new.out.items ≡ c.args.out.now.items ++ space_text 0 (codes "data words ") n)
    (ap (λ (x : Machine). x.data_words) c.m.view_is) c.in_ok-push_space.ensures in
    let second = subst (λ (n : ℕ). OnOk c.push_space-2.result (c.push_space-2.new.out.items ≡ c.push_space.new.out.items ++ space_text 1 (codes "frame words ") n))
    (ap (λ (x : Machine). x.frame_words) c.m.view_is) c.push_space-2.ensures in
    onward c.push_space-2.result (λ last. then_more _ _ _ (space_text 0 (codes "data words ") m.data_words) frame first last) second

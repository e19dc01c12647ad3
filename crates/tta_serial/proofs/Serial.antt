-- Serial placements respect their lists, so what holds of all placements holds of them.
use Rattle.tta_arch.specs.Machine.{Machine}
use Rattle.tta_arch.specs.Rules.{IsMachine}
use Rattle.std.proofs.Common.{List, [], ◌∷◌}
use Rattle.tta_moves.specs.declared.items.BlockList.{BlockList}
use Rattle.tta_moves.specs.declared.items.Placed.{Placed}
use Rattle.tta_sched.proofs.Ones.{serial_respects}
use Rattle.tta_compiler_laws.specs.Direct.{list_of_direct}
use Rattle.tta_compiler_laws.specs.Linking.{AreRespected}
use Rattle.tta_compiler_laws.proofs.Linking.{lists_link, lists_agree}
use Rattle.tta_compiler_laws.proofs.Directly.{direct_links, direct_agrees}
use Rattle.tta_serial.specs.Laws.{AreSerial, SerialAgrees, SerialDirectAgrees}

-- serial placements respect their lists
are_respected : (m : Machine) (lists : List BlockList) (ps : List Placed) → IsMachine m → AreSerial m lists ps → AreRespected m lists ps
are_respected m lists ps rules are = record {
  count = are.count;
  respects = λ k b p at placed. serial_respects m rules b.items p (are.serial k b p at placed);
}

pub serial_agrees : SerialAgrees
serial_agrees u m c p known lists ps pair is_known stand are =
    let respected = are_respected m lists ps pair.machine are in
    record {
      links = lists_link u m c p known lists ps pair is_known stand respected;
      agrees = λ whole linked legal laid. lists_agree u m c p known lists ps whole pair is_known stand respected linked legal laid;
    }

pub serial_direct_agrees : SerialDirectAgrees
serial_direct_agrees u m p machine rules direct blocks l h flow live allotted ps are =
    let respected = are_respected m (list_of_direct m p ∷ []) ps machine are in
    record {
      links = direct_links m p ps respected;
      agrees = λ whole linked legal laid.
          direct_agrees u m p machine rules direct blocks l h flow live allotted ps whole respected linked legal laid;
    }

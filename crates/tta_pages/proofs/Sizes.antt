-- How long the fixed text of a page that plays a run is.
use Rattle.std.proofs.Common.{◌≤◌, length, refl}
use Rattle.std.proofs.lemmas.Bool.{leb-true}
use Rattle.tta_pages.specs.RunPieces.{run_head_text, run_style_text, run_looks_text, run_picture_looks_text, run_body_text, run_sections_text, run_middle_text}
use Rattle.tta_pages.specs.CommonPieces.{style_text, tints_text, open_script_text, fit_text, parts_text, stages_text, code_readers_text, follow_text, passes_text, end_text}
use Rattle.tta_pages.specs.JoinsPieces.{places_text, joins_text, moves_text, all_joins_text}
use Rattle.tta_pages.specs.RunStatesPieces.{run_reading_text, run_origins_text, run_lines_text, run_moves_text, run_words_text}
use Rattle.tta_pages.specs.RunCodePieces.{run_code_text, run_where_text, run_acts_text, run_program_text, run_source_text, run_variables_text}
use Rattle.tta_pages.specs.RunPicturePieces.{run_picture_places_text, run_picture_parts_text, run_picture_machine_text, run_picture_moves_text, run_picture_acts_text}
use Rattle.tta_pages.specs.RunShowPieces.{run_state_text, run_cells_text, run_loads_text, run_span_text, run_show_text, run_playing_text, run_buttons_text}
use Rattle.tta_pages.specs.Pages.{run_head, run_tail, shared_style, run_styles, reading_script, joining_script, run_script, states_script, code_script, picture_script, words_script, show_script}

-- before the text of stages
pub small_head : length run_head ≤ 32768
unfolding run_head run_styles shared_style run_head_text style_text tints_text run_style_text run_looks_text run_picture_looks_text run_body_text run_sections_text
small_head = leb-true (length run_head) 32768 refl

-- between the two
pub small_middle : length run_middle_text ≤ 1024
unfolding run_middle_text
small_middle = leb-true (length run_middle_text) 1024 refl

-- behind the data
pub small_tail : length run_tail ≤ 65536
unfolding run_tail reading_script joining_script run_script states_script code_script picture_script words_script show_script open_script_text fit_text parts_text stages_text code_readers_text follow_text passes_text places_text joins_text moves_text all_joins_text run_reading_text run_origins_text run_lines_text run_moves_text run_words_text run_code_text run_where_text run_acts_text run_program_text run_source_text run_variables_text run_picture_places_text run_picture_parts_text run_picture_machine_text run_picture_moves_text run_picture_acts_text run_state_text run_cells_text run_loads_text run_span_text run_show_text run_playing_text run_buttons_text end_text
small_tail = leb-true (length run_tail) 65536 refl

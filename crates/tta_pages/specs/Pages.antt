-- What pages are: fixed text, and between it the data that its script shows. The data stand in elements that a browser does not look into up to
-- their end; that begins with a mark that no text of names, numbers and moves has, so data never end early.
use Rattle.std.specs.Prelude.{ℕ, List, ◌++◌}
use Rattle.tta_pages.specs.CommonPieces.{style_text, tints_text, fit_text, parts_text, stages_text, code_readers_text, follow_text, passes_text, open_script_text, end_text}
use Rattle.tta_pages.specs.JoinsPieces.{places_text, joins_text, moves_text, all_joins_text}
use Rattle.tta_pages.specs.StagesPieces.{stages_head_text, stages_own_style_text, stages_body_text, stages_columns_text, stages_cells_text, stages_bands_text, stages_homes_text, stages_marks_text, stages_mark_text, stages_keys_text}
use Rattle.tta_pages.specs.RunPieces.{run_head_text, run_style_text, run_looks_text, run_picture_looks_text, run_body_text, run_sections_text}
use Rattle.tta_pages.specs.RunStatesPieces.{run_reading_text, run_origins_text, run_lines_text, run_moves_text, run_words_text}
use Rattle.tta_pages.specs.RunCodePieces.{run_code_text, run_where_text, run_acts_text, run_program_text, run_source_text, run_variables_text}
use Rattle.tta_pages.specs.RunPicturePieces.{run_picture_places_text, run_picture_parts_text, run_picture_machine_text, run_picture_moves_text, run_picture_acts_text}
use Rattle.tta_pages.specs.RunShowPieces.{run_state_text, run_cells_text, run_loads_text, run_span_text, run_show_text, run_playing_text, run_buttons_text}

-- ---- what pages share

-- the style that pages share
unfoldable pub shared_style : List ℕ
shared_style = style_text ++ tints_text

-- the script that reads the text of stages, and follows moves through the passes
unfoldable pub reading_script : List ℕ
reading_script = fit_text ++ (parts_text ++ (stages_text ++ (code_readers_text ++ (follow_text ++ passes_text))))

-- the script that joins what belongs together: lines, register code, moves and cycles
unfoldable pub joining_script : List ℕ
joining_script = places_text ++ (joins_text ++ (moves_text ++ all_joins_text))

-- ---- a page of the stages of a program

-- what stands before the text of stages
unfoldable pub stages_head : List ℕ
stages_head = stages_head_text ++ (shared_style ++ (stages_own_style_text ++ stages_body_text))

-- the script that shows stages
unfoldable pub stages_script : List ℕ
stages_script = stages_columns_text ++ (stages_cells_text ++ (stages_bands_text ++ stages_homes_text))

-- the script that marks what became of a line
unfoldable pub marks_script : List ℕ
marks_script = stages_marks_text ++ (stages_mark_text ++ stages_keys_text)

-- what stands behind the text of stages
unfoldable pub stages_tail : List ℕ
stages_tail = open_script_text ++ (reading_script ++ (joining_script ++ (stages_script ++ (marks_script ++ end_text))))

-- The page that shows a text of stages.
unfoldable pub stages_page : (told : List ℕ) → List ℕ
stages_page told = stages_head ++ (told ++ stages_tail)

-- ---- a page that plays a run

-- the style of such a page
unfoldable pub run_styles : List ℕ
run_styles = shared_style ++ (run_style_text ++ (run_looks_text ++ run_picture_looks_text))

-- what stands before the text of the stages of the program that is run
unfoldable pub run_head : List ℕ
run_head = run_head_text ++ (run_styles ++ (run_body_text ++ run_sections_text))

-- the script that reads the states of a run
unfoldable pub states_script : List ℕ
states_script =
    run_reading_text ++ (run_origins_text ++ (run_lines_text ++ (run_moves_text ++ run_words_text)))

-- the script that shows where a state is in the code and in the program
unfoldable pub code_script : List ℕ
code_script =
    run_code_text ++ (run_where_text ++ (run_acts_text ++ (run_program_text ++ (run_source_text ++ run_variables_text))))

-- the script that draws the machine, and on it the moves of a state
unfoldable pub picture_script : List ℕ
picture_script =
    run_picture_places_text
    ++ (run_picture_parts_text ++ (run_picture_machine_text ++ (run_picture_moves_text ++ run_picture_acts_text)))

-- the script that shows the words of a state
unfoldable pub words_script : List ℕ
words_script = run_state_text ++ (run_cells_text ++ run_loads_text)

-- the script that shows a state, and goes from one to another
unfoldable pub show_script : List ℕ
show_script = run_span_text ++ (run_show_text ++ (run_playing_text ++ run_buttons_text))

-- the script of such a page alone
unfoldable pub run_script : List ℕ
run_script = states_script ++ (code_script ++ (picture_script ++ (words_script ++ show_script)))

-- what stands behind the data of a run
unfoldable pub run_tail : List ℕ
run_tail = open_script_text ++ (reading_script ++ (joining_script ++ (run_script ++ end_text)))

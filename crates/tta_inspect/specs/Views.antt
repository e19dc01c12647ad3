-- What is shown of a machine, and of code with data for it.
use Rattle.std.specs.Prelude.{ℕ, List, [], replicate}
use Rattle.tta_inspect.specs.Cited.{Units, Whole, picture_of_machine, info_of_machine, info_of_image, cost_text, circuit_with, MachineFile}
use Rattle.tta_inspect.specs.declared.view.View.{View}
use Rattle.tta_inspect.specs.declared.view.View.TheVariants.{Picture, Info, Cost}

-- the text of a view of a machine
abbrev pub machine_view : Units → View → MachineFile → List ℕ
machine_view u Picture file = picture_of_machine u file.machine
machine_view u Info file = info_of_machine file.machine
machine_view u Cost file = cost_text u file.machine (circuit_with file.machine [] (replicate file.machine.data_words 0))

-- what is told of code with data
abbrev pub told_of : MachineFile → Whole → List ℕ
told_of file whole = info_of_image file.machine file.digest whole

-- What a machine has once, and which operations serve it.
use Rattle.std.specs.Prelude.{◌<◌, Bool, length}
use Rattle.tta_machine.specs.Cited.{Units, Op, Set, is_data_op, is_frame_op, is_stream_op}
use Rattle.tta_machine.specs.declared.services.Service.{Service}
use Rattle.tta_machine.specs.declared.services.Service.TheVariants.{Data, Frame, Streams}

-- whether an operation serves the data space, the frame space, or the input and the output
abbrev pub serves : Service → Op → Bool
serves Data o = is_data_op o
serves Frame o = is_frame_op o
serves Streams o = is_stream_op o

-- an operation of the set of units is one that the units offer
abbrev pub IsOffered : Units → Op → Type 0
IsOffered u (Set id) = id.0 < length u.names
IsOffered u o = Unit {0}

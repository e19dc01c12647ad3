-- The text of a queue as a module.
use Rattle.std.specs.Prelude.{ℕ, false, List, [], ◌++◌, codes, decimal}
use Rattle.tta_queue.specs.Queue.{Pin, InValid, InData, OutReady, IsReset, Head, Tail, Fill, InReady, OutValid, OutData, Takes, Gives, NextHead, Passes, Store, queue_of}
use Rattle.tta_verilog.specs.Expressions.{Names}
use Rattle.tta_verilog.specs.Circuits.{parts_text}

-- what is called by a number, too
unfoldable pub numbered : (what : List ℕ) → (n : ℕ) → List ℕ
numbered what n = what ++ decimal n

-- what the signals of a queue are called; the inputs are called as the ports
abbrev pub pin_name : Pin → List ℕ
pin_name InValid = codes "in_valid"
pin_name InData = codes "in_data"
pin_name OutReady = codes "out_ready"
pin_name IsReset = codes "reset"
pin_name Head = codes "head"
pin_name Tail = codes "tail"
pin_name Fill = codes "fill"
pin_name InReady = codes "has_room"
pin_name OutValid = codes "has_word"
pin_name OutData = codes "first"
pin_name Takes = codes "takes"
pin_name Gives = codes "gives"
pin_name NextHead = codes "next_head"
pin_name Passes = codes "passes"

-- all names of a queue
abbrev pub pin_names : Names Pin Store
pin_names = record { signal = pin_name; memory = λ m. codes "words"; is_constant = λ m. false; op = λ op. [] }

-- the ports of a queue of words of 32 bits
abbrev pub queue_ports : List ℕ
queue_ports =
    codes " (clk, reset, in_valid, in_data, in_ready, out_valid, out_data, out_ready);\ninput clk;\ninput [0:0] reset;\n"
    ++ (codes "input [0:0] in_valid;\ninput [31:0] in_data;\noutput [0:0] in_ready;\n"
    ++ codes "output [0:0] out_valid;\noutput [31:0] out_data;\ninput [0:0] out_ready;\ninteger k;\n")

-- what its ports show
abbrev pub queue_shown : List ℕ
queue_shown = codes "assign in_ready = has_room;\nassign out_valid = has_word;\nassign out_data = first;\nendmodule\n"

-- the parts of the circuit of a queue of 2^k words
abbrev pub queue_parts : (k : ℕ) → List ℕ
queue_parts k = parts_text pin_names [] (queue_of k 32)

-- The queue of 2^k words before a core, as a module.
unfoldable pub queue_text : ℕ × ℕ → List ℕ
queue_text q = codes "module " ++ (numbered (codes "tta_queue_") q.0 ++ (queue_ports ++ (queue_parts q.1 ++ queue_shown)))

-- The lines above the text of a circuit, which tell what it is made of, and its whole text.
use Rattle.std.specs.Prelude.{◌≡◌, ℕ, ◌^◌, Bool, if◌then◌else◌, List, [], ◌++◌, length, codes, decimal}
use Rattle.hex.specs.Hex.{encode_lower}
use Rattle.sha2.specs.Sha256.{sha256}
use Rattle.tta_ops.specs.Units.{Units}
use Rattle.tta_arch.specs.Fields.{word_width}
use Rattle.tta_arch.specs.Machine.{Machine}
use Rattle.tta_arch.specs.declared.parts.Op.TheVariants.{Out, Take}
use Rattle.tta_code.specs.Whole.{Whole}
use Rattle.tta_image.specs.Image.{Image}
use Rattle.tta_rtl.specs.declared.rom.Rom.{Rom}
use Rattle.tta_rtl.specs.declared.rom.Rom.TheVariants as rom
use Rattle.tta_rtl.specs.CodeFile.{code_file}
use Rattle.tta_rtl.specs.Module.{offers, rtl_of}
use Rattle.tta_trap_rtl.specs.Module.{trap_rtl_of}
use Rattle.tta_boxed_rtl.specs.Module.{boxed_rtl_of}
use Rattle.tta_header.specs.declared.features.Features.{Features}

-- ---- the lines

-- the machine, by the digest of its text
unfoldable pub machine_line : (digest : List ℕ) → List ℕ
machine_line digest = codes "// machine: sha256 " ++ (encode_lower digest ++ codes "\n")

-- the image, by the digest of its bytes
unfoldable pub image_line : (image : List ℕ) → List ℕ
image_line image = codes "// image: sha256 " ++ (encode_lower (sha256 image) ++ codes "\n")

-- how many instructions the code has, and how many bits each
unfoldable pub code_line : (words width : ℕ) → List ℕ
code_line words width = codes "// code: " ++ (decimal words ++ (codes " instructions of " ++ (decimal width ++ codes " bits\n")))

-- that a file has the words of the code: how many, and how many bits each
unfoldable pub file_line : (size width : ℕ) → List ℕ
file_line size width = codes "// code: " ++ (decimal size ++ (codes " words of " ++ (decimal width ++ codes " bits in code.hex\n")))

-- the ports that the module has: that of faults where it tells them
unfoldable pub ports_line : (faults gives takes : Bool) → List ℕ
ports_line faults gives takes =
    codes "// ports: clk, reset, halted, cycle, pc" ++ ((if faults then codes ", fault" else [])
    ++ ((if gives then codes ", out_valid, out_data, out_ready" else [])
    ++ ((if takes then codes ", in_valid, in_data, in_ready" else []) ++ codes "\n")))

-- ---- above a text

-- the machine, the image and its code
abbrev pub image_lines : Machine → (digest image : List ℕ) → Whole → List ℕ
image_lines m digest image whole =
    machine_line digest ++ (image_line image ++ code_line (length whole.code.words) (word_width m))

-- the machine, and that a file has the words of the code, one for each address
abbrev pub file_lines : Machine → (digest : List ℕ) → List ℕ
file_lines m digest = machine_line digest ++ file_line (2 ^ m.control.address) (word_width m)

-- What a module is made of. One that takes its code from a file is made for any code, or where it tells faults, for any of so many
-- instructions: past the last of them is a fault.
abbrev pub source_lines : Machine → (digest : List ℕ) → Rom → (faults : Bool) → (image : List ℕ) → Whole → List ℕ
source_lines m digest rom.Text faults image whole = image_lines m digest image whole
source_lines m digest rom.File faults image whole =
    file_lines m digest ++ (if faults then code_line (length whole.code.words) (word_width m) else [])

-- a module that does these things
abbrev pub module_of : Units → Machine → Rom → Features → Whole → List ℕ
module_of u m r features whole =
    if features.modules then boxed_rtl_of u m r features.faults whole
    else if features.faults then trap_rtl_of u m r whole
    else rtl_of u m r whole

-- the circuit of a machine with code and data as a module, with what it is made of and its ports above it
abbrev pub headed_rtl : Units → Machine → (digest : List ℕ) → Rom → Features → (image : List ℕ) → Whole → List ℕ
headed_rtl u m digest r features image whole =
    source_lines m digest r features.faults image whole
    ++ (ports_line features.faults (offers m Out) (offers m Take) ++ module_of u m r features whole)

-- the file of the words of code, with what it is made of above them
abbrev pub headed_file : Machine → (digest image : List ℕ) → Whole → List ℕ
headed_file m digest image whole = image_lines m digest image whole ++ code_file m whole

-- A text that tells the image of code with data for a machine.
pub record TellsImage (m : Machine) (digest : List ℕ) (whole : Whole) (Is : (image : List ℕ) → List ℕ) (text : List ℕ) : Type 0 where
  pub image : List ℕ
  pub image_is : Image m digest whole image
  pub is : text ≡ Is image

-- The text of the elements that a picture is made of.
use Rattle.std.specs.Prelude.{ℕ, List, ◌++◌, codes, decimal}
use Rattle.tta_draw.specs.declared.frame.Frame.{Frame}
use Rattle.tta_draw.specs.declared.frame.Spot.{Spot}

-- an attribute: its name with the marks around it, and its number
unfoldable pub attribute : (name : List ℕ) → ℕ → List ℕ
attribute name n = name ++ (decimal n ++ codes "\"")

-- the attributes of a size
unfoldable pub size_text : (width height : ℕ) → List ℕ
size_text width height = attribute (codes " width=\"") width ++ attribute (codes " height=\"") height

-- the attributes of a frame
unfoldable pub frame_text : Frame → List ℕ
frame_text f = attribute (codes " x=\"") f.x ++ (attribute (codes " y=\"") f.y ++ size_text f.width f.height)

-- a filled box of a class
unfoldable pub box_text : (class : List ℕ) → Frame → List ℕ
box_text class f = codes "<rect class=\"" ++ (class ++ (codes "\"" ++ (frame_text f ++ codes "/>\n")))

-- the attributes of a centre
unfoldable pub centre_text : (x y : ℕ) → List ℕ
centre_text x y = attribute (codes " cx=\"") x ++ attribute (codes " cy=\"") y

-- how a dot of a class begins
unfoldable pub circle_text : (class : List ℕ) → List ℕ
circle_text class = codes "<circle class=\"" ++ (class ++ codes "\"")

-- a dot of a class, by its centre
unfoldable pub dot_text : (class : List ℕ) → (x y : ℕ) → List ℕ
dot_text class x y = circle_text class ++ (centre_text x y ++ codes " r=\"4\"/>\n")

-- the attributes of a spot
unfoldable pub spot_text : Spot → List ℕ
spot_text p = attribute (codes " x=\"") p.x ++ attribute (codes " y=\"") p.y

-- what stands before the text of a label
unfoldable pub label_start : (class : List ℕ) → Spot → List ℕ
label_start class p = codes "<text class=\"" ++ (class ++ (codes "\"" ++ (spot_text p ++ codes ">")))

-- what stands after it
abbrev pub label_end : List ℕ
label_end = codes "</text>\n"

-- a label of a class: a text that begins at a spot. Nothing cuts it off.
abbrev pub label_text : (class : List ℕ) → Spot → (text : List ℕ) → List ℕ
label_text class p text = label_start class p ++ (text ++ label_end)

-- a label of a name and a number
abbrev pub count_text : (class : List ℕ) → Spot → (name : List ℕ) → ℕ → List ℕ
count_text class p name n = label_text class p (name ++ decimal n)

-- a spot by how far to the right and how low it is
abbrev pub spot : (x y : ℕ) → Spot
spot x y = record { x = x; y = y }

-- a frame by its left upper corner and its size
abbrev pub frame : (x y width height : ℕ) → Frame
frame x y width height = record { x = x; y = y; width = width; height = height }

-- two numbers with a blank between
unfoldable pub pair_text : (first second : ℕ) → List ℕ
pair_text first second = decimal first ++ (codes " " ++ decimal second)

-- the tip of an arrow of a class, which points to the right, by its point
unfoldable pub tip_text : (class : List ℕ) → (x y : ℕ) → List ℕ
tip_text class x y = codes "<path class=\"" ++ (class ++ (codes "\" d=\"M" ++ (pair_text x y ++ codes "l-8-4v8z\"/>\n")))

-- that the measures of a picture of some size are its own
unfoldable pub measures_text : (width height : ℕ) → List ℕ
measures_text width height = codes " viewBox=\"0 0 " ++ (pair_text width height ++ codes "\"")

-- the attributes of its size
unfoldable pub view_text : (width height : ℕ) → List ℕ
view_text width height = size_text width height ++ measures_text width height

-- the look of each class
unfoldable pub style_text : List ℕ
style_text =
    codes "<style>\n.ground{fill:#fff}text{font:11px monospace;fill:#1f2933}.title{font-weight:bold}.note{fill:#616e7c}.port{fill:#616e7c;text-anchor:middle}.remark{fill:#2c5282}\n.bus{fill:#3e4c59}.part{fill:#f5f7fa;stroke:#9aa5b1}.in{fill:#2b6cb0}.out{fill:#c05621}.takes{fill:#7b8794}\n.row{fill:#000;opacity:.1}.slot{fill:#fff0ed}.move{fill:#edf1f5}.control{fill:#fbc4bb}.taken{fill:#d9dfe6}.long{fill:#d9dfe6}.arrow{fill:#7b8794}\n.u0{fill:#dbeafe}.u1{fill:#fef3c7}.u2{fill:#d1fae5}.u3{fill:#fce7f3}.u4{fill:#e9d8fd}.u5{fill:#ffe4cc}\n.b0{fill:#3b82f6}.b1{fill:#d69e2e}.b2{fill:#38a169}.b3{fill:#d53f8c}.b4{fill:#805ad5}.b5{fill:#dd6b20}</style>\n"

-- how a picture of some size begins: its frame, the look of each class, and a white ground
unfoldable pub head_text : (width height : ℕ) → List ℕ
head_text width height =
    codes "<svg xmlns=\"http://www.w3.org/2000/svg\"" ++ (view_text width height ++ (codes ">\n" ++ (style_text ++ box_text (codes "ground") (frame 0 0 width height))))

-- how it ends
abbrev pub tail_text : List ℕ
tail_text = codes "</svg>\n"

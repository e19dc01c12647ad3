-- In which lane an arrow or a bar stands, so that those that pass one row stand side by side, and which rows have labels.
use Rattle.std.specs.Prelude.{ℕ, zero, suc, ◌+◌, ◌-◌, ◌==◌, Bool, not, ◌||◌, nat_lt, min, max, if◌then◌else◌, List, [], ◌∷◌, ◌++◌}
use Rattle.std.specs.List.{list_all, list_any}
use Rattle.tta_draw.specs.declared.span.Span.{Span}
use Rattle.tta_draw.specs.declared.span.Laid.{Laid}

-- the highest row of a span
abbrev pub top_row : Span → ℕ
top_row s = min s.from s.to

-- and its lowest
abbrev pub bottom_row : Span → ℕ
bottom_row s = max s.from s.to

-- whether each span of a lane ends above a row
abbrev pub is_free : List Laid → (lane row : ℕ) → Bool
is_free laid lane row = list_all (λ l. not (l.lane == lane) || nat_lt (bottom_row l.span) row) laid

-- the first of so many lanes that is free, from a lane on; the one after them where none is
abbrev pub first_lane : (free : ℕ → Bool) → (left lane : ℕ) → ℕ
first_lane free zero lane = lane
first_lane free (suc left) lane = if free lane then lane else first_lane free left (lane + 1)

-- the lane of the next span: the first of so many in which each span before it ends above it, and the last where there is none
abbrev pub lane_of : (lanes : ℕ) → List Laid → Span → ℕ
lane_of lanes laid s = first_lane (λ lane. is_free laid lane (top_row s)) (lanes - 1) 0

-- spans in lanes, and each further one in the next
abbrev pub with_spans : (lanes : ℕ) → List Laid → List Span → List Laid
with_spans lanes laid [] = laid
with_spans lanes laid (s ∷ ss) = with_spans lanes (laid ++ record { span = s; lane = lane_of lanes laid s } ∷ []) ss

-- spans in so many lanes, in their order
abbrev pub laid_in : (lanes : ℕ) → List Span → List Laid
laid_in lanes spans = with_spans lanes [] spans

-- whether a row has a label: the first, and each that an arrow leads to
abbrev pub has_label : List Span → (row : ℕ) → Bool
has_label spans row = row == 0 || list_any (λ s. s.to == row) spans

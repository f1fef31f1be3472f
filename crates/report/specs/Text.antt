-- The text that is printed of a chart: its size, the verdict, and the first states of a walk.
-- Assumes nothing.
use Rattle.std.specs.Prelude.{ℕ, zero, suc, Bool, true, false, List, [], ◌∷◌, ◌++◌, codes, decimal}
use Rattle.hierarchy.specs.Meaning.{Meaning}
use Rattle.hierarchy.specs.Flat.{State, at, within}
use Rattle.walk.specs.declared.frame.Frame.{Frame}
use Rattle.walk.specs.Shown.{mark_of}
use Rattle.walk.specs.Walks.{shown, walk}
use Rattle.walk.specs.Steps.{guide_home}
use Rattle.guide.specs.declared.GuideRecord.{GuideRecord}

abbrev pub line_feed : List ℕ
line_feed = 10 ∷ []

-- the numbers of a state, boxes first, with dots between
abbrev pub numbers_text : State → List ℕ
numbers_text (at n) = decimal n
numbers_text (within b s) = decimal b ++ (46 ∷ numbers_text s)

-- the boxes at which frames stand, with a dot behind each
abbrev pub dotted : List Frame → List ℕ
dotted [] = []
dotted (f ∷ fs) = decimal f.place ++ (46 ∷ dotted fs)

-- a star for a mark
abbrev pub star_text : Bool → List ℕ
star_text true = 42 ∷ []
star_text false = []

abbrev pub state_line : Meaning → State → List ℕ
state_line m s = numbers_text s ++ (star_text (mark_of m s) ++ line_feed)

-- the state that the walk by a guide shows after n steps
abbrev pub walk_state : Meaning → List GuideRecord → ℕ → ℕ → State
walk_state m guide home n = shown (walk m (guide_home m guide home) n)

-- the lines of the first n states of a run
unfoldable pub run_lines : Meaning → (ℕ → State) → ℕ → List ℕ
run_lines m states zero = []
run_lines m states (suc n) = run_lines m states n ++ state_line m (states n)

abbrev pub size_line : ℕ → ℕ → List ℕ
size_line structures places = codes "size " ++ (decimal structures ++ (32 ∷ (decimal places ++ line_feed)))

abbrev pub yes_no : Bool → List ℕ
yes_no true = codes "yes"
yes_no false = codes "no"

abbrev pub answer_line : List ℕ → Bool → List ℕ
answer_line name answer = name ++ (yes_no answer ++ line_feed)

-- size and verdict
abbrev pub head_text : ℕ → ℕ → Bool → Bool → List ℕ
head_text structures places reach recur = size_line structures places ++ (answer_line (codes "reach ") reach ++ answer_line (codes "recur ") recur)

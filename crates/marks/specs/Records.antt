-- The record of an evening, as it is printed. Assumes nothing.
use Rattle.std.specs.Prelude.{◌≡◌, ℕ, zero, suc, List, [], ◌++◌, ◌+◌, ◌-◌, ◌^◌, length, min, Some, None, Ok, Err, string_bytes, codes, decimal, Result, String, slice_index_or}
use Rattle.std.specs.declared.alloc.Global.{Global}
use Rattle.watch.specs.Exactly.{Exactly}
use Rattle.watch.specs.Following.{Stray, AppearsBy, stand}
use Rattle.watch.specs.Letters.{letter_count}
use Rattle.watch.specs.Marks.{Has}
use Rattle.watch.specs.MarkTexts.{marks_text}
use Rattle.watch.specs.Runs.{Run, Continues, passed}
use Rattle.watch.specs.Watchers.{Watching}
use Rattle.watch.specs.declared.following.Passed.{Passed}
use Rattle.marks.specs.declared.record.Fault.{Fault}
use Rattle.marks.specs.declared.record.Fault.TheVariants.{Letter, Memory}

-- The line of a step: the state after it, and the marks that this state shows.
abbrev pub step_line : ℕ → Passed → List ℕ
step_line step p =
    codes "step " ++ (decimal step ++ (codes ": state " ++ (decimal p.state ++ (codes ", marks " ++ (marks_text p.shown.bits ++ codes "\n")))))

-- The last line: the marks that appeared.
abbrev pub last_line : ℕ → List ℕ
last_line set = codes "appeared: " ++ (marks_text set ++ codes "\n")

-- The lines of the first n steps of a run.
abbrev pub run_lines : Watching → Run → ℕ → List ℕ
run_lines w r zero = []
run_lines w r (suc n) = run_lines w r n ++ step_line n (stand w r (suc n))

-- The record of the first n steps of a run.
abbrev pub run_record : Watching → Run → ℕ → List ℕ
run_record w r n = run_lines w r n ++ last_line (w.shown (passed w r n))

-- The text is the record of every run that begins with the letters, and the marks in its last line are exactly those
-- that appeared in these steps. A letter beyond the alphabet is refused at its place, with how many letters there are,
-- and want of memory is said only where there is none.
abbrev pub Records : Watching → List ℕ → Result (String Global) Fault → Type 0
Records w letters (Ok text) =
    Stray (letter_count w.events) letters None
    × ((r : Run) → Continues letters r → string_bytes text ≡ run_record w r (length letters))
    × ((r : Run) → Continues letters r → (i : ℕ) → Exactly (Has i (w.shown (passed w r (length letters)))) (AppearsBy w r (length letters) i))
Records w letters (Err (Letter place count)) =
    Stray (letter_count w.events) letters (Some place) × (count ≡ letter_count w.events)
Records w letters (Err Memory) = Stray (letter_count w.events) letters None

-- How a fault is said. Lines are counted from 1, as far as the numbers go.
abbrev pub fault_text : Fault → List ℕ
fault_text (Letter place count) =
    codes "standard input: line " ++ (decimal (min (place + 1) (2 ^ 64 - 1)) ++ (codes " is beyond the alphabet of " ++ (decimal count ++ codes " letters")))
fault_text Memory = codes "there is not enough memory for the text"

-- The lines of the first n entries of a list.
abbrev pub list_lines : List Passed → ℕ → List ℕ
list_lines stands zero = []
list_lines stands (suc n) = list_lines stands n ++ step_line n (slice_index_or stands n (record { state = 0; shown = record { bits = 0 } }))

-- What is written of a run of an image.
use Rattle.std.specs.Prelude.{ℕ, Bool, List, [], ◌∷◌, ◌++◌, Option, Some, None, codes, slice_get, if◌then◌else◌}
use Rattle.std.specs.Fmt.{decimal}
use Rattle.command_io.specs.Writes.{Written, to_out, to_err, to_file}
use Rattle.schedules.specs.Text.{text_of, runs_of}
use Rattle.tx_answers.specs.Report as report
use Rattle.tx_answers.specs.Report.{trap_name, turn_line}
use Rattle.tx_code.specs.Images.{ImageFuncView, ImageView}
use Rattle.tx_code.specs.Lines.{line_at}
use Rattle.tx_code.specs.Objects.{BodyView}
use Rattle.tx_events.specs.declared.End.{End}
use Rattle.tx_events.specs.declared.End.TheVariants.{Exit, Abort, Terminate, Trapped, StepsOut}
use Rattle.tx_machine.specs.declared.run.Ran.{Ran}
use Rattle.vm_thread.specs.declared.thread.Here.{Here}

-- ---- the place of a trap

abbrev pub body_at : ImageFuncView → (safe : Bool) → Option BodyView
body_at f safe = if safe then f.safe else Some f.plain

abbrev pub line_in : Option BodyView → (index : ℕ) → Option ℕ
line_in (Some b) index = line_at b.lines index
line_in None index = None

-- ` SOURCE:LINE`, where the unit has a source and the body a line for the index
abbrev pub place_text : (source : Option (List ℕ)) → (line : Option ℕ) → List ℕ
place_text (Some source) (Some line) = 32 ∷ (source ++ 58 ∷ decimal line)
place_text (Some source) None = []
place_text None line = []

abbrev pub func_place : ImageFuncView → Here → List ℕ
func_place f here = place_text f.source (line_in (body_at f here.safe) here.index)

abbrev pub some_place : Option ImageFuncView → Here → List ℕ
some_place (Some f) here = func_place f here
some_place None here = []

abbrev pub trap_place : ImageView → Option Here → List ℕ
trap_place i (Some here) = some_place (slice_get i.funcs here.func) here
trap_place i None = []

-- ---- the lines for the error output

abbrev pub end_line : ImageView → End → (place : Option Here) → List ℕ
end_line i (Trapped trap) place = codes "trap " ++ (trap_name trap ++ (trap_place i place ++ codes "\n"))
end_line i (Exit n) place = report.end_line (Exit n)
end_line i Abort place = report.end_line Abort
end_line i Terminate place = report.end_line Terminate
end_line i StepsOut place = report.end_line StepsOut

abbrev pub end_lines : ImageView → Ran Here → List ℕ
end_lines i r = end_line i r.end r.place ++ turn_line r.ran r.waited r.rolled r.idle

-- ---- all writes, in their order

-- the schedule text of these entries, with each run of equal ones as one line
abbrev pub schedule_file : (file : Option (List ℕ)) → (entries : List ℕ) → List Written
schedule_file (Some file) entries = to_file file (text_of (runs_of entries)) ∷ []
schedule_file None entries = []

-- the output, the lines, and then the files of the order and of the picks, where they are named
abbrev pub run_writes : ImageView → Ran Here → (order_file record_file : Option (List ℕ)) → List Written
run_writes i r order_file record_file =
    to_out r.out.items ∷ to_err (end_lines i r) ∷ (schedule_file order_file r.order.items ++ schedule_file record_file r.picked.items)

-- Objects that wait, of which the newest stands last.
use Rattle.std.proofs.Common.{◌≡◌, List, [], ◌∷◌, ◌++◌, ap}
use Rattle.std.specs.Prelude.{map}
use Rattle.std.proofs.lemmas.List.{reverse-append}
use Rattle.cpp_tree.specs.declared.program.Program.{Program}
use Rattle.src_frames.specs.declared.frames.Waiting.{Waiting}
use Rattle.src_frames.specs.Shown.{waiting_shown, all_waiting}

pub waiting_push : (p : Program) (ws : List Waiting) (w : Waiting) → all_waiting p (ws ++ w ∷ []) ≡ waiting_shown p w ∷ all_waiting p ws
waiting_push p ws w = ap (map (waiting_shown p)) (reverse-append ws (w ∷ []))

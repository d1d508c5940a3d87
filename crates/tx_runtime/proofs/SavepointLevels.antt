-- What the notes since a mark put back, and what the savepoints down to that mark's do.
use Rattle.std.proofs.Common.{ℕ, zero, suc, ◌≡◌, ◌<◌, ◌≤◌, ◌-◌, List, [], ◌∷◌, length, get_or, take, drop, reverse, refl, ap, sym, ◌∙◌, subst, arith}
use Rattle.std.proofs.lemmas.List.{take-append-drop, drop-append-le, length-take-le, get_or-reverse, length-reverse}
use Rattle.undo_log.specs.declared.notes.Note.{Note}
use Rattle.undo_log.specs.declared.undo.Log.{Log}
use Rattle.undo_log.specs.Notes.{first_note}
use Rattle.undo_log.specs.View.{notes_of, marks_of}
use Rattle.tx_serial.specs.Machine.{Save, or_else, oldest}
use Rattle.tx_runtime.specs.Saves.{saves_by, saves_of, ShowsLevels}
use Rattle.tx_runtime.proofs.SavepointLists.{first_append, Descends}
use Rattle.tx_runtime.proofs.LogSavepoints.{log_descends, saves_count}

descends_at : (n : ℕ) (ms : List ℕ) (j : ℕ) → Descends n ms → j < length ms → get_or ms j 0 ≤ n
descends_at n [] j d h = absurd (omega (arith, h))
descends_at n (m ∷ ms) zero d h = d.0
descends_at n (m ∷ ms) (suc j) d h = let rest = descends_at m ms j d.1 (omega (arith, h)) in omega (arith, rest, d.0)

-- over lists, the newest mark first
level_by : (notes : List Note) (ms : List ℕ) (j x : ℕ) → Descends (length notes) ms → j < length ms
    → oldest (take (suc j) (saves_by notes ms)) x ≡ first_note (drop (get_or ms j 0) notes) x
level_by notes [] j x d h = absurd (omega (arith, h))
level_by notes (m ∷ ms) zero x d h = refl
level_by notes (m ∷ ms) (suc j) x d h =
    let a = take m notes in
    let b = drop m notes in
    let o = get_or ms j 0 in
    let less : j < length ms = omega (arith, h) in
    let lower = descends_at m ms j d.1 less in
    let long = length-take-le m notes d.0 in
    ap (λ q. or_else q (first_note b x)) (level_by a ms j x (subst (λ n. Descends n ms) (sym long) d.1) less)
    ∙ (sym (first_append (drop o a) b x)
    ∙ ap (λ ns. first_note ns x) (sym (drop-append-le o a b (omega (arith, lower, long))) ∙ ap (drop o) (take-append-drop m notes)))

pub levels_shown : (log : Log) (ss : List Save) → saves_of log ≡ ss → ShowsLevels log ss
unfolding saves_of
levels_shown log ss e mark word h =
    let marks = marks_of log in
    let j = length marks - 1 - mark in
    let less : j < length marks = omega (arith, h) in
    let within : j < length (reverse marks) = omega (arith, less, length-reverse marks) in
    let many : suc j ≡ length ss - mark = let n = saves_count log in let k = ap length e in omega (arith, h, n, k) in
    let position : get_or (reverse marks) j 0 ≡ get_or marks mark 0 = get_or-reverse marks j 0 less ∙ ap (λ i. get_or marks i 0) (omega (arith, h)) in
    ap (λ i. first_note (drop i (notes_of log)) word) (sym position)
    ∙ (sym (level_by (notes_of log) (reverse marks) j word (log_descends log) within)
    ∙ (ap (λ n. oldest (take n (saves_of log)) word) many
    ∙ ap (λ z. oldest (take (length ss - mark) z) word) e))

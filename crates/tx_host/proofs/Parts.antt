-- What a call that failed leaves.
use Rattle.std.proofs.Common.{◌≡◌, ℕ, ◌+◌, ◌-◌, ◌<◌, ◌≤◌, ◌^◌, ◌/◌, ◌⊎◌, List, [], ◌++◌, Option, Some, None, length, drop, sym, refl, ap, ◌∙◌, min, rules, inl}
use Rattle.std.proofs.Common.{inr, subst, arith, take-append-drop}
use Rattle.std.proofs.lemmas.Bool.{cases_lt}
use Rattle.tx_host.specs.Told.{Files, HostState, after_file, after_out, after_err, HasRisen, CountsFault, IsPrefix, GainsPart, SetsPart, FailsRead, FailsOut}
use Rattle.tx_host.specs.Told.{FailsErr, FailsFile, with_more, with_file, one_more}
use Rattle.tx_host.specs.Mem.{Shown, told, half, counted, faulted, with_written, with_out, with_err}

half_is_prefix : (bytes : List ℕ) → IsPrefix (half bytes) bytes
half_is_prefix bytes = (drop (length bytes / 2) bytes, sym (take-append-drop (length bytes / 2) bytes))

-- what gained the first half gained a part
pub half_gained : (old : Option (List ℕ)) (bytes : List ℕ) → GainsPart old (with_more old (half bytes)) bytes
half_gained old bytes = record { part = half bytes; front = half_is_prefix bytes; gained = refl }

-- a file that was set to the first half was set to a part
pub half_set : (old : Option Files) (name bytes : List ℕ) → SetsPart old (with_file old name (half bytes)) name bytes
half_set old name bytes = record { part = half bytes; front = half_is_prefix bytes; changed = refl }

has_risen : (n : ℕ) → n < 2 ^ 64 → HasRisen n (one_more n)
has_risen n h = elim (cases_lt n (2 ^ 64 - 1)) [ inl below ↦ inl (omega (arith, below)) | inr last ↦ inr (omega (arith, h, last)) ]

-- a count that stands still at its last value counts each fault
pub one_more_counts : (n : ℕ) → n < 2 ^ 64 → CountsFault n (one_more n)
one_more_counts n h = record { risen = has_risen n h; kept = omega (arith, h) }

-- where nothing is told of files, a part was written
pub untold_set : (name bytes : List ℕ) → SetsPart None None name bytes
untold_set name bytes = record { part = []; front = (bytes, refl); changed = refl }

-- a host in memory tells what it shows: after a write that failed, the first half of the bytes was written
pub half_file_fails : (old new : Shown) (name bytes : List ℕ) → old.faults < 2 ^ 64 → new ≡ counted (faulted (with_written old name (half bytes)))
    → FailsFile (told old) (told new) name bytes
half_file_fails old new name bytes small h =
    subst (λ n. FailsFile (told old) (told n) name bytes) (sym h)
    (record { fault = one_more_counts old.faults small; part = half_set (Some old.files) name bytes; rest = refl })

pub half_out_fails : (old new : Shown) (bytes : List ℕ) → old.faults < 2 ^ 64 → new ≡ counted (faulted (with_out old (half bytes)))
    → FailsOut (told old) (told new) bytes
half_out_fails old new bytes small h =
    subst (λ n. FailsOut (told old) (told n) bytes) (sym h)
    (record { fault = one_more_counts old.faults small; part = half_gained (Some old.out) bytes; rest = refl })

pub half_err_fails : (old new : Shown) (bytes : List ℕ) → old.faults < 2 ^ 64 → new ≡ counted (faulted (with_err old (half bytes)))
    → FailsErr (told old) (told new) bytes
half_err_fails old new bytes small h =
    subst (λ n. FailsErr (told old) (told n) bytes) (sym h)
    (record { fault = one_more_counts old.faults small; part = half_gained (Some old.err) bytes; rest = refl })

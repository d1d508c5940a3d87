-- What tables tell of faults.
use Rattle.std.proofs.Common.{◌<◌, ℕ, List, map, filter, length, arith, Option, Some, None, ◌||◌, IfSome}
use Rattle.std.proofs.lemmas.List.{length-map}
use Rattle.std.specs.Global.{Vec}
use Rattle.tx_code.specs.Objects.{bytes_of}
use Rattle.link_faults.specs.declared.tables.Tables.{Tables}
use Rattle.link_faults.specs.Faults.{is_twice, is_different, is_undefined, is_unsafe, is_missing, has_unlisted, classes_differ, class_records, any_two, clash}
use Rattle.link_faults.specs.Faults.{types_differ, texts_differ, func_entries, global_entries}
use Rattle.link_faults.specs.Claims.{is_definition, definition, is_seen, said_type, is_inline, said_text}
use Rattle.link_faults.specs.Disputes.{is_disputed, IsLeast}
use Rattle.link_faults.specs.Tests.{IsFirst}
use Rattle.link_faults.specs.Told.{AreTables, objects_of, names_in}
use Rattle.link_faults.specs.RankedClasses.{view_of, is_disputed_class}
use Rattle.link_faults.proofs.ClassTests.{classes_by_rank}
use Rattle.std.specs.List.{list_any}
use Rattle.link_faults.specs.Kept.{misses, wants_safe}
use Rattle.link_faults.specs.Unlisted.{misses_any}
use Rattle.link_faults.proofs.ListedEntries.{all_known}
use Rattle.link_faults.proofs.MissingByRank.{missing_by_rank, wanted_by_rank, unlisted_by_rank}
use Rattle.link_faults.proofs.ByRank.{first_by_rank, either_by_rank, claims_by_rank, definitions_claim, types_claim, texts_claim}

pub within_names : (vs : List (Vec ℕ)) (r : Option ℕ) → IfSome r (λ k. k < length vs) → IfSome r (λ k. k < length (map bytes_of vs))
within_names vs None w = w
within_names vs (Some k) w = omega (arith, length-map vs bytes_of, w)

pub twice_first : (t : Tables) → AreTables t → (r : Option ℕ)
    → IsLeast (λ k. is_disputed (map definition (filter is_definition t.funcs.items)) k || is_disputed
    (map definition (filter is_definition t.globals.items)) k) r
    → IfSome r (λ k. k < length t.names.items) → IsFirst (is_twice (objects_of t)) (names_in t) r
twice_first t h r l w =
    first_by_rank (names_in t) (is_twice (objects_of t)) _ h.names.ascend
    (either_by_rank (names_in t) (λ name. any_two (clash name) (func_entries (objects_of t))) (λ name. any_two (clash name) (global_entries (objects_of t))) _ _
    (claims_by_rank (names_in t) clash is_definition definition (definitions_claim (names_in t) h.names.ascend) (func_entries (objects_of t)) h.funcs_listed)
    (claims_by_rank (names_in t) clash is_definition definition (definitions_claim (names_in t) h.names.ascend)
    (global_entries (objects_of t)) h.globals_listed))
    r (within_names t.names.items r w) (rw (h.funcs, h.globals) at l)

pub different_first : (t : Tables) → AreTables t → (r : Option ℕ)
    → IsLeast (λ k. is_disputed_class (map view_of t.classes.items) k || is_disputed (map said_text (filter is_inline t.funcs.items)) k || is_disputed
    (map said_type (filter is_seen t.funcs.items)) k || is_disputed (map said_type (filter is_seen t.globals.items)) k) r
    → IfSome r (λ k. k < length t.names.items) → IsFirst (is_different (objects_of t)) (names_in t) r
different_first t h r l w =
    let all = names_in t in
    let os = objects_of t in
    let up = h.names.ascend in
    first_by_rank all (is_different os) _ up
    (either_by_rank all (λ name. any_two (classes_differ name) (class_records os) || any_two (texts_differ name) (func_entries os) || any_two
    (types_differ name) (func_entries os)) (λ name. any_two (types_differ name) (global_entries os)) _ _
    (either_by_rank all (λ name. any_two (classes_differ name) (class_records os) || any_two (texts_differ name) (func_entries os))
    (λ name. any_two (types_differ name) (func_entries os)) _ _
    (either_by_rank all (λ name. any_two (classes_differ name) (class_records os)) (λ name. any_two (texts_differ name) (func_entries os)) _ _
    (classes_by_rank all up (class_records os) h.classes_listed)
    (claims_by_rank all texts_differ is_inline said_text (texts_claim all up) (func_entries os) h.funcs_listed))
    (claims_by_rank all types_differ is_seen said_type (types_claim all up) (func_entries os) h.funcs_listed))
    (claims_by_rank all types_differ is_seen said_type (types_claim all up) (global_entries os) h.globals_listed))
    r (within_names t.names.items r w) (rw (h.classes, h.funcs, h.globals) at l)

pub undefined_first : (t : Tables) → AreTables t → (r : Option ℕ)
    → IsLeast (λ k. misses t.funcs.items k || misses t.globals.items k || misses_any (names_in t) (objects_of t) k) r
    → IfSome r (λ k. k < length t.names.items) → IsFirst (is_undefined (objects_of t)) (names_in t) r
undefined_first t h r l w =
    let all = names_in t in
    let os = objects_of t in
    let up = h.names.ascend in
    first_by_rank all (is_undefined os) _ up
    (either_by_rank all (λ name. list_any (is_missing (func_entries os) name) (func_entries os) || list_any (is_missing (global_entries os) name)
    (global_entries os)) (λ name. list_any (has_unlisted name) os) _ _
    (either_by_rank all (λ name. list_any (is_missing (func_entries os) name) (func_entries os))
    (λ name. list_any (is_missing (global_entries os) name) (global_entries os)) _ _
    (missing_by_rank all up (func_entries os) h.funcs_listed)
    (missing_by_rank all up (global_entries os) h.globals_listed))
    (unlisted_by_rank all os (all_known all t.objects.now h.known)))
    r (within_names t.names.items r w) (rw (h.funcs, h.globals) at l)

pub unsafe_first : (t : Tables) → AreTables t → (r : Option ℕ) → IsLeast (wants_safe t.funcs.items) r → IfSome r (λ k. k < length t.names.items)
    → IsFirst (is_unsafe (objects_of t)) (names_in t) r
unsafe_first t h r l w =
    first_by_rank (names_in t) (is_unsafe (objects_of t)) _ h.names.ascend
    (wanted_by_rank (names_in t) h.names.ascend (func_entries (objects_of t)) h.funcs_listed) r (within_names t.names.items r w) (rw h.funcs at l)

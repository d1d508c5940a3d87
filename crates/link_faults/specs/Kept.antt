-- Kept definitions by ranks.
use Rattle.std.specs.Prelude.{Bool, false, ◌≡◌, ◌<◌, ℕ, List, Option, Some, length, slice_get, not, ◌&&◌, ◌||◌, nat_eq, if◌then◌else◌}
use Rattle.std.specs.List.{list_any}
use Rattle.std.specs.Option.{option_map, option_map_or}
use Rattle.link_faults.specs.declared.disputes.Claim.{Claim}
use Rattle.link_faults.specs.declared.entries.RankedEntry.{RankedEntry}
use Rattle.link_faults.specs.Faults.{first_of}
use Rattle.link_faults.specs.Claims.{is_seen}

abbrev pub defines_rank : ℕ → RankedEntry → Bool
defines_rank symbol e = e.defined && (is_seen e && nat_eq e.symbol symbol)

-- a definition, with whether it has a safe body
abbrev pub kept : RankedEntry → Claim
kept e = record { symbol = e.symbol; alone = e.safe; says = 0 }

abbrev pub ArePlaces : List RankedEntry → List (Option Claim) → Type 0
ArePlaces entries places = (k : ℕ) → k < length places → slice_get places k ≡ Some (option_map kept (first_of (defines_rank k) entries))

abbrev pub is_missing_rank : List RankedEntry → RankedEntry → Bool
is_missing_rank entries e = not e.defined && (nat_eq e.linkage 1 || not (list_any (defines_rank e.symbol) entries))

abbrev pub is_kept_safe : List RankedEntry → RankedEntry → Bool
is_kept_safe entries e = if nat_eq e.linkage 1 then e.safe else option_map_or (λ (d : RankedEntry). d.safe) (first_of (defines_rank e.symbol) entries) false

abbrev pub is_unsafe_rank : List RankedEntry → RankedEntry → Bool
is_unsafe_rank entries e = e.wanted_safe && not (is_kept_safe entries e)

abbrev pub misses : List RankedEntry → ℕ → Bool
misses entries symbol = list_any (λ e. nat_eq e.symbol symbol && is_missing_rank entries e) entries

abbrev pub wants_safe : List RankedEntry → ℕ → Bool
wants_safe entries symbol = list_any (λ e. nat_eq e.symbol symbol && is_unsafe_rank entries e) entries

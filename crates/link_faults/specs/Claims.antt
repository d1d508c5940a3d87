-- What entries claim of symbols.
use Rattle.std.specs.Prelude.{Bool, false, not, ◌&&◌, nat_eq, is_some, unwrap_or}
use Rattle.link_faults.specs.declared.disputes.Claim.{Claim}
use Rattle.link_faults.specs.declared.entries.RankedEntry.{RankedEntry}

-- other objects see it
abbrev pub is_seen : RankedEntry → Bool
is_seen e = not (nat_eq e.linkage 1)

abbrev pub is_definition : RankedEntry → Bool
is_definition e = e.defined && is_seen e

abbrev pub definition : RankedEntry → Claim
definition e = record { symbol = e.symbol; alone = nat_eq e.linkage 0; says = 0 }

abbrev pub said_type : RankedEntry → Claim
said_type e = record { symbol = e.symbol; alone = false; says = e.ty }

abbrev pub is_inline : RankedEntry → Bool
is_inline e = e.defined && is_seen e && is_some e.text

abbrev pub said_text : RankedEntry → Claim
said_text e = record { symbol = e.symbol; alone = false; says = unwrap_or e.text 0 }

use Rattle.std.proofs.Common.{Bool, true, false, ◌≡◌, ◌<◌, ℕ, Some, None, map, length, refl, sym, ◌∙◌, ap, arith, ◌+◌}
use Rattle.std.specs.List.{position_from}
use Rattle.std.specs.Str.{bytes_eq}
use Rattle.std.proofs.lemmas.List.{length-map}
use Rattle.std.proofs.lemmas.Map.Lookups.{exact_bytes}
use Rattle.tx_code.specs.Objects.{bytes_of}
use Rattle.link_faults.specs.Ranks.{is_listed}
use Rattle.link_faults.proofs.Ascending.{items_at, position_at, not_missed}
use Rattle.link_parts.proofs.MarkedTypes.{no_position}
use Rattle.link_parts.proofs.types.number_of_type.Goals as goal

pub returns-in-Ok : goal.returns-in-Ok
returns-in-Ok c =
    let types = c.args.types.now in
    let name = c.args.name.now.items in
    let within : c.in-Ok.i < length types = c.in-Ok.ensures.bound in
    let s : 0 + c.in-Ok.i ≡ c.in-Ok.i = omega arith in
    sym (position_at (map bytes_of types) 0 c.in-Ok.i name c.requires.ascend (omega (arith, within, length-map types bytes_of))
    (items_at types c.in-Ok.i c.args.name.now within ∙ exact_bytes _ _ (c.in-Ok.ensures.ok c.args.name.now)) ∙ ap (λ (k : ℕ). Some k) s)

pub returns-in-Err : goal.returns-in-Err
returns-in-Err c = by (is_listed (map bytes_of c.args.types.now) c.args.name.now.items) refl
  where
    by : (b : Bool) → is_listed (map bytes_of c.args.types.now) c.args.name.now.items ≡ b
        → None ≡ position_from (bytes_eq c.args.name.now.items) 0 (map bytes_of c.args.types.now)
    by true e = absurd (not_missed c.args.types.now c.args.name.now.items _ c.requires.ascend e c.in-Err.ensures.position c.args.name.now)
    by false e = sym (no_position c.args.name.now.items 0 (map bytes_of c.args.types.now) e)

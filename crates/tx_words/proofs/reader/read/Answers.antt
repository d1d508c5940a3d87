use Rattle.std.proofs.Common.{rules, ◌≡◌, ◌∙◌, ap, ap₂, sym, subst, IfSome, Option, Some, None, List, [], map, true, true≢false, is_some, unwrap_or, option_map}
use Rattle.std.specs.String.{string_bytes}
use Rattle.clap.specs.Words.{fault_of, subcommand_of, subcommand_rows_of, rows_of, found_of, Text, Row}
use Rattle.tx_words.specs.Line.{txcc_app}
use Rattle.tx_words.specs.Reads.{Fits}
use Rattle.tx_words.proofs.Commands.{entered_fits, is_there}
use Rattle.tx_words.proofs.reader.read.Goals as goal

pair : (o : Option (Text × List Row)) (n : Text) (rows : List Row) → Some n ≡ option_map (λ p. p.0) o → Some rows ≡ option_map (λ p. p.1) o → o ≡ Some (n, rows)
pair None n rows e f = absurd (true≢false (ap is_some e))
pair (Some p) n rows e f = sym (ap₂ (λ a b. Some (a, b)) (ap (λ o. unwrap_or o n) e) (ap (λ o. unwrap_or o rows) f))

pub command_of-requires : goal.command_of-requires
command_of-requires c =
    let facts : (fault_of txcc_app (map string_bytes c.args.words.now) ≡ [])
    × (subcommand_rows_of c.in-Some.matches ≡ subcommand_of txcc_app (map string_bytes c.args.words.now)) = search rules in
    let name : Some c.in-Some-subcommand.name.now ≡ option_map (λ p. p.0) (subcommand_rows_of c.in-Some.matches) = search rules in
    let rows : Some (rows_of (found_of c.in-Some-subcommand.inner.now)) ≡ option_map (λ p. p.1) (subcommand_rows_of c.in-Some.matches) =
    c.in-Some-subcommand.ensures.rows in
    subst (λ o. IfSome o (λ p. Fits p.0 p.1)) (sym facts.1 ∙ pair _ _ _ name rows) (entered_fits _ facts.0)

gone : (o : Option (Text × List Row)) → None ≡ option_map (λ p. p.1) o → is_some o ≡ true → ⊥
gone None e f = true≢false (sym f)
gone (Some p) e f = true≢false (sym (ap is_some e))

pub unreachable-requires : goal.unreachable-requires
unreachable-requires c =
    let facts : (fault_of txcc_app (map string_bytes c.args.words.now) ≡ [])
    × (subcommand_rows_of c.in-Some.matches ≡ subcommand_of txcc_app (map string_bytes c.args.words.now)) = search rules in
    let rows : None ≡ option_map (λ p. p.1) (subcommand_rows_of c.in-Some.matches) = c.in-None.ensures.rows in
    gone (subcommand_rows_of c.in-Some.matches) rows (ap is_some facts.1 ∙ is_there _ facts.0)

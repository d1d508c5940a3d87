use Rattle.std.proofs.Common.{◌∙◌, ap, option_map, subst, sym, IfSome, Option, List, ℕ, rules}
use Rattle.std.specs.Str.Parse.{ParsesUnsigned, ExplainsUnsignedError, HasUnsignedDigitsIfOk}
use Rattle.clap.specs.Words.{found_of, one_text, IsUnsignedIn}
use Rattle.clap.proofs.WalkLemmas.{one_text-rows}
use Rattle.tx_words.specs.Reads.{number}
use Rattle.tx_words.proofs.Numbers.{read_in}
use Rattle.tx_words.proofs.reader.number.Goals as goal

pub returns : goal.returns
returns c =
    let same = one_text-rows (found_of c.args.matches.now) c.args.id.now in
    let within = subst (λ (o : Option (List ℕ)). IfSome o (IsUnsignedIn c.args.low c.args.high)) (sym same) c.requires in
    let got = read_in (λ bs r. ParsesUnsigned 64 10 bs r × ExplainsUnsignedError 10 bs r × HasUnsignedDigitsIfOk bs r) c.args.low c.args.high
    (one_text (found_of c.args.matches.now) c.args.id.now) c.get_one.result (search rules)
    c.get_one.ensures.none c.get_one.ensures.value (λ u x g. g.0) within in
    record { value = got.0 ∙ ap (option_map number) same; within = got.1 }

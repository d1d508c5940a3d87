use Rattle.std.proofs.Common.{◌≡◌, ◌+◌, length, rules}
use Rattle.std.proofs.lemmas.List.{length-map}
use Rattle.elab_entry.specs.cpp_tree.Units.{param_of}
use Rattle.elab_units.proofs.Bodied.{words_sum}
use Rattle.elab_units.proofs.shown.words_of.Goals as goal

pub returns-in-Some : goal.returns-in-Some
returns-in-Some c =
    let sum : c.in-Some.words ≡ c.in-Ok.count + (c.result_words.result + c.object_words.result) = search rules in
    let count : c.in-Ok.count ≡ length c.args.found.now.params.items = search rules in
    words_sum c.in-Some.words c.in-Ok.count c.result_words.result c.object_words.result _ _
    (length c.args.found.now.params.items) _ sum count c.result_words.ensures.is c.object_words.ensures.is
    (length-map c.args.found.now.params.items param_of)

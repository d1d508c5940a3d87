use Rattle.std.proofs.Common.{◌≡◌, List, map, take, ap, sym, ◌∙◌}
use Rattle.std.proofs.lemmas.List.{take-map}
use Rattle.elab_rules.specs.cpp_types.Typ.{Typ, typ_of}
use Rattle.elab_rules.specs.cpp_tree.Units.{Global, global_of}
use Rattle.elab_growth.proofs.cut.cut_back.Goals as goal

pub returns-clause-work : goal.returns-clause-work
returns-clause-work c =
    let frame : map typ_of c.truncate.new.self.items ≡ take c.args.frame (map typ_of c.args.work.now.frame.items) = ap (map typ_of) c.truncate.ensures.items
    ∙ sym (take-map typ_of c.args.frame c.args.work.now.frame.items) in
    let globals : map global_of c.truncate-2.new.self.items ≡ take c.args.globals (map global_of c.args.work.now.globals.items) =
    ap (map global_of) c.truncate-2.ensures.items ∙ sym (take-map global_of c.args.globals c.args.work.now.globals.items) in
    ap (λ (z : List Typ). record { frame = z; globals = map global_of c.truncate-2.new.self.items }) frame
    ∙ ap (λ (z : List Global). record { frame = take c.args.frame (map typ_of c.args.work.now.frame.items); globals = z }) globals

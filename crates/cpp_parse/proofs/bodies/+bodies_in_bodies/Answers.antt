-- Bodies are read one behind the other, and each with those in it.
use Rattle.std.proofs.Common.{◌∷◌, [], List, get_or, take, refl, sym, subst, rules}
use Rattle.std.proofs.lemmas.List.{take_more}
use Rattle.std.proofs.lemmas.Option.{slice_get-get_or}
use Rattle.cpp_syntax.specs.declared.positions.OpenBody.{OpenBody}
use Rattle.cpp_parse.specs.Bodies.{AreRead, ReadsBodies, IsBlock}
use Rattle.cpp_parse.proofs.BodyReaders.{read_none, read_both, reads_one, is_broken}
use Rattle.cpp_parse.proofs.bodies.+bodies_in_bodies.Goals as goal

abbrev no_body : OpenBody
no_body = record { lam = record { 0 = 0 }; from = 0; to = 0 }

pub read_bodies-bodies-init : goal.read_bodies-bodies-init
read_bodies-bodies-init t c = read_none c.args.types.now c.args.nodes.now c.args.noted.now.items

pub read_bodies-read_body-requires : goal.read_bodies-read_body-requires
read_bodies-read_body-requires t c = (
  search rules,
  c.requires c.bodies.body-index (get_or c.args.bodies.now c.bodies.body-index no_body)
      (slice_get-get_or c.args.bodies.now c.bodies.body-index no_body c.bodies-test.true),
)

pub read_bodies-returns-in-Some : goal.read_bodies-returns-in-Some
read_bodies-returns-in-Some t c =
    is_broken c.args.types.now c.args.bodies.now c.bodies.body-index c.in-Some.token (get_or c.args.bodies.now c.bodies.body-index no_body) no_body
    c.bodies-test.true refl (rw c.in-Some.is at c.in_ok-token.ensures)

pub read_bodies-bodies-preserved : goal.read_bodies-bodies-preserved
read_bodies-bodies-preserved t c =
    let body : OpenBody = get_or c.args.bodies.now c.bodies.body-index no_body in
    subst (λ (bs : List OpenBody). AreRead c.args.types.now bs c.args.nodes.now c.read_body.new.nodes c.args.noted.now.items
    c.read_body.new.noted.items) (sym (take_more c.args.bodies.now c.bodies.body-index no_body c.bodies-test.true))
    (read_both c.args.types.now (take c.bodies.body-index c.args.bodies.now) (body ∷ []) c.args.nodes.now c.bodies.nodes c.read_body.new.nodes
    c.args.noted.now.items c.bodies.noted.items c.read_body.new.noted.items c.bodies.invariant (rw c.in_default.is at c.in_ok-token.ensures))

pub read_body-returns-in_ok-descend-in-Read : goal.read_body-returns-in_ok-descend-in-Read
read_body-returns-in_ok-descend-in-Read t c =
    let block : IsBlock c.args.types.now c.args.body c.args.nodes.now c.read_block.new.nodes c.in-Read.root c.in-Read.bodies.items = rw c.in-Read.is
    at c.in_ok-root.ensures in
    reads_one c.args.types.now c.args.body c.args.nodes.now c.read_block.new.nodes c.in-Read.root c.in-Read.bodies.items c.requires.behind block
    c.read_bodies.new.nodes c.args.noted.now.items c.push.new.self.items c.read_bodies.new.noted.items c.read_bodies.result
    c.in_ok-push-in-Read.ensures.items (subst (λ (bs : List OpenBody). ReadsBodies c.args.types.now bs c.read_block.new.nodes
    c.read_bodies.new.nodes c.push.new.self.items c.read_bodies.new.noted.items c.read_bodies.result) c.deref.ensures.value c.read_bodies.ensures)

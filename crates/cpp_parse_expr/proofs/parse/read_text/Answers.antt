use Rattle.std.proofs.Common.{List, None, ◌∙◌, subst}
use Rattle.cpp_ast.specs.declared.arena.Node.{Node}
use Rattle.cpp_syntax.specs.Rules.{form}
use Rattle.cpp_parse_expr.specs.Parse.{form_of, Takes}
use Rattle.cpp_parse_expr.proofs.ParseAnswers.{ends_inside}
use Rattle.cpp_parse_expr.proofs.parse.read_text.Goals as goal

pub take_reading-requires : goal.take_reading-requires
take_reading-requires c =
    ends_inside c.args.types.now (form (form_of c.args.form)) c.args.from None c.over-out.result c.read_form-read.new.out c.read_form-read.result
    c.read_form-read.ensures

pub returns : goal.returns
returns c =
    subst (λ (old : List Node). Takes c.args.types.now (form (form_of c.args.form)) c.args.from old c.take_reading.new.nodes c.take_reading.result)
    (c.over-out.ensures.base ∙ c.replace.ensures.value)
    (c.take_reading.ensures (form (form_of c.args.form)) c.over-out.result c.over-out.ensures.nothing c.read_form-read.ensures)

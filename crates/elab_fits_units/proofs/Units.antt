-- A whole unit leads from a good state to a good one.
use Rattle.std.proofs.Common.{List, Some, slice_get, Result}
use Rattle.elab_rules.specs.cpp_lex.Tokens.{Lexeme}
use Rattle.elab_rules.specs.cpp_ast.Trees as syntax
use Rattle.elab_rules.specs.Statements.{State}
use Rattle.elab_rules.specs.cpp_tree.Typing.{form_in}
use Rattle.elab_rules.specs.cpp_tree.declared.faults.ElabFault.{ElabFault}
use Rattle.elab_rules.specs.Implicit.{implied}
use Rattle.elab_rules.specs.Lambdas.{lambdas_of}
use Rattle.elab_rules.specs.Names.{members_in}
use Rattle.elab_rules.specs.Members.{declared_only, default_made, member_type, late_method, outside_body}
use Rattle.elab_rules.specs.Globals.{enum_declared}
use Rattle.elab_rules.specs.Units.{file_declaration, alias_of, defined_with, unit_from}
use Rattle.elab_fits.specs.Standing.{On}
use Rattle.elab_fits_units.specs.Below.{Below}
use Rattle.elab_fits_units.specs.Good.{UnitGood, unit_words, words_with}
use Rattle.elab_fits_units.specs.Laws.{Leads, Laws, Lasting}
use Rattle.elab_fits_units.specs.Named.{AreNamedTexts}
use Rattle.elab_fits_units.specs.Steps.{Follows, Steps}
use Rattle.elab_fits_units.proofs.Defaults.{defaults_follow}
use Rattle.elab_fits_units.proofs.Implied.{implied_good}
use Rattle.elab_fits_units.proofs.Leaves.{both_on, quiet_good, functions, methods, outside}
use Rattle.elab_fits_units.proofs.Texts.{kids_named, first_named, rest_named, titled_text, spelled_token}
use Rattle.elab_fits_units.proofs.Quiet.{Quiet, declaration_quiet, aliases_quiet, enum_quiet, only_quiet, class_quiet}
use Rattle.elab_fits_units.proofs.Walk.{unit_good}

-- with what holds beside
beside : (Also : State → Type 0) (r : Result State ElabFault) → On UnitGood r → On Also r → On (λ (y : State). UnitGood y × Also y) r
beside Also r g h = both_on UnitGood Also (λ (y : State). UnitGood y × Also y) r g h (λ y i j. (i, j))

follows_beside : (s : List Lexeme) (Also : State → Type 0) (st : State) (r : Result State ElabFault) → On (Follows (unit_words s) st) r → On Also r
    → On (Follows (words_with s Also) st) r
follows_beside s Also st r g h = both_on (Follows (unit_words s) st) Also (Follows (words_with s Also) st) r g h
    (λ y i j. record { good = (i.good, j); homes = i.homes })

module _ (s : List Lexeme) (Also : State → Type 0) (b : Below s) (l : Laws s) (a : Lasting s Also) where
  pub steps : Steps (words_with s Also) s
  steps = record {
    kids = kids_named s;
    first = first_named s;
    rest = rest_named s;
    spelled = λ kind p t ts h. spelled_token s kind p t ts h.text;
    titled = titled_text s;
    variables = λ st x at ts g t. beside Also (file_declaration s st x at ts)
        (both_on (Leads st) (Quiet st) UnitGood (file_declaration s st x at ts) (l.variables st x at ts g.0 t.texts) (declaration_quiet s st x at ts)
        (λ y d q. quiet_good s b l st y g.0 d q))
        (a.variables st x at ts g.0 g.1 t);
    aliases = λ st at name ts g t. beside Also (alias_of s st at name ts)
        (both_on (Leads st) (Quiet st) UnitGood (alias_of s st at name ts) (l.aliases st at name ts g.0 t.texts) (aliases_quiet s st at name ts)
        (λ y d q. quiet_good s b l st y g.0 d q))
        (a.aliases st at name ts g.0 g.1 t);
    enums = λ st at name ts g t. beside Also (enum_declared s st at name ts)
        (both_on (Leads st) (Quiet st) UnitGood (enum_declared s st at name ts) (l.enums st at name ts g.0 t.texts) (enum_quiet s st at name ts)
        (λ y d q. quiet_good s b l st y g.0 d q))
        (a.enums st at name ts g.0 g.1 t);
    names = λ st at name g n. beside Also (declared_only st at name)
        (both_on (Leads st) (Quiet st) UnitGood (declared_only st at name) (l.names st at name g.0 n) (only_quiet st at name)
        (λ y d q. quiet_good s b l st y g.0 d q))
        (a.names st at name g.0 g.1 n);
    functions = λ st x at first base d body t r g h i j e k. beside Also (defined_with s st x at first r body (form_in r.typ))
        (functions s b l st x at first base d body t r g.0 h.text i.text j.text e k) (a.functions st x at first d body r g.0 g.1 i j);
    outside = λ st x at kind first n ts m body g c h i e k. beside Also (outside_body lambdas_of s st n kind first m body)
        (outside s b l st x at kind first n ts m body g.0 c h.texts i.text e k) (a.outside st n kind first m body g.0 g.1 i);
    classes = λ st at name kids home r c g n i t q. let o = a.classes st at name kids home r c g.0 g.1 n i t q in
        let x = l.classes st at name kids home r c g.0 n t.texts q o.0 in
        ((quiet_good s b l st (record r.state { ctx = c }) g.0 x.0 (class_quiet s st at name kids home r c q), o.1), x.1);
    defaults = λ st n i name e g h t q.
        let ms = members_in (slice_get st.ctx.classes n) in
        follows_beside s Also st (default_made lambdas_of s st n i (member_type (slice_get ms i)) e) (defaults_follow s b l st n i name e g.0 h t.text q)
        (a.defaults st n i (member_type (slice_get ms i)) e g.0 g.1 h t);
    methods = λ st n name at kind ts m body g c h t u e. follows_beside s Also st (late_method lambdas_of s st n kind m (Some body))
        (methods s b l st n name at kind ts m body g.0 c h t.texts u.text e) (a.methods st n kind m body g.0 g.1 h u);
    implicits = λ st k g. beside Also (implied st k) (implied_good s b l st k g.0) (a.members st k g.0 g.1);
  }

  pub unit_keeps : (st : State) (decls : syntax.Trees) → UnitGood st → Also st → AreNamedTexts s decls → On (λ (y : State). UnitGood y × Also y) (unit_from s st decls)
  unit_keeps st decls g h t = unit_good (words_with s Also) s steps st decls (g, h) t

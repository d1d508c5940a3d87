-- Behind each step of a unit what overrides has a name that goes with its kind, where members and functions of the text have names of no class.
use Rattle.std.proofs.Common.{◌≡◌, refl, sym, ap, ◌∙◌, subst, ℕ, Bool, true, false, not, ◌||◌, is_none, List, [], Option, Some, None, Ok, Result, Err}
use Rattle.elab_rules.specs.cpp_types.Typ.{Typ, typ, class}
use Rattle.elab_rules.specs.cpp_types.Class.{completion_of}
use Rattle.elab_rules.specs.cpp_types.declared.classes.At.{At}
use Rattle.elab_rules.specs.cpp_lex.Tokens.{Lexeme}
use Rattle.elab_rules.specs.cpp_ast.Trees as syntax
use Rattle.elab_rules.specs.cpp_tree.declared.faults.ElabFault.{ElabFault}
use Rattle.elab_rules.specs.cpp_tree.declared.faults.IllRule.TheVariants.{Redeclared}
use Rattle.elab_rules.specs.elab_ctx.Ctx.{Ctx}
use Rattle.elab_rules.specs.elab_ctx.Steps.{check}
use Rattle.elab_rules.specs.Types.{type_named}
use Rattle.elab_rules.specs.Statements.{State}
use Rattle.elab_rules.specs.Classes.{Home, Members, Begun, begun, begun_in, begun_by, members_of}
use Rattle.elab_rules.specs.Implicit.{implied}
use Rattle.elab_rules.specs.Lambdas.{lambdas_of}
use Rattle.elab_rules.specs.Members.{members_among, declared_only, default_made, late_method, outside_body}
use Rattle.elab_rules.specs.Globals.{enum_declared}
use Rattle.elab_rules.specs.Units.{file_declaration, alias_of, defined_with}
use Rattle.elab_rules.specs.cpp_tree.Typing.{form_in}
use Rattle.elab_fits.specs.Standing.{On}
use Rattle.elab_fits.proofs.Steps.{answered, skip}
use Rattle.elab_contexts.specs.Overriders.{HasOverridersBy, HasOverriders, Overrides}
use Rattle.elab_contexts.proofs.Holding as holding
use Rattle.elab_contexts.proofs.Unchanged as unchanged
use Rattle.elab_read_texts.specs.Names.{is_class_name}
use Rattle.elab_read_texts.proofs.Parts.{class_members}
use Rattle.elab_fits_units.specs.Laws.{Lasting}
use Rattle.elab_fits_units.specs.Named.{AreNamedTexts, IsTitle}
use Rattle.elab_fits_units.specs.Steps.{IsClosed}
use Rattle.elab_fits_units.proofs.Beginning.{by_any}

-- a class that begins leaves the functions
abbrev SameFuncs : Ctx → Begun → Type 0
SameFuncs c b = b.ctx.funcs ≡ c.funcs

begun_typ : (c : Ctx) (at : At) (defines : Bool) (t : Typ) → On (SameFuncs c) (begun_by c at defines t)
begun_typ c at defines (typ (class n) false false) = skip (SameFuncs c) (check at Redeclared (not defines || is_none (completion_of c.classes n))) _ (λ y. refl)
begun_typ c at defines t = tt

begun_name : (c : Ctx) (at : At) (name : List ℕ) (defines : Bool) (o : Option Typ) → On (SameFuncs c) (begun_in c at name defines o)
begun_name c at name defines (Some t) = begun_typ c at defines t
begun_name c at name defines None = refl

abbrev pub By : List Lexeme → State → Type 0
By s st = HasOverridersBy (is_class_name s) st.ctx.funcs

step : (s : List Lexeme) (st : State) (r : Result State ElabFault) → On (Overrides st) r → By s st → On (By s) r
step s st (Ok y) h g = h (is_class_name s) g
step s st (Err e) h g = tt

closes : (s : List Lexeme) (st : State) (at : At) (name : List ℕ) (kids : syntax.Trees) (home : Home) (r : Members) (c : Ctx) → By s st → IsTitle s name
    → AreNamedTexts s kids → IsClosed s st at name kids home r c → HasOverriders r.state.ctx.funcs × HasOverridersBy (is_class_name s) c.funcs
closes s st at name kids home r c g n t k =
    let same : k.start.ctx.funcs ≡ st.ctx.funcs = answered (SameFuncs st.ctx) (begun st.ctx at name true) k.start
    (begun_name st.ctx at name true (type_named name st.ctx.types)) k.begins in
    let w : State = record st { ctx = k.start.ctx } in
    let title : is_class_name s home.name ≡ true = ap (is_class_name s) k.named ∙ n in
    let members : HasOverridersBy (is_class_name s) r.state.ctx.funcs =
    answered (λ (y : Members). HasOverridersBy (is_class_name s) y.state.ctx.funcs)
    (members_of s home (record { state = w; members = []; initialised = [] }) (members_among kids)) r
    (class_members s home w kids t.named title (subst (HasOverridersBy (is_class_name s)) (sym same) g)) k.read in
    (record { classes = is_class_name s; by = members }, holding.classes_override (is_class_name s) at home r c k.closed members)

pub names_beside : (s : List Lexeme) → Lasting s (By s)
names_beside s = record {
  begins = λ source p traits. by_any (is_class_name s);
  variables = λ st x at ts u g t. step s st (file_declaration s st x at ts) (holding.variables_override s st x at ts) g;
  aliases = λ st at name ts u g t. step s st (alias_of s st at name ts) (unchanged.aliases_override s st at name ts) g;
  enums = λ st at name ts u g t. step s st (enum_declared s st at name ts) (unchanged.enums_override s st at name ts) g;
  names = λ st at name u g n. step s st (declared_only st at name) (unchanged.names_override st at name) g;
  functions = λ st x at first d body r u g i j. step s st (defined_with s st x at first r body (form_in r.typ)) (holding.functions_override s st x at first r body) g;
  outside = λ st n kind first m body u g i. step s st (outside_body lambdas_of s st n kind first m body) (holding.outside_override s st n kind first m body) g;
  classes = λ st at name kids home r c u g e n t k. closes s st at name kids home r c g n t k;
  defaults = λ st n i t e u g h k. step s st (default_made lambdas_of s st n i t e) (holding.defaults_override s st n i t e) g;
  methods = λ st n kind m body u g h k. step s st (late_method lambdas_of s st n kind m (Some body)) (holding.methods_override s st n kind m (Some body)) g;
  members = λ st k u g. step s st (implied st k) (holding.implied_override st k) g;
}

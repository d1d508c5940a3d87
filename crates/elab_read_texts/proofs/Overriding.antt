-- A member that a text declares is named as overriding asks.
use Rattle.std.proofs.Common.{◌≡◌, refl, sym, ap, ◌∙◌, ℕ, Bool, true, false, not, ◌&&◌, ◌||◌, List, Option, Some, None, true≢false}
use Rattle.cpp_types.specs.Class.{Function}
use Rattle.cpp_types.specs.Trivial.{is_destructor_name}
use Rattle.cpp_lex.specs.Tokens.{Lexeme}
use Rattle.elab_rules.specs.cpp_tree.declared.program.FuncKind.TheVariants.{Plain, Constructor, Destructor}
use Rattle.elab_rules.specs.elab_ctx.Ctx.{Func}
use Rattle.elab_rules.specs.Functions.{Header}
use Rattle.elab_rules.specs.Classes.{Home, Members, Marks, Definition, as_written, member_func, with_function}
use Rattle.std.proofs.lemmas.Bool.{and_parts, not-true}
use Rattle.elab_fits_forms.specs.Types.{is_empty}
use Rattle.elab_contexts.proofs.Lists.{one_more}
use Rattle.elab_read_texts.specs.Names.{is_type_name, is_class_name}
use Rattle.elab_contexts.specs.Overriders.{is_overrider_by, HasOverridersBy}

-- Headers of members, by their kinds
pub data IsFit (s : List Lexeme) (home : Home) (h : Header) : Type 0 where
  plain : h.kind ≡ Plain → is_destructor_name h.name ≡ false → is_class_name s h.name ≡ false → IsFit s home h
  destructor : h.kind ≡ Destructor → is_destructor_name h.name ≡ true → IsFit s home h
  constructor : h.kind ≡ Constructor → h.name ≡ home.name → IsFit s home h

class_plain : (s : List Lexeme) (name : List ℕ) → is_class_name s name ≡ true → is_destructor_name name ≡ false
class_plain s name h =
    let p = and_parts (not (is_empty name)) (not (is_destructor_name name) && is_type_name s name) h in
    not-true (is_destructor_name name) (and_parts (not (is_destructor_name name)) (is_type_name s name) p.1).0

by_plain : (v d c : Bool) → d ≡ false → c ≡ false → (not v || (true && (not d && not c) || (false && (not d && c) || false && d))) ≡ true
by_plain true false false e f = refl
by_plain false false false e f = refl
by_plain v true c e f = absurd (true≢false e)
by_plain v false true e f = absurd (true≢false f)

by_constructor : (v d c : Bool) → d ≡ false → c ≡ true → (not v || (false && (not d && not c) || (true && (not d && c) || false && d))) ≡ true
by_constructor true false true e f = refl
by_constructor false false true e f = refl
by_constructor v true c e f = absurd (true≢false e)
by_constructor v false false e f = absurd (true≢false (sym f))

by_destructor : (v d c : Bool) → d ≡ true → (not v || (false && (not d && not c) || (false && (not d && c) || true && d))) ≡ true
by_destructor true true c e = refl
by_destructor false true c e = refl
by_destructor v false c e = absurd (true≢false (sym e))

added : (s : List Lexeme) (home : Home) (h : Header) (m : Marks) (o : Option Function) → is_class_name s home.name ≡ true → IsFit s home h
    → is_overrider_by (is_class_name s) (member_func h m o) ≡ true
added s home h m o n (plain k d v) =
    rw k (by_plain (member_func h m o).declared.is_virtual (is_destructor_name h.name) (is_class_name s h.name) d v)
added s home h m o n (destructor k d) =
    rw k (by_destructor (member_func h m o).declared.is_virtual (is_destructor_name h.name) (is_class_name s h.name) d)
added s home h m o n (constructor k e) =
    let c = ap (is_class_name s) e ∙ n in
    rw k (by_constructor (member_func h m o).declared.is_virtual (is_destructor_name h.name) (is_class_name s h.name) (class_plain s h.name c) c)

defined : (classes : List ℕ → Bool) (d : Option Definition) (f : Func) → is_overrider_by classes f ≡ true → is_overrider_by classes (as_written d f) ≡ true
defined classes None f h = h
defined classes (Some d) f h = h

pub function_added : (s : List Lexeme) (home : Home) (r : Members) (h : Header) (m : Marks) (d : Option Definition) (o : Option Function)
    → is_class_name s home.name ≡ true → IsFit s home h → HasOverridersBy (is_class_name s) r.state.ctx.funcs
    → HasOverridersBy (is_class_name s) (with_function r (as_written d (member_func h m o))).state.ctx.funcs
function_added s home r h m d o n x g k i f e c =
    one_more (λ (y : Func). (j : ℕ) → y.class ≡ Some j → is_overrider_by (is_class_name s) y ≡ true) r.state.ctx.funcs (as_written d (member_func h m o))
    (λ a y q j z. g a j y q z) (λ j z. defined (is_class_name s) d (member_func h m o) (added s home h m o n x)) k f e i c

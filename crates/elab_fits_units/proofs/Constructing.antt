-- What is written for the parts of an object under construction builds them.
use Rattle.std.proofs.Common.{◌≡◌, refl, sym, ap, ◌∙◌, subst, ℕ, suc, Bool, true, false, not, List, [], ◌∷◌, ◌++◌, slice_get, Option, Some, None, is_none, Ok}
use Rattle.std.specs.Prelude.{if◌then◌else◌}
use Rattle.std.proofs.Common.{eqb-true, ◌+◌, arith}
use Rattle.std.specs.Str.{bytes_eq}
use Rattle.elab_fits.proofs.Nodes.{clash}
use Rattle.elab_rules.specs.Initialising.{class_number, same_number}
use Rattle.std.proofs.lemmas.Option.{same_Some}
use Rattle.elab_rules.specs.cpp_types.Typ.{Typ, class}
use Rattle.elab_rules.specs.cpp_types.Class.{Class, Member}
use Rattle.elab_rules.specs.cpp_types.declared.classes.At.{At}
use Rattle.elab_rules.specs.cpp_lex.Tokens.{Lexeme}
use Rattle.elab_rules.specs.cpp_ast.declared.kinds.NodeKind.TheVariants as k
use Rattle.elab_rules.specs.cpp_ast.Trees as syntax
use Rattle.elab_rules.specs.cpp_tree.declared.faults.IllRule.TheVariants.{NoMember, Redeclared, UnknownName, OutOfProfile}
use Rattle.elab_rules.specs.cpp_tree.declared.roles.Role.TheVariants.{Initialiser}
use Rattle.elab_rules.specs.cpp_tree.Notation.{plain}
use Rattle.elab_rules.specs.cpp_tree.Trees.{Tree}
use Rattle.elab_rules.specs.cpp_tree.Typing.{unqualified}
use Rattle.elab_rules.specs.cpp_tree.Units.{Func as UnitFunc}
use Rattle.elab_rules.specs.cpp_tree.Rows.{Setting}
use Rattle.elab_rules.specs.elab_ctx.Ctx.{Ctx}
use Rattle.elab_rules.specs.elab_ctx.Steps.{Made, TypedAll, check, expect, at_of, spelling}
use Rattle.elab_rules.specs.Calls.{base_of_class}
use Rattle.elab_rules.specs.Names.{members_in}
use Rattle.elab_rules.specs.Types.{type_named}
use Rattle.elab_rules.specs.Expressions.{operands_of}
use Rattle.elab_rules.specs.Statements.{State, with_work, full, all_lambdas, directly_initialised, values_place}
use Rattle.elab_rules.specs.Lambdas.{lambdas_of}
use Rattle.elab_rules.specs.Members.{Given, Giving, given_for, same_part, giving_more, for_part, for_base, as_base_of, given_part, is_named_class, is_base_type, given_base}
use Rattle.elab_rules.specs.Members.{member_index, member_type, given_by, all_given}
use Rattle.elab_fits.specs.Standing.{On}
use Rattle.elab_fits.proofs.Steps.{answered, skip, checked, told}
use Rattle.elab_sound_types.specs.Types.{is_sound, denoted}
use Rattle.elab_fits_statements.specs.Anywhere.{BuildsAnywhere}
use Rattle.elab_fits_statements.specs.Variables.{BuildsWhole}
use Rattle.elab_fits_statements.specs.Discipline.{Goes}
use Rattle.elab_fits_statements.proofs.States.{goes_then}
use Rattle.elab_fits_statements.proofs.Wholes.{whole_object}
use Rattle.state_growth.proofs.Steps.{Leaves}
use Rattle.state_growth.proofs.Statements.{all_lambdas_kept}
use Rattle.state_growth.proofs.Bodies.{lambdas_lawful}
use Rattle.elab_fits_bodies.specs.Built.{IsMember}
use Rattle.elab_fits_states.specs.States.{setting, IsText, AreTexts, IsSettled, IsVariableType, Comes, words}
use Rattle.elab_fits_parts.specs.Parts.{IsHome, ArePartsOf}
use Rattle.elab_fits_units.specs.Below.{Below}
use Rattle.elab_fits_units.proofs.Bodies.{came}
use Rattle.elab_fits_units.proofs.Headers.{expected}
use Rattle.elab_fits_units.proofs.Results.{any_holds}
use Rattle.elab_fits_units.proofs.Specials.{home_over, class_kept}
use Rattle.elab_fits_units.proofs.Types.{variable_type, named_class, named_sound}
use Rattle.elab_fits_units.specs.Steps.{NoCall}
use Rattle.elab_fits_units.proofs.Walk.{each_holds}

-- what is written for parts builds them
pub record GivenFits (x : Setting) (c : Ctx) (n : ℕ) (gs : List Given) : Type 0 where
  pub base : (b : ℕ) (g : Given) → base_of_class (slice_get c.classes n) ≡ Some b → given_for None gs ≡ Some g → BuildsAnywhere x (plain (class b)) g.tree
  pub member : (i : ℕ) (m : Member) (g : Given) → IsMember c n i m → given_for (Some i) gs ≡ Some g → BuildsAnywhere x m.typ g.tree

-- one more that is given
more_by : (P : Given → Type 0) (i : Option ℕ) (y : Given) (gs : List Given) (x g : Given) (b : Bool) → same_part i y.member ≡ b
    → (if b then Some y else given_for i (gs ++ x ∷ [])) ≡ Some g → (given_for i (y ∷ gs) ≡ Some g → P g)
    → (given_for i (gs ++ x ∷ []) ≡ Some g → (given_for i gs ≡ Some g → P g) → P g) → P g
more_by P i y gs x g true e h f r = f (ap (λ (b : Bool). if b then Some y else given_for i gs) e ∙ h)
more_by P i y gs x g false e h f r = r h (λ q. f (ap (λ (b : Bool). if b then Some y else given_for i gs) e ∙ q))

last_by : (P : Given → Type 0) (i : Option ℕ) (x g : Given) (b : Bool) → same_part i x.member ≡ b → (if b then Some x else None) ≡ Some g
    → (same_part i x.member ≡ true → P x) → P g
last_by P i x g true e h f = subst P (same_Some x g h) (f e)
last_by P i x g false e h f = absurd cc

pub given_more : (P : Given → Type 0) (i : Option ℕ) (gs : List Given) (x g : Given) → given_for i (gs ++ x ∷ []) ≡ Some g → (given_for i gs ≡ Some g → P g)
    → (same_part i x.member ≡ true → P x) → P g
given_more P i [] x g h f r = last_by P i x g (same_part i x.member) refl h r
given_more P i (y ∷ gs) x g h f r = more_by P i y gs x g (same_part i y.member) refl h f (λ q u. given_more P i gs x g q u r)

part_number : (i j : ℕ) → same_part (Some i) (Some j) ≡ true → i ≡ j
part_number i j h = eqb-true i j h

pub record FoundMember (ms : List Member) (k i : ℕ) : Type 0 where
  pub off : ℕ
  pub is : i ≡ k + off
  pub member : Member
  pub at : slice_get ms off ≡ Some member

member_by : (name : List ℕ) (k i : ℕ) (m : Member) (ms : List Member) (b : Bool) → (member_index (suc k) name ms ≡ Some i → FoundMember ms (suc k) i)
    → (if b then Some k else member_index (suc k) name ms) ≡ Some i → FoundMember (m ∷ ms) k i
member_by name k i m ms true f h = let g = same_Some k i h in record { off = 0; is = omega arith; member = m; at = refl }
member_by name k i m ms false f h = let r = f h in let g = r.is in record { off = suc r.off; is = omega arith; member = r.member; at = r.at }

pub member_found : (ms : List Member) (name : List ℕ) (k i : ℕ) → member_index k name ms ≡ Some i → FoundMember ms k i
member_found [] name k i h = absurd cc
member_found (m ∷ ms) name k i h = member_by name k i m ms (bytes_eq m.name name) (member_found ms name (suc k) i) h

module _ (s : List Lexeme) (b : Below s) (f : UnitFunc) (free : NoCall f.kind) (n : ℕ) where
  -- so far
  pub record Gives (a : State) (g : Giving) : Type 0 where
    pub goes : Goes (words f s) a g.state
    pub home : IsHome g.state.ctx.classes n
    pub given : GivenFits (setting f g.state) g.state.ctx n g.given

  still : (a z : State) → IsSettled f a → Comes a z → (t : Typ) (e : Tree) → BuildsAnywhere (setting f a) t e → BuildsAnywhere (setting f z) t e
  still a z g l t e h = record { fits = λ p. (b.discipline f free).still a z g l p Initialiser e (h.fits p); builds = h.builds }

  class_then : (a z : State) → Comes a z → IsHome a.ctx.classes n → slice_get z.ctx.classes n ≡ slice_get a.ctx.classes n
  class_then a z l h = class_kept a.ctx.classes z.ctx.classes n l.goes.grows.unit.classes h

  pub givens_still : (a z : State) (gs : List Given) → IsSettled f a → Comes a z → IsHome a.ctx.classes n → GivenFits (setting f a) a.ctx n gs
      → GivenFits (setting f z) z.ctx n gs
  givens_still a z gs g l o h = let q = class_then a z l o in record {
    base = λ i x e u. still a z g l (plain (class i)) x.tree (h.base i x (ap base_of_class (sym q) ∙ e) u);
    member = λ i m x e u. still a z g l m.typ x.tree (h.member i m x (ap (λ (c : Option Class). slice_get (members_in c) i) (sym q) ∙ e) u);
  }

  -- what stands for the part in this context
  record IsPart (c : Ctx) (i : Option ℕ) (t : Typ) : Type 0 where
    member : (j : ℕ) (m : Member) → i ≡ Some j → IsMember c n j m → m.typ ≡ t
    base : (x : ℕ) → i ≡ None → base_of_class (slice_get c.classes n) ≡ Some x → plain (class x) ≡ t

  same_index : (i : Option ℕ) (j : ℕ) → same_part (Some j) i ≡ true → i ≡ Some j
  same_index (Some k) j h = ap Some (sym (eqb-true j k h))
  same_index None j h = absurd cc

  no_index : (i : Option ℕ) → same_part None i ≡ true → i ≡ None
  no_index None h = refl
  no_index (Some k) h = absurd cc

  -- one more part
  one_given : (a : State) (g : Giving) (z : State) (i : Option ℕ) (at p : At) (t : Typ) (m : Made) → Gives a g → Goes (words f s) g.state (with_work z m.work)
      → IsPart g.state.ctx i t → BuildsWhole (setting f (with_work z m.work)) t m.tree → Gives a (giving_more g z i at p m)
  one_given a g z i at p t m h k q w = let now : State = with_work z m.work in
      let same : slice_get now.ctx.classes n ≡ slice_get g.state.ctx.classes n = class_then g.state now k.leads h.home in
      let old : GivenFits (setting f now) now.ctx n g.given = givens_still g.state now g.given h.goes.good k.leads h.home h.given in
      let new : BuildsAnywhere (setting f now) t (full p m.tree) = whole_object (setting f now) p t m.tree w.one w.no_throw in
      let x : Given = record { member = i; at = at; tree = full p m.tree } in record {
        goes = goes_then (words f s) lambdas_of s (b.discipline f free) a g.state now h.goes k;
        home = home_over g.state now n (came g.state now k.leads.goes) h.home;
        given = record {
          base = λ c y e u. given_more (λ (v : Given). BuildsAnywhere (setting f now) (plain (class c)) v.tree) None g.given x y u (λ v. old.base c y e v)
              (λ v. subst (λ (r : Typ). BuildsAnywhere (setting f now) r (full p m.tree)) (sym (q.base c (no_index i v) (ap base_of_class (sym same) ∙ e))) new);
          member = λ j r y e u. given_more (λ (v : Given). BuildsAnywhere (setting f now) r.typ v.tree) (Some j) g.given x y u (λ v. old.member j r y e v)
              (λ v. subst (λ (r : Typ). BuildsAnywhere (setting f now) r (full p m.tree))
              (sym (q.member j r (same_index i j v) (ap (λ (c : Option Class). slice_get (members_in c) j) (sym same) ∙ e))) new);
        };
      }

  -- what makes the part of an index
  abbrev Makes : State → Option ℕ → Typ → At → syntax.Trees → Type 0
  Makes a i t at es = (x : State) (xs : TypedAll) (m : Made) → all_lambdas lambdas_of s a es ≡ Ok x → operands_of s x.ctx x.work es ≡ Ok xs
      → directly_initialised (for_part x.ctx n i) xs.work t at xs.operands ≡ Ok m
      → Goes (words f s) a (with_work x m.work) × BuildsWhole (setting f (with_work x m.work)) t m.tree

  part_given : (a : State) (g : Giving) (i : Option ℕ) (at : At) (t : Typ) (es : syntax.Trees) → Gives a g → IsPart g.state.ctx i t → Makes g.state i t at es
      → On (Gives a) (given_part lambdas_of s n g i at t es)
  part_given a g i at t es h q w = skip (Gives a) (check at Redeclared (is_none (given_for i g.given))) _
      (λ y. told (Gives a) (all_lambdas lambdas_of s g.state es) _
      (λ x e. told (Gives a) (operands_of s x.ctx x.work es) _
      (λ xs o. told (Gives a) (directly_initialised (for_part x.ctx n i) xs.work t at xs.operands) _
      (λ m d. let r = w x xs m e o d in one_given a g x i at (values_place t at xs.operands) t m h r.0 q r.1))))

  -- a member
  member_at : (c : Ctx) (ms : List Member) (j : ℕ) (m : Member) → slice_get ms j ≡ Some m → member_type (slice_get ms j) ≡ m.typ
  member_at c ms j m e = ap member_type e

  member_given : (a : State) (g : Giving) (at : At) (j : ℕ) (m : Member) (es : syntax.Trees) → Gives a g → AreTexts s es → IsMember g.state.ctx n j m
      → On (Gives a) (given_part lambdas_of s n g (Some j) at m.typ es)
  member_given a g at j m es h t e = let parts : ArePartsOf g.state.ctx n = b.parts g.state.ctx g.state.work n h.goes.good.good.unit h.goes.good.good.sound.context (λ k. any_holds s b k g.state h.goes.good.good) h.home in
      let typ : IsVariableType g.state m.typ = variable_type g.state m.typ h.goes.good.good.unit (parts.typed j m e) (parts.members j m e).element.sized in
      part_given a g (Some j) at m.typ es h (record {
        member = λ i x q u. ap (λ (y : Member). y.typ) (same_Some x m (sym u ∙ ap (λ (l : ℕ). slice_get (members_in (slice_get g.state.ctx.classes n)) l) (same_Some i j (sym q)) ∙ e));
        base = λ x q u. absurd cc;
      })
      (λ x xs y l o d. let r = (b.discipline f free).values g.state x m.typ at at es xs y h.goes.good typ t l o d in (r.goes, r.builds))

  -- the base
  base_given : (a : State) (g : Giving) (at : At) (x : ℕ) (t : Typ) (es : syntax.Trees) → Gives a g → AreTexts s es
      → base_of_class (slice_get g.state.ctx.classes n) ≡ Some x → t ≡ plain (class x) → On (Gives a) (given_part lambdas_of s n g None at t es)
  base_given a g at x t es h q e k = let parts : ArePartsOf g.state.ctx n = b.parts g.state.ctx g.state.work n h.goes.good.good.unit h.goes.good.good.sound.context (λ k. any_holds s b k g.state h.goes.good.good) h.home in
      let typ : IsVariableType g.state (plain (class x)) = variable_type g.state (plain (class x)) h.goes.good.good.unit (parts.based x e) (parts.base x e).sized in
      part_given a g None at t es h (record {
        member = λ i y u v. absurd cc;
        base = λ y u v. ap (λ (i : ℕ). plain (class i)) (same_Some y x (sym v ∙ e)) ∙ sym k;
      })
      (λ y xs m l o d. let y2 = answered (Leaves g.state) (all_lambdas lambdas_of s g.state es) y (all_lambdas_kept lambdas_of lambdas_lawful s g.state es) l in
      let same : for_part y.ctx n None ≡ as_base_of y.ctx x =
      ap (for_base y.ctx) (ap base_of_class (class_kept g.state.ctx.classes y.ctx.classes n y2.kept.classes h.home) ∙ e) in
      let r = b.bases f g.state y x t at at es xs m free h.goes.good (subst (λ (z : Typ). IsVariableType g.state z) (sym k) typ) q l o
      (ap (λ (c : Ctx). directly_initialised c xs.work t at xs.operands) (sym same) ∙ d) in (r.goes, r.builds))

  -- Initialisers in the order of the text

  -- the base that is named
  named_number : (x : ℕ) (o : Option ℕ) → same_number x o ≡ true → o ≡ Some x
  named_number x (Some y) e = ap Some (eqb-true y x e)
  named_number x None e = absurd cc

  base_by : (a : State) (g : Giving) (at : At) (t : Typ) (es : syntax.Trees) → Gives a g → AreTexts s es → is_sound g.state.ctx.classes denoted t ≡ true
      → (o : Option ℕ) → base_of_class (slice_get g.state.ctx.classes n) ≡ o → On (Gives a) (given_base lambdas_of s n g at t es)
  base_by a g at t es h q d (Some x) e = skip (Gives a) (check at OutOfProfile (not (is_named_class n t))) _
      (λ y. checked (Gives a) at NoMember (is_base_type (base_of_class (slice_get g.state.ctx.classes n)) t) _
      (λ z. base_given a g at x (unqualified t) es h q e
      (named_class g.state.ctx.classes t x d (named_number x (class_number t) (ap (λ (o : Option ℕ). is_base_type o t) (sym e) ∙ z)))))
  base_by a g at t es h q d None e = skip (Gives a) (check at OutOfProfile (not (is_named_class n t))) _
      (λ y. checked (Gives a) at NoMember (is_base_type (base_of_class (slice_get g.state.ctx.classes n)) t) _
      (λ z. clash _ (is_base_type (base_of_class (slice_get g.state.ctx.classes n)) t) (ap (λ (o : Option ℕ). is_base_type o t) e) z))

  pub by_given : (a : State) (g : Giving) (t : syntax.Tree) → Gives a g → IsText s t → On (Gives a) (given_by lambdas_of s n g t)
  by_given a g (syntax.node k.MemberInitializer p (Some t) es) h q = let ms = members_in (slice_get g.state.ctx.classes n) in
      told (Gives a) (expect (at_of p) NoMember (member_index 0 (spelling s t) ms)) _
      (λ i e. let m = member_found ms (spelling s t) 0 i (expected (at_of p) NoMember (member_index 0 (spelling s t) ms) i e) in let z = m.is in
      let u : slice_get ms i ≡ Some m.member = ap (λ (j : ℕ). slice_get ms j) (omega arith) ∙ m.at in
      subst (λ (r : Typ). On (Gives a) (given_part lambdas_of s n g (Some i) (at_of p) r es)) (sym (ap member_type u))
      (member_given a g (at_of p) i m.member es h ((b.discipline f free).kids k.MemberInitializer p (Some t) es q) u))
  by_given a g (syntax.node k.BaseInitializer p (Some t) es) h q = let types = g.state.ctx.types in
      told (Gives a) (expect (at_of p) UnknownName (type_named (spelling s t) types)) _
      (λ u e. base_by a g (at_of p) u es h ((b.discipline f free).kids k.BaseInitializer p (Some t) es q)
      (named_sound g.state.ctx.classes (spelling s t) types u h.goes.good.good.sound.context.types (expected (at_of p) UnknownName (type_named (spelling s t) types) u e))
      (base_of_class (slice_get g.state.ctx.classes n)) refl)
  by_given a g (syntax.node kind p token es) h q = h

  pub all_by : (a : State) (g : Giving) (ts : syntax.Trees) → Gives a g → AreTexts s ts → On (Gives a) (all_given lambdas_of s n g ts)
  all_by a g ts h q = each_holds (Gives a) (AreTexts s) (given_by lambdas_of s n) g ts h q
      (λ x t us i l. (by_given a x t i ((b.discipline f free).first t us l), (b.discipline f free).rest t us l))

-- The bodies of implicit members.
use Rattle.std.proofs.Common.{◌≡◌, refl, sym, ap, ◌∙◌, subst, ℕ, Bool, true, false, ◌&&◌, List, [], slice_get, Option, Some, None, is_some, unwrap_or, Result, Ok, Err}
use Rattle.std.specs.Prelude.{if◌then◌else◌}
use Rattle.std.proofs.lemmas.Bool.{and_parts}
use Rattle.std.proofs.lemmas.Option.{same_Some}
use Rattle.elab_rules.specs.cpp_types.Typ.{Typ, void, ptr, class, Typs, Signature, none as no_typs, more as and_typ}
use Rattle.elab_rules.specs.cpp_types.Class.{completion_of}
use Rattle.elab_rules.specs.cpp_types.declared.classes.At.{At}
use Rattle.elab_rules.specs.cpp_lex.Tokens.{Lexeme}
use Rattle.elab_rules.specs.cpp_tree.declared.faults.ElabFault.{ElabFault}
use Rattle.elab_rules.specs.cpp_tree.declared.program.FuncKind.{FuncKind}
use Rattle.elab_rules.specs.cpp_tree.declared.program.FuncKind.TheVariants.{Constructor, Destructor}
use Rattle.elab_rules.specs.cpp_tree.Notation.{plain}
use Rattle.elab_rules.specs.cpp_tree.Trees.{none}
use Rattle.elab_rules.specs.cpp_tree.Units.{Func as UnitFunc}
use Rattle.elab_rules.specs.cpp_tree.Rows.{is_special, is_constructor, is_destructor, at_place}
use Rattle.elab_rules.specs.elab_ctx.Ctx.{Func, Work, Closure, with_item}
use Rattle.elab_rules.specs.elab_ctx.Steps.{and_then}
use Rattle.elab_rules.specs.Initialising.{func_at, no_function, signature_parameters}
use Rattle.elab_rules.specs.Statements.{State, Done, with_work}
use Rattle.elab_rules.specs.Classes.{own_reference}
use Rattle.elab_rules.specs.Members.{in_object, parts_built, constructor_tree, destructor_tree}
use Rattle.elab_rules.specs.Implicit.{is_referred, source_object, source_const, parts_copied}
use Rattle.elab_rules.specs.Implicit.{with_source, constructor_made, constructor_implied, body_implied, implied_of, implied}
use Rattle.elab_fits.specs.Standing.{On}
use Rattle.elab_fits.proofs.Equal.{typ_refl}
use Rattle.elab_fits.proofs.Nodes.{clash}
use Rattle.elab_fits.proofs.Steps.{told}
use Rattle.elab_sound_types.specs.States.{IsSoundState}
use Rattle.state_growth.specs.Settings.{shown}
use Rattle.state_growth.proofs.Items.{work_kept}
use Rattle.state_growth.proofs.Steps.{Leaves}
use Rattle.state_growth.proofs.Works.{one_item}
use Rattle.elab_fits_states.specs.States.{setting, IsSettled}
use Rattle.elab_fits_parts.specs.Parts.{IsHome}
use Rattle.elab_fits_units.specs.Below.{Below}
use Rattle.elab_fits_parts.specs.Implicit.{IsImplied, default, copy, destructor, IsImplicit}
use Rattle.elab_fits_units.specs.Good.{UnitGood}
use Rattle.elab_fits_units.specs.Laws.{Leads, Laws}
use Rattle.elab_fits_units.proofs.Bodies.{Left, made_left, came}
use Rattle.elab_fits_units.proofs.Constructors.{PartsStand, constructed, parts_stand, settled_with}
use Rattle.elab_fits_units.proofs.Copying.{copies_stand}
use Rattle.elab_rules.specs.cpp_types.Equal.{typ_eq}
use Rattle.elab_rules.specs.cpp_tree.Typing.{passes}
use Rattle.elab_fits_units.proofs.Entering.{Begins, begins}
use Rattle.elab_fits_units.proofs.Growing.{Over, over, over_then}
use Rattle.elab_fits_units.proofs.Headers.{at_func}
use Rattle.elab_fits_units.proofs.Leaves.{Ended, good_on}
use Rattle.elab_fits_units.proofs.Results.{holds, no_result}
use Rattle.elab_fits_units.proofs.Specials.{has_parts}

source_at : (frame : List Typ) (t : Typ) → slice_get frame 1 ≡ Some t → at_place frame 1 t ≡ true
source_at frame t h = ap (passes (typ_eq t)) h ∙ typ_refl t

module _ (s : List Lexeme) (b : Below s) (st : State) (k : ℕ) (f : Func) (e : slice_get st.ctx.funcs k ≡ Some f) (n : ℕ) (home : IsHome st.ctx.classes n)
    (g : UnitGood st) where
  abbrev shows : UnitFunc
  shows = shown st.ctx.classes f

  abbrev start : State
  start = in_object st n

  abbrev item : Typ
  item = plain (ptr (plain (class n)))

  starts : is_special f.kind ≡ true → Begins shows st start
  starts h = begins s b st shows (plain void) (Some (plain (class n))) (Some n) [] g (no_result f.kind f.declared.signature h) refl home.named
      (λ m q. subst (λ (i : ℕ). is_some (completion_of st.ctx.classes i) ≡ true) (same_Some n m q) home.complete) refl start refl

  -- the destructor
  destructor_left : (at : At) (ps : Typs) → f.kind ≡ Destructor → On (Left st) (body_implied st at k n Destructor ps)
  destructor_left at ps h = let i : Begins shows st start = starts (ap is_special h) in
      let x = (holds s b shows start i.settled.good).setting in
      let p = has_parts s b shows start n i.settled.good home (typ_refl item) in
      made_left st start f k (destructor_tree st.ctx at at n none) e i.settled.good i.over
      (b.destructors (setting shows start) st.ctx at at n none
      (record { classes = x.classes; ordered = x.ordered; slots = x.slots; funcs = x.funcs })
      (record { destructors = g.unit.destructors })
      (record { this = p.this; number = p.number; pointer = p.pointer; offsets = p.offsets; base = p.base; members = p.members })
      (ap is_destructor h) tt).nodes at

  -- a constructor, behind its parts
  made : (a : State) (at : At) (d : Done) → f.kind ≡ Constructor → Over st a → PartsStand s b shows a d → On (Left st) (constructor_made st at k d)
  made a at d h o p = made_left st d.state f k (constructor_tree at d.trees none) e p.settled.good (over_then st a d.state o (came a d.state p.leads.goes))
      (b.constructors (setting shows d.state) at d.trees none (ap is_constructor h) p.serve tt).nodes at

  default_left : (at : At) → f.kind ≡ Constructor → On (Left st) (constructor_implied st at k n no_typs)
  default_left at h = let i : Begins shows st start = starts (ap is_special h) in
      told (Left st) (parts_built start at n []) _ (λ d q. made start at d h i.over
      (parts_stand s b shows (λ w. constructed (sym h ∙ w)) start at n [] i.settled home (typ_refl item) (record { base = λ c y a z. absurd cc; member = λ j m y a z. absurd cc }) d q))

  copy_left : (at : At) (q : Bool) → f.kind ≡ Constructor → On (Left st) (constructor_implied st at k n (and_typ (own_reference n q) no_typs))
  copy_left at q h =
      let i : Begins shows st start = starts (ap is_special h) in
      let t : Typ = own_reference n q in
      let w : Work = with_item start.work t in
      let a : State = with_work start w in
      let grows : Leaves start a = work_kept start w (one_item start.work t) in
      let x = i.settled.good.sound.context in
      let sound : IsSoundState a = record {
        context = record {
          types = x.types;
          members = x.members;
          functions = x.functions;
          enumerators = x.enumerators;
          variables = x.variables;
          this = x.this;
          captures = x.captures;
          globals = x.globals;
          many = x.many;
          copied = x.copied;
        };
        closures = refl;
        returned = i.settled.good.sound.returned;
      } in
      let settled : IsSettled shows a = settled_with s b shows start w i.settled sound grows in
      let same : with_source start t ≡ a = ap (λ (l : List Closure). record start { ctx = record start.ctx { closures = l }; work = w }) i.settled.none in
      subst (λ (y : State). On (Left st) (and_then (parts_copied y at n (source_object n t at) (source_const t)) (λ (d : Done). constructor_made st at k d))) (sym same)
      (told (Left st) (parts_copied a at n (source_object n t at) q) _ (λ d u. made a at d h (over_then st start a i.over (over start a grows))
      (copies_stand s b shows a at n (source_object n t at) q settled home (typ_refl item)
      (λ z y. b.sources (setting shows z) n (class n) q false false false at (source_at z.work.frame t (y.kept.frame 1 t refl))) refl d u)))

  implied_left : (at : At) (kind : FuncKind) (sig : Signature) → f.kind ≡ kind → IsImplied n kind sig → On (Left st) (body_implied st at k n kind (signature_parameters sig))
  implied_left at kind sig h (default safe) = default_left at h
  implied_left at kind sig h (copy const safe) = copy_left at const h
  implied_left at kind sig h (destructor safe) = destructor_left at no_typs h

module _ (s : List Lexeme) (b : Below s) (l : Laws s) where
  ends : (a : State) (r : Result State ElabFault) → UnitGood a → On (Left a) r → On (Ended s b l) r
  ends a (Ok z) g h = record { start = a; good = g; left = h }
  ends a (Err e) g h = tt

  good_if : (st : State) (t : Bool) (r : Result State ElabFault) → UnitGood st → On (Leads st) (if t then r else Ok st) → (t ≡ true → On (Ended s b l) r)
      → On UnitGood (if t then r else Ok st)
  good_if st true r g d h = good_on s b l st r g d (h refl)
  good_if st false r g d h = g

  of_ended : (st : State) (k : ℕ) (f : Func) → slice_get st.ctx.funcs k ≡ Some f → UnitGood st → IsImplicit st.ctx.classes f
      → On (Ended s b l) (implied_of st k f f.class)
  of_ended st k f e g i = subst (λ (o : Option ℕ). On (Ended s b l) (implied_of st k f o)) (sym i.of)
      (ends st (implied_of st k f (Some i.class)) g (implied_left s b st k f e i.class i.home g f.declared.at f.kind f.declared.signature refl i.implied))

  found : (st : State) (k : ℕ) (o : Option Func) → slice_get st.ctx.funcs k ≡ o → UnitGood st → (func_at st.ctx.funcs k).implicit ≡ true
      → On (Ended s b l) (implied_of st k (func_at st.ctx.funcs k) (func_at st.ctx.funcs k).class)
  found st k (Some f) e g h = let q = at_func st.ctx.funcs k f e in
      subst (λ (x : Func). On (Ended s b l) (implied_of st k x x.class)) (sym q)
      (of_ended st k f e g (g.implicits k f e (ap (λ (x : Func). x.implicit) (sym q) ∙ h)))
  found st k None e g h = clash _ (func_at st.ctx.funcs k).implicit (ap (λ (o : Option Func). (unwrap_or o no_function).implicit) e) h

  pub implied_good : (st : State) (k : ℕ) → UnitGood st → On UnitGood (implied st k)
  implied_good st k g = let f = func_at st.ctx.funcs k in good_if st (f.implicit && is_referred st k) (implied_of st k f f.class) g (l.members st k g)
      (λ t. found st k (slice_get st.ctx.funcs k) refl g (and_parts f.implicit (is_referred st k) t).0)

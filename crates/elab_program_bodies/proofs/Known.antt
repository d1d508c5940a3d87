-- Functions and bodies that are more, and a function that is defined.
use Rattle.std.proofs.Common.{◌≡◌, refl, sym, ap, ◌∙◌, subst, ℕ, zero, suc, ◌+◌, Bool, true, false, List, [], ◌∷◌, ◌++◌, length, slice_get, arith}
use Rattle.std.proofs.Common.{Option, Some, None, is_some, eq-eqb}
use Rattle.std.specs.Prelude.{slice_set, ◌==◌}
use Rattle.std.proofs.lemmas.List.{length-map}
use Rattle.std.proofs.lemmas.Option.{same_Some}
use Rattle.elab_rules.specs.cpp_types.Typ.{Typs, none as no_typs, more as and_typ}
use Rattle.elab_rules.specs.cpp_tree.Units.{Param}
use Rattle.elab_rules.specs.Functions.{word_item}
use Rattle.elab_bodies.specs.Making.{source_items}
use Rattle.elab_places.specs.Functions.{copy_words}
use Rattle.elab_rules.specs.cpp_tree.WellFormed.{places_of}
use Rattle.elab_rules.specs.cpp_tree.declared.program.FuncKind.{FuncKind}
use Rattle.elab_rules.specs.cpp_tree.declared.program.FuncKind.TheVariants.{Constructor, Destructor, ClosureCall}
use Rattle.elab_rules.specs.cpp_tree.Rows.{is_special}
use Rattle.elab_rules.specs.cpp_tree.Typing.{is_class_typ}
use Rattle.elab_rules.specs.elab_ctx.Ctx.{Func}
use Rattle.elab_rules.specs.Initialising.{signature_parameters, signature_result}
use Rattle.elab_rules.specs.Programs.{one_if, words_of}
use Rattle.elab_rules.specs.Statements.{Body}
use Rattle.elab_bodies.specs.Bodies.{result_of, number_of, WellSigned, times_made, due_to}
use Rattle.elab_bodies.specs.Keeping.{StandsImplicit, HasSource}
use Rattle.elab_bodies.proofs.Frames.{result_kept, no_result}
use Rattle.elab_bodies.proofs.Closures.{IsCall, function_more, body_more, each_more}
use Rattle.elab_bodies.proofs.Implicits.{Implied, further_stands, body_stands, last_stands, stand_due, fits_due, implied_stands}
use Rattle.elab_bodies.proofs.Keeping.{Follows, fits_follow}
use Rattle.state_growth.proofs.Lists.{added}
use Rattle.elab_places.specs.Places.{Owned}
use Rattle.elab_places.specs.Round.{BodyOwns, BodiesOwn}
use Rattle.elab_program_bodies.specs.Known.{IsKnown, AllKnown, BodyCounts, AllCount, OneBody, Stand}
use Rattle.elab_program_bodies.proofs.Lists.{not_both, apart, at_func, is_within, set_apart, set_each, set_kept, made_once}
use Rattle.elab_program_bodies.proofs.Once.{fewer, one_more, one_call, one_last, one_set}

-- A function that has as many parameters as its signature is well signed

signed_by : (f : Func) (b : Bool) → is_special f.kind ≡ b → IsKnown f → is_class_typ (signature_result f.declared.signature) ≡ is_class_typ (result_of f)
signed_by f true e k = k.result e ∙ sym (ap is_class_typ (no_result f.kind f.declared.signature e))
signed_by f false e k = ap is_class_typ (sym (result_kept f.kind f.declared.signature e))

pub well_signed : (f : Func) → IsKnown f → number_of (signature_parameters f.declared.signature) ≡ length f.params → WellSigned f
well_signed f k n = record { params = n; result = signed_by f (is_special f.kind) refl k }

-- One function more

known_more : (fs : List Func) (f : Func) → IsKnown f → AllKnown fs → AllKnown (fs ++ f ∷ [])
known_more fs f k h = record { each = more_each fs f k h.each }
  where
    more_each : (gs : List Func) (g : Func) → IsKnown g → ((i : ℕ) (x : Func) → slice_get gs i ≡ Some x → IsKnown x)
        → (i : ℕ) (x : Func) → slice_get (gs ++ g ∷ []) i ≡ Some x → IsKnown x
    more_each [] g q i zero x e = subst IsKnown (same_Some g x e) q
    more_each [] g q i (suc n) x e = absurd cc
    more_each (y ∷ gs) g q i zero x e = i 0 x e
    more_each (y ∷ gs) g q i (suc n) x e = more_each gs g q (λ m z r. i (suc m) z r) n x e

count_further : (fs : List Func) (f : Func) (b : Body) → BodyCounts fs b → BodyCounts (fs ++ f ∷ []) b
count_further fs f b x = record { func = x.func; at = added fs (f ∷ []) b.func x.func x.at; counted = x.counted }

counts_more : (fs : List Func) (f : Func) (bs : List Body) → AllCount fs bs → AllCount (fs ++ f ∷ []) bs
counts_more fs f bs h = record { each = λ i b e. count_further fs f b (h.each i b e) }

pub stand_more : (w : ℕ → Bool) (now : Option ℕ) (fs : List Func) (bs : List Body) (f : Func) → IsKnown f → f.implicit ≡ false → Stand w now fs bs
    → Stand w now (fs ++ f ∷ []) bs
stand_more w now fs bs f k i h = record {
  fit = function_more now fs f bs h.fit;
  implicits = further_stands now fs bs f (λ t. not_both (StandsImplicit f) f.implicit i t) (λ t. not_both (HasSource f) f.implicit i t) h.implicits;
  known = known_more fs f k h.known;
  counts = counts_more fs f bs h.counts;
  once = one_more w now fs bs f h.once;
}

no_call : (A : Type 0) (kind : FuncKind) → kind ≡ ClosureCall → kind ≡ Destructor → A
no_call A kind e f = let z : ClosureCall ≡ Destructor = sym e ∙ f in absurd cc

pub call_known : (f : Func) → IsCall f → IsKnown f
call_known f i = record {
  inside = λ z. ap is_special i.kind;
  result = λ t. not_both (is_class_typ (signature_result f.declared.signature) ≡ false) (is_special f.kind) (ap is_special i.kind) t;
  params = λ e. no_call (signature_parameters f.declared.signature ≡ no_typs) f.kind i.kind e;
  source = λ t e. not_both (number_of (signature_parameters f.declared.signature) ≡ copy_words (signature_parameters f.declared.signature)) f.implicit i.written t;
}

-- what is copied, or nothing
copied_many : (kind : FuncKind) (ps : Typs) → kind ≡ Constructor → length (source_items kind ps) ≡ copy_words ps
copied_many kind no_typs e = ap (λ (z : FuncKind). length (source_items z no_typs)) e
copied_many kind (and_typ t ts) e = ap (λ (z : FuncKind). length (source_items z (and_typ t ts))) e

implied_known : (f : Func) → Implied f → IsKnown f
implied_known f i = record {
  inside = i.inside;
  result = λ t. ap is_class_typ i.result;
  params = i.params;
  source = λ t e. i.stands.signed.params ∙ sym (length-map f.params (λ (p : Param). word_item p.typ)) ∙ ap length i.source
      ∙ copied_many f.kind (signature_parameters f.declared.signature) e;
}

pub stand_implied : (w : ℕ → Bool) (fs : List Func) (bs : List Body) (f : Func) → Implied f → Stand w None fs bs → Stand w None (fs ++ f ∷ []) bs
stand_implied w fs bs f i h = record {
  fit = function_more None fs f bs h.fit;
  implicits = implied_stands None fs bs f i h.implicits;
  known = known_more fs f (implied_known f i) h.known;
  counts = counts_more fs f bs h.counts;
  once = one_more w None fs bs f h.once;
}

-- One body more

counts_body : (fs : List Func) (bs : List Body) (b : Body) → BodyCounts fs b → AllCount fs bs → AllCount fs (bs ++ b ∷ [])
counts_body fs bs b c h = record { each = each_more (BodyCounts fs) bs b h.each c }

pub stand_follows : (w : ℕ → Bool) → Follows (Stand w)
stand_follows w = record {
  grows = λ now. record {
    call = λ fs bs g b i n p h. let x = stand_more w now fs bs g (call_known g i) i.written h in record {
      fit = body_more now (fs ++ g ∷ []) bs b x.fit p;
      implicits = body_stands now (fs ++ g ∷ []) bs b x.implicits;
      known = x.known;
      counts = counts_body (fs ++ g ∷ []) bs b (record { func = p.func; at = p.at; counted = p.signed.params }) x.counts;
      once = one_call w now fs bs g b i.defined i.written n h.once;
    };
  };
  last = λ fs bs b m h. record {
    fit = fits_follow.last fs bs b m h.fit;
    implicits = last_stands fs bs b h.implicits;
    known = h.known;
    counts = counts_body fs bs b (record { func = m.func; at = m.at; counted = m.signed.params }) h.counts;
    once = one_last w fs bs b h.once;
  };
}

-- a function gets its body
pub stand_now : (v w : ℕ → Bool) (fs : List Func) (bs : List Body) (n : ℕ) → OneBody v (Some n) fs bs → Stand w None fs bs → Stand v (Some n) fs bs
stand_now v w fs bs n o h = record {
  fit = fits_due fs bs n h.fit;
  implicits = stand_due fs bs n h.implicits;
  known = h.known;
  counts = h.counts;
  once = o;
}

-- fewer implicit members wait
pub stand_fewer : (v w : ℕ → Bool) (fs : List Func) (bs : List Body) → ((k : ℕ) → v k ≡ true → w k ≡ true) → Stand w None fs bs → Stand v None fs bs
stand_fewer v w fs bs l h = record { fit = h.fit; implicits = h.implicits; known = h.known; counts = h.counts; once = fewer v w None fs bs l h.once }

-- A function is defined

pub record Redefined (f g : Func) : Type 0 where
  pub declared : g.declared ≡ f.declared
  pub kind : g.kind ≡ f.kind
  pub class : g.class ≡ f.class
  pub implicit : g.implicit ≡ f.implicit
  pub defined : g.is_defined ≡ true
  pub counted : number_of (signature_parameters g.declared.signature) ≡ length g.params

pub known_again : (f g : Func) → Redefined f g → IsKnown f → IsKnown g
known_again f g r k = record {
  inside = λ e. ap is_special r.kind ∙ k.inside (sym r.class ∙ e);
  result = λ t. ap (λ d. is_class_typ (signature_result d.signature)) r.declared ∙ k.result (sym (ap is_special r.kind) ∙ t);
  params = λ e. ap (λ d. signature_parameters d.signature) r.declared ∙ k.params (sym r.kind ∙ e);
  source = λ t e. ap (λ d. number_of (signature_parameters d.signature)) r.declared ∙ k.source (sym r.implicit ∙ t) (sym r.kind ∙ e)
      ∙ sym (ap (λ d. copy_words (signature_parameters d.signature)) r.declared);
}

own_due : (i : ℕ) (bs : List Body) (A : Type 0) → times_made i bs + due_to (Some i) i ≡ 0 → A
own_due i bs A h = let o : one_if (i == i) ≡ 1 = ap one_if (eq-eqb i i refl) in absurd (omega arith)

-- an implicit member is defined
not_implicit : (w : ℕ → Bool) (fs : List Func) (bs : List Body) (i : ℕ) (f : Func) (b : Bool) → slice_get fs i ≡ Some f → f.is_defined ≡ false
    → Stand w None fs bs → f.implicit ≡ b → f.implicit ≡ false
not_implicit w fs bs i f true e u h m = not_both (f.implicit ≡ false) f.is_defined u (h.implicits.each i f e m).defined
not_implicit w fs bs i f false e u h m = m

pub stand_set : (w : ℕ → Bool) (fs : List Func) (bs : List Body) (i : ℕ) (f g : Func) → slice_get fs i ≡ Some f → f.is_defined ≡ false → Redefined f g
    → Stand w None fs bs → Stand w (Some i) (slice_set fs i g) bs
stand_set w fs bs i f g e u r h = record {
  fit = record {
    each = λ j b q l. let m = made_once bs j b q in let x = h.fit.each j b q (omega arith) in record {
      func = x.func;
      at = set_apart fs i b.func g (apart i b.func (omega arith)) ∙ x.at;
      defined = x.defined;
      signed = x.signed;
      fits = x.fits;
    };
  };
  implicits = record {
    each = set_each (λ j x. x.implicit ≡ true → StandsImplicit x) fs i g
        (λ t. let k = h.implicits.each i f e (sym r.implicit ∙ t) in record {
          defined = r.defined;
          signed = well_signed g (known_again f g r (h.known.each i f e)) r.counted;
          special = ap is_special r.kind ∙ k.special;
        }) h.implicits.each;
    source = set_each (λ j x. x.implicit ≡ true → times_made j bs + due_to (Some i) j ≡ 0 → HasSource x) fs i g
        (λ t z. own_due i bs (HasSource g) z) (λ j x q t z. h.implicits.source j x q t (omega arith));
  };
  known = record { each = set_each (λ j x. IsKnown x) fs i g (known_again f g r (h.known.each i f e)) h.known.each };
  counts = record {
    each = λ j b q. let x = h.counts.each j b q in
        let y = set_kept (λ z. number_of (signature_parameters z.declared.signature) ≡ length z.params) fs i b.func g x.func x.at x.counted (λ z. r.counted) in
        record { func = y.func; at = y.at; counted = y.holds };
  };
  once = one_set w fs bs i f g e (at_func fs i f e) u r.defined (r.implicit ∙ not_implicit w fs bs i f f.implicit e u h refl) h.once;
}

-- its words stay as many

words_same : (f g : Func) → Redefined f g → number_of (signature_parameters f.declared.signature) ≡ length f.params → words_of g ≡ words_of f
words_same f g r c =
    let a : one_if (is_class_typ (signature_result g.declared.signature)) ≡ one_if (is_class_typ (signature_result f.declared.signature)) =
    ap (λ d. one_if (is_class_typ (signature_result d.signature))) r.declared in
    let b : one_if (is_some g.class) ≡ one_if (is_some f.class) = ap (λ o. one_if (is_some o)) r.class in
    let d : number_of (signature_parameters g.declared.signature) ≡ number_of (signature_parameters f.declared.signature) =
    ap (λ x. number_of (signature_parameters x.signature)) r.declared in
    let n = r.counted in omega arith

body_set : (fs : List Func) (i : ℕ) (f g : Func) (b : Body) → slice_get fs i ≡ Some f → Redefined f g → BodyCounts fs b → BodyOwns fs b
    → BodyOwns (slice_set fs i g) b
body_set fs i f g b e r c h =
    let y = set_kept (λ z. words_of z ≡ words_of c.func) fs i b.func g c.func c.at refl
    (λ q. let s : f ≡ c.func = same_Some f c.func (sym e ∙ q) in
    words_same f g r (subst (λ z. number_of (signature_parameters z.declared.signature) ≡ length z.params) (sym s) c.counted) ∙ ap words_of s) in record {
      known = is_within (slice_set fs i g) b.func y.func y.at;
      owns = subst (λ (n : ℕ). Owned n (length b.frame) (places_of b.tree))
          (ap words_of (at_func fs b.func c.func c.at) ∙ sym y.holds ∙ ap words_of (sym (at_func (slice_set fs i g) b.func y.func y.at))) h.owns;
    }

pub bodies_set : (fs : List Func) (i : ℕ) (f g : Func) → slice_get fs i ≡ Some f → Redefined f g → (bs : List Body)
    → ((j : ℕ) (b : Body) → slice_get bs j ≡ Some b → BodyCounts fs b) → BodiesOwn fs bs → BodiesOwn (slice_set fs i g) bs
bodies_set fs i f g e r [] c h = tt
bodies_set fs i f g e r (b ∷ bs) c h = (body_set fs i f g b e r (c 0 b refl) h.0, bodies_set fs i f g e r bs (λ j x q. c (suc j) x q) h.1)

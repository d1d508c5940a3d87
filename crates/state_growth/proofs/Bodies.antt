-- Bodies of functions and lambdas: behind them stands what stood before, and the frame is what it was.
use Rattle.std.proofs.Common.{◌≡◌, refl, sym, ap, ◌∙◌, subst, ℕ, zero, suc, ◌+◌, List, [], ◌∷◌, ◌++◌, length, slice_get, Option, Some, None, option_and_then, arith}
use Rattle.std.proofs.lemmas.List.{length-append}
use Rattle.elab_rules.specs.cpp_types.Typ.{Typ, Signature}
use Rattle.elab_rules.specs.cpp_types.Class.{held, Class, completion_of}
use Rattle.elab_rules.specs.cpp_types.declared.classes.At.{At}
use Rattle.elab_rules.specs.cpp_lex.Tokens.{Lexeme}
use Rattle.elab_rules.specs.cpp_ast.declared.kinds.NodeKind.TheVariants as k
use Rattle.elab_rules.specs.cpp_ast.Trees as syntax
use Rattle.elab_rules.specs.cpp_tree.declared.faults.IllRule.TheVariants.{Incomplete}
use Rattle.elab_rules.specs.cpp_tree.Trees.{Tree}
use Rattle.elab_rules.specs.cpp_tree.Typing.{form_in}
use Rattle.elab_rules.specs.cpp_tree.Units.{SlotFunc}
use Rattle.elab_rules.specs.elab_ctx.Ctx.{Func, Returns, known}
use Rattle.elab_rules.specs.elab_ctx.Steps.{check, at_of}
use Rattle.elab_rules.specs.Initialising.{signature_result}
use Rattle.elab_rules.specs.Operators.{is_complete}
use Rattle.elab_rules.specs.Types.{qualifiers_from, no_qualifiers}
use Rattle.elab_rules.specs.Statements.{State, Lambdas, statements_of}
use Rattle.elab_rules.specs.Functions.{Header, entered, with_parameters, within_frame, body_made, function_body}
use Rattle.elab_rules.specs.Lambdas.{closure_sized, lambdas_of, lambdas_among, lambda_of, lambda_written, lambda_made, lambda_with, lambda_known, lambda_type, Written, refused_at}
use Rattle.elab_rules.specs.Lambdas.{no_lambda, first_lambda, lambda_entered, declared_closure, inside, body_statements, signature_in, result_of, kids_of, has_mutable}
use Rattle.elab_rules.specs.Lambdas.{explicit_captures, default_in, parameters_among, not_dynamic, result_among, default_captures, used_in, place_of_tree, closing}
use Rattle.elab_fits.specs.Standing.{On}
use Rattle.setting_growth.specs.Growth.{ClassesGrow, SlotsGrow, slot_at}
use Rattle.setting_growth.proofs.Settings.{classes_stay, classes_go_on, slots_stay, slots_go_on, globals_stay, globals_go_on}
use Rattle.state_growth.specs.Settings.{DeclaredGrow}
use Rattle.state_growth.proofs.Lists.{added}
use Rattle.state_growth.proofs.Numbers.{numbers_stay, numbers_go_on, numbers_added, numbered_added}
use Rattle.elab_rules.specs.Classes.{is_completed}
use Rattle.std.specs.Prelude.{count_by, ◌<◌}
use Rattle.std.proofs.lemmas.Option.{same_Some}
use Rattle.state_growth.proofs.Steps.{Seen, seen, Tidy, Steps, Leaves, stays, after, funcs_stay, funcs_go_on, bind, skip, follow, of_state, of_done, Ends}
use Rattle.state_growth.proofs.Items.{Lawful}
use Rattle.state_growth.proofs.Statements.{statements_kept, parameters_kept}

-- Lists with one more

pub classes_added : (cs : List Class) (c : Class) → ClassesGrow cs (cs ++ c ∷ [])
classes_added cs c = record { complete = λ n k x h e. added cs (c ∷ []) n x h; many = let l = length-append cs (c ∷ []) in omega arith }

abbrev pub in_list : ℕ → Option (List SlotFunc) → Option SlotFunc
in_list i None = None
in_list i (Some xs) = slice_get xs i

slot_in : (slots : List (List SlotFunc)) (n i : ℕ) → slot_at slots n i ≡ in_list i (slice_get slots n)
slot_in slots n i = by (slice_get slots n)
  where
    by : (o : Option (List SlotFunc)) → option_and_then (λ (xs : List SlotFunc). slice_get xs i) o ≡ in_list i o
    by None = refl
    by (Some xs) = refl

added_in : (slots : List (List SlotFunc)) (xs : List SlotFunc) (n i : ℕ) (o : Option (List SlotFunc)) → slice_get slots n ≡ o → (x : SlotFunc)
    → in_list i o ≡ Some x → slot_at (slots ++ xs ∷ []) n i ≡ Some x
added_in slots xs n i None e x h = absurd cc
added_in slots xs n i (Some ys) e x h = slot_in (slots ++ xs ∷ []) n i ∙ ap (in_list i) (added slots (xs ∷ []) n ys e) ∙ h

pub slots_added : (slots : List (List SlotFunc)) (xs : List SlotFunc) → SlotsGrow slots (slots ++ xs ∷ [])
slots_added slots xs = record { kept = λ n i x h. added_in slots xs n i (slice_get slots n) refl x (sym (slot_in slots n i) ∙ h) }

pub funcs_added : (fs : List Func) (f : Func) → DeclaredGrow fs (fs ++ f ∷ [])
funcs_added fs f = record {
  kept = λ i g h. record { func = g; at = added fs (f ∷ []) i g h; same = record { declared = refl; kind = refl; class = refl } };
}

-- behind the others stands one more class with an empty list of slots: so the lists are as tidy as before
no_slots_more : (slots : List (List SlotFunc)) (n i : ℕ) → slot_at slots n i ≡ None → slot_at (slots ++ [] ∷ []) n i ≡ None
no_slots_more [] zero zero h = refl
no_slots_more [] zero (suc i) h = refl
no_slots_more [] (suc n) i h = refl
no_slots_more (xs ∷ slots) zero i h = h
no_slots_more (xs ∷ slots) (suc n) i h = no_slots_more slots n i h

pub incomplete_before : (cs : List Class) (c : Class) (n : ℕ) → completion_of (cs ++ c ∷ []) n ≡ None → completion_of cs n ≡ None
incomplete_before [] c zero h = refl
incomplete_before [] c (suc n) h = refl
incomplete_before (d ∷ cs) c zero h = h
incomplete_before (d ∷ cs) c (suc n) h = incomplete_before cs c n h

pub tidy_added : (a : Seen) (c : Class) (b : Seen) → b.classes ≡ a.classes ++ c ∷ [] → b.slots ≡ a.slots ++ [] ∷ []
    → ((k : ℕ) → c.complete ≡ Some k → k ≡ count_by is_completed a.classes) → Tidy a → Tidy b
tidy_added a c b e f q t = record {
  many = ap length f ∙ length-append a.slots ([] ∷ []) ∙ ap (λ (n : ℕ). n + 1) t.many ∙ sym (length-append a.classes (c ∷ [])) ∙ sym (ap length e);
  empty = λ n i h. ap (λ (xs : List (List SlotFunc)). slot_at xs n i) f
      ∙ no_slots_more a.slots n i (t.empty n i (incomplete_before a.classes c n (ap (λ (cs : List Class). completion_of cs n) (sym e) ∙ h)));
  numbered = λ n k h. subst (λ (cs : List Class). k < count_by is_completed cs) (sym e)
      (numbered_added a.classes c q t.numbered n k (ap (λ (cs : List Class). completion_of cs n) (sym e) ∙ h));
}

-- The body

-- behind a body the frame is that of before
pub made_kept : (st before y : State) (at : At) (place : ℕ) (tree : Tree) → before.work.frame ≡ st.work.frame
    → Steps (seen st) (record (seen y) { frame = st.work.frame }) → On (Leaves st) (body_made before at place tree y)
made_kept st before y at place tree e h = skip (Leaves st) (within_frame y.ctx at y.work.frame) _ (λ z. record {
  kept = record {
    classes = h.kept.classes;
    numbers = h.kept.numbers;
    slots = h.kept.slots;
    funcs = h.kept.funcs;
    globals = h.kept.globals;
    frame = λ i t q. ap (λ (ts : List Typ). slice_get ts i) e ∙ q;
  };
  tidy = λ t. let u = h.tidy t in record { many = u.many; empty = u.empty; numbered = u.numbered };
})

-- what stands in a body that was entered with this frame
pub left_kept : (st e y : State) → Steps (record (seen st) { frame = [] }) (record (seen e) { frame = [] }) → Leaves e y
    → Steps (seen st) (record (seen y) { frame = st.work.frame })
left_kept st e y a b = record {
  kept = record {
    classes = classes_go_on st.ctx.classes e.ctx.classes y.ctx.classes a.kept.classes b.kept.classes;
    numbers = numbers_go_on st.ctx.classes e.ctx.classes y.ctx.classes a.kept.numbers b.kept.classes b.kept.numbers;
    slots = slots_go_on st.ctx.slots e.ctx.slots y.ctx.slots a.kept.slots b.kept.slots;
    funcs = funcs_go_on st.ctx.funcs e.ctx.funcs y.ctx.funcs a.kept.funcs b.kept.funcs;
    globals = globals_go_on st.work.globals e.work.globals y.work.globals a.kept.globals b.kept.globals;
    frame = λ i t q. q;
  };
  tidy = λ t.
      let u = a.tidy (record { many = t.many; empty = t.empty; numbered = t.numbered }) in
      let v = b.tidy (record { many = u.many; empty = u.empty; numbered = u.numbered }) in record { many = v.many; empty = v.empty; numbered = v.numbered };
}

-- into a function nothing is changed but the frame
pub entered_kept : (st : State) (r : Typ) (this : Option Typ) (cls : Option ℕ)
    → Steps (record (seen st) { frame = [] }) (record (seen (entered st r this cls)) { frame = [] })
entered_kept st r this cls = record {
  kept = record {
    classes = classes_stay st.ctx.classes;
    numbers = numbers_stay st.ctx.classes;
    slots = slots_stay st.ctx.slots;
    funcs = funcs_stay st.ctx.funcs;
    globals = globals_stay st.work.globals;
    frame = λ i t h. h;
  };
  tidy = λ t. record { many = t.many; empty = t.empty; numbered = t.numbered };
}

-- parameters and statements in a function
pub function_left : (st : State) (r : Typ) (this : Option Typ) (cls : Option ℕ) (x y : State) → Leaves (entered st r this cls) x → Leaves x y
    → Steps (seen st) (record (seen y) { frame = st.work.frame })
function_left st r this cls x y a b = left_kept st (entered st r this cls) y (entered_kept st r this cls) (after (entered st r this cls) x y a b)

pub function_kept : (lams : Lambdas) → Lawful lams → (s : List Lexeme) (st : State) (h : Header) (this : Option Typ) (place : ℕ) (t : syntax.Tree)
    → On (Leaves st) (function_body lams s st h this place t)
function_kept lams q s st h this place (syntax.node kind p token kids) =
    skip (Leaves st) (check h.at Incomplete (is_complete st.ctx (held (signature_result h.signature)))) _
    (λ z. bind (Leaves (entered st (signature_result h.signature) this h.class)) (Leaves st)
    (with_parameters s (entered st (signature_result h.signature) this h.class) h.params) _
    (parameters_kept s (entered st (signature_result h.signature) this h.class) h.params)
    (λ e i. bind (Ends e) (Leaves st) (statements_of lams s e kids) _ (statements_kept lams q s e kids)
    (λ d j. made_kept st st d.state h.at place _ refl (function_left st (signature_result h.signature) this h.class e d.state i j))))

-- Lambdas

refusal_kept : (st : State) (o : Option At) → On (Leaves st) (refused_at st o)
refusal_kept st (Some at) = tt
refusal_kept st None = stays st

pub no_lambda_lawful : Lawful no_lambda
no_lambda_lawful = record { each = λ s st t. refusal_kept st (first_lambda t) }

body_kept : (s : List Lexeme) (e : State) (x : Written) → On (Ends e) (body_statements s e x)
body_kept s e x = follow of_state of_done e (with_parameters s e x.params) _ (parameters_kept s e x.params)
    (λ y. statements_kept no_lambda no_lambda_lawful s y x.body)

-- into a lambda: its class and its call stand behind the others
abbrev lambda_inside : State → Written → Returns → Typ → Signature → State
lambda_inside st x rs r sig = inside st (lambda_entered st x rs r) (declared_closure st x sig)

-- the class of a lambda is numbered as it is made
closure_number : (st : State) (x : Written) (sig : Signature) (k : ℕ) → Some (count_by is_completed st.ctx.classes) ≡ Some k
    → k ≡ count_by is_completed st.ctx.classes
closure_number st x sig k h = sym (same_Some (count_by is_completed st.ctx.classes) k h)

closure_kept : (st : State) (x : Written) (rs : Returns) (r : Typ) (sig : Signature)
    → Steps (record (seen st) { frame = [] }) (record (seen (lambda_inside st x rs r sig)) { frame = [] })
closure_kept st x rs r sig = record {
  kept = record {
    classes = classes_added st.ctx.classes _;
    numbers = numbers_added st.ctx.classes _ (closure_number st x sig);
    slots = slots_added st.ctx.slots [];
    funcs = funcs_added st.ctx.funcs _;
    globals = globals_stay st.work.globals;
    frame = λ i t h. h;
  };
  tidy = tidy_added (record (seen st) { frame = [] }) _ (record (seen (lambda_inside st x rs r sig)) { frame = [] }) refl refl
      (closure_number st x sig);
}

with_kept : (s : List Lexeme) (st : State) (x : Written) (r : Typ) (sig : Signature) → On (Leaves st) (lambda_with s st x r sig)
with_kept s st x r sig =
    skip (Leaves st) (check x.at Incomplete (is_complete st.ctx (held r))) _
    (λ y. skip (Leaves st) (closure_sized st x sig) _
    (λ z. bind (Ends (lambda_inside st x (known r) r sig)) (Leaves st) (body_statements s (lambda_inside st x (known r) r sig) x) _
    (body_kept s (lambda_inside st x (known r) r sig) x)
    (λ d h. made_kept st (record st { ctx = declared_closure st x sig }) d.state x.at (length st.ctx.funcs) _ refl
    (left_kept st (lambda_inside st x (known r) r sig) d.state (closure_kept st x (known r) r sig) h))))

lambda_kept : (s : List Lexeme) (st : State) (x : Written) → On (Leaves st) (lambda_made s st x)
lambda_kept s st x = skip (Leaves st) (result_of s st x x.result) _
    (λ r. bind (Leaves st) (Leaves st) (lambda_known s st x r) _
    (skip (Leaves st) (lambda_type st.ctx x r) _ (λ t. with_kept s st x r (signature_in (form_in t)))) (λ y h. h))

written_kept : (s : List Lexeme) (st : State) (at : At) (intro parts : syntax.Trees) (body : syntax.Tree)
    → On (Leaves st) (lambda_written s st at intro parts body)
written_kept s st at intro parts body =
    skip (Leaves st) (explicit_captures s st.ctx (default_in s intro) intro) _
    (λ xs. skip (Leaves st) (parameters_among s st.ctx st.work parts) _
    (λ ps. skip (Leaves st) (not_dynamic at (qualifiers_from s no_qualifiers parts)) _ (λ y.
    skip (Leaves st) (result_among s st.ctx st.work parts) _
    (λ r. skip (Leaves st) (default_captures st.ctx (default_in s intro) xs (used_in s st.ctx ps body)) _ (λ ys. lambda_kept s st (record {
      at = at;
      captures = ys;
      params = ps;
      qualifiers = qualifiers_from s no_qualifiers parts;
      is_mutable = has_mutable parts;
      result = r;
      body = kids_of body;
      body_at = place_of_tree body;
      closed = closing s body;
    }))))))

one_kept : (s : List Lexeme) (st : State) (at : At) (kids : syntax.Trees) → On (Leaves st) (lambda_of s st at kids)
one_kept s st at (syntax.more intro (syntax.more parts (syntax.more body syntax.none))) = written_kept s st at (kids_of intro) (kids_of parts) body
one_kept s st at (syntax.more intro (syntax.more body syntax.none)) = written_kept s st at (kids_of intro) syntax.none body
one_kept s st at kids = tt

mutual
  each_kept : (s : List Lexeme) (st : State) (t : syntax.Tree) → On (Leaves st) (lambdas_of s st t)
  each_kept s st (syntax.node k.Lambda p token kids) = one_kept s st (at_of p) kids
  each_kept s st (syntax.node k.SizeofExpression p token kids) = stays st
  each_kept s st (syntax.node k.SizeofType p token kids) = stays st
  each_kept s st (syntax.node kind p token kids) = among_kept s st kids

  among_kept : (s : List Lexeme) (st : State) (ts : syntax.Trees) → On (Leaves st) (lambdas_among s st ts)
  among_kept s st syntax.none = stays st
  among_kept s st (syntax.more t ts) = follow of_state of_state st (lambdas_of s st t) _ (each_kept s st t) (λ x. among_kept s x ts)

pub lambdas_lawful : Lawful lambdas_of
lambdas_lawful = record { each = λ s st t. each_kept s st t }

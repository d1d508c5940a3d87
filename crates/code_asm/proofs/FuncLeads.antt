-- The lines of a function lead to a state where the object can end with that function.
use Rattle.std.proofs.Common.{◌≡◌, ℕ, Bool, true, false, List, [], ◌∷◌, ◌++◌, length, Option, Some, None, refl, ap, ◌∙◌, ◌&&◌, ◌||◌}
use Rattle.std.specs.Prelude.{nat_eq, nat_lt, not, is_some}
use Rattle.std.specs.Option.{option_map}
use Rattle.std.proofs.lemmas.Bool.{and_parts, and_from, false≢true}
use Rattle.tx_code.specs.Objects.{BodyView, ClassView, GlobalView, FuncView, ObjectView}
use Rattle.tx_code.specs.WellFormed.{is_name, bit, same, flags_fit, text_fits, some_fits, func_fits}
use Rattle.object_bytes.specs.Spelling.{is_u8, is_u32, some_is_wide, func_is_wide}
use Rattle.object_bytes.specs.Fields.{above}
use Rattle.object_bytes.proofs.Parts.{parts3, parts10}
use Rattle.assembly_text.specs.declared.line.FuncHead.{FuncHead}
use Rattle.assembly_text.specs.declared.line.Record.TheVariants as kind
use Rattle.assembly_text.specs.Options.{and_then}
use Rattle.assembly_text.specs.Lines.{some_lines, func_lines}
use Rattle.code_asm.specs.Steps.{State, InFunc, closed, has_room, last_of, no_body, with_bodies, with_func, begin_func, has_bodies, record_step}
use Rattle.code_asm.proofs.Appended.{above_key}
use Rattle.code_asm.proofs.Leads.{Leads, stays, takes, and_on, Arrives}
use Rattle.code_asm.proofs.BodyLeads.{given_if, Open, code_steps, body_leads}

in_func : ObjectView → FuncView → State
in_func o f = record { object = o; place = InFunc f }

func_head : FuncView → FuncHead
func_head f = record { symbol = f.symbol; ty = f.ty; linkage = f.linkage; flags = f.flags; text = f.text; frame = f.frame }

-- ---- an open body

to_plain : (o : ObjectView) (f : FuncView) → BodyView → State
to_plain o f b = in_func o (with_bodies f (Some b) None)

to_safe : (o : ObjectView) (f : FuncView) (plain : Option BodyView) → BodyView → State
to_safe o f plain b = in_func o (with_bodies f plain (Some b))

plain_open : (o : ObjectView) (f : FuncView) → Open o.version (length o.names) (to_plain o f)
unfolding record_step to_plain in_func
plain_open o f = record {
  code = λ b d i h e. code_steps (to_plain o f b) i h ∙ ap (λ z. option_map (in_func o) (option_map (λ x. with_bodies f (Some x) None) z)) e;
  row = λ b d r e. ap (λ z. option_map (in_func o) (option_map (λ x. with_bodies f (Some x) None) z)) e;
  line = λ b d l e. ap (λ z. option_map (in_func o) (option_map (λ x. with_bodies f (Some x) None) z)) e;
}

safe_open : (o : ObjectView) (f : FuncView) (plain : Option BodyView) → Open o.version (length o.names) (to_safe o f plain)
unfolding record_step to_safe in_func
safe_open o f plain = record {
  code = λ b d i h e. code_steps (to_safe o f plain b) i h ∙ ap (λ z. option_map (in_func o) (option_map (λ x. with_bodies f plain (Some x)) z)) e;
  row = λ b d r e. ap (λ z. option_map (in_func o) (option_map (λ x. with_bodies f plain (Some x)) z)) e;
  line = λ b d l e. ap (λ z. option_map (in_func o) (option_map (λ x. with_bodies f plain (Some x)) z)) e;
}

-- ---- both bodies

plain_leads : (o : ObjectView) (f : FuncView) (plain : Option BodyView) → same (bit 0 f.flags) (is_some plain) ≡ true
    → some_fits o.version (length o.names) plain ≡ true → some_is_wide plain ≡ true
    → Leads (in_func o (with_bodies f None None)) (some_lines kind.Plain plain) (in_func o (with_bodies f plain None))
unfolding record_step to_plain in_func
plain_leads o f None flag fits wide = stays
plain_leads o f (Some b) flag fits wide = takes refl (ap (option_map (in_func o))
    (given_if _ (with_bodies f (Some no_body) None) (and_from _ _ (set (bit 0 f.flags) flag) refl)))
    (body_leads o.version (length o.names) (to_plain o f) b (plain_open o f) fits wide)
  where
    set : (flag : Bool) → same flag true ≡ true → flag ≡ true
    set true h = refl
    set false h = h

safe_leads : (o : ObjectView) (f : FuncView) (plain safe : Option BodyView) → flags_fit f.flags ≡ true → same (bit 0 f.flags) (is_some plain) ≡ true
    → same (bit 1 f.flags) (is_some safe) ≡ true → some_fits o.version (length o.names) safe ≡ true → some_is_wide safe ≡ true
    → Leads (in_func o (with_bodies f plain None)) (some_lines kind.Safe safe) (in_func o (with_bodies f plain safe))
unfolding record_step to_safe in_func
safe_leads o f plain None flags first second fits wide = stays
safe_leads o f plain (Some b) flags first second fits wide =
    let set = set_by (bit 1 f.flags) second in
    let both = (and_parts (nat_lt f.flags 16) (not (bit 1 f.flags) || bit 0 f.flags) flags).1 in
    takes refl (ap (option_map (in_func o)) (given_if _ (with_bodies f plain (Some no_body))
    (and_from _ _ (and_from _ _ set (there (bit 0 f.flags) (bit 1 f.flags) (is_some plain) both set first)) refl)))
    (body_leads o.version (length o.names) (to_safe o f plain) b (safe_open o f plain) fits wide)
  where
    set_by : (flag : Bool) → same flag true ≡ true → flag ≡ true
    set_by true h = refl
    set_by false h = h

    there : (zero one some : Bool) → (not one || zero) ≡ true → one ≡ true → same zero some ≡ true → some ≡ true
    there true one some h k e = e
    there false true some h k e = absurd (false≢true h)
    there false false some h k e = absurd (false≢true k)

-- ---- functions

unfoldable pub all_of : (version : ℕ) → List (List ℕ) → Option (List ℕ) → List ClassView → List GlobalView → List FuncView → ObjectView
all_of version names source classes globals funcs = record {
  version = version;
  names = names;
  source = source;
  classes = classes;
  globals = globals;
  funcs =
      funcs;
}

pub func_arrives : (version : ℕ) (names : List (List ℕ)) (source : Option (List ℕ)) (classes : List ClassView) (globals : List GlobalView) (s : State)
    (xs : List FuncView) (f : FuncView) → closed s.object s.place ≡ Some (all_of version names source classes globals xs) → has_room xs ≡ true
    → func_fits version (length names) f ≡ true → func_is_wide f ≡ true → above (λ (a b : FuncView). nat_lt a.symbol b.symbol) (last_of xs) f ≡ true
    → Arrives s (func_lines f) (all_of version names source classes globals (xs ++ f ∷ []))
unfolding record_step in_func func_head all_of
func_arrives version names source classes globals s xs f e room fits wide order =
    let n = length names in
    let o = all_of version names source classes globals xs in
    let p = parts10 (is_name n f.symbol) (is_name n f.ty) (nat_lt f.linkage 3) (flags_fit f.flags) (text_fits n f) (bit 0 f.flags || nat_eq f.frame 0)
    (same (bit 0 f.flags) (is_some f.plain)) (some_fits version n f.plain) (same (bit 1 f.flags) (is_some f.safe)) (some_fits version n f.safe) fits in
    let w = parts3 (is_u32 f.symbol && is_u32 f.ty && is_u8 f.linkage && is_u8 f.flags && is_u32 f.text && is_u32 f.frame) (some_is_wide f.plain)
    (some_is_wide f.safe) wide in
    let above_last : above nat_lt (option_map (λ (x : FuncView). x.symbol) (last_of xs)) f.symbol ≡ true = above_key (λ (x : FuncView). x.symbol) (last_of xs) f
    ∙ order in
    let first = ap (λ z. and_then z (begin_func (func_head f))) e
    ∙ given_if _ (in_func o (with_bodies f None None))
    (and_from _ _ (and_from _ _ (and_from _ _ (and_from _ _ (and_from _ _ (and_from _ _ (and_from _ _ room p.0) above_last) p.1) p.2) p.3) p.4) p.5) in
    record {
      state = in_func o f;
      leads = takes w.0 first (and_on (plain_leads o f f.plain p.6 p.7 w.1) (safe_leads o f f.plain f.safe p.3 p.6 p.8 p.9 w.2));
      closes = given_if (has_bodies f) (with_func o f) (and_from _ _ p.6 p.8);
    }

-- The text of each object leads to its end.
use Rattle.std.proofs.Common.{◌≡◌, ℕ, ◌+◌, ◌<◌, ◌^◌, suc, Bool, true, false, cond, List, [], ◌∷◌, ◌++◌, length, map, Option, Some, None, refl, sym, ap, subst}
use Rattle.std.proofs.Common.{◌∙◌, ◌||◌, arith}
use Rattle.std.specs.Prelude.{nat_eq, nat_lt, slice_get}
use Rattle.std.specs.List.{list_all, flat_map}
use Rattle.std.proofs.lemmas.Bool.{and_from, false≢true, ltb-true, lt-ltb, le-leb}
use Rattle.std.proofs.lemmas.Option.{slice_get_within}
use Rattle.tx_code.specs.Objects.{ClassView, GlobalView, FuncView, ObjectView}
use Rattle.tx_code.specs.WellFormed.{bytes_lt, is_length, is_count, is_name_or_none, ascends, class_fits, global_fits, func_fits, source_fits, IsObject}
use Rattle.object_bytes.specs.Spelling.{is_u8, is_u32, class_is_wide, global_is_wide, func_is_wide, is_wide, number_of, source_number}
use Rattle.object_bytes.specs.Objects.{source_of, is_whole}
use Rattle.object_bytes.proofs.ObjectLaws.{number_back, fits_by, source_fits_is}
use Rattle.object_bytes.proofs.Parts.{parts5}
use Rattle.assembly_text.specs.declared.line.Record.TheVariants as kind
use Rattle.assembly_text.specs.Options.{and_then}
use Rattle.assembly_text.specs.Lines.{Name, Of, line_text, end_text, lines_of, text_of, source_lines, class_lines, global_lines, func_lines}
use Rattle.code_asm.specs.Steps.{State, Names, Between, start, ended, record_step}
use Rattle.code_asm.specs.Answers.{Reaches, begins, goes_on, IsWritten, LeadsTo}
use Rattle.code_asm.proofs.Leads.{Leads, stays, takes, and_on, along, items, Arrives, entries}
use Rattle.code_asm.proofs.BodyLeads.{given_if}
use Rattle.code_asm.proofs.EntryLeads.{classes_only, class_arrives, globals_only, global_arrives}
use Rattle.code_asm.proofs.FuncLeads.{all_of, func_arrives}

-- ---- names and the source

among : (version : ℕ) → List (List ℕ) → State
among version names = record { object = record { version = version; names = names; source = None; classes = []; globals = []; funcs = [] }; place = Names }

names_lead : (version : ℕ) (names : List (List ℕ)) → is_count names ≡ true → list_all is_length names ≡ true → list_all (list_all is_u8) names ≡ true
    → ascends bytes_lt names ≡ true → Leads (among version []) (map Name names) (among version names)
unfolding among
names_lead version names count fits wide order =
    items (among version) Name is_length (list_all is_u8) bytes_lt
    (λ xs x room fit above. given_if _ (among version (xs ++ x ∷ [])) (and_from _ _ (and_from _ _ fit room) above))
    (λ x h. h) [] names count fits wide order

record Number (names : List (List ℕ)) (source : Option (List ℕ)) : Type 0 where
  fits : is_name_or_none (length names) (source_number names source) ≡ true
  wide : is_u32 (source_number names source) ≡ true
  again : source_of names (source_number names source) ≡ source

number_by : (names : List (List ℕ)) (i k : ℕ) (x : List ℕ) → k ≡ 1 + i → slice_get names i ≡ Some x → is_count names ≡ true
    → (is_name_or_none (length names) k ≡ true) × (is_u32 k ≡ true) × (source_of names k ≡ Some x)
number_by names i k x e at count =
    let lt : i < length names = slice_get_within names i x at in
    let small : length names < 2 ^ 32 = ltb-true _ _ count in
    let next : k ≡ suc i = omega (arith, e) in
    (le-leb k (length names) (omega (arith, lt, e)), lt-ltb k (2 ^ 32) (omega (arith, lt, e, small)), ap (source_of names) next ∙ at)

source_number_again : (names : List (List ℕ)) (source : Option (List ℕ)) → is_count names ≡ true → fits_by true names source ≡ true → Number names source
source_number_again names None count h = record { fits = le-leb 0 (length names) (omega arith); wide = refl; again = refl }
source_number_again names (Some x) count h =
    let b = number_back 1 names x h in
    let n = number_by names b.0 (number_of 1 names x) x b.1 b.2 count in
    record { fits = n.0; wide = n.1; again = n.2 }

source_arrives : (version : ℕ) (names : List (List ℕ)) (source : Option (List ℕ)) → (nat_eq version 1 || nat_eq version 2) ≡ true → is_count names ≡ true
    → source_fits version names source ≡ true → Arrives (among version names) (source_lines version names source) (classes_only version names source [])
unfolding record_step among classes_only
source_arrives version names source v count fits = by_version (nat_eq version 2) refl (source_fits_is version names source ∙ fits)
  where
    first_one : (one : Bool) → (one || false) ≡ true → one ≡ true
    first_one true h = refl
    first_one false h = h

    no_source : (s : Option (List ℕ)) → fits_by false names s ≡ true → None ≡ s
    no_source None h = refl
    no_source (Some x) h = absurd (false≢true h)

    by_version : (second : Bool) → nat_eq version 2 ≡ second → fits_by second names source ≡ true
        → Arrives (among version names) (cond second (Of (kind.Source (source_number names source)) ∷ []) []) (classes_only version names source [])
    by_version true e h =
        let n = source_number_again names source count h in
        let behind : State = record { object = classes_only version names (source_of names (source_number names source)) []; place = Between } in
        record {
          state = behind;
          leads = takes n.wide (given_if _ behind (and_from _ _ e n.fits)) stays;
          closes = ap (λ z. Some (classes_only version names z [])) n.again;
        }
    by_version false e h =
        let one = first_one (nat_eq version 1) (ap (λ z. nat_eq version 1 || z) (sym e) ∙ v) in
        record {
          state = among version names;
          leads = stays;
          closes = given_if (nat_eq version 1) _ one ∙ ap (λ z. Some (classes_only version names z [])) (no_source source h);
        }

-- ---- the whole text

lines_lead : (o : ObjectView) → IsObject o → is_wide o ≡ true → Arrives start (lines_of o) o
unfolding record_step is_wide among classes_only globals_only all_of
lines_lead o k wide =
    let w = parts5 (is_u32 o.version) (list_all (list_all is_u8) o.names) (list_all class_is_wide o.classes) (list_all global_is_wide o.globals)
    (list_all func_is_wide o.funcs) wide in
    let n = length o.names in
    let source = source_arrives o.version o.names o.source k.version k.name_count k.source in
    let classes = entries (classes_only o.version o.names o.source) class_lines (class_fits n) class_is_wide (λ (a b : ClassView). nat_lt a.name b.name)
    (class_arrives o.version o.names o.source) source.state [] o.classes source.closes k.class_count k.classes w.2 k.classes_ascend in
    let globals = entries (globals_only o.version o.names o.source o.classes) global_lines (global_fits n) global_is_wide
    (λ (a b : GlobalView). nat_lt a.symbol b.symbol)
    (global_arrives o.version o.names o.source o.classes) classes.state [] o.globals classes.closes k.global_count k.globals w.3 k.globals_ascend in
    let funcs = entries (all_of o.version o.names o.source o.classes o.globals) func_lines (func_fits o.version n) func_is_wide
    (λ (a b : FuncView). nat_lt a.symbol b.symbol)
    (func_arrives o.version o.names o.source o.classes o.globals) globals.state [] o.funcs globals.closes k.func_count k.funcs w.4 k.funcs_ascend in
    record {
      state = funcs.state;
      leads = takes w.0 (given_if _ (among o.version []) k.version)
          (and_on (names_lead o.version o.names k.name_count k.names w.1 k.names_ascend)
          (and_on source.leads (and_on classes.leads (and_on globals.leads funcs.leads))));
      closes = funcs.closes;
    }

pub leads_to_end : (o : ObjectView) (text : List ℕ) → IsWritten o text → LeadsTo text o
unfolding text_of record_step
leads_to_end o text w =
    let arrived = lines_lead o w.object w.wide in
    let first : Reaches text 1 start (flat_map line_text (lines_of o) ++ end_text) = subst (λ z. Reaches text 1 start z) w.writes.text_is begins in
    let last = along 101 (110 ∷ 100 ∷ 10 ∷ []) arrived.leads 1 first in
    let whole : is_whole o ≡ true = and_from _ _ w.object.names_used w.object.bases in
    record {
      number = last.number + 1;
      reached = goes_on (Of kind.End) last.reached (record { wide = refl; written = refl })
          (ap (λ z. and_then z ended) arrived.closes ∙ given_if (is_whole o) _ whole);
    }

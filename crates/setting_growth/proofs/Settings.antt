-- Settings grow step by step.
use Rattle.std.proofs.Common.{refl, ◌∙◌, List, arith}
use Rattle.cpp_types.specs.Class.{Class}
use Rattle.cpp_tree.specs.Units.{Func, Global, SlotFunc}
use Rattle.setting_growth.specs.Growth.{ClassesGrow, SlotsGrow, SameFunc, FuncsGrow, GlobalsGrow, FrameGrows, GrowthStays, GrowthGoesOn}

pub classes_stay : (cs : List Class) → ClassesGrow cs cs
classes_stay cs = record { complete = λ n k c h e. h; many = omega arith }

pub classes_go_on : (a b c : List Class) → ClassesGrow a b → ClassesGrow b c → ClassesGrow a c
classes_go_on a b c g h = record {
  complete = λ n k x f e. h.complete n k x (g.complete n k x f e) e;
  many = let l = g.many in let m = h.many in omega arith;
}

pub slots_stay : (xs : List (List SlotFunc)) → SlotsGrow xs xs
slots_stay xs = record { kept = λ n i x h. h }

pub slots_go_on : (a b c : List (List SlotFunc)) → SlotsGrow a b → SlotsGrow b c → SlotsGrow a c
slots_go_on a b c g h = record { kept = λ n i x e. h.kept n i x (g.kept n i x e) }

pub func_stays : (f : Func) → SameFunc f f
func_stays f = record { kind = refl; class = refl; name = refl; signature = refl; is_virtual = refl }

pub func_goes_on : (a b c : Func) → SameFunc a b → SameFunc b c → SameFunc a c
func_goes_on a b c g h = record {
  kind = h.kind ∙ g.kind;
  class = h.class ∙ g.class;
  name = h.name ∙ g.name;
  signature = h.signature ∙ g.signature;
  is_virtual = h.is_virtual ∙ g.is_virtual;
}

pub funcs_stay : (fs : List Func) → FuncsGrow fs fs
funcs_stay fs = record { kept = λ i f h. record { func = f; at = h; same = func_stays f } }

pub funcs_go_on : (a b c : List Func) → FuncsGrow a b → FuncsGrow b c → FuncsGrow a c
funcs_go_on a b c g h = record {
  kept = λ i f e. let x = g.kept i f e in
      let y = h.kept i x.func x.at in record { func = y.func; at = y.at; same = func_goes_on f x.func y.func x.same y.same };
}

pub globals_stay : (vs : List Global) → GlobalsGrow vs vs
globals_stay vs = record { kept = λ i v h. record { global = v; at = h; typ = refl } }

pub globals_go_on : (a b c : List Global) → GlobalsGrow a b → GlobalsGrow b c → GlobalsGrow a c
globals_go_on a b c g h = record {
  kept = λ i v e. let x = g.kept i v e in let y = h.kept i x.global x.at in record { global = y.global; at = y.at; typ = y.typ ∙ x.typ };
}

pub frame_stays : (f : Func) → FrameGrows f f
frame_stays f = record { kind = refl; signature = refl; frame = λ i t h. h }

pub frame_goes_on : (a b c : Func) → FrameGrows a b → FrameGrows b c → FrameGrows a c
frame_goes_on a b c g h = record {
  kind = h.kind ∙ g.kind;
  signature = h.signature ∙ g.signature;
  frame = λ i t e. h.frame i t (g.frame i t e);
}

pub stays_law : GrowthStays
stays_law s = record {
  classes = classes_stay s.classes;
  slots = slots_stay s.slots;
  funcs = funcs_stay s.funcs;
  globals = globals_stay s.globals;
  function =
      frame_stays s.function;
}

pub goes_on_law : GrowthGoesOn
goes_on_law a b c g h = record {
  classes = classes_go_on a.classes b.classes c.classes g.classes h.classes;
  slots = slots_go_on a.slots b.slots c.slots g.slots h.slots;
  funcs = funcs_go_on a.funcs b.funcs c.funcs g.funcs h.funcs;
  globals = globals_go_on a.globals b.globals c.globals g.globals h.globals;
  function = frame_goes_on a.function b.function c.function g.function h.function;
}

-- The fields of well-formed bodies, each from the crate that has it.
use Rattle.elab_bodies.specs.Bodies.{FitsFunction}
use Rattle.elab_program_bodies.specs.Units.{HasPlaces}
use Rattle.elab_program_bodies.proofs.Programs.{places_law, functions_law}
use Rattle.elab_read_texts.proofs.Members.{read_named}
use Rattle.elab_read_texts.proofs.Texts.{read_texts}
use Rattle.elab_fits_units.proofs.Whole.{programs_fit}
use Rattle.elab_unit_items.proofs.Whole.{programs_law}
use Rattle.elab_well_formed.specs.Programs.{ProgramsAreWellFormed, ReadAreSources}

pub programs_are_well_formed : ProgramsAreWellFormed
programs_are_well_formed xs p t e i k u f tree a b d =
    let places : HasPlaces f tree = places_law xs p e i k u f tree a b d in
    let function : FitsFunction f tree = functions_law xs p e i k u f tree a b d in
    record {
      nodes = programs_fit xs p t e i u a k f tree b d;
      block = function.block;
      end = function.end;
      words = function.words;
      items = programs_law xs p t e i u a k f b;
      within = places.within;
      once = places.once;
    }

pub read_are_sources : ReadAreSources
read_are_sources xs h i x e = let r = h i x e in record {
  texts = read_texts r.number r.text x.tokens x.decls r.read;
  named = read_named r.number r.text x.tokens x.decls r.read;
}

-- What the manifests of the worked cases come to, computed.
use Rattle.std.proofs.Common.{◌≡◌, ℕ, List, [], ◌∷◌, Some, None, Err, codes, refl}
use Rattle.expand.specs.declared.fault.RunFault.TheVariants.{Misplaced}
use Rattle.player.specs.Opening.{opened}
use Rattle.player.specs.declared.fault.OpenFault.TheVariants.{Resolve}
use Rattle.presentation.specs.declared.plan.Kind.TheVariants.{Written}
use Rattle.reader.specs.Machine as machine
use Rattle.resolve.specs.Values.{Texts, Values}
use Rattle.resolve.specs.declared.fault.ResolveFault.TheVariants.{Runs}
use Rattle.tables.specs.Zero.{span}
use Rattle.tables.specs.declared.manifest.Attribute.{Attribute}
use Rattle.tables.specs.declared.manifest.Element.{Element}
use Rattle.timeline.specs.declared.run.Run.{Run}
use Rattle.cases.specs.Manifests.{sample, dynamic, untyped, audio, endless, overlapping, abutting}
use Rattle.cases.specs.Worked.{Accepted, Rows}

abbrev run : ℕ → ℕ → ℕ → Run
run start length count = record { start = start; length = length; count = count }

-- no base URL, and the number for an address
abbrev numbered : Texts
numbered = record { mpd = None; period = None; set = None; representation = None; template = codes "$Number$"; id = []; bandwidth = 0 }

abbrev pub sample_values : Values
sample_values = record {
  timescale = 10;
  first = 5;
  period = 50;
  offset = 5;
  kind = Written;
  texts = record {
    mpd = Some (codes "http://h/");
    period = None;
    set = None;
    representation = None;
    template = codes "$RepresentationID$/$Time$";
    id = codes "v1";
    bandwidth = 0;
  };
}

abbrev pub sample_runs : List Run
sample_runs = run 0 20 2 ∷ run 45 20 1 ∷ []

pub sample_accepted : (P : Values → List Run → Type 0) → P sample_values sample_runs → Accepted sample P
unfolding machine.run
sample_accepted P h = record { values = sample_values; runs = sample_runs; opens = refl; fills = refl; holds = h }

abbrev pub endless_values : Values
endless_values = record { timescale = 1000; first = 1; period = 10000; offset = 0; kind = Written; texts = numbered }

abbrev pub endless_runs : List Run
endless_runs = run 0 3000 4 ∷ []

pub endless_accepted : (P : Values → List Run → Type 0) → P endless_values endless_runs → Accepted endless P
unfolding machine.run
endless_accepted P h = record { values = endless_values; runs = endless_runs; opens = refl; fills = refl; holds = h }

pub overlapping_refused : opened overlapping 1024 1024 1024 0 0 ≡ Err (Resolve (Runs Misplaced))
unfolding machine.run
overlapping_refused = refl

abbrev pub abutting_values : Values
abutting_values = record { timescale = 1; first = 1; period = 20; offset = 0; kind = Written; texts = numbered }

abbrev pub abutting_runs : List Run
abutting_runs = run 0 10 1 ∷ run 10 10 1 ∷ []

pub abutting_accepted : (P : Values → List Run → Type 0) → P abutting_values abutting_runs → Accepted abutting P
unfolding machine.run
abutting_accepted P h = record { values = abutting_values; runs = abutting_runs; opens = refl; fills = refl; holds = h }

abbrev pub dynamic_elements : List Element
dynamic_elements =
    record { name = span 1 3; parent = 0; level = 1; text = span 20 0 }
    ∷ record { name = span 21 6; parent = 0; level = 2; text = span 0 0 }
    ∷ []

abbrev pub dynamic_attributes : List Attribute
dynamic_attributes = record { element = 0; name = span 5 4; value = span 11 7 } ∷ []

pub dynamic_rows : (P : List Element → List Attribute → Type 0) → P dynamic_elements dynamic_attributes → Rows dynamic P
unfolding machine.run
dynamic_rows P h = record { elements = dynamic_elements; attributes = dynamic_attributes; reads = refl; holds = h }

abbrev pub untyped_elements : List Element
untyped_elements = record { name = span 1 3; parent = 0; level = 1; text = span 0 0 } ∷ []

abbrev pub untyped_attributes : List Attribute
untyped_attributes = record { element = 0; name = span 5 20; value = span 27 4 } ∷ []

pub untyped_rows : (P : List Element → List Attribute → Type 0) → P untyped_elements untyped_attributes → Rows untyped P
unfolding machine.run
untyped_rows P h = record { elements = untyped_elements; attributes = untyped_attributes; reads = refl; holds = h }

abbrev pub audio_elements : List Element
audio_elements =
    record { name = span 1 13; parent = 0; level = 1; text = span 35 0 }
    ∷ record { name = span 36 15; parent = 0; level = 2; text = span 102 0 }
    ∷ record { name = span 103 15; parent = 1; level = 3; text = span 0 0 }
    ∷ []

abbrev pub audio_attributes : List Attribute
audio_attributes =
    record { element = 0; name = span 15 11; value = span 28 5 }
    ∷ record { element = 1; name = span 52 8; value = span 62 1 }
    ∷ record { element = 1; name = span 65 5; value = span 72 2 }
    ∷ record { element = 1; name = span 76 14; value = span 92 8 }
    ∷ []

pub audio_rows : (P : List Element → List Attribute → Type 0) → P audio_elements audio_attributes → Rows audio P
unfolding machine.run
audio_rows P h = record { elements = audio_elements; attributes = audio_attributes; reads = refl; holds = h }

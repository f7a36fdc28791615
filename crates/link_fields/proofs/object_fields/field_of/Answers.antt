use Rattle.std.proofs.Common.{ℕ, ap, refl}
use Rattle.check_load.specs.KeptRelocations.{relocation_at}
use Rattle.check_load.specs.Views.{loaded_view}
use Rattle.memory_judge.specs.declared.rests.FieldSpan.{FieldSpan}
use Rattle.link_fields.specs.declared.object_fields.SectionField.{SectionField}
use Rattle.link_fields.proofs.object_fields.field_of.Goals as goal

abbrev with_span : ℕ → FieldSpan → SectionField
with_span section span = record { section = section; span = span }

pub returns : goal.returns
returns c = λ number.
    ap (with_span c.args.relocation.now.section)
    (c.place_of.ensures (relocation_at number (loaded_view c.args.loaded.now) c.args.relocation.now) refl)

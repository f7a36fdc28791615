use Rattle.std.proofs.Common.{◌≡◌, ◌++◌, drop, map}
use Rattle.link_fields.specs.declared.object_fields.SectionField.{SectionField}
use Rattle.link_fields.proofs.object_fields.spans_in.Given as goal

abbrev pub invariant-loop-field : goal.invariant-loop-field
invariant-loop-field l = l.spans.items ++ map (λ (f : SectionField). f.span) (drop l.field-index l.part) ≡ map (λ (f : SectionField). f.span) l.part

use Rattle.std.proofs.Common.{◌∙◌, sym}
use Rattle.std.proofs.lemmas.Bool.{false≢true}
use Rattle.explain_check.proofs.placement.unheld.Goals as goal

pub returns : goal.returns
returns c = record {
  part = c.in_ok-part.ensures.part;
  thing = c.in_ok-part.ensures.list;
  must_lie = c.is_held.ensures.must c.if-is_held.false;
  held = c.segment_of-segment.ensures.some;
  nowhere = c.segment_of-segment.ensures.none;
  wrong = λ lies. false≢true (sym c.if-is_held.false ∙ c.is_held.ensures.lies lies);
}

use Rattle.std.proofs.Common.{◌∙◌, sym}
use Rattle.std.proofs.lemmas.Bool.{false≢true}
use Rattle.place_judge.proofs.order.is_in_order.Goals as goal

pub returns-then-not-are_sections_in_order : goal.returns-then-not-are_sections_in_order
returns-then-not-are_sections_in_order c = (
  λ t. absurd (false≢true t),
  λ r. sym c.if-not-are_sections_in_order.true ∙ c.are_sections_in_order.ensures.1 (record { drops = r.drops; places = r.places }),
)

pub returns-then-not-are_texts_in_order : goal.returns-then-not-are_texts_in_order
returns-then-not-are_texts_in_order c = (
  λ t. absurd (false≢true t),
  λ r. sym c.if-not-are_texts_in_order.true ∙ c.are_texts_in_order.ensures.1 (record { commons = r.commons; names = r.names }),
)

pub returns : goal.returns
returns c = (
  λ t.
      let sections = c.are_sections_in_order.ensures.0 c.if-not-are_sections_in_order.false in
      let texts = c.are_texts_in_order.ensures.0 c.if-not-are_texts_in_order.false in
      let stretches = c.are_stretches_in_order.ensures.0 t in
      record {
        drops = sections.drops;
        places = sections.places;
        commons = texts.commons;
        notes = stretches.notes;
        areas = stretches.areas;
        merged = stretches.merged;
        frames = stretches.frames;
        names = texts.names;
      },
  λ r. c.are_stretches_in_order.ensures.1 (record { notes = r.notes; areas = r.areas; merged = r.merged; frames = r.frames }),
)

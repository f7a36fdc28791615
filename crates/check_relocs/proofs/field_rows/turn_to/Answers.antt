use Rattle.check_relocs.proofs.field_rows.turn_to.Goals as goal

pub returns-clause-told : goal.returns-clause-told
returns-clause-told c = record {
  size = c.relocated.ensures.size;
  frames = c.relocated.ensures.frames;
  address = c.relocated.ensures.address;
}

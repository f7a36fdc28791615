use Rattle.foreign_image.proofs.image.ForeignImage.header.Goals as goal

pub returns : goal.returns
returns c = rw (← c.self.view_is) c.self.invariant.header_is

use Rattle.loader_model.proofs.memory.Memory.header.Goals as goal

pub returns : goal.returns
returns c = rw (← c.self.view_is) c.self.invariant.header_is

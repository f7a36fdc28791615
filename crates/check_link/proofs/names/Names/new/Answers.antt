use Rattle.check_link.proofs.names.Names.new.Goals as goal

pub invariant_of-result : goal.invariant_of-result
invariant_of-result c =
    let index = c.in_ok-chosen.chosen in
    record {
      definitions_are = c.in_ok-definitions.ensures;
      numbered = c.in_ok-chosen.ensures.numbered;
      sized = c.in_ok-chosen.ensures.sized;
      chosen_are = c.in_ok-chosen.ensures.chosen;
      own = c.in_ok-chosen.ensures.own;
      blocks_are = c.in_ok-blocks.ensures.blocks;
      indexed = c.in_ok-blocks.ensures.index;
    }

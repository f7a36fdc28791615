use Rattle.relocate.proofs.referrer.Referrer.new.Goals as goal

pub returns-clause-known : goal.returns-clause-known
returns-clause-known c =
    let a = c.new.ensures in
    record {
      here = c.requires.here;
      mixed = c.requires.mixed;
      asker = a.asker;
      asked_all = a.all;
      asked_number = a.number;
      asked_own = a.own;
      table = c.in_ok-table.ensures;
    }

use Rattle.elf_read.proofs.Runs.{run_count}
use Rattle.elf_read.proofs.run.Run.len.Goals as goal

pub returns : goal.returns
returns g c =
    let t = g.T.Record in
    run_count t.spelled t.SIZE c.self.inside.file.now c.self.inside.start c.self.inside.count c.args.self.now c.self.view_is

use Rattle.std.proofs.Common.{◌+◌, ◌*◌, ap, arith, ◌∙◌}
use Rattle.byteview.specs.Numbers.{part}
use Rattle.elf_read.proofs.Runs.{record_within, run_count, run_entry}
use Rattle.elf_read.proofs.run.Run.at.Goals as goal

pub overflow_mul-SIZE : goal.overflow_mul-SIZE
overflow_mul-SIZE g c =
    let t = g.T.Record in
    let count = run_count t.spelled t.SIZE c.self.inside.file.now c.self.inside.start c.self.inside.count c.args.self.now c.self.view_is in
    rw c.SIZE.ensures (omega (arith, record_within t.SIZE c.self.inside.count c.args.self.now c.args.i count c.requires, c.self.invariant))

pub overflow_add-self-inside : goal.overflow_add-self-inside
overflow_add-self-inside g c =
    let t = g.T.Record in
    let count = run_count t.spelled t.SIZE c.self.inside.file.now c.self.inside.start c.self.inside.count c.args.self.now c.self.view_is in
    rw c.SIZE.ensures (omega (arith, record_within t.SIZE c.self.inside.count c.args.self.now c.args.i count c.requires, c.self.invariant))

pub inside-requires : goal.inside-requires
inside-requires g c =
    let t = g.T.Record in
    let count = run_count t.spelled t.SIZE c.self.inside.file.now c.self.inside.start c.self.inside.count c.args.self.now c.self.view_is in
    rw c.SIZE.ensures (omega (arith, record_within t.SIZE c.self.inside.count c.args.self.now c.args.i count c.requires, c.self.invariant))

pub returns : goal.returns
returns g c =
    let t = g.T.Record in
    c.inside.ensures ∙ ap (λ n. t.spelled (part c.self.inside.file.now (c.self.inside.start + n * c.args.i) t.SIZE)) c.SIZE.ensures
    ∙ run_entry t.spelled t.SIZE c.self.inside.file.now c.self.inside.start c.self.inside.count c.args.self.now c.args.i t.null c.self.view_is c.requires

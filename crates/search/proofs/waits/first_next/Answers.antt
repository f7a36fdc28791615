use Rattle.std.proofs.Common.{ap, sym}
use Rattle.std.specs.Prelude.{Option, option_map}
use Rattle.elf_model.specs.Inputs.ArchiveFile.{IndexEntry}
use Rattle.search.specs.Loaders.{is_next_of, loaded}
use Rattle.search.proofs.WaitLaws.{archives_wait, first_gives, none_gives, others_wait}
use Rattle.search.proofs.waits.first_next.Goals as goal

pub returns-in-Some-next_at-clause-exact : goal.returns-in-Some-next_at-clause-exact
returns-in-Some-next_at-clause-exact g c =
    let l = c.args.loader.now in
    first_gives (is_next_of l.plan.now (loaded l) c.args.item) c.args.entries.now c.args.archive c.loop-i.waiting c.loop-i.invariant.wait c.in-Some.i c.in-Some-next_at.offset
    c.in-Some.ensures.least c.in-Some-next_at.ensures.found

pub loop-i-preserved : goal.loop-i-preserved
loop-i-preserved g c =
    let l = c.args.loader.now in record {
      wait =
          others_wait (is_next_of l.plan.now (loaded l) c.args.item) c.args.entries.now c.args.archive c.loop-i.waiting c.loop-i.invariant.wait c.remove.new.self c.in-Some.i
          c.remove.ensures.rest c.in_default-next_at.ensures.none;
      others = λ k q differs there.
          archives_wait c.loop-i.waiting c.remove.new.self c.args.archive c.in-Some.i c.remove.ensures.rest k q differs (c.loop-i.invariant.others k q differs there);
    }

pub returns-clause-exact : goal.returns-clause-exact
returns-clause-exact g c =
    let l = c.args.loader.now in
    sym
    (ap (λ (f : Option IndexEntry). option_map (λ e. e.offset) f)
    (none_gives (is_next_of l.plan.now (loaded l) c.args.item) c.args.entries.now c.args.archive c.loop-i.waiting c.loop-i.invariant.wait c.in_default.ensures.none))

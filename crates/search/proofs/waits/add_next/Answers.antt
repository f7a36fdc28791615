use Rattle.std.proofs.Common.{◌≡◌, true}
use Rattle.elf_model.specs.Inputs.ArchiveFile.{IndexEntry}
use Rattle.search.specs.Loaders.{is_next_of, loaded}
use Rattle.search.specs.Places.{is_waiting}
use Rattle.search.proofs.PlaceLaws.{all_of}
use Rattle.search.proofs.waits.add_next.Goals as goal

pub returns-clause-wait : goal.returns-clause-wait
returns-clause-wait g c =
    let l = c.args.loader.now in
    all_of (λ q (e : IndexEntry). is_next_of l.plan.now (loaded l) c.args.item e ≡ true → is_waiting c.loop-i.waiting c.args.archive q ≡ true) c.args.entries.now c.loop-i.i
    c.loop-i-test.false c.loop-i.invariant.wait

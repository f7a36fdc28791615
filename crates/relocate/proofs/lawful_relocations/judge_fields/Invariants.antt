use Rattle.std.proofs.Common.{◌≡◌, drop}
use Rattle.elf_model.specs.Link.Relocation.{relocations_from}
use Rattle.search.specs.KeptLists.{relocations_of_relas}
use Rattle.got_tls.specs.Asking.{with_relocations}
use Rattle.got_tls.specs.AskedViews.{wants}
use Rattle.relocate.specs.Fields.{run_after}
use Rattle.relocate.specs.SymbolTables.{all_of, referring}
use Rattle.relocate.proofs.Judged.{Leaves}
use Rattle.relocate.proofs.lawful_relocations.judge_fields.Given as goal

abbrev pub invariant-loop-rela : goal.invariant-loop-rela
invariant-loop-rela l = record {
  run :
      run_after l.run (relocations_of_relas l.referrer.number (referring l.referrer) (drop l.rela-index l.relas))
      ≡ run_after l.fn.run (relocations_from l.referrer.number (referring l.referrer));
  asked :
      with_relocations (all_of l.referrer) (wants l.asked) (relocations_of_relas l.referrer.number (referring l.referrer) (drop l.rela-index l.relas))
      ≡ with_relocations (all_of l.referrer) (wants l.fn.asked) (relocations_from l.referrer.number (referring l.referrer));
  leaves :
      Leaves (all_of l.referrer) (relocations_from l.referrer.number (referring l.referrer))
      (relocations_of_relas l.referrer.number (referring l.referrer) (drop l.rela-index l.relas));
}

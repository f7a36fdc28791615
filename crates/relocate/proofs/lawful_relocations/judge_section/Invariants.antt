use Rattle.std.proofs.Common.{◌≡◌, map}
use Rattle.elf_model.specs.Link.Relocation.{relocation_of}
use Rattle.search.specs.KeptLists.{relocations_by}
use Rattle.got_tls.specs.Asking.{with_relocations}
use Rattle.got_tls.specs.AskedViews.{wants}
use Rattle.relocate.specs.SymbolTables.{all_of, referring}
use Rattle.relocate.proofs.Judged.{Leaves}
use Rattle.relocate.specs.Fields.{run_after}
use Rattle.relocate.proofs.lawful_relocations.judge_section.Given as goal

abbrev pub invariant-loop-entry : goal.invariant-loop-entry
invariant-loop-entry l = record {
  run :
      run_after l.run (map (relocation_of l.referrer.number (referring l.referrer) l.fn.rela.target) l.entry-iterator)
      ≡ run_after l.fn.run (relocations_by l.referrer.number (referring l.referrer) l.fn.rela);
  asked :
      with_relocations (all_of l.referrer) (wants l.asked) (map (relocation_of l.referrer.number (referring l.referrer) l.fn.rela.target) l.entry-iterator)
      ≡ with_relocations (all_of l.referrer) (wants l.fn.asked) (relocations_by l.referrer.number (referring l.referrer) l.fn.rela);
  leaves :
      Leaves (all_of l.referrer) (relocations_by l.referrer.number (referring l.referrer) l.fn.rela)
      (map (relocation_of l.referrer.number (referring l.referrer) l.fn.rela.target) l.entry-iterator);
}

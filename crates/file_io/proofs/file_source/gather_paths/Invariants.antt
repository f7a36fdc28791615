use Rattle.std.proofs.Common.{◌≡◌, ◌++◌}
use Rattle.elf_model.specs.Inputs.Files.{files_of, words_of}
use Rattle.file_io.specs.Sources.{AreGathered}
use Rattle.file_io.proofs.file_source.gather_paths.Given as goal

abbrev pub invariant-loop-name : goal.invariant-loop-name
invariant-loop-name g l = record {
  gathered : AreGathered (g.F.FileSource.files l.fn.source) (words_of l.yielded) (files_of l.found.items);
  parts : l.fn.paths.items ≡ l.yielded ++ l.name-iterator.rest.items;
  same : g.F.FileSource.files l.source ≡ g.F.FileSource.files l.fn.source;
  kept : g.F.FileSource.failed l.source ≡ g.F.FileSource.failed l.fn.source;
}

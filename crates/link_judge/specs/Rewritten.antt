-- Code that linkers rewrite, among the relocations of all sections.
use Rattle.std.specs.Prelude.{◌&&◌, Bool, List, not}
use Rattle.elf_model.specs.Link.Relocation.{Relocation}
use Rattle.elf_model.specs.declared.link_map.DropLine.{DropLine}
use Rattle.judge_model.specs.Certificates.{is_left_out}
use Rattle.link_judge.specs.Judged.{is_shared_thread}

-- a relocation is of such code, in a section that isn't left out
abbrev pub is_shared_thread_in : List DropLine → Relocation → Bool
is_shared_thread_in drops r = not (is_left_out drops r.object r.section) && is_shared_thread r

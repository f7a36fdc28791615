use Rattle.std.proofs.Common.{◌∷◌, [], ◌∙◌, sym}
use Rattle.std.specs.Prelude.{codes}
use Rattle.elf_model.specs.Link.Pieces.{is_gathered_by}
use Rattle.run_judge.proofs.RunNames.{picked}
use Rattle.run_judge.proofs.names.run_name.Goals as goal

pub returns-then-is_gathered_by : goal.returns-then-is_gathered_by
returns-then-is_gathered_by c =
    picked (is_gathered_by c.args.name.now) c.args.name.now (codes ".init_array")
    (codes ".fini_array" ∷ codes ".preinit_array" ∷ codes ".ctors" ∷ codes ".dtors" ∷ []) (sym c.is_gathered_by.ensures ∙ c.if-is_gathered_by.true)

use Rattle.std.proofs.Common.{◌∙◌, List, Some, ap, option_map, subst, sym, ℕ}
use Rattle.std.specs.Prelude.{All}
use Rattle.elf_model.specs.Image.MemoryImage.{memory_of}
use Rattle.elf_model.specs.Link.Placement.{Covers}
use Rattle.elf_model.specs.declared.thing.Thing.{Thing}
use Rattle.loader_model.specs.Rights as loader
use Rattle.explain_check.proofs.bytes.wrong_fill.Goals as goal

pub wrong_byte-requires-clause-wanted : goal.wrong_byte-requires-clause-wanted
wrong_byte-requires-clause-wanted c =
    let a = c.args.address in record {
      rights_are =
          ap (λ (image : List ℕ). option_map (λ x. x.rights) (memory_of image a)) (sym c.memory-memory.ensures)
          ∙ (sym c.rights.ensures ∙ (ap (option_map loader.rights_sum) c.in_ok-rights.was ∙ ap Some (sym c.rights_sum-rights.ensures)));
      outside = subst (All (λ (t : Thing). ¬ Covers t a)) c.things.ensures (c.is_outside.ensures.0 c.if-not-is_outside.false);
      wanted_is = ap Some c.fill_of.ensures;
    }

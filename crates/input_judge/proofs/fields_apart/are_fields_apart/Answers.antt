use Rattle.std.proofs.Common.{List, subst, sym}
use Rattle.std.specs.Prelude.{◌↔◌, AllPairs, IsTrue, filter}
use Rattle.elf_model.specs.Link.Loading.{LoadedObject}
use Rattle.elf_model.specs.Link.Relocation.{relocations}
use Rattle.elf_model.specs.declared.link_map.DropLine.{DropLine}
use Rattle.judge_model.specs.Fields.{AreFieldsApart}
use Rattle.judge_model.specs.Links.{objects_of}
use Rattle.input_judge.specs.Apart.{is_in_image}
use Rattle.input_judge.proofs.fields_apart.are_fields_apart.Goals as goal

pub returns : goal.returns
returns c = λ l same dropped.
    let told = c.in_ok-apart.ensures in
    subst (λ (ds : List DropLine). IsTrue c.in_ok-apart.apart ↔ AllPairs AreFieldsApart (filter (is_in_image ds) (relocations (objects_of l)))) (sym dropped)
    (subst (λ (os : List LoadedObject). IsTrue c.in_ok-apart.apart ↔ AllPairs AreFieldsApart (filter (is_in_image c.args.drops.now) (relocations os))) (sym same) told)

use Rattle.std.proofs.Common.{◌≡◌, [], ◌∷◌, ◌++◌, ap, ◌∙◌}
use Rattle.std.specs.Global.{Vec}
use Rattle.elf_model.specs.Inputs.ObjectFile.{Group}
use Rattle.elf_read.specs.Reading.{names_of}
use Rattle.elf_read.proofs.GroupLists.{group_by_parts, group_pushed, group_skipped}
use Rattle.elf_read.proofs.groups.read_groups.Goals as goal
use Rattle.elf_read.proofs.groups.read_groups.Goals.{then-section-eq-SHT_GROUP+in_ok-read_group+in_ok-push, else-section-eq-SHT_GROUP}

pub loop-i-preserved : goal.loop-i-preserved
loop-i-preserved c =
    let bytes = c.args.file.now in
    let ss = c.args.sections.now in
    let names = names_of c.args.symbol_strings.now c.args.symbols.now in
    let i = c.loop-i.i in
    let old = c.loop-i.groups.items in
    let new = c.if-section-eq-SHT_GROUP.groups.items in
    elim c.if-section-eq-SHT_GROUP.branch [
      | then-section-eq-SHT_GROUP+in_ok-read_group+in_ok-push w ↦
          let g = w.in_ok-read_group.field-0 in
          let parts = w.in_ok-read_group.ensures in
          let new_is : new ≡ old ++ g ∷ [] = ap (λ (v : Vec Group). v.items) w.groups-is ∙ w.in_ok-push.ensures.items in
          group_pushed bytes ss names i old new g c.loop-i.invariant new_is w.if-section-eq-SHT_GROUP.true
          (group_by_parts bytes ss names i g parts.number parts.flags (parts.signature ∙ w.symbol_name-signature.ensures) parts.members)
      | else-section-eq-SHT_GROUP w ↦
          ap (λ (v : Vec Group). v.items) w.groups-is ∙ group_skipped bytes ss names i old c.loop-i.invariant w.if-section-eq-SHT_GROUP.false
    ]

use Rattle.std.proofs.Common.{◌≡◌, Bool, false, List, ap, ◌∙◌, replicate}
use Rattle.elf_model.specs.Marks.{marked, marked_numbers}
use Rattle.check_load.specs.Signatures.{lost_members}
use Rattle.check_load.specs.NameNumbers.{is_among}
use Rattle.elf_model.proofs.Marks.{numbers_marked}
use Rattle.check_load.proofs.LostMembers.{members_below}
use Rattle.check_load.proofs.signatures.admit_groups.Goals as goal

pub returns-clause-dropped : goal.returns-clause-dropped
returns-clause-dropped c =
    let gs = c.args.groups.now in
    let seen = is_among c.args.seen.now in
    let members = lost_members seen gs in
    let marks_are : c.mark_lost.new.marks.items ≡ marked (replicate c.args.count false) members =
    c.in_ok-mark_lost.ensures.marks
    ∙ ap (λ (m : List Bool). marked m members) c.in_ok-marks.ensures in
    ap marked_numbers marks_are ∙ numbers_marked c.args.count members (members_below c.args.count seen gs c.requires)

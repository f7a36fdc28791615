use Rattle.std.proofs.Common.{◌≡◌, ◌∙◌, List, ap, sym}
use Rattle.std.specs.Prelude.{None, Some, find, option_copied}
use Rattle.ar_index.specs.Parts.{PartialFile}
use Rattle.opening.specs.Held.{HeldFiles, is_part_named}
use Rattle.opening.proofs.HeldLaws.{part_found, part_missing, part_name}
use Rattle.opening.proofs.files.FileSet.find.Goals as goal

pub returns-in-Some-clause-bytes : goal.returns-in-Some-clause-bytes
returns-in-Some-clause-bytes c =
    let test = is_part_named c.args.name.now in
    let found : find test c.args.self.now.parts ≡ Some c.in-Some.part.now =
    ap (λ (h : HeldFiles). find test h.parts) (sym c.self.view_is) ∙ (sym c.part_named.ensures ∙ ap option_copied c.in-Some.is) in
    sym (part_found c.args.self.now.wholes c.args.name.now c.args.self.now.parts c.in-Some.part.now found)

pub returns-in-Some-clause-name : goal.returns-in-Some-clause-name
returns-in-Some-clause-name c =
    let test = is_part_named c.args.name.now in
    let found : find test c.args.self.now.parts ≡ Some c.in-Some.part.now =
    ap (λ (h : HeldFiles). find test h.parts) (sym c.self.view_is) ∙ (sym c.part_named.ensures ∙ ap option_copied c.in-Some.is) in
    c.name.ensures ∙ part_name c.args.self.now.wholes c.args.name.now c.args.self.now.parts c.in-Some.part.now found

pub returns-in-None-clause-bytes : goal.returns-in-None-clause-bytes
returns-in-None-clause-bytes c =
    let test = is_part_named c.args.name.now in
    let none : find test c.args.self.now.parts ≡ None =
    ap (λ (h : HeldFiles). find test h.parts) (sym c.self.view_is) ∙ (sym c.part_named.ensures ∙ ap option_copied c.in-None.is) in
    c.find_whole.ensures.bytes ∙ sym (part_missing c.args.self.now.wholes c.args.name.now c.args.self.now.parts none)

use Rattle.std.proofs.Common.{◌≡◌, ◌<◌, ◌∙◌, List, ap, get_or, length, subst, sym}
use Rattle.std.proofs.lemmas.List.{get_or_default}
use Rattle.std.specs.Prelude.{Some, slice_set, string_bytes}
use Rattle.ar_index.specs.Parts.{Part, PartialFile, no_part}
use Rattle.ar_index.proofs.part_file.PartFile.fill.Goals as goal

pub returns : goal.returns
returns c =
    let members = ap (λ (f : PartialFile). f.members) c.self.view_is in
    let name = ap (λ (f : PartialFile). f.name) c.self.view_is in
    let i = c.args.i in
    let old : c.index_mut.result.now ≡ get_or c.self.inside.members.items i no_part =
    c.index_mut.ensures.value
    ∙ get_or_default c.self.inside.members.items i c.index_mut.result.now no_part (subst (λ (ps : List Part). i < length ps) (sym members) c.requires.inside) in
    let one : c.fill.new.self ≡ record { header = (get_or c.self.inside.members.items i no_part).header; content = Some c.args.content.items } =
    c.fill.ensures ∙ ap (λ (p : Part). record { header = p.header; content = Some c.args.content.items }) old in
    ap (λ (p : Part). record { name = string_bytes c.self.inside.name; members = slice_set c.self.inside.members.items i p }) one
    ∙ (λ j. record { name = name j; members = slice_set (members j) i (record { header = (get_or (members j) i no_part).header; content = Some c.args.content.items }) })

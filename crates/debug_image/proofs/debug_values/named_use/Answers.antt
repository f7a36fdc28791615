use Rattle.std.proofs.Common.{◌≡◌, ◌∙◌, [], List, Option, Some, ap, get_or, subst, sym}
use Rattle.std.specs.List.{slice_get}
use Rattle.std.proofs.lemmas.Option.{none-some}
use Rattle.elf_model.specs.Link.Loading.{LoadedObject}
use Rattle.elf_model.specs.Link.Meaning.{Meaning, meaning}
use Rattle.elf_model.specs.Link.Relocation.{definition_of, symbol_at}
use Rattle.search.specs.Views.{loaded_view}
use Rattle.debug_image.specs.DebugLayouts.{data_in}
use Rattle.debug_image.specs.DebugPlaces.{IsUseOf}
use Rattle.debug_image.proofs.NamedUses.{has_number, used_by}
use Rattle.debug_image.proofs.debug_values.named_use.Goals as goal

pub unreachable-requires : goal.unreachable-requires
unreachable-requires c =
    let l = c.args.layout.now.loaded.now in
    let k = c.args.here.now.place.now.piece.object in
    let o = loaded_view c.args.here.now.loaded.now in
    let here : slice_get l.objects k ≡ Some o = ap (λ (os : List LoadedObject). slice_get os k) c.requires.layout.loaded ∙ c.requires.here in
    let n = has_number l k c.args.j o here c.objects-objects.ensures.objects c.requires.shared in
    none-some n.0 (c.in_default.ensures.number ∙ n.1)

pub returns : goal.returns
returns c =
    let l = c.args.layout.now.loaded.now in
    let d = data_in c.args.layout.now in
    let k = c.args.here.now.place.now.piece.object in
    let o = loaded_view c.args.here.now.loaded.now in
    let s = symbol_at k o c.args.j in
    let n = c.in-Some.number in
    let here : slice_get l.objects k ≡ Some o = ap (λ (os : List LoadedObject). slice_get os k) c.requires.layout.loaded ∙ c.requires.here in
    let is : definition_of l.objects s ≡ meaning l.objects (get_or l.names n []) =
    used_by l k c.args.j o here c.objects-objects.ensures.objects c.requires.shared c.name_count-named.ensures.named n (sym c.in-Some.ensures.number) in
    let same : definition_of d.objects s ≡ meaning d.objects (get_or l.names n []) =
    subst (λ (os : List LoadedObject). definition_of os s ≡ meaning os (get_or l.names n [])) c.requires.layout.loaded is in
    subst (λ (m : Option Meaning). IsUseOf d m c.use_at.result) (sym same) (c.requires.layout.names.each n c.use_at.result c.use_at.ensures)

use Rattle.std.proofs.Common.{◌≡◌, ◌∙◌, ℕ, List, ◌++◌, ap, map, subst, sym, take}
use Rattle.std.specs.Io.KnownBytes.{Appends}
use Rattle.std.specs.List.{flat_map}
use Rattle.elf_model.specs.Image.MapRecord.{CommonRow}
use Rattle.elf_model.specs.Image.MapText.{common_text}
use Rattle.elf_model.specs.Link.Meaning.{Meaning}
use Rattle.image_write.specs.CommonRows.{own_commons}
use Rattle.relocate.specs.Uses.{line_views}
use Rattle.resolve.specs.Views.{meaning_views}
use Rattle.resolve.specs.declared.definition.Definition as code
use Rattle.resolve.specs.Chosen.{defined_in}
use Rattle.linker.specs.InOrder.{meaning_at}
use Rattle.linker.specs.declared.name_order.Keyed.{Keyed}
use Rattle.linker.proofs.Behind.{nothing_put, part_put}
use Rattle.linker.proofs.OwnTexts.{batch_is, commons_join}
use Rattle.linker.proofs.own_definitions.put_found_commons.Goals as goal

pub loop-rest-preserved : goal.loop-rest-preserved
loop-rest-preserved g c =
    let b = c.args.placement.now in
    let at : Keyed → Meaning = λ k. meaning_at c.args.found.now.resolved.now (defined_in c.args.found.now.names.symbols) (line_views c.args.found.now.names.linkers.now) k.position in
    let rest = c.loop-rest.rest.now in
    let part : meaning_views c.deref.result.now ≡ map at (take c.min.result rest) =
    ap meaning_views c.deref.ensures.value
    ∙ (c.in_ok-add_definitions.ensures
    ∙ (ap (λ (ds : List code.Definition). meaning_views ds ++ map at c.split_at.result.0.now) c.clear.ensures.items
    ∙ ap (map at) c.split_at.ensures.front)) in
    let spell : List Meaning → List ℕ = λ ms. flat_map common_text (own_commons b.base b.objects ms) in
    part_put _ _ _ _ (spell (meaning_views c.deref.result.now)) (spell (map at c.split_at.result.1.now)) _ c.loop-rest.invariant
    (batch_is at spell rest c.min.result (meaning_views c.deref.result.now) (commons_join b.base b.objects) part
    ∙ ap (λ (ks : List Keyed). spell (meaning_views c.deref.result.now) ++ spell (map at ks)) (sym c.split_at.ensures.back))
    c.in_ok-put_commons.ensures

pub returns-then-has_no_commons : goal.returns-then-has_no_commons
returns-then-has_no_commons g c =
    let b = c.args.placement.now in
    subst (λ (rows : List CommonRow). Appends (g.T.LineSink.told c.args.text.now) (g.T.LineSink.told c.args.text.now) (flat_map common_text rows))
    (sym (c.has_no_commons.ensures c.if-has_no_commons.true b.base b.objects)) (nothing_put (g.T.LineSink.told c.args.text.now))

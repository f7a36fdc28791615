use Rattle.std.proofs.Common.{◌≡◌, ◌∙◌, ◌<◌, ◌≤◌, ◌^◌, ℕ, List, ap, subst, sym}
use Rattle.std.specs.Prelude.{All}
use Rattle.elf_model.specs.Inputs.Command.{Plan}
use Rattle.elf_model.specs.Own.ImageFile.{own_end}
use Rattle.elf_model.specs.Link.Loading.{LoadedObject}
use Rattle.elf_model.specs.Image.MemoryImage.{file_end}
use Rattle.elf_model.specs.Own.OwnLayout.{own_segments}
use Rattle.elf_model.specs.Image.SymbolTable.{tables_end}
use Rattle.layout.specs.Placements.{Basis}
use Rattle.search.specs.Views.{loaded_views}
use Rattle.resolve.specs.Views.{meaning_views}
use Rattle.resolve.specs.declared.definition.Definition as code
use Rattle.image_write.specs.Listings.{IsListing}
use Rattle.image_write.specs.Parts.{EndsLow}
use Rattle.image_write.specs.Tables.{entered}
use Rattle.image_write.proofs.OwnBody.{ends_low}
use Rattle.linker.proofs.OwnMaps.{symbols_rise}
use Rattle.linker.proofs.Tabled.{large_table, small_table}
use Rattle.linker.proofs.phases.tabled.Goals as goal

pub file_end-end-requires : goal.file_end-end-requires
file_end-end-requires c =
    let p = c.args.loaded.now.plan in
    let os = c.args.loaded.now.objects in
    subst (All EndsLow) (sym (c.segments.ensures ∙ ap (λ (b : Basis). own_segments b.base b.objects) c.requires.placed))
    (ends_low p.base os c.requires.base c.objects-objects.ensures.objects c.requires.referred.resolved.kinds c.requires.fits)

pub returns-in-Some-clause-laid : goal.returns-in-Some-clause-laid
returns-in-Some-clause-laid c =
    let p = c.args.loaded.now.plan in
    let os = c.args.loaded.now.objects in
    let b : Basis = record { base = p.base; objects = os } in
    let ds = c.in_ok-listed.listed.items in
    let d : IsListing os ds = subst (λ (ls : List LoadedObject). IsListing ls ds) c.requires.same c.in_ok-listed.ensures in
    let end_is : c.file_end-end.result ≡ own_end p.base os =
    c.file_end-end.ensures ∙ ap file_end (c.segments.ensures ∙ ap (λ (y : Basis). own_segments y.base y.objects) c.requires.placed) in
    let small : tables_end (own_end p.base os) (entered os (meaning_views ds)) < 2 ^ 32 =
    subst (λ (n : ℕ). tables_end n (entered os (meaning_views ds)) < 2 ^ 32) end_is
    (subst (λ (ls : List LoadedObject). tables_end c.file_end-end.result (entered ls (meaning_views ds)) < 2 ^ 32) c.objects-objects.ensures.exact
    (subst (λ (xs : List code.Definition). tables_end c.file_end-end.result (entered (loaded_views c.objects-objects.result.now) (meaning_views xs)) < 2 ^ 32)
    c.deref.ensures.value c.in-Some.ensures.some.small)) in
    record {
      referred = c.requires.referred;
      room = record { layout = c.requires.fits; table = λ kept. small_table b (meaning_views ds) d.listed (symbols_rise b ds d) small };
    }

pub returns-clause-fault : goal.returns-clause-fault
returns-clause-fault c =
    let p = c.args.loaded.now.plan in
    let os = c.args.loaded.now.objects in
    let b : Basis = record { base = p.base; objects = os } in
    let ds = c.in_ok-listed.listed.items in
    let d : IsListing os ds = subst (λ (ls : List LoadedObject). IsListing ls ds) c.requires.same c.in_ok-listed.ensures in
    let end_is : c.file_end-end.result ≡ own_end p.base os =
    c.file_end-end.ensures ∙ ap file_end (c.segments.ensures ∙ ap (λ (y : Basis). own_segments y.base y.objects) c.requires.placed) in
    let large : 2 ^ 32 ≤ tables_end (own_end p.base os) (entered os (meaning_views ds)) =
    subst (λ (n : ℕ). 2 ^ 32 ≤ tables_end n (entered os (meaning_views ds))) end_is
    (subst (λ (ls : List LoadedObject). 2 ^ 32 ≤ tables_end c.file_end-end.result (entered ls (meaning_views ds))) c.objects-objects.ensures.exact
    (subst (λ (xs : List code.Definition). 2 ^ 32 ≤ tables_end c.file_end-end.result (entered (loaded_views c.objects-objects.result.now) (meaning_views xs)))
    c.deref.ensures.value c.in-None.ensures.none)) in (
      c.requires.referred,
      λ room. large_table b (meaning_views ds) d.listed (symbols_rise b ds d) large
          (room.table (sym (ap (λ (q : Plan). q.strip) (c.behind-loaded.view_is ∙ c.plan.ensures)) ∙ c.if-plan.false)),
    )
